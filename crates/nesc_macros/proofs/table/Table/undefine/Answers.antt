use Rattle.std.proofs.Common.{◌≡◌, ◌∙◌, ap, None}
use Rattle.nesc_macros.specs.Invocation.{Name}
use Rattle.nesc_macros.specs.Tables.{Numbers, counted_from, held, with_number}
use Rattle.nesc_macros.proofs.Tabled.{undefined, inserted}
use Rattle.nesc_macros.proofs.table.Table.undefine.Goals as goal

pub returns : goal.returns
returns c =
    let all = c.args.self.now.definitions.items in
    let old = c.args.self.now.numbers.entries in
    let numbers : held c.insert.new.self.entries ≡ with_number c.args.name.now None (held old) =
    ap held c.in_ok-insert.ensures.entries
    ∙ inserted c.in_ok-name.name None old
    ∙ ap (λ (n : Name). with_number n None (held old)) (c.in_ok-name.ensures ∙ c.as_bytes.ensures) in
    ap (λ (ns : Numbers). counted_from ns 0 all) numbers ∙ undefined (held old) all c.args.name.now
