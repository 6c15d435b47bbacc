use Rattle.std.proofs.Common.{◌≡◌, ◌∙◌, ap, List, Some, length, ℕ}
use Rattle.nesc_macros.specs.declared.definition.Macro.{Macro}
use Rattle.nesc_macros.specs.Invocation.{Name}
use Rattle.nesc_macros.specs.Tables.{Numbers, counted_from, held, with_number}
use Rattle.nesc_macros.proofs.Tabled.{defined, inserted}
use Rattle.nesc_macros.proofs.table.Table.define.Goals as goal

pub returns : goal.returns
returns c =
    let all = c.args.self.now.definitions.items in
    let m = c.args.definition in
    let old = c.args.self.now.numbers.entries in
    let numbers : held c.insert.new.self.entries ≡ with_number m.name (Some (length all)) (held old) =
    ap held c.in_ok-insert.ensures.entries
    ∙ inserted c.in_ok-name.name (Some c.in-Ok.number) old
    ∙ ap (λ (n : Name). with_number n (Some c.in-Ok.number) (held old)) (c.in_ok-name.ensures ∙ c.as_bytes.ensures)
    ∙ ap (λ (n : ℕ). with_number m.name (Some n) (held old)) (c.in-Ok.ensures.1 ∙ ap length c.as_slice.ensures.value) in
    ap (λ (ns : Numbers). counted_from ns 0 c.push.new.self.items) numbers
    ∙ ap (λ (l : List Macro). counted_from (with_number m.name (Some (length all)) (held old)) 0 l) c.in_ok-push.ensures.items
    ∙ defined (held old) all m
