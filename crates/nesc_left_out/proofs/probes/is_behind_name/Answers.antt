use Rattle.std.proofs.Common.{rules, ◌≡◌, IfOk, true, codes, subst}
use Rattle.nesc_tree.specs.Sorts.{Names}
use Rattle.nesc_left_out.specs.Left as left
use Rattle.nesc_left_out.specs.Probes.{Tells}
use Rattle.nesc_left_out.proofs.Stands.{last_two}
use Rattle.nesc_left_out.proofs.probes.is_behind_name.Goals as goal

pub returns-clause-told : goal.returns-clause-told
returns-clause-told g c =
    let k = g.R.Reader.phrase c.args.reader.now in
    let before = c.args.before.now in
    let e : c.in_ok-sign_stands.field-0 ≡ true = search rules in
    let h : IfOk c.one_stands.result (Tells (left.Stands k c.args.names.now before (left.sign (codes ".")) × left.StandsNot k c.args.names.now before (left.sign (codes "[")))) =
    subst (λ (names : Names). IfOk c.one_stands.result (Tells (left.Stands k names before (left.sign (codes ".")) × left.StandsNot k names before (left.sign (codes "["))))) c.in_ok-sign_stands.ensures.back c.one_stands.ensures.told in
    last_two (left.Stands k c.args.names.now before (left.sign (codes "("))) (left.Stands k c.args.names.now before (left.sign (codes "."))) (left.StandsNot k c.args.names.now before (left.sign (codes "["))) c.in_ok-sign_stands.field-0 c.one_stands.result e c.in_ok-sign_stands.ensures.told h
