use Rattle.std.proofs.Common.{IfOk, None, subst, Option}
use Rattle.nm_base.specs.declared.refusal.Left.{Left}
use Rattle.nesc_tree.specs.Sorts.{Names}
use Rattle.nesc_left_out.specs.Left.{Row, row}
use Rattle.nesc_left_out.specs.Probes.{TellsRow}
use Rattle.nesc_left_out.proofs.Stands.{by_second_answer}
use Rattle.nesc_left_out.proofs.probes.left_out.Goals as goal

pub returns-in-None-clause-told : goal.returns-in-None-clause-told
returns-in-None-clause-told g c =
    let k = g.R.Reader.phrase c.args.reader.now in
    let before = c.args.before.now in
    let first : TellsRow k c.args.names.now before (row c.args.token.now) None =
    subst (λ (x : Row). TellsRow k c.args.names.now before x None) c.row.ensures
    (subst (λ (x : Option Left). TellsRow k c.args.names.now before c.row.result x) c.in-None.is c.in_ok-word.ensures.told) in
    by_second_answer k c.args.names.now before c.args.token.now c.meant_form-in-None.result first
    (subst (λ (x : Row). IfOk c.meant_form-in-None.result (TellsRow k c.args.names.now before x)) c.comma_row.ensures
    (subst (λ (names : Names). IfOk c.meant_form-in-None.result (TellsRow k names before c.comma_row.result)) c.meant_form.ensures.back c.meant_form-in-None.ensures.told))
