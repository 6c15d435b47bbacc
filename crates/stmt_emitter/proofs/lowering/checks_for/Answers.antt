use Rattle.std.proofs.Common.{◌++◌, [], ◌∷◌, List, All, map, take, ap, ◌∙◌, sym, subst}
use Rattle.nesc_core.specs.Plain.{Ty, pointer}
use Rattle.nesc_core.specs.Typing.{PointsWell}
use Rattle.nesc_core.specs.View.{program_of, type_of}
use Rattle.lower_expr.specs.Code.{check_for}
use Rattle.stmt_emitter.proofs.Dereferenced.{checks_pointed}
use Rattle.stmt_emitter.proofs.Items.{take_step, type_item}
use Rattle.stmt_emitter.proofs.lowering.checks_for.Goals as goal

pub check_for-requires-clause-pointed : goal.check_for-requires-clause-pointed
check_for-requires-clause-pointed c =
    let p = program_of c.args.p.now in
    let all : All (λ (t : Ty). PointsWell p.structs (pointer t)) (map type_of c.args.types.now) =
    subst (λ (ts : List Ty). All (λ (t : Ty). PointsWell p.structs (pointer t)) ts) (sym c.requires.types) (checks_pointed p c.requires.program) in
    type_item (λ (t : Ty). PointsWell p.structs (pointer t)) c.args.types.now c.loop-t.t-index c.t-item.result all c.loop-t-test.true c.t-item.is

pub loop-t-preserved : goal.loop-t-preserved
loop-t-preserved c =
    let p = program_of c.args.p.now in
    c.in_ok-add_check.ensures ∙ ap (λ done. done ++ c.in_ok-check.check ∷ []) c.loop-t.invariant
    ∙ ap (λ x. map (check_for p) (map type_of (take c.loop-t.t-index c.args.types.now)) ++ x ∷ []) c.in_ok-check.ensures
    ∙ sym (take_step (check_for p) c.args.types.now c.loop-t.t-index c.t-item.result c.loop-t-test.true c.t-item.is)
