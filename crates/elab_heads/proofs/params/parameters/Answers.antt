use Rattle.std.proofs.Common.{◌∷◌, [], ◌<◌, ◌∙◌, ap, length, map, arith}
use Rattle.std.proofs.lemmas.List.{map-append}
use Rattle.nesc_core.specs.View.{type_of}
use Rattle.elab_exprs.proofs.Faults.{stops}
use Rattle.elab_meaning.specs.View.{env_of, state_of}
use Rattle.elab_heads.proofs.Loops.{parameter_passed, parameter_failed}
use Rattle.elab_heads.proofs.params.parameters.Goals as goal

pub returns-in_err-t : goal.returns-in_err-t
returns-in_err-t c =
    let h : c.loop-p.p-index < length c.as_slice-p-items.result.now = omega (arith, c.loop-p-test.true) in
    stops (λ v. map type_of v.items) c.from_residual.result c.in_err-t.field-0.0 _ _ c.from_residual.ensures
    (parameter_failed (env_of c.args.told.now.env) c.args.told.now.values c.args.at c.as_slice-p-items.result.now c.loop-p.p-index c.p-item.result (state_of c.loop-p.work) _ (map type_of c.loop-p.types.items) c.in_err-t.field-0.0
    c.loop-p.invariant h c.p-item.is c.in_err-t.ensures)

pub loop-p-preserved : goal.loop-p-preserved
loop-p-preserved c =
    let h : c.loop-p.p-index < length c.as_slice-p-items.result.now = omega (arith, c.loop-p-test.true) in
    parameter_passed (env_of c.args.told.now.env) c.args.told.now.values c.args.at c.as_slice-p-items.result.now c.loop-p.p-index c.p-item.result (state_of c.loop-p.work) (state_of c.one_parameter.new.work) _ (map type_of c.loop-p.types.items) (type_of c.in_ok-t.t) (map type_of c.push.new.self.items)
    c.loop-p.invariant h c.p-item.is c.in_ok-t.ensures (ap (map type_of) c.in_ok-push.ensures.items ∙ map-append type_of c.loop-p.types.items (c.in_ok-t.t ∷ []))
