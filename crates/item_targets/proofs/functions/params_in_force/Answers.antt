use Rattle.std.proofs.Common.{◌<◌, ◌≤◌, length, sym, ◌∙◌, arith}
use Rattle.elab_attempts.specs.View.{now}
use Rattle.item_targets.specs.Walk.{env_in, module_of}
use Rattle.item_targets.proofs.StmtForms.{params_next}
use Rattle.item_targets.proofs.functions.params_in_force.Goals as goal

pub loop-p-preserved : goal.loop-p-preserved
loop-p-preserved g c =
    let h : c.loop-p.p-index < length c.as_slice-p-items.result.now = omega (arith, c.loop-p-test.true) in
    sym (params_next (env_in g.R.Reaches.reach c.args.walk.now) (module_of g.R.Reaches.reach c.args.walk.now) c.args.at c.as_slice-p-items.result.now c.loop-p.p-index c.p-item.result (now c.loop-p.scopes) (now c.parameter.new.self) h c.p-item.is (c.in_ok-parameter.ensures (module_of g.R.Reaches.reach c.args.walk.now)))
    ∙ c.loop-p.invariant
