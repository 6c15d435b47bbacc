use Rattle.std.proofs.Common.{◌<◌, ◌≤◌, length, sym, ◌∙◌, arith}
use Rattle.item_targets.proofs.StmtForms.{variables_end, variables_next}
use Rattle.item_targets.proofs.Turns.{ended, next_turn}
use Rattle.item_targets.proofs.variables.in_variables_by.Goals as goal

pub returns : goal.returns
returns g c =
    let h : length c.as_slice-v-items.result.now ≤ c.loop-v.v-index = omega (arith, c.loop-v-test.false) in
    ended _ _ _ _ _ c.loop-v.invariant (variables_end g.R.Reaches.reach c.args.walk.now _ _ c.as_slice-v-items.result.now c.loop-v.v-index h)

pub loop-v-preserved : goal.loop-v-preserved
loop-v-preserved g c =
    let h : c.loop-v.v-index < length c.as_slice-v-items.result.now = omega (arith, c.loop-v-test.true) in
    sym (next_turn _ _ _ _ _ _ (variables_next g.R.Reaches.reach c.args.walk.now _ _ c.as_slice-v-items.result.now c.loop-v.v-index c.v-item.result h c.v-item.is) c.in_ok-in_variable.ensures)
    ∙ c.loop-v.invariant
