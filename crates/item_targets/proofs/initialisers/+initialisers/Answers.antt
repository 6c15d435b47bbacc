use Rattle.std.proofs.Common.{◌<◌, ◌≤◌, length, sym, ◌∙◌, arith}
use Rattle.item_targets.proofs.StmtForms.{by_init, init_many, init_many_is, init_one, init_one_is, inits_end, inits_next}
use Rattle.item_targets.proofs.Turns.{alike, ended, next_turn}
use Rattle.item_targets.proofs.initialisers.+initialisers.Goals as goal

pub in_init-returns-in-One : goal.in_init-returns-in-One
in_init-returns-in-One g t c =
    alike _ _ _ _ _ (by_init g.R.Reaches.reach c.args.walk.now _ _ _ (init_one_is _ _ c.in-One.is) (init_one g.R.Reaches.reach c.args.walk.now _)) c.in_expr.ensures

pub in_init-returns-in-Many : goal.in_init-returns-in-Many
in_init-returns-in-Many g t c =
    alike _ _ _ _ _ (by_init g.R.Reaches.reach c.args.walk.now _ _ _ (init_many_is _ _ c.in-Many.is) (init_many g.R.Reaches.reach c.args.walk.now _)) c.in_inits.ensures

pub in_inits-returns : goal.in_inits-returns
in_inits-returns g t c =
    let h : length c.as_slice-init-items.result.now ≤ c.loop-init.init-index = omega (arith, c.loop-init-test.false) in
    ended _ _ _ _ _ c.loop-init.invariant (inits_end g.R.Reaches.reach c.args.walk.now c.as_slice-init-items.result.now c.loop-init.init-index h)

pub in_inits-loop-init-preserved : goal.in_inits-loop-init-preserved
in_inits-loop-init-preserved g t c =
    let h : c.loop-init.init-index < length c.as_slice-init-items.result.now = omega (arith, c.loop-init-test.true) in
    sym (next_turn _ _ _ _ _ _ (inits_next g.R.Reaches.reach c.args.walk.now c.as_slice-init-items.result.now c.loop-init.init-index c.init-item.result h c.init-item.is) c.in_ok-in_init.ensures)
    ∙ c.loop-init.invariant
