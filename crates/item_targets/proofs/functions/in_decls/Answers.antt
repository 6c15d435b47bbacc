use Rattle.std.proofs.Common.{◌<◌, ◌≤◌, length, sym, ◌∙◌, arith}
use Rattle.item_targets.proofs.StmtForms.{decls_end, decls_next}
use Rattle.item_targets.proofs.Turns.{ended, next_turn}
use Rattle.item_targets.proofs.functions.in_decls.Goals as goal

pub returns : goal.returns
returns g c =
    let h : length c.args.decls.now ≤ c.loop-d.d-index = omega (arith, c.loop-d-test.false) in
    ended _ _ _ _ _ c.loop-d.invariant (decls_end g.R.Reaches.reach c.args.walk.now c.args.decls.now c.loop-d.d-index h)

pub loop-d-preserved : goal.loop-d-preserved
loop-d-preserved g c =
    let h : c.loop-d.d-index < length c.args.decls.now = omega (arith, c.loop-d-test.true) in
    sym (next_turn _ _ _ _ _ _ (decls_next g.R.Reaches.reach c.args.walk.now c.args.decls.now c.loop-d.d-index c.d-item.result h c.d-item.is) c.in_ok-in_decl.ensures)
    ∙ c.loop-d.invariant
