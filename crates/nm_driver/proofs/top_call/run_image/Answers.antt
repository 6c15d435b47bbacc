use Rattle.std.proofs.Common.{ap, subst, ◌∙◌}
use Rattle.nm_base.specs.Outside.{AppendsPart}
use Rattle.mote_devices.specs.Board.{with_closed_mask}
use Rattle.nm_driver.proofs.Runs.{same_run}
use Rattle.nm_driver.proofs.top_call.run_image.Goals as goal

pub returns-clause-wrote : goal.returns-clause-wrote
returns-clause-wrote g c =
    let p = c.args.prepared.now in
    let board = c.in-Ok.ensures.board ∙ ap with_closed_mask c.new.ensures.board in
    let is = same_run p.subject.head p.budget _ _ _ _ _ _ c.in-Ok.ensures.image board c.as_slice-rows.ensures.value in (
      subst (λ t. AppendsPart (g.S.Sink.seen c.args.out.now).taken (g.S.Sink.seen c.write_run.new.out).taken t) is (rw c.in-Err.is at c.write_run.ensures.err),
      rw c.in-Err.is at c.write_run.ensures.cause,
    )
