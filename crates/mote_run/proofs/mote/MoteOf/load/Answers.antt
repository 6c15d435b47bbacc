use Rattle.mote_bus.specs.Slots.{board_with}
use Rattle.mote_run.proofs.Fresh.{fresh}
use Rattle.mote_run.proofs.mote.MoteOf.load.Goals as goal

pub returns-clause-fresh : goal.returns-clause-fresh
returns-clause-fresh g c =
    let before = board_with g.D.Device.state c.args.board.mask c.args.board.slots in
    fresh _ _ _ before _ _ c.in_ok-bus.ensures c.reset.ensures.board c.reset.ensures.stop c.new-cpu.ensures c.fetch.ensures
