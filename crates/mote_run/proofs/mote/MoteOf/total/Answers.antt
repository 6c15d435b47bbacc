use Rattle.mote_bus.specs.Mote.{mote_after}
use Rattle.mote_run.specs.Held.{image_in, board_in}
use Rattle.mote_run.proofs.Seen.{held_of}
use Rattle.mote_run.proofs.SlotBySlot.{ended}
use Rattle.mote_run.proofs.mote.MoteOf.total.Goals as goal

pub returns-clause-off : goal.returns-clause-off
returns-clause-off g c =
    let m = held_of g.D.Device.state c.args.self.now in
    let after = mote_after (image_in m) (board_in m) c.args.schedule.now c.args.budget in
    (ended (held_of g.D.Device.state c.count_slots-totals.new.self) after c.end-end.result c.count_slots-totals.ensures.follows c.end-end.ensures).off
