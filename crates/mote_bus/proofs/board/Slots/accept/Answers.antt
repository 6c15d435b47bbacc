use Rattle.std.proofs.Common.{arith}
use Rattle.mote_devices.specs.Device.{dev_ack}
use Rattle.mote_bus.proofs.SlotLemmas.{with_device-set}
use Rattle.mote_bus.proofs.board.Slots.accept.Goals as goal

pub returns-then-slot-lt8-clause-board : goal.returns-then-slot-lt8-clause-board
returns-then-slot-lt8-clause-board g c =
    let self = c.args.self.now in
    with_device-set g.D.Device.state self.mask self.slots c.args.k c.from-slot.result c.index-self-slot.result c.ack.new.slot dev_ack c.from-slot.ensures
    (omega (arith, c.from-slot.ensures, c.if-slot-lt8.true)) c.ack.ensures
