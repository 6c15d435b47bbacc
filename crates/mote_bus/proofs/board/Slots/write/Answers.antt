use Rattle.std.proofs.Common.{arith, ◌∙◌, sym}
use Rattle.mote_devices.specs.Device.{dev_write}
use Rattle.mote_devices.specs.Board.{slot_of, register_of}
use Rattle.mote_bus.specs.Slots.{board_with}
use Rattle.mote_bus.proofs.SlotLemmas.{with_device-set, write-device_port}
use Rattle.mote_bus.proofs.board.Slots.write.Goals as goal

pub returns-in-288-to-351-clause-board : goal.returns-in-288-to-351-clause-board
returns-in-288-to-351-clause-board g c =
    let self = c.args.self.now in
    let port = c.args.port in
    with_device-set g.D.Device.state self.mask self.slots (slot_of port) c.from-slot.result c.index-self-slot.result c.write.new.slot (λ d. dev_write d (register_of port) c.args.value) c.from-slot.ensures
    (omega (arith, c.from-slot.ensures, c.in-288-to-351)) c.write.ensures
    ∙ sym (write-device_port (board_with g.D.Device.state self.mask self.slots) port c.args.value (omega (arith, c.in-288-to-351)) (omega (arith, c.in-288-to-351)))
