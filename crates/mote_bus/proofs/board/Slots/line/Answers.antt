use Rattle.std.proofs.Common.{sym, ap, ◌∙◌}
use Rattle.mote_devices.specs.Board.{line_of}
use Rattle.mote_devices.proofs.Locality.{closed}
use Rattle.mote_bus.specs.Slots.{board_with}
use Rattle.mote_bus.proofs.board.Slots.line.Goals as goal

pub returns-then-self-eq0 : goal.returns-then-self-eq0
returns-then-self-eq0 g c =
    let slots = c.args.self.now.slots in
    let state = g.D.Device.state in
    sym (ap (λ m. line_of (board_with state m slots)) c.if-self-eq0.true ∙ closed (board_with state c.args.self.now.mask slots))
