use Rattle.std.proofs.Common.{ap, ◌∙◌, None, slice_set, map}
use Rattle.std.specs.Option.{option_map}
use Rattle.std.proofs.lemmas.List.{map-set}
use Rattle.mote_bus.proofs.board.Slots.unplug.Goals as goal

pub returns-then-slot-lt8-clause-board : goal.returns-then-slot-lt8-clause-board
returns-then-slot-lt8-clause-board g c =
    let self = c.args.self.now in
    let state = option_map g.D.Device.state in
    ap (λ l. record { mask = self.mask; slots = l }) (map-set state self.slots c.from-slot.result None ∙ ap (λ k. slice_set (map state self.slots) k None) c.from-slot.ensures)
