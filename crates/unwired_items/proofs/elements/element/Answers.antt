use Rattle.std.proofs.Common.{ap}
use Rattle.elab_targets.specs.View.{element_of}
use Rattle.unwired_items.proofs.SameItems.{same_items, with_items}
use Rattle.unwired_items.proofs.elements.element.Goals as goal

pub returns : goal.returns
returns c = ap (with_items (element_of c.args.x.now)) (same_items c.args.x.now.items.now)
