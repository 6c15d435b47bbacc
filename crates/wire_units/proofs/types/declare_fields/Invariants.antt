use Rattle.std.proofs.Common.{◌≡◌, length}
use Rattle.wire_units.specs.Block.{fields_in}
use Rattle.wire_units.specs.BlockView.{declarators_of}
use Rattle.wire_units.proofs.types.declare_fields.Given as goal

abbrev pub invariant-loop-declarator : goal.invariant-loop-declarator
invariant-loop-declarator l = fields_in l.at l.fields (declarators_of l.rest) ≡ fields_in l.at l.fn.fields (declarators_of l.declarators)

abbrev pub decreases-loop-declarator : goal.decreases-loop-declarator
decreases-loop-declarator l = length l.rest
