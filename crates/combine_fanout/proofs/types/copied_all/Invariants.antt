use Rattle.std.proofs.Common.{◌≡◌, map, take}
use Rattle.nesc_core.specs.View.{type_of}
use Rattle.combine_fanout.proofs.types.copied_all.Given as goal

abbrev pub invariant-loop-t : goal.invariant-loop-t
invariant-loop-t l = map type_of l.copies.items ≡ map type_of (take l.t-index l.types)
