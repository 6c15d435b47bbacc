use Rattle.std.proofs.Common.{◌≡◌, map, take}
use Rattle.nesc_core.specs.View.{type_of}
use Rattle.elab_names.proofs.names.all_copied.Given as goal

abbrev pub invariant-loop-t : goal.invariant-loop-t
invariant-loop-t l = map type_of l.copies.items ≡ map type_of (take l.t-index l.types)
