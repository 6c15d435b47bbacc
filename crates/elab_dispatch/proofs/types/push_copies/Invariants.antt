use Rattle.std.proofs.Common.{◌≡◌, ◌++◌, map, take}
use Rattle.nesc_core.specs.View.{type_of}
use Rattle.elab_dispatch.proofs.types.push_copies.Given as goal

abbrev pub invariant-loop-t : goal.invariant-loop-t
invariant-loop-t l = map type_of l.found.items ≡ map type_of l.fn.found.items ++ map type_of (take l.t-index l.types)
