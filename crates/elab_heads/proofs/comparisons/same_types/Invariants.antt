use Rattle.std.proofs.Common.{◌≡◌, length, map}
use Rattle.nesc_core.specs.View.{type_of}
use Rattle.program_meaning.specs.Heads.{same_types}
use Rattle.elab_heads.proofs.comparisons.same_types.Given as goal

abbrev pub invariant-loop-t : goal.invariant-loop-t
invariant-loop-t l = same_types (map type_of l.ts) (map type_of l.us) ≡ same_types (map type_of l.fn.ts) (map type_of l.fn.us)

abbrev pub decreases-loop-t : goal.decreases-loop-t
decreases-loop-t l = length l.ts
