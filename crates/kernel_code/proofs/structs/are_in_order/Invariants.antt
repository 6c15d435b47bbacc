use Rattle.std.proofs.Common.{◌<◌, ℕ, [], get_or}
use Rattle.std.specs.List.{All}
use Rattle.nesc_core.specs.Plain.{Field}
use Rattle.nesc_core.specs.Size.{NamesBelow}
use Rattle.nesc_core.specs.View.{structs_of}
use Rattle.kernel_code.proofs.structs.are_in_order.Given as goal

abbrev pub invariant-loop-number : goal.invariant-loop-number
invariant-loop-number l = (k : ℕ) → k < l.number → All (λ (f : Field). NamesBelow k f.ty) (get_or (structs_of l.s) k [])
