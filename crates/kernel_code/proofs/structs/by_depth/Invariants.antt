use Rattle.std.proofs.Common.{◌≡◌, ℕ}
use Rattle.nesc_core.specs.Layouts.{at}
use Rattle.nesc_core.specs.Size.{struct_at}
use Rattle.nesc_core.specs.View.{structs_of}
use Rattle.kernel_code.specs.Sizes.{cut}
use Rattle.kernel_code.proofs.structs.by_depth.Given as goal

abbrev pub invariant-loop-depth : goal.invariant-loop-depth
invariant-loop-depth l = (k : ℕ) → at l.layouts.items k ≡ cut (struct_at (structs_of l.s) l._depth k)
