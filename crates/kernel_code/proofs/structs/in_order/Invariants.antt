use Rattle.std.proofs.Common.{◌≡◌, ◌<◌, ℕ, length}
use Rattle.nesc_core.specs.Layouts.{at}
use Rattle.nesc_core.specs.Size.{struct_at}
use Rattle.nesc_core.specs.View.{structs_of}
use Rattle.kernel_code.specs.Sizes.{cut}
use Rattle.kernel_code.proofs.structs.in_order.Given as goal

abbrev pub invariant-loop-fields : goal.invariant-loop-fields
invariant-loop-fields l = record {
  long : length l.layouts.items ≡ l.fields-index;
  known : (k : ℕ) → k < l.fields-index → at l.layouts.items k ≡ cut (struct_at (structs_of l.s) (length (structs_of l.s)) k);
}
