-- Bounded parts of a frame tell whether it fits.
use Rattle.std.proofs.Common.{◌≡◌, ℕ, ◌+◌, ◌*◌, nat_le, arith}
use Rattle.std.proofs.lemmas.Bool.Decides.{nat_tests}
use Rattle.elab_weights.specs.Bounded.{bounded}

pub fits : (a b c : ℕ) → nat_le (bounded a + 4 * bounded b + 2 * bounded c + 40) 10000 ≡ nat_le (a + 4 * b + 2 * c + 40) 10000
fits a b c = grind (arith, nat_tests)
