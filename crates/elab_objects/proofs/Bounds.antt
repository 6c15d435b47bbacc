-- Limits.
use Rattle.std.proofs.Common.{◌≡◌, ℕ, nat_le, arith}
use Rattle.std.proofs.lemmas.Bool.Decides.{nat_tests}
use Rattle.std.proofs.lemmas.Option.{slice_get-map}
use Rattle.elab_weights.specs.Bounded.{bounded}

pub few : (n : ℕ) → nat_le (bounded n) 200000 ≡ nat_le n 200000
few n = grind (arith, nat_tests)

pub ruleset nodes = (few)

pub ruleset boots = (slice_get-map)
