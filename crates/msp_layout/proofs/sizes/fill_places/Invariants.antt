-- The places so far.
use Rattle.std.proofs.Common.{◌≡◌, ℕ, ◌<◌, sum, take, get_or}
use Rattle.msp_layout.proofs.sizes.fill_places.Given as goal

abbrev pub invariant-loop-k : goal.invariant-loop-k
invariant-loop-k l = (l.at ≡ sum (take l.k l.sizes)) × ((j : ℕ) → j < l.k → get_or l.places j 0 ≡ sum (take j l.sizes))
