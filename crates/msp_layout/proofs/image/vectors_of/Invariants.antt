-- The vectors so far.
use Rattle.std.proofs.Common.{◌≡◌, ◌<◌, ◌≤◌, ℕ, length, get_or}
use Rattle.msp_layout.proofs.image.vectors_of.Given as goal

abbrev pub invariant-loop-k : goal.invariant-loop-k
invariant-loop-k l = (length l.vectors ≡ 16) × ((j : ℕ) → j < l.k → get_or l.vectors j 0 ≡ get_or l.entries (get_or l.lines j 0) 0) × ((j : ℕ) → l.k ≤ j → j < 16 → get_or l.vectors j 0 ≡ get_or l.entries l.reset 0)
