-- Uses, one after the other.
use Rattle.std.proofs.Common.{◌≡◌, ℕ, ◌+◌, ◌<◌, drop, length, get_or, cond, ◌∷◌, ap}
use Rattle.std.proofs.Math.ListN.{drop_of_length-le}
use Rattle.wire_uniques.specs.declared.used.Use.{Use}
use Rattle.wire_uniques.specs.Expressions.{Uses}
use Rattle.wire_uniques.proofs.Lists.{next_of}
use Rattle.wire_envs.specs.Envs.{Count, counted, counts_in}

pub counts_next : (count : Count) (uses : Uses) (k : ℕ) (one : Use) → k < length uses → one ≡ get_or uses k one
    → counts_in count (drop k uses) ≡ cond one.is_count (counted count one ∷ counts_in count (drop (k + 1) uses)) (counts_in count (drop (k + 1) uses))
counts_next count uses k one below is = ap (counts_in count) (next_of uses k one below is)

pub ruleset counts = (counts_next, drop_of_length-le)
