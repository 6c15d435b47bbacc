-- Handlers with lines of their own.
use Rattle.std.proofs.Common.{ℕ, zero, suc, List, [], ◌∷◌, arith}
use Rattle.std.specs.Prelude.{◌≢◌}
use Rattle.std.specs.List.{AllPairs}
use Rattle.well_formed.specs.Formed.{HaveOwnLines}
use Rattle.well_formed.proofs.Each.{each_is}

pub lines_differ : (hs : List (ℕ × ℕ)) → HaveOwnLines hs → AllPairs (λ (h : ℕ × ℕ) (k : ℕ × ℕ). h.0 ≢ k.0) hs
lines_differ [] own i j d lt within = absurd (omega arith)
lines_differ (h ∷ hs) own i zero d lt within = absurd (omega arith)
lines_differ (h ∷ hs) own zero (suc j) d lt within = each_is (λ (k : ℕ × ℕ). h.0 ≢ k.0) hs own.0 j d (omega arith)
lines_differ (h ∷ hs) own (suc i) (suc j) d lt within = lines_differ hs own.1 i j d (omega arith) (omega arith)
