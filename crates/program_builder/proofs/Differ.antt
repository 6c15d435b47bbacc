-- Tasks with bodies of their own.
use Rattle.std.proofs.Common.{ℕ, zero, suc, List, [], ◌∷◌, arith}
use Rattle.std.specs.Prelude.{◌≢◌}
use Rattle.std.specs.List.{AllPairs}
use Rattle.well_formed.proofs.Each.{each_is}
use Rattle.program_builder.specs.Parts.{HaveOwnBodies}

pub bodies_differ : (fs : List ℕ) → HaveOwnBodies fs → AllPairs (λ (f : ℕ) (g : ℕ). f ≢ g) fs
bodies_differ [] own i j d lt within = absurd (omega arith)
bodies_differ (f ∷ fs) own i zero d lt within = absurd (omega arith)
bodies_differ (f ∷ fs) own zero (suc j) d lt within = each_is (λ (g : ℕ). f ≢ g) fs own.0 j d (omega arith)
bodies_differ (f ∷ fs) own (suc i) (suc j) d lt within = bodies_differ fs own.1 i j d (omega arith) (omega arith)
