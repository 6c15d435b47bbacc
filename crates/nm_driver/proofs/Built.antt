-- What was built of a program.
use Rattle.std.proofs.Common.{◌≡◌, ℕ, List, sym, subst}
use Rattle.nesc_core.specs.Plain.{Program}
use Rattle.nm_driver.specs.Applications.{CanBeBuilt}
use Rattle.nm_driver.specs.MeetsProgram.{MeetsProgram}

pub meets_same : (p q : Program) (code vectors : List ℕ) (ram stack : ℕ) → p ≡ q → MeetsProgram q code vectors ram stack → MeetsProgram p code vectors ram stack
meets_same p q code vectors ram stack same meets = subst (λ x. MeetsProgram x code vectors ram stack) (sym same) meets

pub can_same : (p q : Program) → p ≡ q → CanBeBuilt q → CanBeBuilt p
can_same p q same can = subst CanBeBuilt (sym same) can
