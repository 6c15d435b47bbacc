-- What a test tells.
use Rattle.std.specs.Prelude.{Bool, true, false}

abbrev pub Tells : Bool → Type 0 → Type 0
Tells true A = A
Tells false A = A → ⊥
