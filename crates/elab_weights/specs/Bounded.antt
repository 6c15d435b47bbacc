-- Numbers that are counted up to a bound (own).
use Rattle.std.specs.Prelude.{ℕ, min}
use Rattle.elab_weights.specs.declared.bound.TheConstants.{BOUND}

abbrev pub bounded : ℕ → ℕ
bounded n = min n BOUND
