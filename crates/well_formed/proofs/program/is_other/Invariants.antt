use Rattle.std.proofs.Common.{ℕ, drop}
use Rattle.std.specs.Prelude.{◌≢◌}
use Rattle.well_formed.specs.Formed.{Each}
use Rattle.well_formed.proofs.program.is_other.Given as goal

abbrev pub invariant-loop-handler : goal.invariant-loop-handler
invariant-loop-handler l = Each (λ (k : ℕ × ℕ). l.line ≢ k.0) (drop l.handler-index l.handlers) → Each (λ (k : ℕ × ℕ). l.line ≢ k.0) l.handlers
