use Rattle.std.proofs.Common.{ℕ, ◌<◌, drop}
use Rattle.std.specs.Prelude.{slice_get}
use Rattle.nesc_core.specs.WellFormed.{IsRoot}
use Rattle.nesc_core.specs.View.{program_of}
use Rattle.well_formed.specs.Formed.{Each}
use Rattle.well_formed.proofs.program.handlers_are.Given as goal

abbrev pub invariant-loop-handler : goal.invariant-loop-handler
invariant-loop-handler l = record {
  roots : Each (λ (h : ℕ × ℕ). IsRoot (slice_get (program_of l.p).bodies h.1)) (drop l.handler-index l.handler-items) → Each (λ (h : ℕ × ℕ). IsRoot (slice_get (program_of l.p).bodies h.1)) l.handler-items;
  lines : Each (λ (h : ℕ × ℕ). h.0 < 8) (drop l.handler-index l.handler-items) → Each (λ (h : ℕ × ℕ). h.0 < 8) l.handler-items;
}
