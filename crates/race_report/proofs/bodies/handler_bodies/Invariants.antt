use Rattle.std.proofs.Common.{◌≡◌, ℕ, map, take}
use Rattle.race_report.proofs.bodies.handler_bodies.Given as goal

abbrev pub invariant-loop-handler : goal.invariant-loop-handler
invariant-loop-handler l = l.bodies.items ≡ map (λ (h : ℕ × ℕ). h.1) (take l.handler-index l.handler-items)
