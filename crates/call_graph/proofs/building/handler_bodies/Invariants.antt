use Rattle.std.proofs.Common.{◌≡◌, ℕ, map, take}
use Rattle.call_graph.proofs.building.handler_bodies.Given as goal

abbrev pub invariant-loop-handler : goal.invariant-loop-handler
invariant-loop-handler l = l.bodies.items ≡ map (λ (h : ℕ × ℕ). h.1) (take l.handler-index l.handler-items)
