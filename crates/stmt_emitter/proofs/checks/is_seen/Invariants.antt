use Rattle.std.proofs.Common.{◌≡◌, length, map}
use Rattle.std.specs.List.{list_any}
use Rattle.nesc_core.specs.Parts.{same_type}
use Rattle.nesc_core.specs.View.{type_of}
use Rattle.stmt_emitter.proofs.checks.is_seen.Given as goal

abbrev pub invariant-loop-rest : goal.invariant-loop-rest
invariant-loop-rest l = list_any (λ u. same_type u (type_of l.t)) (map type_of l.rest) ≡ list_any (λ u. same_type u (type_of l.t)) (map type_of l.fn.seen)

abbrev pub decreases-loop-rest : goal.decreases-loop-rest
decreases-loop-rest l = length l.rest
