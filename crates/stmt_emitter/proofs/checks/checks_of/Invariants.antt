use Rattle.std.proofs.Common.{◌≡◌, [], drop, map}
use Rattle.std.specs.List.{flat_map}
use Rattle.nesc_core.specs.Derefs.{stmt_derefs}
use Rattle.nesc_core.specs.View.{body_of, type_of}
use Rattle.lower_stmt.specs.Bodies.{in_order}
use Rattle.stmt_emitter.proofs.checks.checks_of.Given as goal

abbrev pub invariant-loop-body : goal.invariant-loop-body
invariant-loop-body l =
    in_order (map type_of l.seen.items) (flat_map (λ b. stmt_derefs b.code) (map body_of (drop l.body-index l.body-items)))
    ≡ in_order [] (flat_map (λ b. stmt_derefs b.code) (map body_of l.body-items))
