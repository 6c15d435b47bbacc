use Rattle.std.proofs.Common.{◌≡◌, drop, []}
use Rattle.nesc_core.specs.Heres.{all_heres}
use Rattle.nesc_core.specs.View.{stmts_of}
use Rattle.well_formed.proofs.bodies.+plain.Given as goal

abbrev pub invariant-are_plain-loop-s : goal.invariant-are_plain-loop-s
invariant-are_plain-loop-s l = all_heres (stmts_of (drop l.s-index l.s-items)) ≡ [] → all_heres (stmts_of l.s-items) ≡ []
