use Rattle.std.proofs.Common.{◌≡◌, ◌+◌, ◌++◌, ◌≤◌, flat_map, map, length, drop, sum_by}
use Rattle.nesc_core.specs.View.{case_of, stmt_of}
use Rattle.combine_fanout.specs.Dispatch.{closed, starts}
use Rattle.combine_fanout.proofs.body.switched.Given as goal

abbrev pub invariant-loop-case : goal.invariant-loop-case
invariant-loop-case l =
    (map stmt_of l.code.items ++ flat_map (closed l.i) (drop l.case-index l.cases) ≡ flat_map (closed l.i) l.cases)
    × (map case_of l.starts.items ++ starts l.i (length l.code.items) (drop l.case-index l.cases) ≡ starts l.i 0 l.cases)
    × (length l.code.items + sum_by (λ c. length c.bodies + 1) (drop l.case-index l.cases) ≤ sum_by (λ c. length c.bodies + 1) l.cases)
