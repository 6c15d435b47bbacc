use Rattle.std.proofs.Common.{◌≡◌, ◌++◌, flat_map, map, length, drop}
use Rattle.nesc_core.specs.View.{case_of, stmt_of}
use Rattle.elab_dispatch.specs.Calls.{closed, starts}
use Rattle.elab_dispatch.proofs.cases.switched.Given as goal

abbrev pub invariant-loop-case : goal.invariant-loop-case
invariant-loop-case l =
    (map stmt_of l.code.items ++ flat_map (closed l.i) (drop l.case-index l.cases) ≡ flat_map (closed l.i) l.cases)
    × (map case_of l.starts.items ++ starts l.i (length l.code.items) (drop l.case-index l.cases) ≡ starts l.i 0 l.cases)
