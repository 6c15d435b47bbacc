use Rattle.std.proofs.Common.{◌≡◌, ◌++◌, map, drop}
use Rattle.nesc_core.specs.View.{expr_of, stmt_of}
use Rattle.elab_dispatch.specs.Calls.{called, gives_behind, gives_each}
use Rattle.elab_dispatch.proofs.calls.push_results.Given as goal

abbrev pub invariant-loop-target : goal.invariant-loop-target
invariant-loop-target l =
    map stmt_of l.code.items ++ gives_behind l.i (expr_of l.value) (map (called l.i) (drop l.target-index l.others))
    ≡ map stmt_of l.fn.code.items ++ gives_each l.i (map (called l.i) l.fn.targets)
