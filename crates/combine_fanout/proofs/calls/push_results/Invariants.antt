use Rattle.std.proofs.Common.{◌≡◌, ◌+◌, ◌++◌, length, map, drop}
use Rattle.nesc_core.specs.View.{expr_of, stmt_of}
use Rattle.combine_fanout.specs.Dispatch.{gives_behind, gives_each, target}
use Rattle.combine_fanout.proofs.calls.push_results.Given as goal

abbrev pub invariant-loop-body : goal.invariant-loop-body
invariant-loop-body l =
    (map stmt_of l.code.items ++ gives_behind l.i (expr_of l.value) (map (target l.i) (drop l.body-index l.others)) ≡ map stmt_of l.fn.code.items ++ gives_each l.i (map (target l.i) l.fn.bodies))
    × (length l.code.items ≡ length l.fn.code.items + l.body-index)
