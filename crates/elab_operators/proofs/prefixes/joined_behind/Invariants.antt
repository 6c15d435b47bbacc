use Rattle.std.proofs.Common.{◌≡◌, fold, length, map}
use Rattle.std.specs.Vec.Iter.{into_iter_items, into_iter_len}
use Rattle.nesc_core.specs.Plain as core
use Rattle.nesc_core.specs.View.{expr_of}
use Rattle.elab_operators.proofs.prefixes.joined_behind.Given as goal

abbrev pub invariant-loop-step : goal.invariant-loop-step
invariant-loop-step l =
    (fold core.comma (expr_of l.whole) (map expr_of (into_iter_items l.step-iterator))
    ≡ fold core.comma (expr_of l.fn.first) (map expr_of l.fn.others.items))
    × (into_iter_len l.step-iterator ≡ length (into_iter_items l.step-iterator))
