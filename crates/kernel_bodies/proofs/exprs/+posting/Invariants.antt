use Rattle.std.proofs.Common.{◌≡◌, map, take}
use Rattle.nesc_core.specs.View.{expr_of}
use Rattle.task_queue.specs.Posting as posting
use Rattle.kernel_bodies.proofs.exprs.+posting.Given as goal

abbrev pub invariant-posted_args-loop-e : goal.invariant-posted_args-loop-e
invariant-posted_args-loop-e l =
    goal.unvisited-posted_args-loop-e l
    × (map expr_of (take l.e-index l.e-items) ≡ map (λ e. posting.posting_expr l.queue (expr_of e)) (take l.e-index l.initial.e-items))
