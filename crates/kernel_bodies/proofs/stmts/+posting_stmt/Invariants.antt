use Rattle.std.proofs.Common.{◌≡◌, map, take}
use Rattle.nesc_core.specs.View.{stmt_of}
use Rattle.task_queue.specs.Posting as posting
use Rattle.kernel_bodies.proofs.stmts.+posting_stmt.Given as goal

abbrev pub invariant-posted_stmts-loop-s : goal.invariant-posted_stmts-loop-s
invariant-posted_stmts-loop-s l =
    goal.unvisited-posted_stmts-loop-s l
    × (map stmt_of (take l.s-index l.s-items) ≡ map (λ e. posting.posting_stmt l.queue (stmt_of e)) (take l.s-index l.initial.s-items))
