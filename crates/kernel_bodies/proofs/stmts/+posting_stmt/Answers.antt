use Rattle.std.proofs.Common.{length, ap, ◌∙◌, arith, get_or-set_other, length-set}
use Rattle.nesc_core.specs.View.{stmt_of, stmts_of}
use Rattle.task_queue.specs.Posting.{posting_stmt, posting_stmts}
use Rattle.kernel_bodies.proofs.Lists.{all_stmts, lent, one_more}
use Rattle.kernel_bodies.proofs.stmts.+posting_stmt.Goals as goal

pub posted_stmts-loop-s-preserved : goal.posted_stmts-loop-s-preserved
posted_stmts-loop-s-preserved t c =
    let h = c.loop-s.invariant in
    let now = c.loop-s.s-items in let first = c.deref_mut-s-items.result.now in let i = c.loop-s.s-index in let x = c.post_in_stmt.new.s in
    let long = h.0.0 in
    let lt = c.loop-s-test.true in
    let own = c.in_ok-post_in_stmt.ensures ∙ ap (λ e. posting_stmt c.args.queue (stmt_of e)) (h.0.1 i c.s-item.result (omega arith)) in (
      (
        length-set now i x ∙ long,
        λ k d le. get_or-set_other now i k x d (omega (arith, le)) ∙ h.0.1 k d (omega (arith, le)),
      ),
      one_more stmt_of (λ e. posting_stmt c.args.queue (stmt_of e)) now first i x c.s-item.result (omega (arith, lt, long)) long h.1 own,
    )

pub posted_stmts-returns : goal.posted_stmts-returns
posted_stmts-returns t c =
    let h = c.loop-s.invariant in
    let long = h.0.0 in
    let v = c.into_vec-items.result in let ok = v.ok.0 in
    let ended = c.loop-s-test.false in
    let same = ap length c.deref_mut-s-items.ensures.value in
    let given = c.deref_mut-s-items.ensures.value ∙ c.into_vec-items.ensures in
    ap stmts_of (c.new.ensures ∙ lent c.loop-s.s-items _ v.len (omega (arith, ok, long, same)))
    ∙ all_stmts c.args.queue c.loop-s.s-items c.deref_mut-s-items.result.now c.loop-s.s-index (omega (arith, ended, long)) long h.1
    ∙ ap (λ es. posting_stmts c.args.queue (stmts_of es)) given
