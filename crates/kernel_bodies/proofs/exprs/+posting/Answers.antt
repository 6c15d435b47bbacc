use Rattle.std.proofs.Common.{length, ap, ◌∙◌, arith, get_or-set_other, length-set}
use Rattle.nesc_core.specs.View.{expr_of, exprs_of}
use Rattle.task_queue.specs.Posting.{posting_expr, posting_exprs}
use Rattle.kernel_bodies.proofs.Lists.{all_exprs, lent, one_more}
use Rattle.kernel_bodies.proofs.exprs.+posting.Goals as goal

pub posted_args-loop-e-preserved : goal.posted_args-loop-e-preserved
posted_args-loop-e-preserved t c =
    let h = c.loop-e.invariant in
    let now = c.loop-e.e-items in let first = c.deref_mut-e-items.result.now in let i = c.loop-e.e-index in let x = c.post_in_expr.new.e in
    let long = h.0.0 in
    let lt = c.loop-e-test.true in
    let own = c.in_ok-post_in_expr.ensures ∙ ap (λ e. posting_expr c.args.queue (expr_of e)) (h.0.1 i c.e-item.result (omega arith)) in (
      (
        length-set now i x ∙ long,
        λ k d le. get_or-set_other now i k x d (omega (arith, le)) ∙ h.0.1 k d (omega (arith, le)),
      ),
      one_more expr_of (λ e. posting_expr c.args.queue (expr_of e)) now first i x c.e-item.result (omega (arith, lt, long)) long h.1 own,
    )

pub posted_args-returns : goal.posted_args-returns
posted_args-returns t c =
    let h = c.loop-e.invariant in
    let long = h.0.0 in
    let v = c.into_vec-items.result in let ok = v.ok.0 in
    let ended = c.loop-e-test.false in
    let same = ap length c.deref_mut-e-items.ensures.value in
    let given = c.deref_mut-e-items.ensures.value ∙ c.into_vec-items.ensures in
    ap exprs_of (c.new.ensures ∙ lent c.loop-e.e-items _ v.len (omega (arith, ok, long, same)))
    ∙ all_exprs c.args.queue c.loop-e.e-items c.deref_mut-e-items.result.now c.loop-e.e-index (omega (arith, ended, long)) long h.1
    ∙ ap (λ es. posting_exprs c.args.queue (exprs_of es)) given
