use Rattle.std.proofs.Common.{length, map, ap, ◌∙◌, arith, length-set}
use Rattle.nesc_core.specs.View.{body_of}
use Rattle.task_queue.specs.Kernel.{posting_body}
use Rattle.kernel_bodies.proofs.Lists.{lent}
use Rattle.kernel_code.proofs.Kernels.{all_done, one_more}
use Rattle.kernel_code.proofs.bodies.posting.Goals as goal

pub loop-b-preserved : goal.loop-b-preserved
loop-b-preserved c =
    let h = c.loop-b.invariant in
    let now = c.loop-b.b-items in let i = c.loop-b.b-index in let x = c.post_in_body.new.b in
    let long = h.long in
    let lt = c.loop-b-test.true in
    record {
      long = length-set now i x ∙ long;
      done = one_more (posting_body c.args.queue) i now x c.b-item.result (omega (arith, lt, long)) c.in_ok-post_in_body.ensures ∙ h.done;
    }

pub returns : goal.returns
returns c =
    let h = c.loop-b.invariant in
    let long = h.long in
    let v = c.into_vec-items.result in let ok = v.ok.0 in
    let ended = c.loop-b-test.false in
    let same = ap length c.deref_mut-b-items.ensures.value in
    let given = c.deref_mut-b-items.ensures.value ∙ c.into_vec-items.ensures in
    ap (map body_of) (c.new.ensures ∙ lent c.loop-b.b-items _ v.len (omega (arith, ok, long, same)))
    ∙ all_done (posting_body c.args.queue) c.loop-b.b-index c.loop-b.b-items _ (omega (arith, ended, long)) h.done
    ∙ ap (λ bs. map (posting_body c.args.queue) (map body_of bs)) given
