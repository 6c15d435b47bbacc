use Rattle.std.proofs.Common.{rules, ◌≡◌, ℕ, Ok, Err, length, subst, arith, ◌∷◌, ◌++◌, [], get_or, ◌∙◌}
use Rattle.wire_instances.specs.Instances.{named, created}
use Rattle.wire_instances.proofs.OneMore.{so_far_more, so_far_refused, so_far_all}
use Rattle.wire_instances.proofs.creation.+creation.Goals as goal

pub create-returns-in_err-name-clause-refused : goal.create-returns-in_err-name-clause-refused
create-returns-in_err-name-clause-refused t c = λ levels stop enough h refusal.
    let e : c.name.result ≡ Err stop = search rules in
    let n : c.len-number.result ≡ length c.args.made.now.items = omega (arith, c.args.made.now.ok.0) in
    so_far_refused c.args.plans.now c.args.around.now.items c.args.component c.args.maker c.args.made.now.items c.lines_of-lines.result.now c.loop-at.at c.loop-at.made.items c.loop-at-test.true c.loop-at.invariant.so_far stop
    (λ m r room. subst (λ (k : ℕ). named (created m c.args.plans.now) c.args.plans.now (c.args.around.now.items ++ c.args.component ∷ []) k c.loop-at.at (get_or c.lines_of-lines.result.now c.loop-at.at r) c.loop-at.made.items ≡ Err stop) n (rw c.loop-at.invariant.around at (c.name.ensures.refused m r stop room e refusal)))
    levels enough

pub create-returns-clause-created : goal.create-returns-clause-created
create-returns-clause-created t c = λ levels enough.
    so_far_all c.args.plans.now c.args.around.now.items c.args.component c.args.maker c.args.made.now.items c.lines_of-lines.result.now c.loop-at.at c.loop-at.made.items c.loop-at-test.false c.loop-at.invariant.so_far levels enough

pub create-loop-at-preserved : goal.create-loop-at-preserved
create-loop-at-preserved t c =
    let n : c.len-number.result ≡ length c.args.made.now.items = omega (arith, c.args.made.now.ok.0) in
    record {
      around = c.in_ok-name.ensures.around ∙ c.loop-at.invariant.around;
      within = omega arith;
      so_far =
          so_far_more c.args.plans.now c.args.around.now.items c.args.component c.args.maker c.args.made.now.items c.lines_of-lines.result.now c.loop-at.at c.loop-at.made.items c.loop-at-test.true c.loop-at.invariant.so_far c.name.new.made.items c.in_ok-name.ensures.grows
          (λ m r room. subst (λ (k : ℕ). named (created m c.args.plans.now) c.args.plans.now (c.args.around.now.items ++ c.args.component ∷ []) k c.loop-at.at (get_or c.lines_of-lines.result.now c.loop-at.at r) c.loop-at.made.items ≡ Ok c.name.new.made.items) n (rw c.loop-at.invariant.around at (c.in_ok-name.ensures.named m r room)));
    }
