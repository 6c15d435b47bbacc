use Rattle.std.proofs.Common.{◌≡◌, ◌+◌, ◌<◌, length, map, arith, rules}
use Rattle.nesc_core.specs.View.{expr_of as core_expr_of}
use Rattle.elab_exprs.proofs.Faults.{stops}
use Rattle.elab_meaning.specs.View.{state_of}
use Rattle.elab_locals.specs.Walk.{AreSteps, initials_at, one_initial_at}
use Rattle.elab_locals.proofs.Loops.{initial_passed, initial_failed}
use Rattle.elab_locals.proofs.Sizes.{sizes_next}
use Rattle.elab_locals.proofs.initials.+initials.Goals as goal

pub initials-returns-in_err-more : goal.initials-returns-in_err-more
unfolding AreSteps initials_at one_initial_at
initials-returns-in_err-more t c =
    let h : c.loop-i.i-index < length c.as_slice-i-items.result.now = omega (arith, c.loop-i-test.true) in
    stops (λ v. map core_expr_of v.items) c.from_residual.result c.in_err-more.field-0.0 _ _ c.from_residual.ensures
    (initial_failed _ _ _ _ c.loop-i.k c.as_slice-i-items.result.now c.loop-i.i-index c.i-item.result (state_of c.loop-i.work) _ (map core_expr_of c.loop-i.steps.items) c.in_err-more.field-0.0
    c.loop-i.invariant.rest h c.i-item.is c.in_err-more.ensures)

pub initials-loop-i-preserved : goal.initials-loop-i-preserved
unfolding AreSteps one_initial_at
initials-loop-i-preserved t c =
    let h : c.loop-i.i-index < length c.as_slice-i-items.result.now = omega (arith, c.loop-i-test.true) in
    let n = sizes_next c.as_slice-i-items.result.now c.loop-i.i-index c.i-item.result h c.i-item.is in
    let more : c.in-Some.next ≡ c.loop-i.k + 1 = search rules in
    record {
      rest = initial_passed _ _ _ _ c.loop-i.k c.in-Some.next c.as_slice-i-items.result.now c.loop-i.i-index c.i-item.result (state_of c.loop-i.work) (state_of c.one_initial.new.work) _ (map core_expr_of c.loop-i.steps.items) (map core_expr_of c.in_ok-more.more.items) (map core_expr_of c.add_steps.new.steps.items)
          c.loop-i.invariant.rest h c.i-item.is c.in_ok-more.ensures c.in_ok-add_steps.ensures more;
      smaller = omega (arith, n, c.loop-i.invariant.smaller);
    }
