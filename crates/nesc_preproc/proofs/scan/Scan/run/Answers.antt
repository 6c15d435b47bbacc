use Rattle.std.proofs.Common.{arith, ◌∙◌, ap, Err}
use Rattle.std.proofs.lemmas.Result.{err_from_is_err_and}
use Rattle.nesc_preproc.proofs.Stepping.{all_refused, breaks_from, fewer_break}
use Rattle.nesc_preproc.proofs.scan.Scan.run.Goals as goal

pub returns-in_err-step-clause-leads : goal.returns-in_err-step-clause-leads
returns-in_err-step-clause-leads g c world told lexing allows =
    let p = err_from_is_err_and c.from_residual.result c.from_residual.ensures.1 in
    let same = c.loop.invariant.same in
    let allowed = rw (p.1, p.2) at allows in
    rw (p.1, p.2) (all_refused c.in_err-step.field-0.0 world c.args.self.now c.loop.self c.step.new.self
    (c.loop.invariant.goes world told lexing (breaks_from (Unit {0}) c.in_err-step.field-0.0 world.broken _ _ (λ e. c.in_err-step.ensures.unread (ap Err e)) allowed))
    (c.in_err-step.ensures.leads world (same ∙ told) lexing allowed))

pub loop-preserved : goal.loop-preserved
loop-preserved g c = record {
  within = c.in_ok-step.ensures.within;
  depth = c.in_ok-step.ensures.depth;
  same = c.in_ok-step.ensures.outside.same ∙ c.loop.invariant.same;
  faults = omega (arith, c.loop.invariant.faults, c.in_ok-step.ensures.outside.faults_kept);
  misses = λ n. omega (arith, c.loop.invariant.misses n, c.in_ok-step.ensures.outside.misses_kept n);
  numbers = omega (arith, c.loop.invariant.numbers, c.in_ok-step.ensures.numbers);
  goes = λ world told lexing breaks r ends. c.loop.invariant.goes world told lexing (fewer_break world.broken _ _ c.in_ok-step.ensures.numbers breaks) r
      ((rw c.if-branch.true at c.in_ok-step.ensures.leads world (c.loop.invariant.same ∙ told) lexing breaks) r ends);
}

pub returns-clause-leads : goal.returns-clause-leads
returns-clause-leads g c world told lexing breaks =
    c.loop.invariant.goes world told lexing (fewer_break world.broken _ _ c.in_ok-step.ensures.numbers breaks) _
    (rw c.if-branch.false at c.in_ok-step.ensures.leads world (c.loop.invariant.same ∙ told) lexing breaks)
