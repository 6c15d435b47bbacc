use Rattle.std.proofs.Common.{rules, arith, ◌≡◌, ℕ, Err, length, subst}
use Rattle.wire_pairs.specs.Application.{elems_of}
use Rattle.wire_paths.specs.Answers.{Each}
use Rattle.wire_paths.specs.Ground.{app_of}
use Rattle.wire_paths.specs.Paths.{OfElement}
use Rattle.wire_paths.proofs.Steps.{number_passed, number_stops}
use Rattle.wire_paths.proofs.application.of_instance.Goals as goal

pub returns-in_err-of_element-clause-refused : goal.returns-in_err-of_element-clause-refused
returns-in_err-of_element-clause-refused c = λ fault h refusal.
    let e : c.of_element.result ≡ Err fault = search rules in
    let one = OfElement (app_of c.args.ground.now) c.args.ground.now.pairs.now c.args.instance in
    let count : c.element_count-count.result ≡ length (elems_of (app_of c.args.ground.now) c.args.instance) = c.element_count-count.ensures in
    subst (λ (n : ℕ). Each one 0 n (Err fault)) count
    (c.loop-element.invariant.whole (Err fault)
    (number_stops one c.loop-element.element c.element_count-count.result fault c.loop-element-test.true (c.of_element.ensures.refused fault e refusal)))

pub loop-element-preserved : goal.loop-element-preserved
loop-element-preserved c = record {
  within = omega (arith, c.loop-element-test.true);
  whole = λ answer rest.
      let one = OfElement (app_of c.args.ground.now) c.args.ground.now.pairs.now c.args.instance in
      c.loop-element.invariant.whole answer
      (number_passed one c.loop-element.element c.element_count-count.result answer c.loop-element-test.true c.in_ok-of_element.ensures.passed rest);
}
