use Rattle.std.proofs.Common.{rules, arith, ◌≡◌, Err, length}
use Rattle.wire_paths.specs.Ground.{app_of}
use Rattle.wire_paths.specs.Paths.{OfInstance}
use Rattle.wire_paths.proofs.Steps.{number_passed, number_stops}
use Rattle.wire_paths.proofs.application.of_instances.Goals as goal

pub returns-in_err-of_instance-clause-refused : goal.returns-in_err-of_instance-clause-refused
returns-in_err-of_instance-clause-refused c = λ fault h refusal.
    let e : c.of_instance.result ≡ Err fault = search rules in
    let one = OfInstance (app_of c.args.ground.now) c.args.ground.now.pairs.now in
    c.loop-instance.invariant.whole (Err fault)
    (number_stops one c.loop-instance.instance (length c.args.ground.now.made.now) fault c.loop-instance-test.true (c.of_instance.ensures.refused fault e refusal))

pub loop-instance-preserved : goal.loop-instance-preserved
loop-instance-preserved c = record {
  within = omega (arith, c.loop-instance-test.true);
  whole = λ answer rest.
      let one = OfInstance (app_of c.args.ground.now) c.args.ground.now.pairs.now in
      c.loop-instance.invariant.whole answer
      (number_passed one c.loop-instance.instance (length c.args.ground.now.made.now) answer c.loop-instance-test.true c.in_ok-of_instance.ensures.passed rest);
}
