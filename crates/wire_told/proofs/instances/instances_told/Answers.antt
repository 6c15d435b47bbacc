use Rattle.std.proofs.Common.{map}
use Rattle.elab_meaning.specs.View.{state_of}
use Rattle.wire_scopes.specs.Keys.{types_in}
use Rattle.wire_scopes.specs.View.{base_view}
use Rattle.wire_elements.specs.View.{seen_of}
use Rattle.wire_told.specs.View.{application_of}
use Rattle.wire_told.proofs.Steps.{instance_passed, instance_refused}
use Rattle.wire_told.proofs.instances.instances_told.Goals as goal

pub returns-then-not-goes_on : goal.returns-then-not-goes_on
returns-then-not-goes_on c =
    instance_refused (application_of c.args.app.now.sources.now) (base_view c.args.app.now.base) c.args.app.now.sources.now.made.now c.loop-instance.instance
    (map seen_of c.loop-instance.sight.seen.items) (map seen_of c.told_in.new.sight.seen.items) (types_in c.loop-instance.sight.types, state_of c.loop-instance.sight.work)
    (types_in c.told_in.new.sight.types, state_of c.told_in.new.sight.work) _ c.in_ok-goes_on.goes_on
    c.loop-instance.invariant c.loop-instance-test.true c.in_ok-goes_on.ensures c.if-not-goes_on.true

pub loop-instance-preserved : goal.loop-instance-preserved
loop-instance-preserved c =
    instance_passed (application_of c.args.app.now.sources.now) (base_view c.args.app.now.base) c.args.app.now.sources.now.made.now c.loop-instance.instance
    (map seen_of c.loop-instance.sight.seen.items) (map seen_of c.told_in.new.sight.seen.items) (types_in c.loop-instance.sight.types, state_of c.loop-instance.sight.work)
    (types_in c.told_in.new.sight.types, state_of c.told_in.new.sight.work) _ c.in_ok-goes_on.goes_on
    c.loop-instance.invariant c.loop-instance-test.true c.in_ok-goes_on.ensures c.if-not-goes_on.false
