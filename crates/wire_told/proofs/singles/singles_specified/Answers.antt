use Rattle.std.proofs.Common.{map}
use Rattle.elab_exprs.proofs.Faults.{stops}
use Rattle.elab_meaning.specs.View.{state_of}
use Rattle.wire_scopes.specs.Keys.{types_in}
use Rattle.wire_scopes.specs.View.{base_view}
use Rattle.wire_elements.specs.View.{seen_of}
use Rattle.wire_told.specs.View.{application_of, survey_of}
use Rattle.wire_told.proofs.Steps.{one_more, single_failed, single_passed}
use Rattle.wire_told.proofs.singles.singles_specified.Goals as goal

pub returns-in_err-one : goal.returns-in_err-one
returns-in_err-one c =
    stops _ c.from_residual.result c.in_err-one.field-0.0 _ _ c.from_residual.ensures
    (single_failed (application_of c.args.app.now.sources.now) (base_view c.args.app.now.base) c.args.app.now.sources.now.made.now c.loop-instance.instance
    (survey_of c.loop-instance.sight) (state_of c.loop-instance.sight.work) c.in_err-one.field-0.0 _ c.loop-instance.invariant c.loop-instance-test.true c.in_err-one.ensures)

pub loop-instance-preserved : goal.loop-instance-preserved
loop-instance-preserved c =
    single_passed (application_of c.args.app.now.sources.now) (base_view c.args.app.now.base) c.args.app.now.sources.now.made.now c.loop-instance.instance
    (survey_of c.loop-instance.sight) (state_of c.loop-instance.sight.work) (state_of c.single_specified.new.work) (seen_of c.in_ok-one.one) (types_in c.single_specified.new.types)
    (map seen_of c.push.new.self.items) _ c.loop-instance.invariant c.loop-instance-test.true c.in_ok-one.ensures
    (one_more seen_of c.loop-instance.sight.seen.items c.push.new.self.items c.in_ok-one.one c.in_ok-push.ensures.items)
