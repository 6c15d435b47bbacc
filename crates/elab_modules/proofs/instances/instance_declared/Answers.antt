use Rattle.elab_making.proofs.Faults.{stops}
use Rattle.elab_making.specs.View.{whole_of}
use Rattle.elab_modules.proofs.Chains.{goes_on, goes_wrong}
use Rattle.elab_modules.proofs.Growing.{begun_grown, has_on, instance_is}
use Rattle.elab_modules.proofs.instances.instance_declared.Goals as goal
use Rattle.elab_modules.specs.Behind.{begun, behind_given}
use Rattle.elab_targets.specs.View.{application_of, instance_of}
use Rattle.elab_told.specs.View.{met_of}

pub returns : goal.returns
returns c = λ tabled h are has there.
    let kept = (begun_grown (met_of c.args.around.now.met.now) (instance_of c.args.instance.now) (whole_of c.args.whole.now)).by tt (whole_of c.begun.new.whole) c.in_ok-begun.ensures in
    goes_on (λ _. tt) _ (begun (met_of c.args.around.now.met.now) (instance_of c.args.instance.now) (whole_of c.args.whole.now)) (λ u. behind_given (application_of c.args.around.now.app.now) h c.args.number (instance_of c.args.instance.now)) tt (whole_of c.begun.new.whole) _ _
    (instance_is (application_of c.args.around.now.app.now) h (met_of c.args.around.now.met.now) c.args.number (instance_of c.args.instance.now) (whole_of c.args.whole.now)) c.in_ok-begun.ensures
    (c.behind_given.ensures tabled h are (has_on h.work (whole_of c.args.whole.now).work (whole_of c.begun.new.whole).work has kept) there)

pub returns-in_err-begun : goal.returns-in_err-begun
returns-in_err-begun c = λ tabled h are has there.
    stops (λ _. tt) c.from_residual.result c.in_err-begun.field-0.0 _ _ c.from_residual.ensures
    (goes_wrong _ (begun (met_of c.args.around.now.met.now) (instance_of c.args.instance.now) (whole_of c.args.whole.now)) (λ u. behind_given (application_of c.args.around.now.app.now) h c.args.number (instance_of c.args.instance.now)) c.in_err-begun.field-0.0
    (instance_is (application_of c.args.around.now.app.now) h (met_of c.args.around.now.met.now) c.args.number (instance_of c.args.instance.now) (whole_of c.args.whole.now)) c.in_err-begun.ensures)
