use Rattle.elab_facts.specs.View.{form_of}
use Rattle.elab_dispatch.proofs.Served.{served}
use Rattle.elab_dispatch.proofs.body.dispatch.Goals as goal

pub returns : goal.returns
returns c = served _ _ (form_of c.args.form.now) c.args.combine c.args.at _ c.args.cases.now c.in_ok-i.ensures c.body_by.ensures
