use Rattle.std.proofs.Common.{◌∙◌}
use Rattle.std.proofs.lemmas.Result.{on_ok_weaker}
use Rattle.elab_meaning.specs.View.{based_of}
use Rattle.body_meaning.specs.View.{variable_of}
use Rattle.wire_elements.specs.View.{early_env}
use Rattle.elab_attempts.specs.View.{kept_in}
use Rattle.elab_attempts.proofs.InForce.{variable_forced}
use Rattle.elab_attempts.proofs.works.typed_variable_in.Goals as goal

pub returns-clause-now : goal.returns-clause-now
returns-clause-now c = λ m.
    on_ok_weaker c.declare_in.result (λ e. variable_forced (early_env c.args.early.now) m (based_of c.args.b.now) c.args.said (variable_of c.args.v.now) (kept_in c.args.works.now) ∙ e)
    c.declare_in.ensures.now
