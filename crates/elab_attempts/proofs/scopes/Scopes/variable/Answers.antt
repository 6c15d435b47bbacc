use Rattle.std.proofs.Common.{◌≡◌, Ok, OnOk, subst}
use Rattle.std.specs.Prelude.{option_map}
use Rattle.body_meaning.specs.View.{variable_of}
use Rattle.elab_meaning.specs.declared.work.Work.{Work}
use Rattle.elab_meaning.specs.View.{based_of}
use Rattle.nesc_unwired.specs.Calls.{variable_by}
use Rattle.wire_elements.specs.View.{early_env}
use Rattle.elab_attempts.specs.View.{now}
use Rattle.elab_attempts.proofs.scopes.Scopes.variable.Goals as goal

pub returns : goal.returns
returns c = λ m.
    subst (λ (w : Work). OnOk c.variable_in.result (variable_by (early_env c.args.early.now) m (option_map based_of c.args.b.now) c.args.said (variable_of c.args.v.now) (now w) ≡ Ok (tt, now c.variable_in.new.works.kept)))
    c.self.view_is (c.variable_in.ensures.now m)
