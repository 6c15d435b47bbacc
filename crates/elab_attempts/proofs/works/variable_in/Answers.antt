use Rattle.std.proofs.Common.{◌≡◌, Option, Ok, OnOk, sym, subst}
use Rattle.std.specs.Prelude.{option_map}
use Rattle.body_meaning.specs.View.{variable_of}
use Rattle.elab_meaning.specs.declared.found.Based.{Based}
use Rattle.elab_meaning.specs.View.{based_of}
use Rattle.nesc_unwired.specs.Calls.{variable_by}
use Rattle.wire_elements.specs.View.{early_env}
use Rattle.elab_attempts.specs.View.{kept_in}
use Rattle.elab_attempts.proofs.works.variable_in.Goals as goal

pub returns-in-Some-clause-now : goal.returns-in-Some-clause-now
returns-in-Some-clause-now c = λ m.
    subst (λ (b : Option Based). OnOk c.typed_variable_in.result (variable_by (early_env c.args.early.now) m (option_map based_of b) c.args.said (variable_of c.args.v.now) (kept_in c.args.works.now) ≡ Ok (tt, kept_in c.typed_variable_in.new.works)))
    (sym c.in-Some.is) (c.typed_variable_in.ensures.now m)
