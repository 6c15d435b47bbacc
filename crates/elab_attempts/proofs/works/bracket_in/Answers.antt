use Rattle.std.proofs.Common.{◌∙◌}
use Rattle.std.proofs.lemmas.Result.{on_ok_weaker}
use Rattle.std.specs.Prelude.{option_map}
use Rattle.body_meaning.specs.View.{param_of}
use Rattle.wire_elements.specs.View.{early_env}
use Rattle.elab_attempts.specs.View.{kept_in}
use Rattle.elab_attempts.proofs.InForce.{bracket_forced}
use Rattle.elab_attempts.proofs.works.bracket_in.Goals as goal

pub returns-clause-now : goal.returns-clause-now
returns-clause-now c = λ m.
    on_ok_weaker c.declare_in.result (λ e. bracket_forced (early_env c.args.early.now) m c.args.at (option_map param_of c.args.p.now) (kept_in c.args.works.now) ∙ e)
    c.declare_in.ensures.now
