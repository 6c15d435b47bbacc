use Rattle.std.proofs.Common.{◌≡◌, Ok, OnOk, subst}
use Rattle.std.specs.Prelude.{option_map}
use Rattle.body_meaning.specs.View.{param_of}
use Rattle.elab_meaning.specs.declared.work.Work.{Work}
use Rattle.nesc_unwired.specs.Calls.{bracket_in_force}
use Rattle.wire_elements.specs.View.{early_env}
use Rattle.elab_attempts.specs.View.{now}
use Rattle.elab_attempts.proofs.scopes.Scopes.bracket.Goals as goal

pub returns : goal.returns
returns c = λ m.
    subst (λ (w : Work). OnOk c.bracket_in.result (bracket_in_force (early_env c.args.early.now) m c.args.at (option_map param_of c.args.p.now) (now w) ≡ Ok (tt, now c.bracket_in.new.works.kept)))
    c.self.view_is (c.bracket_in.ensures.now m)
