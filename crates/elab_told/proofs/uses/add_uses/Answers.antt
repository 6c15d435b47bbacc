use Rattle.std.proofs.Common.{◌++◌, subst, ◌∙◌}
use Rattle.elab_targets.proofs.Behind.{on_ok}
use Rattle.elab_targets.specs.Places.{AreUsed}
use Rattle.elab_told.proofs.uses.add_uses.Goals as goal

pub returns : goal.returns
returns c = on_ok c.add.result (λ says us are. subst (λ vs. AreUsed (us ++ vs) c.add.new.self) (c.as_slice.ensures.value ∙ c.in_ok-found.ensures) (says us are)) c.add.ensures
