use Rattle.std.proofs.Common.{◌++◌, map, ap, subst, ◌∙◌}
use Rattle.std.specs.List.{filter}
use Rattle.body_meaning.specs.View.{decl_of}
use Rattle.program_meaning.specs.Modules.{is_foreign}
use Rattle.elab_targets.proofs.Behind.{on_ok}
use Rattle.elab_targets.specs.Places.{AreUsed}
use Rattle.elab_told.specs.Uses.{heads_in}
use Rattle.elab_told.proofs.uses.add_foreign_uses.Goals as goal

pub returns : goal.returns
returns c =
    let is = c.as_slice.ensures.value ∙ c.in_ok-foreign.ensures ∙ ap (filter (is_foreign (heads_in (map decl_of c.args.decls.now)))) c.in_ok-found.ensures in
    on_ok c.add.result (λ says us are. subst (λ vs. AreUsed (us ++ vs) c.add.new.self) is (says us are)) c.add.ensures
