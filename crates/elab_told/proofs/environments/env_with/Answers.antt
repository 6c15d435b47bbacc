use Rattle.std.proofs.Common.{◌≡◌, Vec, Result, IfOk, map, ap, subst, ◌∙◌}
use Rattle.std.specs.declared.alloc.Global.{Global}
use Rattle.nm_base.specs.declared.no_memory.NoMemory.{NoMemory}
use Rattle.elab_meaning.specs.declared.scope.Item as rust_item
use Rattle.elab_meaning.specs.declared.scope.Unique as rust_unique
use Rattle.elab_meaning.specs.declared.scope.UniqueCount as rust_count
use Rattle.elab_meaning.specs.View.{item_of, unique_count_of, unique_of}
use Rattle.elab_targets.specs.View.{application_of}
use Rattle.elab_told.proofs.Tellings.{env_same}
use Rattle.elab_told.proofs.environments.env_with.Goals as goal

pub returns : goal.returns
returns c = λ are.
    let uniques = subst (λ (r : Result (Vec rust_unique.Unique Global) NoMemory). IfOk r (λ v. v.items ≡ c.as_slice.result.now)) c.in_ok-items.ensures.kept.1 c.copied_uniques.ensures in
    let counts = subst (λ (r : Result (Vec rust_count.UniqueCount Global) NoMemory). IfOk r (λ v. map unique_count_of v.items ≡ map unique_count_of c.as_slice-2.result.now)) c.in_ok-items-2.ensures.kept.1 c.copied_counts.ensures in
    env_same c.args.number _ _ _ _ _ _ _ _
    (ap (map unique_of) (c.new.ensures ∙ uniques ∙ c.as_slice.ensures))
    (ap (map unique_count_of) c.new-2.ensures ∙ counts ∙ ap (map unique_count_of) c.as_slice-2.ensures)
    (ap (map item_of) (c.new-3.ensures ∙ ap (λ (v : Vec rust_item.Item Global). v.items) (c.in_ok-items-2.ensures.kept.0 ∙ c.in_ok-items.ensures.kept.0)))
    (c.first_dispatch.ensures (application_of c.args.app.now) are)
