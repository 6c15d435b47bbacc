use Rattle.std.proofs.Common.{◌≡◌, ◌≤◌, Bool, false, true, Option, Some, None, length, sym, ap, ◌∙◌}
use Rattle.nesc_tree.specs.Sorts.{Names}
use Rattle.nesc_tree.specs.Bindings.{bindings}
use Rattle.nesc_tree.specs.Changes.{taken_by}
use Rattle.nesc_tree.proofs.Changed.{set_back, cut_back, not_within, no_flag}
use Rattle.nesc_tree.proofs.names.TypeNames.take_back.Goals as goal

pub returns-in-None : goal.returns-in-None
returns-in-None c =
    ap bindings c.truncate.ensures.entries
    ∙ (cut_back c.args.change.at c.self.inside.names.entries
    ∙ (ap (λ (ns : Names). taken_by c.args.change.at None ns) c.self.view_is ∙ ap (λ (o : Option Bool). taken_by c.args.change.at o c.args.self.now) (sym c.in-None.is)))

pub returns-in-Some-get_index_mut : goal.returns-in-Some-get_index_mut
returns-in-Some-get_index_mut c =
    set_back c.self.inside.names.entries c.args.change.at c.in-Some.is_type
    ∙ (ap (λ (ns : Names). taken_by c.args.change.at (Some c.in-Some.is_type) ns) c.self.view_is ∙ ap (λ (o : Option Bool). taken_by c.args.change.at o c.args.self.now) (sym c.in-Some.is))

pub returns-in_default : goal.returns-in_default
returns-in_default c =
    let out : length c.self.inside.names.entries ≤ c.args.change.at = not_within (length c.self.inside.names.entries) c.args.change.at (λ l. (let w : false ≡ true = c.in_default.ensures.found.1 l in absurd cc)) in
    sym (no_flag c.args.change.at c.in-Some.is_type c.self.inside.names.entries out)
    ∙ (ap (λ (ns : Names). taken_by c.args.change.at (Some c.in-Some.is_type) ns) c.self.view_is ∙ ap (λ (o : Option Bool). taken_by c.args.change.at o c.args.self.now) (sym c.in-Some.is))
