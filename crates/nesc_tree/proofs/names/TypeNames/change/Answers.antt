use Rattle.std.proofs.Common.{◌∙◌, ap, ℕ, Bool, List, Option}
use Rattle.nesc_tree.specs.Sorts.{Names, declared}
use Rattle.nesc_tree.specs.Bindings.{bindings}
use Rattle.nesc_tree.specs.Changes.{taken_by}
use Rattle.nesc_tree.proofs.Held.{inserted}
use Rattle.nesc_tree.proofs.Changed.{place, taken}
use Rattle.nesc_tree.proofs.names.TypeNames.change.Goals as goal

pub returns-clause-declared : goal.returns-clause-declared
returns-clause-declared c =
    ap bindings c.in_ok-at.ensures.entries
    ∙ (inserted c.in_ok-key.key c.args.is_type c.self.inside.names.entries
    ∙ (ap (λ (text : List ℕ). declared text c.args.is_type (bindings c.self.inside.names.entries)) (c.in_ok-key.ensures ∙ c.as_bytes.ensures) ∙ ap (λ (names : Names). declared c.args.name.now c.args.is_type names) c.self.view_is))

pub returns-clause-back : goal.returns-clause-back
returns-clause-back c =
    let text : List ℕ = c.in_ok-key.key.items in
    let before = c.self.inside.names.entries in
    let after : Names = declared text c.args.is_type (bindings before) in
    ap (λ es. taken_by c.in_ok-at.at c.in_ok-at.was' (bindings es)) c.in_ok-at.ensures.entries
    ∙ (ap (λ (ns : Names). taken_by c.in_ok-at.at c.in_ok-at.was' ns) (inserted c.in_ok-key.key c.args.is_type before)
    ∙ (ap (λ (k : ℕ). taken_by k c.in_ok-at.was' after) c.in_ok-at.ensures.index
    ∙ (ap (λ (o : Option Bool). taken_by (place text before) o after) c.in_ok-at.ensures.old
    ∙ (taken text c.args.is_type before ∙ c.self.view_is))))
