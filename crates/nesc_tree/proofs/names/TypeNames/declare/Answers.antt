use Rattle.std.proofs.Common.{◌∙◌, ap, ℕ, List}
use Rattle.nesc_tree.specs.Sorts.{Names, declared}
use Rattle.nesc_tree.specs.Bindings.{bindings}
use Rattle.nesc_tree.proofs.Held.{inserted}
use Rattle.nesc_tree.proofs.names.TypeNames.declare.Goals as goal

pub returns-clause-declared : goal.returns-clause-declared
returns-clause-declared c =
    ap bindings c.in_ok-insert.ensures.entries
    ∙ (inserted c.in_ok-key.key c.args.is_type c.self.inside.names.entries
    ∙ (ap (λ (text : List ℕ). declared text c.args.is_type (bindings c.self.inside.names.entries)) (c.in_ok-key.ensures ∙ c.as_bytes.ensures) ∙ ap (λ (names : Names). declared c.args.name.now c.args.is_type names) c.self.view_is))
