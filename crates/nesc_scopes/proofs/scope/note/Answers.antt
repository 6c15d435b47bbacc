use Rattle.std.proofs.Common.{List, ap, ◌∙◌}
use Rattle.nesc_tree.specs.declared.names.Change.{Change}
use Rattle.nesc_tree.specs.Changes.{all_taken_back}
use Rattle.nesc_tree.proofs.Changed.{pushed}
use Rattle.nesc_scopes.proofs.scope.note.Goals as goal

pub returns-in-Ok-clause-noted : goal.returns-in-Ok-clause-noted
returns-in-Ok-clause-noted c =
    ap (λ (cs : List Change). all_taken_back cs c.change.new.self) c.in-Ok.ensures.items
    ∙ (pushed c.args.changes.now.items c.in_ok-change.change c.change.new.self ∙ ap (all_taken_back c.args.changes.now.items) c.in_ok-change.ensures.back)
