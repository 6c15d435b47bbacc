use Rattle.std.proofs.Common.{List, sym, ap, ◌∙◌}
use Rattle.nesc_tree.specs.declared.names.Change.{Change}
use Rattle.nesc_tree.specs.Changes.{all_taken_back}
use Rattle.nesc_tree.proofs.Changed.{pushed}
use Rattle.nesc_scopes.proofs.scope.give_back.Goals as goal

pub loop-change-preserved : goal.loop-change-preserved
loop-change-preserved c =
    ap (all_taken_back c.pop.new.self.items) c.take_back.ensures
    ∙ (sym (pushed c.pop.new.self.items c.in-Some.change c.loop-change.names)
    ∙ (ap (λ (cs : List Change). all_taken_back cs c.loop-change.names) (sym c.in-Some.ensures.items) ∙ c.loop-change.invariant))
