use Rattle.std.proofs.Common.{◌∙◌, ap, sym, List, ℕ}
use Rattle.nesc_macros.specs.Numbers.{has}
use Rattle.nesc_macros.proofs.Linked.{past_bounds}
use Rattle.nesc_macros.proofs.hide_sets.is_in.Goals as goal

pub returns-else-may_have : goal.returns-else-may_have
returns-else-may_have c =
    c.if-may_have.false ∙ sym (ap (λ (l : List ℕ). has l c.args.number) c.requires.1 ∙ past_bounds c.requires.0 c.args.set.now c.args.number (sym c.may_have.ensures ∙ c.if-may_have.false))
