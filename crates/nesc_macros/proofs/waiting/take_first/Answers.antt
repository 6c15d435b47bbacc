use Rattle.std.proofs.Common.{◌∙◌, length, ap, sym, subst}
use Rattle.std.specs.declared.alloc.Global.{Global}
use Rattle.std.specs.declared.collections.VecDeque.{VecDeque}
use Rattle.nesc_macros.specs.declared.waiting.Waiting.{Waiting}
use Rattle.nesc_macros.specs.Groups.{AreGrouped}
use Rattle.nesc_macros.proofs.Grouped.{grouped_drop}
use Rattle.nesc_macros.proofs.waiting.take_first.Goals as goal

pub returns-then-count-len-clause-grouped : goal.returns-then-count-len-clause-grouped
returns-then-count-len-clause-grouped c all =
    subst AreGrouped (sym (ap (λ (d : VecDeque Waiting Global). d.items) c.replace.ensures.after ∙ c.in_ok-others.ensures.tail)) (grouped_drop c.args.count c.args.tokens.now.items all)

pub returns-in_err-push_back-clause-grouped : goal.returns-in_err-push_back-clause-grouped
returns-in_err-push_back-clause-grouped c all =
    let left = c.loop-tokens.invariant.others in
    let now = c.pop_front.ensures.rest in
    subst AreGrouped (sym now) (grouped_drop 1 c.loop-tokens.tokens.items (subst AreGrouped (sym left) (grouped_drop (length c.loop-tokens.first.items) c.args.tokens.now.items all)))

pub returns-clause-grouped : goal.returns-clause-grouped
returns-clause-grouped c all = subst AreGrouped (sym c.loop-tokens.invariant.others) (grouped_drop (length c.loop-tokens.first.items) c.args.tokens.now.items all)
