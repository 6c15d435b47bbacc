use Rattle.std.proofs.Common.{◌≡◌, ◌∙◌, ◌+◌, ℕ, suc, drop, Some, ap, sym, subst, arith}
use Rattle.std.specs.Prelude.{slice_get}
use Rattle.std.specs.Option.{option_copied}
use Rattle.nesc_macros.specs.Groups.{IsGroup, parts}
use Rattle.nesc_macros.proofs.Arguments.{slice_get-item}
use Rattle.nesc_macros.proofs.Grouped.{group_there}
use Rattle.nesc_macros.proofs.waiting.group_at.Goals as goal

pub returns-then-waiting-len-clause-group : goal.returns-then-waiting-len-clause-group
returns-then-waiting-len-clause-group c =
    let here : slice_get c.args.tokens.now.items c.args.at ≡ Some c.in-Some.waiting.now = sym (slice_get-item c.args.tokens.now.items c.args.at c.get.result c.get.ensures.item) ∙ ap option_copied c.in-Some.is in
    let next : suc c.args.at ≡ c.args.at + 1 = omega arith in
    subst (λ (n : ℕ). IsGroup c.in-Some.waiting.now.group (drop n (parts c.args.tokens.now.items))) next (group_there c.args.tokens.now.items c.args.at c.in-Some.waiting.now c.requires.grouped here)
