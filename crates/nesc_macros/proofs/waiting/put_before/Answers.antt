use Rattle.std.proofs.Common.{◌≡◌, ◌∙◌, ◌+◌, ◌∷◌, List, ℕ, ap, sym, subst, arith, codes}
use Rattle.nesc_macros.specs.declared.definition.NumberedToken.{NumberedToken}
use Rattle.nesc_macros.specs.Invocation.{is_sign}
use Rattle.nesc_macros.specs.Groups.{AreClosing, group_opened, parts, with_more}
use Rattle.nesc_macros.proofs.Grouped.{closing_put}
use Rattle.nesc_macros.proofs.waiting.put_before.Goals as goal

pub returns-in_ok-push_front-4-clause-closing : goal.returns-in_ok-push_front-4-clause-closing
returns-in_ok-push_front-4-clause-closing c =
    let group = c.group_opened-group.result in
    let rest = c.pop_front.new.self.items in
    let taken = group_opened (is_sign (codes "(") c.args.part.token) c.args.closing.now.items in
    let sum : c.in-Some.len + group + 1 ≡ c.in-Some.len + (group + 1) = omega arith in
    let closing : c.push_front-in-Some.new.self.items ≡ with_more (taken.0 + 1) taken.1 =
    c.in_ok-push_front-4.ensures.items ∙ (ap (λ (n : ℕ). n ∷ rest) sum ∙ (ap (with_more (group + 1)) (sym c.in-Some.ensures.items)
    ∙ ap (λ (o : ℕ × List ℕ). with_more (o.0 + 1) o.1) c.group_opened-group.ensures)) in
    let put : parts c.push_front-2.new.self.items ≡ c.args.part ∷ parts c.args.tokens.now.items = ap parts c.in_ok-push_front-3.ensures.items in
    subst (λ (ns : List ℕ). AreClosing ns (parts c.push_front-2.new.self.items)) (sym closing)
    (subst (λ (ts : List NumberedToken). AreClosing (with_more (taken.0 + 1) taken.1) ts) (sym put)
    (closing_put c.args.part (parts c.args.tokens.now.items) c.args.closing.now.items (sym c.is_sign.ensures ∙ c.if-is_sign.false) c.requires.closing))
