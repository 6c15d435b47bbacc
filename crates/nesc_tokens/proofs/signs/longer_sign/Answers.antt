use Rattle.std.proofs.Common.{sym, ◌∙◌}
use Rattle.nesc_tokens.proofs.SignFronts.{no_longer, sign_of_three, sign_of_two}
use Rattle.nesc_tokens.proofs.signs.longer_sign.Goals as goal

pub returns-then-not-may_go_on : goal.returns-then-not-may_go_on
returns-then-not-may_go_on c =
    let none = sym c.may_go_on.ensures ∙ c.if-not-may_go_on.true in
    (no_longer 1 c.args.bytes.now none, no_longer 0 c.args.bytes.now none)

pub returns-then-is_sign_of : goal.returns-then-is_sign_of
returns-then-is_sign_of c = sign_of_three _ (sym c.is_sign_of.ensures ∙ c.if-is_sign_of.true)

pub returns-then-is_sign_of-2 : goal.returns-then-is_sign_of-2
returns-then-is_sign_of-2 c = sign_of_two _ (sym c.is_sign_of.ensures ∙ c.if-is_sign_of.false) (sym c.is_sign_of-2.ensures ∙ c.if-is_sign_of-2.true)
