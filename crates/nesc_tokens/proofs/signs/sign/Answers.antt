use Rattle.std.proofs.Common.{sym, ◌∙◌}
use Rattle.nesc_tokens.proofs.SignFronts.{sign_of_one, no_sign, single_sign}
use Rattle.nesc_tokens.proofs.signs.sign.Goals as goal

pub returns-then-is_single_sign : goal.returns-then-is_single_sign
returns-then-is_single_sign c =
    let shorter = rw c.in_default.is at c.longer_sign.ensures in
    sign_of_one c.args.bytes.now shorter.0 shorter.1 (sym (single_sign c.args.bytes.now) ∙ sym c.is_single_sign.ensures ∙ c.if-is_single_sign.true)

pub returns : goal.returns
returns c =
    let shorter = rw c.in_default.is at c.longer_sign.ensures in
    no_sign c.args.bytes.now shorter.0 shorter.1 (sym (single_sign c.args.bytes.now) ∙ sym c.is_single_sign.ensures ∙ c.if-is_single_sign.false)
