use Rattle.std.proofs.Common.{sym, ◌∙◌}
use Rattle.nesc_tokens.proofs.Digits.{tail_two, tail_one, tail_none}
use Rattle.nesc_tokens.proofs.numbers.suffix.Goals as goal

pub returns-then-is_suffix_of : goal.returns-then-is_suffix_of
returns-then-is_suffix_of c = tail_two c.args.bytes.now (sym c.is_suffix_of.ensures ∙ c.if-is_suffix_of.true)

pub returns-then-is_suffix_of-2 : goal.returns-then-is_suffix_of-2
returns-then-is_suffix_of-2 c = tail_one c.args.bytes.now (sym c.is_suffix_of.ensures ∙ c.if-is_suffix_of.false) (sym c.is_suffix_of-2.ensures ∙ c.if-is_suffix_of-2.true)

pub returns : goal.returns
returns c = tail_none c.args.bytes.now (sym c.is_suffix_of.ensures ∙ c.if-is_suffix_of.false) (sym c.is_suffix_of-2.ensures ∙ c.if-is_suffix_of-2.false)
