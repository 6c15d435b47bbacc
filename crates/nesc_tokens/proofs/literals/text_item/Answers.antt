use Rattle.std.proofs.Common.{sym, ◌∙◌}
use Rattle.std.proofs.lemmas.List.{take_rest}
use Rattle.std.proofs.lemmas.Bool.{ne_eqb}
use Rattle.nesc_tokens.proofs.Texts.{item_plain, no_item_bad, tested_simple, tested_hexadecimal, tested_none}
use Rattle.nesc_tokens.proofs.literals.text_item.Goals as goal

pub returns-then-is_plain : goal.returns-then-is_plain
returns-then-is_plain c = item_plain c.args.bytes.now (sym c.is_empty.ensures ∙ c.if-is_empty.false) (sym c.is_plain.ensures ∙ c.if-is_plain.true)

pub returns-then-bytes-ne92 : goal.returns-then-bytes-ne92
returns-then-bytes-ne92 c = no_item_bad c.args.bytes.now (sym c.is_plain.ensures ∙ c.if-is_plain.false) (ne_eqb _ 92 c.if-bytes-ne92.true)

pub returns-then-is_escape_of : goal.returns-then-is_escape_of
returns-then-is_escape_of c = tested_simple c.args.bytes.now _ (take_rest c.args.bytes.now 1) c.if-bytes-ne92.false (sym c.is_escape_of.ensures ∙ c.if-is_escape_of.true)

pub returns-then-is_escape_of-2 : goal.returns-then-is_escape_of-2
returns-then-is_escape_of-2 c = tested_hexadecimal c.args.bytes.now _ (take_rest c.args.bytes.now 1) c.if-bytes-ne92.false (sym c.is_escape_of.ensures ∙ c.if-is_escape_of.false) (sym c.is_escape_of-2.ensures ∙ c.if-is_escape_of-2.true)

pub returns : goal.returns
returns c = tested_none c.args.bytes.now _ (take_rest c.args.bytes.now 1) c.if-bytes-ne92.false (sym c.is_escape_of.ensures ∙ c.if-is_escape_of.false) (sym c.is_escape_of-2.ensures ∙ c.if-is_escape_of-2.false)
