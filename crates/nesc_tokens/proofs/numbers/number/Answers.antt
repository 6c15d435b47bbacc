use Rattle.std.proofs.Common.{sym, ◌∙◌}
use Rattle.std.proofs.lemmas.List.{take_rest}
use Rattle.nesc_tokens.proofs.IntegerConstants.{decimal_longest, octal_longest, hexadecimal_longest}
use Rattle.nesc_tokens.proofs.numbers.number.Goals as goal

pub returns-then-begins_hexadecimal : goal.returns-then-begins_hexadecimal
returns-then-begins_hexadecimal c = hexadecimal_longest c.args.bytes.now _ c.hexadecimal_digits.result (take_rest c.args.bytes.now 3) (sym c.begins_hexadecimal.ensures ∙ c.if-begins_hexadecimal.true) c.hexadecimal_digits.ensures

pub returns-then-bytes-eq48 : goal.returns-then-bytes-eq48
returns-then-bytes-eq48 c = octal_longest c.args.bytes.now _ c.octal_digits.result (take_rest c.args.bytes.now 1) c.requires.some c.if-bytes-eq48.true (sym c.begins_hexadecimal.ensures ∙ c.if-begins_hexadecimal.false) c.octal_digits.ensures

pub returns : goal.returns
returns c = decimal_longest c.args.bytes.now _ c.decimal_digits.result (take_rest c.args.bytes.now 1) c.requires.some c.requires.at c.if-bytes-eq48.false c.decimal_digits.ensures
