use Rattle.std.proofs.Common.{subst}
use Rattle.std.proofs.lemmas.List.{take_rest}
use Rattle.nesc_tokens.specs.Longest.{IsSuffix}
use Rattle.nesc_tokens.proofs.Digits.{digits_are}
use Rattle.nesc_tokens.proofs.numbers.hexadecimal_digits.Goals as goal

pub returns : goal.returns
returns c = digits_are _ c.args.bytes.now c.hexadecimal_run-run.result c.suffix.result c.hexadecimal_run-run.ensures.run (subst (IsSuffix c.suffix.result) (take_rest c.args.bytes.now c.hexadecimal_run-run.result) c.suffix.ensures)
