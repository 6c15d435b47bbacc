use Rattle.std.proofs.Common.{List}
use Rattle.printed_words.specs.LaidOut.{Laid, Lexeme}
use Rattle.printed_words.proofs.laid.push_line.Given as goal

abbrev pub invariant-loop : goal.invariant-loop
invariant-loop l = (words : List Lexeme) → Laid l.fn.text.items words → Laid l.text.items words
