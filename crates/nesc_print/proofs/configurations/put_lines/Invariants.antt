-- What is there, with the words of what is left, is all.
use Rattle.std.proofs.Common.{◌≡◌, ◌++◌, drop, map}
use Rattle.nesc_print_words.specs.Lexemes.{joined}
use Rattle.nesc_print_words.specs.Components.{line_words}
use Rattle.nesc_print.proofs.configurations.put_lines.Given as goal

abbrev pub invariant-loop-line : goal.invariant-loop-line
invariant-loop-line l = l.words ++ joined (map line_words (drop l.line-index l.lines)) ≡ l.fn.words ++ joined (map line_words l.lines)
