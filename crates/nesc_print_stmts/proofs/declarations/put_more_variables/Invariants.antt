-- What is there, with the words of what is left, is all.
use Rattle.std.proofs.Common.{◌≡◌, ◌++◌, drop, map}
use Rattle.nesc_print_words.specs.Lexemes.{behind_commas}
use Rattle.nesc_print_words.specs.Declarations.{variable_words}
use Rattle.nesc_print_stmts.proofs.declarations.put_more_variables.Given as goal

abbrev pub invariant-loop-variable : goal.invariant-loop-variable
invariant-loop-variable l = l.words ++ behind_commas (map variable_words (drop l.variable-index l.variables)) ≡ l.fn.words ++ behind_commas (map variable_words l.variables)
