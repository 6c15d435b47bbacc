-- What is there, with the words of what is left, is all.
use Rattle.std.proofs.Common.{◌≡◌, ◌++◌, drop, map}
use Rattle.nesc_print_words.specs.Lexemes.{behind_commas}
use Rattle.nesc_print_words.specs.Components.{type_parameter_words}
use Rattle.nesc_print.proofs.interfaces.put_more_type_parameters.Given as goal

abbrev pub invariant-loop-name : goal.invariant-loop-name
invariant-loop-name l = l.words ++ behind_commas (map type_parameter_words (drop l.name-index l.names)) ≡ l.fn.words ++ behind_commas (map type_parameter_words l.names)
