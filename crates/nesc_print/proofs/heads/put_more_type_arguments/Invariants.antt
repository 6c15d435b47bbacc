-- What is there, with the words of what is left, is all.
use Rattle.std.proofs.Common.{◌≡◌, ◌++◌, drop, map}
use Rattle.nesc_print_words.specs.Lexemes.{behind_commas}
use Rattle.nesc_print_words.specs.Components.{type_argument_words}
use Rattle.nesc_print.proofs.heads.put_more_type_arguments.Given as goal

abbrev pub invariant-loop-ty : goal.invariant-loop-ty
invariant-loop-ty l = l.words ++ behind_commas (map type_argument_words (drop l.ty-index l.args)) ≡ l.fn.words ++ behind_commas (map type_argument_words l.args)
