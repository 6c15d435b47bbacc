-- What is there, with the words of what is left, is all.
use Rattle.std.proofs.Common.{◌≡◌, ◌++◌, drop, map}
use Rattle.nesc_print_words.specs.Lexemes.{behind_commas}
use Rattle.nesc_print_words.specs.Components.{generic_param_words}
use Rattle.nesc_print.proofs.heads.put_more_generic_params.Given as goal

abbrev pub invariant-loop-param : goal.invariant-loop-param
invariant-loop-param l = l.words ++ behind_commas (map generic_param_words (drop l.param-index l.params)) ≡ l.fn.words ++ behind_commas (map generic_param_words l.params)
