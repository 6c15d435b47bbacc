-- What is there, with the words of what is left, is all.
use Rattle.std.proofs.Common.{◌≡◌, ◌++◌, drop, map}
use Rattle.nesc_print_words.specs.Lexemes.{behind_commas}
use Rattle.nesc_print_words.specs.Components.{generic_arg_words}
use Rattle.nesc_print.proofs.configurations.put_more_generic_args.Given as goal

abbrev pub invariant-loop-arg : goal.invariant-loop-arg
invariant-loop-arg l = l.words ++ behind_commas (map generic_arg_words (drop l.arg-index l.args)) ≡ l.fn.words ++ behind_commas (map generic_arg_words l.args)
