-- What is there, with the words of what is left, is all.
use Rattle.std.proofs.Common.{◌≡◌, ◌++◌, drop, map}
use Rattle.nesc_print_words.specs.Lexemes.{joined}
use Rattle.nesc_print_words.specs.Components.{elem_words}
use Rattle.nesc_print.proofs.heads.put_elems.Given as goal

abbrev pub invariant-loop-elem : goal.invariant-loop-elem
invariant-loop-elem l = l.words ++ joined (map elem_words (drop l.elem-index l.elems)) ≡ l.fn.words ++ joined (map elem_words l.elems)
