-- What is there, with the words of what is left, is all.
use Rattle.std.proofs.Common.{◌≡◌, ◌++◌, drop}
use Rattle.nesc_print_words.specs.Declarations.{attrs_words}
use Rattle.nesc_print_stmts.proofs.declarations.put_attrs.Given as goal

abbrev pub invariant-loop-attr : goal.invariant-loop-attr
invariant-loop-attr l = l.words ++ attrs_words (drop l.attr-index l.attr-items) ≡ l.fn.words ++ attrs_words l.attrs
