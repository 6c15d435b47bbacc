-- What is there, with the words of what is left, is all.
use Rattle.std.proofs.Common.{◌≡◌, ◌++◌, drop, map}
use Rattle.nesc_print_words.specs.Lexemes.{joined}
use Rattle.nesc_print_words.specs.Components.{sig_words}
use Rattle.nesc_print.proofs.interfaces.put_sigs.Given as goal

abbrev pub invariant-loop-sig : goal.invariant-loop-sig
invariant-loop-sig l = l.words ++ joined (map sig_words (drop l.sig-index l.sigs)) ≡ l.fn.words ++ joined (map sig_words l.sigs)
