use Rattle.std.proofs.Common.{take}
use Rattle.printed_words.specs.LaidOut.{Laid}
use Rattle.printed_words.proofs.laid.lay_out.Given as goal

abbrev pub invariant-loop-word : goal.invariant-loop-word
invariant-loop-word l = Laid l.text.items (take l.word-index l.words)
