use Rattle.std.proofs.Common.{◌≡◌, ℕ, List, ◌++◌, drop}
use Rattle.std.specs.declared.result.Result.TheVariants.{Ok}
use Rattle.nm_base.specs.Outside.{Writes}
use Rattle.mote_text.specs.ImageText.{words_from}
use Rattle.mote_text.proofs.image_text.write_words.Given as goal

-- what was taken so far, with the words to come, is the whole
abbrev pub invariant-loop-k : goal.invariant-loop-k
invariant-loop-k g l = (done : List ℕ) × Writes {A = Unit {0}} (Ok tt) (g.S.Sink.seen l.fn.out) (g.S.Sink.seen l.out) done × (words_from 0 l.words ≡ done ++ words_from l.k (drop l.k l.words))
