-- The functions so far stand among the words.
use Rattle.std.proofs.Common.{◌≡◌, ◌*◌, ◌<◌, ◌^◌, ℕ, length, get_or}
use Rattle.msp_layout.specs.Bytes.{entry_of}
use Rattle.msp_layout.specs.Words.{all_sizes, FnsStand}
use Rattle.msp_layout.proofs.image.words_of_all.Given as goal

abbrev pub invariant-loop-f : goal.invariant-loop-f
invariant-loop-f l = (2 * length l.words.items ≡ entry_of (all_sizes l.forms) l.f) × FnsStand (λ f. get_or l.entries f 0) l.code l.forms l.words.items l.f × ((i : ℕ) → get_or l.words.items i 0 < 2 ^ 16)
