-- The addresses so far.
use Rattle.std.proofs.Common.{◌≡◌, ◌+◌, ◌<◌, ℕ, length, get_or}
use Rattle.msp_layout.specs.Bytes.{entry_of}
use Rattle.msp_layout.specs.Words.{all_sizes}
use Rattle.msp_layout.proofs.image.entries_of.Given as goal

abbrev pub invariant-loop-form : goal.invariant-loop-form
invariant-loop-form l =
    (length l.entries.items ≡ l.form-index) × (l.at ≡ 0x4000 + entry_of (all_sizes l.forms) l.form-index) × ((f : ℕ) → f < l.form-index → get_or l.entries.items f 0 ≡ 0x4000 + entry_of (all_sizes l.forms) f)
