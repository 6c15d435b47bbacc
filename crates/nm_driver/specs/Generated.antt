-- The application of so many modules that the tool makes: its files, and the line that tells of its run (own).
use Rattle.std.specs.Prelude.{◌≡◌, ◌≤◌, ℕ, List, Option, Some, codes, decimal}
use Rattle.nm_base.specs.Plain.{found_in}
use Rattle.nesc_preproc.specs.Expands.{Told}
use Rattle.mote_devices.specs.declared.state.BoardState.{BoardState}
use Rattle.mote_bus.specs.Mote.{mote}
use Rattle.mote_run.specs.Totals.{summary_text, totals_of}
use Rattle.generated_files.specs.declared.files.TheConstants.{MAX_MODULES}
use Rattle.generated_files.specs.Generated.{generated}
use Rattle.generated_files.specs.Schedule.{generated_rows}
use Rattle.nm_words.specs.declared.mode.Mode.{Mode}
use Rattle.nm_words.specs.declared.mode.Mode.TheVariants.{Check, Build, Run, Mote, Gen}

-- a word is this number of modules
pub record IsModules (word : List ℕ) (n : ℕ) : Type 0 where
  pub some : 1 ≤ n
  pub at_most : n ≤ MAX_MODULES
  pub spelled : word ≡ decimal n

-- the files of n modules
unfoldable pub told_of : ℕ → Told
told_of n = found_in (generated n)

-- their application
abbrev pub generated_app : List ℕ
generated_app = codes "GenAppC"

-- the files of what a mode reads, and the name of the application: those of the outside, or the generated ones
abbrev pub IsSourceOf : Option Told → Mode → List ℕ → Option Told → (app : List ℕ) → Type 0
IsSourceOf told Check name texts app = (texts ≡ told) × (app ≡ name)
IsSourceOf told Build name texts app = (texts ≡ told) × (app ≡ name)
IsSourceOf told Run name texts app = (texts ≡ told) × (app ≡ name)
IsSourceOf told Mote name texts app = ⊥
IsSourceOf told Gen name texts app = (n : ℕ) × IsModules name n × (texts ≡ Some (told_of n)) × (app ≡ generated_app)

-- the slots of its run
unfoldable pub generated_slots : ℕ
generated_slots = 1000000

-- the line of the run of an image of n modules, on a board
abbrev pub totals_line : ℕ → (ℕ → ℕ) → BoardState → List ℕ
totals_line n image board =
    let m = mote image board generated_rows generated_slots in summary_text n (totals_of m.shown) m.off
