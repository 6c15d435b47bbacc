-- The modes: the word of each, whether it runs by a schedule, and what its subject is.
use Rattle.std.specs.Prelude.{◌≡◌, ◌≤◌, ⊤, ℕ, Bool, true, false, List, codes, decimal}
use Rattle.generated_files.specs.declared.files.TheConstants.{MAX_MODULES}
use Rattle.nm_words.specs.declared.mode.Mode.{Mode}
use Rattle.nm_words.specs.declared.mode.Mode.TheVariants.{Check, Build, Run, Mote, Gen}

abbrev pub mode_word : Mode → List ℕ
mode_word Check = codes "check"
mode_word Build = codes "build"
mode_word Run = codes "run"
mode_word Mote = codes "mote"
mode_word Gen = codes "gen"

abbrev pub takes_schedule : Mode → Bool
takes_schedule Check = false
takes_schedule Build = false
takes_schedule Run = true
takes_schedule Mote = true
takes_schedule Gen = false

-- a number of modules, where they are made; else any word
abbrev pub IsSubject : Mode → List ℕ → Type 0
IsSubject Check word = ⊤
IsSubject Build word = ⊤
IsSubject Run word = ⊤
IsSubject Mote word = ⊤
IsSubject Gen word = (n : ℕ) × (1 ≤ n) × (n ≤ MAX_MODULES) × (word ≡ decimal n)
