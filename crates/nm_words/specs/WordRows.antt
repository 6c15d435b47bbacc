-- Worked rows of the command line.
use Rattle.std.specs.Prelude.{◌≡◌, ℕ, List, [], ◌∷◌, codes, Some, None}
use Rattle.clap.specs.Words.{Kinds, Text, fault_of}
use Rattle.clap.specs.declared.error.kind.ErrorKind.TheVariants.{ArgumentConflict, InvalidValue, MissingRequiredArgument, UnknownArgument, ValueValidation}
use Rattle.nm_words.specs.Asked.{Asked, AreInUse, AreWords, help, request, version}
use Rattle.nm_words.specs.Command.{nescmote}
use Rattle.nm_words.specs.declared.mode.Mode.{Mode}
use Rattle.nm_words.specs.declared.mode.Mode.TheVariants.{Check, Build, Run, Mote, Gen}

abbrev run : Text
run = codes "run"

abbrev app : Text
app = codes "OneC"

abbrev file : Text
file = codes "none.txt"

abbrev option : Text
option = codes "--budget"

abbrev asks : Mode → ℕ → Asked
asks mode budget = request (record { mode = mode; subject = app; schedule = Some file; budget = budget })

abbrev asks_without : Mode → Asked
asks_without mode = request (record { mode = mode; subject = app; schedule = None; budget = 10000 })

abbrev gen : Text
gen = codes "gen"

abbrev asks_modules : Text → Asked
asks_modules number = request (record { mode = Gen; subject = number; schedule = None; budget = 10000 })

pub record InUse : Type 0 where
  pub check : AreWords (codes "check" ∷ app ∷ []) (asks_without Check)
  pub build : AreWords (codes "build" ∷ app ∷ []) (asks_without Build)
  pub no_budget : AreWords (run ∷ app ∷ file ∷ []) (asks Run 10000)
  pub mote : AreWords (codes "mote" ∷ app ∷ file ∷ []) (asks Mote 10000)
  pub modules : AreWords (gen ∷ codes "20" ∷ []) (asks_modules (codes "20"))
  pub most_modules : AreWords (gen ∷ codes "60" ∷ []) (asks_modules (codes "60"))
  pub behind : AreWords (run ∷ app ∷ file ∷ option ∷ codes "5" ∷ []) (asks Run 5)
  pub in_one_word : AreWords (run ∷ app ∷ file ∷ codes "--budget=5" ∷ []) (asks Run 5)
  pub in_front : AreWords (option ∷ codes "5" ∷ run ∷ app ∷ file ∷ []) (asks Run 5)
  pub between : AreWords (run ∷ option ∷ codes "5" ∷ app ∷ file ∷ []) (asks Run 5)
  pub no_slots : AreWords (run ∷ app ∷ file ∷ option ∷ codes "0" ∷ []) (asks Run 0)
  pub most_slots : AreWords (run ∷ app ∷ file ∷ option ∷ codes "1000000" ∷ []) (asks Run 1000000)
  -- the parser's numbers may have zeros or a `+` in front
  pub leading_zero : AreWords (run ∷ app ∷ file ∷ option ∷ codes "01" ∷ []) (asks Run 1)
  pub plus : AreWords (run ∷ app ∷ file ∷ option ∷ codes "+5" ∷ []) (asks Run 5)
  -- behind `--` no word is an option
  pub no_more_options : AreWords (run ∷ app ∷ codes "--" ∷ file ∷ []) (asks Run 10000)
  pub long_help : AreWords (codes "--help" ∷ []) help
  pub short_help : AreWords (codes "-h" ∷ []) help
  pub help_behind : AreWords (run ∷ codes "--help" ∷ []) help
  pub long_version : AreWords (codes "--version" ∷ []) version
  pub short_version : AreWords (codes "-V" ∷ []) version

abbrev FailsBy : List Text → Kinds → Type 0
FailsBy words kinds = fault_of nescmote words ≡ kinds

pub record NotInUse : Type 0 where
  pub no_words : FailsBy [] (MissingRequiredArgument ∷ [])
  pub one_word : FailsBy (run ∷ []) (MissingRequiredArgument ∷ [])
  pub four_words : FailsBy (run ∷ app ∷ file ∷ file ∷ []) (UnknownArgument ∷ [])
  pub unknown_option : FailsBy (run ∷ codes "-x" ∷ file ∷ []) (UnknownArgument ∷ [])
  pub cut_option : FailsBy (run ∷ app ∷ file ∷ codes "--budge" ∷ codes "5" ∷ []) (UnknownArgument ∷ [])
  pub help_too_late : FailsBy (run ∷ app ∷ file ∷ file ∷ codes "--help" ∷ []) (UnknownArgument ∷ [])
  pub one_too_many : FailsBy (run ∷ app ∷ file ∷ option ∷ codes "1000001" ∷ []) (ValueValidation ∷ [])
  pub letter : FailsBy (run ∷ app ∷ file ∷ option ∷ codes "x" ∷ []) (ValueValidation ∷ [])
  pub below_zero : FailsBy (run ∷ app ∷ file ∷ codes "--budget=-1" ∷ []) (ValueValidation ∷ [])
  pub empty_number : FailsBy (run ∷ app ∷ file ∷ codes "--budget=" ∷ []) (ValueValidation ∷ [])
  pub no_number : FailsBy (run ∷ app ∷ file ∷ option ∷ []) (InvalidValue ∷ [])
  pub two_budgets : FailsBy (run ∷ app ∷ file ∷ option ∷ codes "5" ∷ option ∷ codes "5" ∷ []) (ArgumentConflict ∷ [])
  -- the parser takes these words, and the modes do not
  pub unknown_mode : AreInUse (codes "fly" ∷ app ∷ file ∷ []) → ⊥
  pub no_schedule : AreInUse (run ∷ app ∷ []) → ⊥
  pub check_by_schedule : AreInUse (codes "check" ∷ app ∷ file ∷ []) → ⊥
  pub no_modules : AreInUse (gen ∷ codes "0" ∷ []) → ⊥
  pub one_module_too_many : AreInUse (gen ∷ codes "61" ∷ []) → ⊥
  -- a number of modules has no zero and no `+` in front
  pub modules_behind_zero : AreInUse (gen ∷ codes "05" ∷ []) → ⊥
  pub modules_behind_plus : AreInUse (gen ∷ codes "+5" ∷ []) → ⊥
  pub modules_by_letter : AreInUse (gen ∷ codes "x" ∷ []) → ⊥
  pub modules_by_schedule : AreInUse (gen ∷ codes "20" ∷ file ∷ []) → ⊥
