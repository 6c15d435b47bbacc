-- What the words of a command line ask for, by the parser's function of the words.
use Rattle.std.specs.Prelude.{◌≡◌, ◌≤◌, ⊤, ◌⊎◌, ℕ, ◌&&◌, ◌^◌, true, pos, nat_lt, if◌then◌else◌, List, [], ◌∷◌, codes, Option, Some, None, is_some, option_and_then, option_map}
use Rattle.std.specs.Str.Parse.{digits_value, without_leading_plus}
use Rattle.clap.specs.ValueTests.{is_numeral}
use Rattle.clap.specs.Words.{Row, Text, fault_of, first_of, matches_of, one_of}
use Rattle.clap.specs.Lexer.{without_minus}
use Rattle.clap.specs.Matches.{first_value, one_text}
use Rattle.clap.specs.Values.{IsSignedIn}
use Rattle.clap.specs.declared.parser.matches.Found.{Found}
use Rattle.clap.specs.declared.error.kind.ErrorKind.{ErrorKind}
use Rattle.clap.specs.declared.error.kind.ErrorKind.TheVariants.{DisplayHelp, DisplayVersion}
use Rattle.nm_words.specs.Command.{nescmote}
use Rattle.nm_words.specs.Modes.{IsSubject, mode_word, takes_schedule}
use Rattle.nm_words.specs.declared.mode.Mode.{Mode}
use Rattle.nm_words.specs.declared.mode.Mode.TheVariants.{Gen}
use Rattle.nm_words.specs.declared.asked.Request.{Request}
use Rattle.nm_words.specs.declared.asked.Asked.{Asked as AskedWords}
use Rattle.nm_words.specs.declared.asked.Asked.TheVariants as variant

-- a mode, what it runs (an application, the file of an image, or a number of modules), the file of a schedule, and a number of slots
pub record Requested : Type 0 where
  pub mode : Mode
  pub subject : Text
  pub schedule : Option Text
  pub budget : ℕ

pub data Asked : Type 0 where
  request : Requested → Asked
  help : Asked
  version : Asked

-- a number in decimal that 32 bits hold; a `+` may stand before it
abbrev pub number_of : Text → Option ℕ
number_of text =
    let digits = without_leading_plus text in
    if is_numeral digits && nat_lt (digits_value 10 digits) (2 ^ 32) then Some (digits_value 10 digits) else None

-- what the parser found asks for this: the mode is known and takes the subject, and there is a schedule exactly where it takes one
pub record IsRequest (rows : List Row) (r : Requested) : Type 0 where
  pub mode : first_of (codes "MODE") rows ≡ Some (mode_word r.mode)
  pub subject : first_of (codes "APP") rows ≡ Some r.subject
  pub is_subject : IsSubject r.mode r.subject
  pub schedule : first_of (codes "SCHEDULE") rows ≡ r.schedule
  pub fits : is_some r.schedule ≡ takes_schedule r.mode
  pub budget : option_and_then number_of (one_of (codes "budget") rows) ≡ Some r.budget

-- the parser takes the words, or answers them with the help or the version
abbrev pub AreWords : List Text → Asked → Type 0
AreWords words (request r) = (fault_of nescmote words ≡ []) × IsRequest (matches_of nescmote words) r
AreWords words help = fault_of nescmote words ≡ DisplayHelp ∷ []
AreWords words version = fault_of nescmote words ≡ DisplayVersion ∷ []

abbrev pub AreInUse : List Text → Type 0
AreInUse words = (asked : Asked) × AreWords words asked

-- the parser's range of a budget
abbrev pub IsInRange : Asked → Type 0
IsInRange (request r) = r.budget ≤ 1000000
IsInRange _ = ⊤

-- ---- words that are not in use

-- the parser refuses the words, for another cause than memory
abbrev pub IsFaulty : List Text → Type 0
IsFaulty words = (k : ErrorKind) × (fault_of nescmote words ≡ k ∷ []) × (k ≡ DisplayHelp → ⊥) × (k ≡ DisplayVersion → ⊥)

abbrev pub HasUnknownMode : List Row → Type 0
HasUnknownMode rows = (m : Mode) → first_of (codes "MODE") rows ≡ Some (mode_word m) → ⊥

-- a schedule is missing, or one too many
abbrev pub HasWrongSchedule : List Row → Type 0
HasWrongSchedule rows = (m : Mode) × (first_of (codes "MODE") rows ≡ Some (mode_word m)) × (is_some (first_of (codes "SCHEDULE") rows) ≡ takes_schedule m → ⊥)

-- modules are to be made, and the word is no number of them
abbrev pub HasWrongSubject : List Row → Type 0
HasWrongSubject rows = (word : Text) × (first_of (codes "MODE") rows ≡ Some (mode_word Gen)) × (first_of (codes "APP") rows ≡ Some word) × (IsSubject Gen word → ⊥)

-- the parser refuses the words, or takes them, and mode, subject and schedule do not fit
abbrev pub IsRefused : List Text → Type 0
IsRefused words = IsFaulty words
    ⊎ ((fault_of nescmote words ≡ []) × (HasUnknownMode (matches_of nescmote words) ⊎ (HasWrongSchedule (matches_of nescmote words) ⊎ HasWrongSubject (matches_of nescmote words))))

-- the parser found an application, and a budget in its range
abbrev pub HasValues : Found → Type 0
HasValues f = (is_some (first_value f (codes "APP")) ≡ true)
    × ((text : Text) × (one_text f (codes "budget") ≡ Some (without_minus text)) × IsSignedIn (pos 0) (pos 1000000) text)

-- ---- the code's values, as texts

abbrev pub requested : Request → Requested
requested r = record { mode = r.mode; subject = r.subject.now; schedule = option_map (λ s. s.now) r.schedule; budget = r.budget }

abbrev pub asked_of : AskedWords → Asked
asked_of (variant.Request r) = request (requested r)
asked_of variant.Help = help
asked_of variant.Version = version
