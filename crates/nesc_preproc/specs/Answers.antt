-- Answers of the code, and the outcomes that they stand for (own).
use Rattle.std.specs.Prelude.{◌≡◌, ℕ, ◌≤◌, Bool, List, length, Option, Some, None, Result, OnOk, Ok, Err, Vec}
use Rattle.std.specs.declared.alloc.Global.{Global}
use Rattle.nm_base.specs.declared.limit.TheConstants.{MAX_TOKENS}
use Rattle.nm_base.specs.declared.token.Token.{Token}
use Rattle.nm_base.specs.Outside.{FilesSeen, IsReadBy}
use Rattle.nesc_preproc.specs.Expands.{IfMissing}
use Rattle.nm_base.specs.declared.fault.Fault.{Fault}
use Rattle.nm_base.specs.declared.fault.Fault.TheVariants as fault
use Rattle.nesc_macros.specs.Expansion.{Answer, Settles}
use Rattle.nesc_preproc.specs.declared.context.Context.{Context}
use Rattle.nesc_preproc.specs.Kept.{known_of}
use Rattle.nesc_preproc.specs.Obeyed.{Situation, Outcome, goes_on, stops}

abbrev pub situation_of : Context → Situation
situation_of c = record { known = known_of c.known; macros = c.macros; conditionals = c.conditionals.items }

-- the answer to whether a condition holds, with the count of tokens by then
abbrev pub Asks : Result Bool Fault → ℕ → (ℕ → Option (Answer Bool)) → Type 0
Asks (Ok v) count f = Settles f (record { value = Ok v; count = count })
Asks (Err fault.NoMemory) count f = Unit {0}
Asks (Err e) count f = Settles f (record { value = Err e; count = count })

abbrev pub Obeys : Result (Unit {0}) Fault → Context → Outcome → Type 0
Obeys (Ok _) now o = o ≡ goes_on (situation_of now)
Obeys (Err fault.NoMemory) now o = Unit {0}
Obeys (Err e) now o = o ≡ stops e (situation_of now)

abbrev pub ObeysIn : Result (Unit {0}) Fault → Context → (ℕ → Option Outcome) → Type 0
ObeysIn (Ok _) now f = Settles f (goes_on (situation_of now))
ObeysIn (Err fault.NoMemory) now f = Unit {0}
ObeysIn (Err e) now f = Settles f (stops e (situation_of now))

-- the tokens of a header to be put before the scan, where there is one
abbrev pub header_of : Option (Vec Token Global) → Option (List Token)
header_of None = None
header_of (Some v) = Some v.items

abbrev pub Includes : Result (Vec Token Global) Fault → Context → Outcome → Type 0
Includes (Ok v) now o = o ≡ record { value = Ok (Some v.items); now = situation_of now }
Includes (Err fault.NoMemory) now o = Unit {0}
Includes (Err e) now o = o ≡ stops e (situation_of now)

abbrev pub Gives : Result (Option (Vec Token Global)) Fault → Context → Outcome → Type 0
Gives (Ok header) now o = o ≡ record { value = Ok (header_of header); now = situation_of now }
Gives (Err fault.NoMemory) now o = Unit {0}
Gives (Err e) now o = o ≡ stops e (situation_of now)

abbrev pub GivesIn : Result (Option (Vec Token Global)) Fault → Context → (ℕ → Option Outcome) → Type 0
GivesIn (Ok header) now f = Settles f (record { value = Ok (header_of header); now = situation_of now })
GivesIn (Err fault.NoMemory) now f = Unit {0}
GivesIn (Err e) now f = Settles f (stops e (situation_of now))

-- what the outside tells and counted meanwhile
abbrev pub Counts : {A : Type 0} → Result A Fault → FilesSeen → FilesSeen → Type 0
Counts r old new = IsReadBy (λ P. r ≡ Err fault.ReadFault → P) (IfMissing r) old new

-- no file is opened, and the count stays within its limit
pub record KeepsFiles (r : Result (Unit {0}) Fault) (old new : Context) : Type 0 where
  pub numbers : OnOk r (length new.known.files.texts ≡ length old.known.files.texts)
  pub within : OnOk r (new.known.tokens ≤ MAX_TOKENS)
