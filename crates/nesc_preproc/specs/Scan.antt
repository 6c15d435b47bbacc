-- A scan of the code, and the state and items that it stands for (own).
use Rattle.std.specs.Prelude.{◌≡◌, ◌<◌, Bool, true, false, ℕ, ◌+◌, ◌-◌, ◌*◌, ◌^◌, List, [], ◌∷◌, ◌++◌, length, map, Result, Ok, Err}
use Rattle.nm_base.specs.declared.token.Token.{Token}
use Rattle.nm_base.specs.declared.fault.Fault.{Fault}
use Rattle.nm_base.specs.declared.fault.Fault.TheVariants as fault
use Rattle.nesc_macros.specs.Expansion.{Settles}
use Rattle.nesc_preproc.specs.declared.scan.Scan.{Scan}
use Rattle.nesc_preproc.specs.declared.scan.OpenFile.{OpenFile}
use Rattle.nesc_preproc.specs.declared.conditional.Conditional.{Conditional}
use Rattle.nesc_preproc.specs.Lines.{Item, Read}
use Rattle.nesc_preproc.specs.Sources.{Known, World}
use Rattle.nesc_preproc.specs.Kept.{known_of}
use Rattle.nesc_preproc.specs.Obeyed.{max_open}
use Rattle.nesc_preproc.specs.Scanned.{Scanned, State, put_file, scanned}

-- what is left of the files around the innermost, innermost first
abbrev pub outer_items : List OpenFile → List Item
outer_items [] = []
outer_items (f ∷ files) = put_file f.rest.items (outer_items files)

abbrev pub outer_conditionals : List OpenFile → List (List Conditional)
outer_conditionals = map (λ (f : OpenFile). f.conditionals.items)

abbrev pub items_in : Scan → List Item
items_in s = put_file s.rest.items (outer_items s.outer.items)

abbrev pub state_in : Scan → State
state_in s = record { known = known_of s.context.known; macros = s.context.macros; files = s.context.conditionals.items ∷ outer_conditionals s.outer.items }

abbrev pub known_in : Scan → Known
known_in s = known_of s.context.known

abbrev pub behind_value : List Token → Result (List Token) Fault → Result (List Token) Fault
behind_value front (Ok ts) = Ok (front ++ ts)
behind_value front (Err e) = Err e

-- what a scan gives behind tokens that were given before
abbrev pub behind : List Token → Scanned → Scanned
behind front r = record { value = behind_value front r.value; known = r.known }

abbrev pub ScansTo : World → State → List Item → Scanned → Type 0
ScansTo world st items r = Settles (λ steps. scanned steps world st items) r

-- a scan from here gives r in the end, with what was given before
pub record Ends (world : World) (st : State) (items : List Item) (out : List Token) (r : Scanned) : Type 0 where
  pub later : Scanned
  pub scans : ScansTo world st items later
  pub whole : r ≡ behind out later

abbrev pub EndsFrom : World → Scan → Scanned → Type 0
EndsFrom world s r = Ends world (state_in s) (items_in s) s.out.items r

-- the same, with a token before what is left of the innermost file
abbrev pub EndsAt : World → Token → Scan → Scanned → Type 0
EndsAt world t s r = Ends world (state_in s) (Read t ∷ items_in s) s.out.items r

-- whatever the new scan gives in the end, the old one does
abbrev pub Goes : World → Scan → Scan → Type 0
Goes world old new = (r : Scanned) → EndsFrom world new r → EndsFrom world old r

abbrev pub GoesBehind : World → Token → Scan → Scan → Type 0
GoesBehind world t old new = (r : Scanned) → EndsFrom world new r → EndsAt world t old r

abbrev pub refused : Fault → Known → Scanned
refused e known = record { value = Err e; known = known }

abbrev pub ended : Scan → Scanned
ended s = record { value = Ok s.out.items; known = known_in s }

-- what a call with a token in its hand leads to; want of memory is free
abbrev pub LeadsBehind : Result (Unit {0}) Fault → World → Token → Scan → Scan → Type 0
LeadsBehind (Ok _) world t old new = GoesBehind world t old new
LeadsBehind (Err fault.NoMemory) world t old new = Unit {0}
LeadsBehind (Err e) world t old new = EndsAt world t old (refused e (known_in new))

-- what a step leads to, which answers whether a file is left
abbrev pub Leads : Result Bool Fault → World → Scan → Scan → Type 0
Leads (Ok true) world old new = Goes world old new
Leads (Ok false) world old new = EndsFrom world old (ended new)
Leads (Err fault.NoMemory) world old new = Unit {0}
Leads (Err e) world old new = EndsFrom world old (refused e (known_in new))

-- what all steps lead to
abbrev pub RunsTo : Result (Unit {0}) Fault → World → Scan → Scan → Type 0
RunsTo (Ok _) world old new = EndsFrom world old (ended new)
RunsTo (Err fault.NoMemory) world old new = Unit {0}
RunsTo (Err e) world old new = EndsFrom world old (refused e (known_in new))

-- ---- a measure that each step lowers: a file weighs more than all that could be included in its place

-- of a file around which so many are open
abbrev pub size_at : ℕ → ℕ → ℕ
size_at depth tokens = (tokens + 1) * 2 ^ (64 * (max_open - depth))

abbrev pub outer_size : List OpenFile → ℕ
outer_size [] = 0
outer_size (f ∷ files) = size_at (length files) (length f.rest.items) + outer_size files

abbrev pub size_with : Scan → ℕ → ℕ
size_with s tokens = size_at (length s.outer.items) tokens + outer_size s.outer.items

abbrev pub size_of : Scan → ℕ
size_of s = size_with s (length s.rest.items)

-- whether the scan goes on, smaller
abbrev pub Smaller : Result Bool Fault → Scan → ℕ → Type 0
Smaller (Ok true) new n = size_of new < n
Smaller _ new n = Unit {0}
