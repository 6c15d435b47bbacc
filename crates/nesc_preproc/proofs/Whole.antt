-- What a whole expansion gives.
use Rattle.std.specs.declared.alloc.Global.{Global}
use Rattle.std.specs.Prelude.{Vec, ◌≡◌, ℕ, ◌≤◌, Bool, List, [], ◌∷◌, length, Option, Some, None, Result, Ok, Err, ◌⊎◌}
use Rattle.std.proofs.Common.{refl, ap, sym, inl, inr}
use Rattle.nm_base.specs.declared.token.Token.{Token}
use Rattle.nm_base.specs.declared.refusal.Refusal.{Refusal}
use Rattle.nm_base.specs.declared.fault.Fault.{Fault}
use Rattle.nm_base.specs.declared.fault.Fault.TheVariants as fault
use Rattle.nesc_tokens.specs.Lexes.{Lexes, IsRefused}
use Rattle.nesc_macros.specs.Invocation.{Name}
use Rattle.nesc_macros.specs.Expansion.{Settles}
use Rattle.nesc_preproc.specs.declared.known.KnownFiles.{KnownFiles}
use Rattle.nesc_preproc.specs.declared.scan.Scan.{Scan}
use Rattle.nesc_preproc.specs.Sources.{Known, World, Opened, IsLexing, LexedAs, opened}
use Rattle.nesc_preproc.specs.Scanned.{Scanned, State, file_expanded, put_file, scanned, scanned_from}
use Rattle.nesc_preproc.specs.Expands.{is_memory, Told, Expands, ExpandsAs, FailsOnly, KeepsAs}
use Rattle.nesc_preproc.specs.Kept.{Allows, BreaksFrom, OpenedAs, kept, known_of}
use Rattle.nesc_preproc.specs.Scan.{Ends, EndsFrom, RunsTo, behind, behind_value, state_in, items_in}
use Rattle.nesc_preproc.proofs.Settling.{at_once, same_settles}
use Rattle.nesc_preproc.proofs.Stepping.{breaks_from}

-- ---- the lexing that there is

abbrev pub Lexable : Type 0
Lexable = (file : ℕ) (text : List ℕ) → ((tokens : List Token) × Lexes file text tokens) ⊎ ((r : Refusal) × IsRefused file text r)

abbrev chosen : (file : ℕ) (text : List ℕ) → ((tokens : List Token) × Lexes file text tokens) ⊎ ((r : Refusal) × IsRefused file text r) → Result (List Token) Refusal
chosen file text (inl found) = Ok found.0
chosen file text (inr found) = Err found.0

chosen_is : (file : ℕ) (text : List ℕ) (found : ((tokens : List Token) × Lexes file text tokens) ⊎ ((r : Refusal) × IsRefused file text r)) → LexedAs file text (chosen file text found)
chosen_is file text (inl found) = found.1
chosen_is file text (inr found) = found.1

pub lexing : Lexable → ℕ → List ℕ → Result (List Token) Refusal
lexing some file text = chosen file text (some file text)

pub is_lexing : (some : Lexable) → IsLexing (lexing some)
unfolding lexing
is_lexing some file text = chosen_is file text (some file text)

abbrev pub world_of : Told → Option ℕ → (ℕ → List ℕ → Result (List Token) Refusal) → World
world_of told broken lexed = record { text_of = told; broken = broken; lexed = lexed }

-- ---- settling

value_behind_nothing : (v : Result (List Token) Fault) → behind_value [] v ≡ v
value_behind_nothing (Ok ts) = refl
value_behind_nothing (Err e) = refl

behind_nothing : (r : Scanned) → behind [] r ≡ r
behind_nothing r = ap (λ v. record { value = v; known = r.known }) (value_behind_nothing r.value)

abbrev pub start_of : Known → State
start_of known = record { known = known; macros = []; files = [] ∷ [] }

pub scan_settles : (world : World) (old : Known) (name : Name) (known : Known) (ts : List Token) (r : Scanned) → opened world old name ≡ record { value = Ok ts; known = known }
    → Ends world (start_of known) (put_file ts []) [] r → Settles (λ n. file_expanded n world old name) r
scan_settles world old name known ts r is-opened ends =
    rw (ends.whole, behind_nothing ends.later) (same_settles (λ n. scanned n world (start_of known) (put_file ts [])) _ ends.later (λ n. ap (λ (o : Opened). scanned_from n world o.known o.value) is-opened) ends.scans)

pub open_settles : (world : World) (old : Known) (name : Name) (known : Known) (e : Fault) → opened world old name ≡ record { value = Err e; known = known } → Settles (λ n. file_expanded n world old name) (record { value = Err e; known = known })
open_settles world old name known e is-opened = same_settles (λ _. Some (record { value = Err e; known = known })) _ _ (λ n. ap (λ (o : Opened). scanned_from n world o.known o.value) is-opened) (at_once _)

-- ---- answers

whole_as : (told : Told) (some : Lexable) (broken : Option ℕ) (old : Known) (name : Name) (value : Result (List Token) Fault) (new : Known)
    → FailsOnly value broken → Settles (λ n. file_expanded n (world_of told broken (lexing some)) old name) (record { value = value; known = new })
    → ExpandsAs told old name value (Some new)
whole_as told some broken old name value new only settles = record {
  lexed = lexing some;
  is_lexing = is_lexing some;
  broken = broken;
  fails_only = only;
  known = new;
  is_kept = refl;
  settles = settles;
}

-- what an answer that is a fault says of the reads
abbrev pub Settled : Told → Lexable → Known → Name → Fault → KnownFiles → Type 0
Settled told some old name e new = (broken : Option ℕ) → Allows {A = List Token} (Err e) broken (length new.files.texts)
    → Settles (λ n. file_expanded n (world_of told broken (lexing some)) old name) (record { value = Err e; known = known_of new })

abbrev pub UnlessMemory : Fault → Type 0 → Type 0
UnlessMemory fault.NoMemory P = Unit {0}
UnlessMemory e P = P

pub fault_keeps : (told : Told) (some : Lexable) (old : Known) (name : Name) (e : Fault) (new : KnownFiles)
    → UnlessMemory e (Settled told some old name e new) → KeepsAs told old name (Err e) (known_of new)
fault_keeps told some old name (fault.Refused r) new s = whole_as told some None old name (Err (fault.Refused r)) (known_of new) refl (s None refl)
fault_keeps told some old name (fault.Missing n) new s = whole_as told some None old name (Err (fault.Missing n)) (known_of new) refl (s None refl)
fault_keeps told some old name fault.ReadFault new s = whole_as told some (Some (length new.files.texts)) old name (Err fault.ReadFault) (known_of new) tt (s (Some (length new.files.texts)) refl)
fault_keeps told some old name (fault.Limit l) new s = whole_as told some None old name (Err (fault.Limit l)) (known_of new) refl (s None refl)
fault_keeps told some old name (fault.TooLarge r n) new s = whole_as told some None old name (Err (fault.TooLarge r n)) (known_of new) refl (s None refl)
fault_keeps told some old name fault.NoMemory new s = tt

pub tokens_keep : (told : Told) (some : Lexable) (old : Known) (name : Name) (ts : List Token) (new : KnownFiles)
    → Settles (λ n. file_expanded n (world_of told None (lexing some)) old name) (record { value = Ok ts; known = known_of new })
    → KeepsAs told old name (Ok ts) (known_of new)
tokens_keep told some old name ts new settles = whole_as told some None old name (Ok ts) (known_of new) refl settles

-- opening the file is refused
pub open_refused : (told : Told) (some : Lexable) (old : Known) (name : Name) (e : Fault) (new : KnownFiles)
    → ((broken : Option ℕ) → Allows {A = Vec Token Global} (Err e) broken (length new.files.texts) → OpenedAs (Err e) new (opened (world_of told broken (lexing some)) old name))
    → UnlessMemory e (Settled told some old name e new)
open_refused told some old name (fault.Refused r) new h = λ broken allows. open_settles (world_of told broken (lexing some)) old name (known_of new) _ (h broken allows)
open_refused told some old name (fault.Missing n) new h = λ broken allows. open_settles (world_of told broken (lexing some)) old name (known_of new) _ (h broken allows)
open_refused told some old name fault.ReadFault new h = λ broken allows. open_settles (world_of told broken (lexing some)) old name (known_of new) _ (h broken allows)
open_refused told some old name (fault.Limit l) new h = λ broken allows. open_settles (world_of told broken (lexing some)) old name (known_of new) _ (h broken allows)
open_refused told some old name (fault.TooLarge r n) new h = λ broken allows. open_settles (world_of told broken (lexing some)) old name (known_of new) _ (h broken allows)
open_refused told some old name fault.NoMemory new h = tt

-- ---- a scan from the beginning of a file

pub from_start : (world : World) (s : Scan) (known : KnownFiles) (ts : List Token) (r : Scanned) → s.context.known ≡ known → s.context.macros ≡ [] → s.context.conditionals.items ≡ [] → s.rest.items ≡ ts → s.outer.items ≡ [] → s.out.items ≡ []
    → EndsFrom world s r → Ends world (start_of (known_of known)) (put_file ts []) [] r
from_start world s known ts r is-known macros conditionals rest outer out ends =
    let state : start_of (known_of known) ≡ state_in s = rw (is-known, macros, conditionals, outer) in
    let items : put_file ts [] ≡ items_in s = rw (rest, outer) in
    rw (state, items, sym out) ends

-- the scan is refused
pub run_refused : (told : Told) (some : Lexable) (old : Known) (name : Name) (e : Fault) (known : KnownFiles) (v : Vec Token Global) (start new : Scan)
    → ((broken : Option ℕ) → BreaksFrom broken (length known.files.texts) → opened (world_of told broken (lexing some)) old name ≡ record { value = Ok v.items; known = known_of known })
    → ((world : World) (r : Scanned) → EndsFrom world start r → Ends world (start_of (known_of known)) (put_file v.items []) [] r)
    → (e ≡ fault.ReadFault → length known.files.texts ≤ length new.context.known.files.texts)
    → ((broken : Option ℕ) → Allows {A = Unit {0}} (Err e) broken (length new.context.known.files.texts) → RunsTo (Err e) (world_of told broken (lexing some)) start new)
    → UnlessMemory e (Settled told some old name e new.context.known)
run_refused told some old name (fault.Refused r) known v start new opens starts fewer leads = λ broken allows.
    scan_settles (world_of told broken (lexing some)) old name (known_of known) v.items _ (opens broken (breaks_from (Unit {0}) (fault.Refused r) broken _ _ fewer allows)) (starts (world_of told broken (lexing some)) _ (leads broken allows))
run_refused told some old name (fault.Missing n) known v start new opens starts fewer leads = λ broken allows.
    scan_settles (world_of told broken (lexing some)) old name (known_of known) v.items _ (opens broken (breaks_from (Unit {0}) (fault.Missing n) broken _ _ fewer allows)) (starts (world_of told broken (lexing some)) _ (leads broken allows))
run_refused told some old name fault.ReadFault known v start new opens starts fewer leads = λ broken allows.
    scan_settles (world_of told broken (lexing some)) old name (known_of known) v.items _ (opens broken (breaks_from (Unit {0}) fault.ReadFault broken _ _ fewer allows)) (starts (world_of told broken (lexing some)) _ (leads broken allows))
run_refused told some old name (fault.Limit l) known v start new opens starts fewer leads = λ broken allows.
    scan_settles (world_of told broken (lexing some)) old name (known_of known) v.items _ (opens broken (breaks_from (Unit {0}) (fault.Limit l) broken _ _ fewer allows)) (starts (world_of told broken (lexing some)) _ (leads broken allows))
run_refused told some old name (fault.TooLarge r n) known v start new opens starts fewer leads = λ broken allows.
    scan_settles (world_of told broken (lexing some)) old name (known_of known) v.items _ (opens broken (breaks_from (Unit {0}) (fault.TooLarge r n) broken _ _ fewer allows)) (starts (world_of told broken (lexing some)) _ (leads broken allows))
run_refused told some old name fault.NoMemory known v start new opens starts fewer leads = tt

-- ---- what the reading keeps

pub expands_as : (told : Told) (old : Known) (name : Name) (value : Result (List Token) Fault) (files : KnownFiles) (spent : Bool)
    → spent ≡ is_memory value → KeepsAs told old name value (known_of files) → Expands told (Some old) name value (kept spent files)
expands_as told old name (Ok ts) files spent is h = rw is h
expands_as told old name (Err (fault.Refused r)) files spent is h = rw is h
expands_as told old name (Err (fault.Missing n)) files spent is h = rw is h
expands_as told old name (Err fault.ReadFault) files spent is h = rw is h
expands_as told old name (Err (fault.Limit l)) files spent is h = rw is h
expands_as told old name (Err (fault.TooLarge r n)) files spent is h = rw is h
expands_as told old name (Err fault.NoMemory) files spent is h = rw is
