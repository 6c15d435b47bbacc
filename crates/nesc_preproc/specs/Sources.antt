-- Which files are read, and what a file puts before the scan (own).
use Rattle.std.specs.Prelude.{ℕ, ◌+◌, Bool, true, false, List, [], ◌∷◌, ◌++◌, nat_eq, nat_lt, length, Option, Some, None, Result, Ok, Err}
use Rattle.nm_base.specs.declared.limit.TheConstants.{MAX_ALL_FILES, MAX_FILE, MAX_TOKENS}
use Rattle.nm_base.specs.declared.token.Token.{Token}
use Rattle.nm_base.specs.declared.refusal.Refusal.{Refusal}
use Rattle.nm_base.specs.declared.fault.Fault.{Fault}
use Rattle.nm_base.specs.declared.fault.Fault.TheVariants as fault
use Rattle.nm_base.specs.declared.limit.Which.TheVariants as which
use Rattle.nesc_tokens.specs.Lexes.{Lexes, IsRefused}
use Rattle.nesc_macros.specs.Invocation.{Name, same_name}
use Rattle.nesc_macros.specs.Expansion.{too_many}
use Rattle.nesc_preproc.specs.BuiltIn.{built_in_text, is_built_in}

-- what is kept from one expansion to the next: the files that were read, in this order, with their bytes; the headers whose
-- ordinary tokens were given; the bytes of all files; and the tokens that were put before the scan
pub record Known : Type 0 where
  pub names : List Name
  pub texts : List (List ℕ)
  pub declared : List Name
  pub bytes : ℕ
  pub tokens : ℕ

abbrev pub nothing_known : Known
nothing_known = record { names = []; texts = []; declared = []; bytes = 0; tokens = 0 }

-- what the files hold, the number of the file of which a read failed, if one did, and what lexing gives for the text of
-- the file of some number
pub record World : Type 0 where
  pub text_of : Name → Option (List ℕ)
  pub broken : Option ℕ
  pub lexed : ℕ → List ℕ → Result (List Token) Refusal

abbrev pub LexedAs : ℕ → List ℕ → Result (List Token) Refusal → Type 0
LexedAs file text (Ok tokens) = Lexes file text tokens
LexedAs file text (Err refusal) = IsRefused file text refusal

abbrev pub IsLexing : (ℕ → List ℕ → Result (List Token) Refusal) → Type 0
IsLexing lexed = (file : ℕ) (text : List ℕ) → LexedAs file text (lexed file text)

-- the number and the text of a file that was read, where the first of these names has the number k
abbrev pub file_from : ℕ → List Name → List (List ℕ) → Name → Option (ℕ × List ℕ)
file_from k [] texts name = None
file_from k (n ∷ names) [] name = None
file_from k (n ∷ names) (text ∷ texts) name = elim (same_name n name) [ true ↦ Some (k, text) | false ↦ file_from (k + 1) names texts name ]

abbrev pub is_number : Option ℕ → ℕ → Bool
is_number None k = false
is_number (Some n) k = nat_eq n k

abbrev pub content : Bool → Name → Option (List ℕ) → Result (List ℕ) Fault
content true name text = Err fault.ReadFault
content false name None = Err (fault.Missing name)
content false name (Some text) = Ok text

abbrev pub built_in_or : Option (List ℕ) → Result (List ℕ) Fault → Result (List ℕ) Fault
built_in_or (Some text) asked = Ok text
built_in_or None asked = asked

-- the text of a file that was not read before and gets the number k
abbrev pub fetched : World → ℕ → Name → Result (List ℕ) Fault
fetched world k name = built_in_or (built_in_text name) (content (is_number world.broken k) name (world.text_of name))

abbrev pub file_too_large : Fault
file_too_large = fault.Limit (record { which = which.File; have = MAX_FILE + 1 })

abbrev pub files_too_large : Fault
files_too_large = fault.Limit (record { which = which.AllFiles; have = MAX_ALL_FILES + 1 })

-- the tokens of a file, or why there are none, and what is kept by then
pub record Opened : Type 0 where
  pub value : Result (List Token) Fault
  pub known : Known

abbrev pub closed_for : Fault → Known → Opened
closed_for e known = record { value = Err e; known = known }

abbrev pub with_count : ℕ → Known → Known
with_count tokens known = record { names = known.names; texts = known.texts; declared = known.declared; bytes = known.bytes; tokens = tokens }

-- n more tokens are put before the scan
abbrev pub counted_by : Bool → ℕ → List Token → Known → Opened
counted_by true n tokens known = closed_for too_many known
counted_by false n tokens known = record { value = Ok tokens; known = with_count (known.tokens + n) known }

-- how much of a file is counted: what is built in is not
abbrev pub weight : Bool → ℕ → ℕ
weight true n = 0
weight false n = n

abbrev pub counted : Bool → Result (List Token) Refusal → Known → Opened
counted built_in (Err refusal) known = closed_for (fault.Refused refusal) known
counted built_in (Ok tokens) known = counted_by (nat_lt MAX_TOKENS (known.tokens + weight built_in (length tokens))) (weight built_in (length tokens)) tokens known

abbrev pub scanned_in : World → Bool → ℕ → List ℕ → Known → Opened
scanned_in world built_in k text known = counted built_in (world.lexed k text) known

abbrev pub sized_by : Bool → Known → Opened → Opened
sized_by true known go = closed_for file_too_large known
sized_by false known go = go

abbrev pub sized : List ℕ → Known → Opened → Opened
sized text known go = sized_by (nat_lt MAX_FILE (length text)) known go

abbrev pub with_file : Name → List ℕ → ℕ → Known → Known
with_file name text bytes known = record { names = known.names ++ name ∷ []; texts = known.texts ++ text ∷ []; declared = known.declared; bytes = bytes; tokens = known.tokens }

abbrev pub added_within : Bool → World → Bool → Name → List ℕ → ℕ → Known → Opened
added_within true world built_in name text bytes known = closed_for files_too_large known
added_within false world built_in name text bytes known = scanned_in world built_in (length known.texts) text (with_file name text bytes known)

abbrev pub added : World → Bool → Name → List ℕ → ℕ → Known → Opened
added world built_in name text bytes known = added_within (nat_lt MAX_ALL_FILES bytes) world built_in name text bytes known

abbrev pub fetched_as : World → Bool → Name → Result (List ℕ) Fault → Known → Opened
fetched_as world built_in name (Err e) known = closed_for e known
fetched_as world built_in name (Ok text) known = sized text known (added world built_in name text (known.bytes + weight built_in (length text)) known)

abbrev pub opened_as : World → Bool → Name → Option (ℕ × List ℕ) → Known → Opened
opened_as world built_in name (Some f) known = sized f.1 known (scanned_in world built_in f.0 f.1 known)
opened_as world built_in name None known = fetched_as world built_in name (fetched world (length known.texts) name) known

-- the tokens of a file, which is read if it was not read before: want of it, a read that fails, the limit of a file, the
-- limit of all files, what lexing refuses, and the limit of tokens come in this order
abbrev pub opened : World → Known → Name → Opened
opened world known name = opened_as world (is_built_in name) name (file_from 0 known.names known.texts name) known
