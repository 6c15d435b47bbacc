-- What a `#define` line defines, and which file an `#include` line names (C99 6.10.2, 6.10.3; own: no operators `#` and
-- `##`, no variable arguments, file names taken as they are spelled).
use Rattle.std.specs.Prelude.{ℕ, ◌+◌, ◌-◌, Bool, true, false, not, ◌&&◌, ◌||◌, List, [], ◌∷◌, ◌++◌, nat_eq, codes, length, slice_index_or, take, drop, Option, Some, None}
use Rattle.std.specs.List.{list_any}
use Rattle.nm_base.specs.declared.token.Kind.TheVariants.{Text}
use Rattle.nm_base.specs.declared.token.Token.{Token}
use Rattle.nm_base.specs.declared.pos.Pos.{Pos}
use Rattle.nesc_tokens.specs.Joined.{is_joined}
use Rattle.nesc_macros.specs.declared.definition.Macro.{Macro}
use Rattle.nesc_preproc.specs.declared.definitions.NextParameter.{NextParameter}
use Rattle.nesc_preproc.specs.declared.definitions.NextParameter.TheVariants.{Malformed, Last, More}
use Rattle.nesc_macros.specs.Invocation.{Name, is_among, is_word, is_sign}

-- nothing stands between the two
abbrev pub touches : Token → Token → Bool
touches a b = nat_eq a.pos.line b.pos.line && nat_eq (a.pos.col + length a.text) b.pos.col

-- the second may touch the first across a line splice: it begins a later line
abbrev pub is_spliced : Token → Token → Bool
is_spliced a b = not (nat_eq a.pos.line b.pos.line) && nat_eq b.pos.col 1

abbrev pub may_touch : Token → Token → Bool
may_touch a b = touches a b || is_spliced a b

abbrev pub is_hash : Token → Bool
is_hash = is_sign (codes "#")

abbrev pub has_hash : List Token → Bool
has_hash = list_any is_hash

-- `##`, also where the two may touch
abbrev pub has_paste : List Token → Bool
has_paste [] = false
has_paste (t ∷ []) = false
has_paste (t ∷ u ∷ ts) = (is_hash t && (is_hash u && may_touch t u)) || has_paste (u ∷ ts)

abbrev pub with_replacement : Bool → Name → Option (List Name) → List Token → Option Macro
with_replacement true name parameters ts = None
with_replacement false name parameters ts = Some (record { name = name; parameters = parameters; replacement = ts })

abbrev pub object_like : Name → List Token → Option Macro
object_like name ts = with_replacement (has_paste ts) name None ts

abbrev pub function_like : Name → List Name → List Token → Option Macro
function_like name parameters ts = with_replacement (has_hash ts) name (Some parameters) ts

abbrev pub closes_or_goes_on : Bool → Bool → NextParameter
closes_or_goes_on true comma = Last
closes_or_goes_on false true = More
closes_or_goes_on false false = Malformed

abbrev pub next_by : Bool → Bool → Bool → NextParameter
next_by false close comma = Malformed
next_by true close comma = closes_or_goes_on close comma

-- what the word p is behind these parameters, and before the sign s
abbrev pub next_parameter : List Name → Token → Token → NextParameter
next_parameter before p s = next_by (is_word p && not (is_among before p.text)) (is_sign (codes ")") s) (is_sign (codes ",") s)

-- a parameter list up to its closing parenthesis, behind these parameters: words that differ, with commas between them
abbrev pub parameters_of : Name → List Name → List Token → Option Macro
parameters_of name before [] = None
parameters_of name before (p ∷ []) = None
parameters_of name before (p ∷ s ∷ ts) =
    elim (next_parameter before p s) [
      | Malformed ↦ None
      | Last ↦ function_like name (before ++ p.text ∷ []) ts
      | More ↦ parameters_of name (before ++ p.text ∷ []) ts
    ]

-- behind the opening parenthesis
abbrev pub with_parameters : Name → List Token → Option Macro
with_parameters name [] = None
with_parameters name (t ∷ ts) = elim (is_sign (codes ")") t) [ true ↦ function_like name [] ts | false ↦ parameters_of name [] (t ∷ ts) ]

-- whether a byte of these files stands at the place directly behind a word, with line splices between them
abbrev pub joined_in : List (List ℕ) → Pos → Bool
joined_in texts pos = is_joined (slice_index_or texts pos.file []) pos

-- a parenthesis that touches the name opens a parameter list; `joined` tells it of those behind line splices
abbrev pub opens_parameters : (Pos → Bool) → Token → Token → Bool
opens_parameters joined name t = is_sign (codes "(") t && (touches name t || joined t.pos)

abbrev pub defined_behind : (Pos → Bool) → Token → List Token → Option Macro
defined_behind joined name [] = object_like name.text []
defined_behind joined name (t ∷ ts) = elim (opens_parameters joined name t) [ true ↦ with_parameters name.text ts | false ↦ object_like name.text (t ∷ ts) ]

-- the macro of the line behind `#define`
abbrev pub defined_by : (Pos → Bool) → List Token → Option Macro
defined_by joined [] = None
defined_by joined (name ∷ ts) = elim (is_word name) [ true ↦ defined_behind joined name ts | false ↦ None ]

-- the one word of a line
abbrev pub only_word : List Token → Option Name
only_word (t ∷ []) = elim (is_word t) [ true ↦ Some t.text | false ↦ None ]
only_word _ = None

-- the spellings up to `>`, which is the last token of the line; each token touches the one before it
abbrev pub angled : Token → Name → List Token → Option Name
angled last before [] = None
angled last before (t ∷ ts) =
    elim (touches last t) [
      | true ↦ elim (is_sign (codes ">") t) [
        | true ↦ elim ts [ [] ↦ Some before | ◌∷◌ _ _ ↦ None ]
        | false ↦ angled t (before ++ t.text) ts
      ]
      | false ↦ None
    ]

-- the name in a text literal that is the whole line
abbrev pub quoted : Token → List Token → Option Name
quoted t [] = Some (take (length t.text - 2) (drop 1 t.text))
quoted t (_ ∷ _) = None

-- the file of the line behind `#include`
abbrev pub included_by : List Token → Option Name
included_by [] = None
included_by (t ∷ ts) =
    elim (t.kind) [
      | Text ↦ quoted t ts
      | _ ↦ elim (is_sign (codes "<") t) [ true ↦ angled t [] ts | false ↦ None ]
    ]
