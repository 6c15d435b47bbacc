-- The expansion of a list of tokens by hide sets (D. Prosser, "Complete macro expansion algorithm", X3J11/86-196; own: the
-- count of tokens, and that a replacement stands at its name).
use Rattle.std.specs.Prelude.{◌≡◌, ℕ, zero, suc, ◌+◌, ◌≤◌, Bool, true, false, not, List, [], ◌∷◌, ◌++◌, nat_lt, length, map, filter, Option, Some, None, Result, Ok, Err}
use Rattle.nm_base.specs.declared.limit.TheConstants.{MAX_TOKENS}
use Rattle.nm_base.specs.declared.token.Token.{Token}
use Rattle.nm_base.specs.declared.pos.Pos.{Pos}
use Rattle.nm_base.specs.declared.refusal.Refusal.TheVariants as refusal
use Rattle.nm_base.specs.declared.fault.Fault.{Fault}
use Rattle.nm_base.specs.declared.fault.Fault.TheVariants as fault
use Rattle.nm_base.specs.declared.limit.Which.TheVariants as which
use Rattle.nesc_macros.specs.declared.definition.Macro.{Macro}
use Rattle.nesc_macros.specs.Invocation.{Name, PreprocessingToken, same_name, is_among, Use, Passes, ObjectLike, FunctionLike, Misused, use_of}

-- ---- replacement

-- the names that are in both
abbrev pub intersection : List Name → List Name → List Name
intersection xs ys = filter (is_among ys) xs

-- the names of one list, and those of the other that are not in it
abbrev pub union : List Name → List Name → List Name
union xs ys = xs ++ filter (λ y. not (is_among xs y)) ys

-- a token of a replacement list stands where the name stood
abbrev pub placed : Pos → List Name → Token → PreprocessingToken
placed pos hide_set t = record { token = record { kind = t.kind; text = t.text; pos = pos; first = false }; hide_set = hide_set }

-- a token of an argument keeps its place, and gains names
abbrev pub hide : List Name → List PreprocessingToken → List PreprocessingToken
hide names = map (λ (t : PreprocessingToken). record { token = t.token; hide_set = union names t.hide_set })

abbrev pub argument_of : List Name → List (List PreprocessingToken) → Name → Option (List PreprocessingToken)
argument_of [] arguments name = None
argument_of (p ∷ ps) [] name = None
argument_of (p ∷ ps) (a ∷ arguments) name = elim (same_name p name) [ true ↦ Some a | false ↦ argument_of ps arguments name ]

-- a replacement list with the arguments in the places of the parameters
abbrev pub substituted : Pos → List Name → List Name → List (List PreprocessingToken) → List Token → List PreprocessingToken
substituted pos hide_set parameters arguments [] = []
substituted pos hide_set parameters arguments (t ∷ ts) =
    elim (argument_of parameters arguments t.text) [
      | Some tokens ↦ hide hide_set tokens ++ substituted pos hide_set parameters arguments ts
      | None ↦ placed pos hide_set t ∷ substituted pos hide_set parameters arguments ts
    ]

-- what replaces the name t of an object-like macro
abbrev pub object_replacement : Macro → PreprocessingToken → List PreprocessingToken
object_replacement m t = map (placed t.token.pos (m.name ∷ t.hide_set)) m.replacement

-- what replaces the name t of a function-like macro, its expanded arguments, and `close`
abbrev pub function_replacement : Macro → List Name → List (List PreprocessingToken) → PreprocessingToken → PreprocessingToken → List PreprocessingToken
function_replacement m parameters arguments t close =
    substituted t.token.pos (m.name ∷ intersection t.hide_set close.hide_set) parameters arguments m.replacement

-- ---- answers with the count of tokens

-- what a step gives, and how many tokens were put before the scan by then
pub record Answer (A : Type 0) : Type 0 where
  pub value : Result A Fault
  pub count : ℕ

abbrev pub go_on : {A B : Type 0} → Result A Fault → ℕ → (A → ℕ → Option (Answer B)) → Option (Answer B)
go_on (Ok x) count go = go x count
go_on (Err e) count go = Some (record { value = Err e; count = count })

abbrev pub and_then : {A B : Type 0} → Option (Answer A) → (A → ℕ → Option (Answer B)) → Option (Answer B)
and_then None go = None
and_then (Some a) go = go_on a.value a.count go

abbrev pub gives : {A : Type 0} → A → ℕ → Option (Answer A)
gives x count = Some (record { value = Ok x; count = count })

abbrev pub refuses : {A : Type 0} → Fault → ℕ → Option (Answer A)
refuses e count = Some (record { value = Err e; count = count })

abbrev pub too_many : Fault
too_many = fault.Limit (record { which = which.Tokens; have = MAX_TOKENS + 1 })

abbrev pub put_where : {A : Type 0} → Bool → ℕ → ℕ → (ℕ → Option (Answer A)) → Option (Answer A)
put_where true n count go = refuses too_many count
put_where false n count go = go (count + n)

-- n more tokens are put before the scan
abbrev pub put : {A : Type 0} → ℕ → ℕ → (ℕ → Option (Answer A)) → Option (Answer A)
put n count go = put_where (nat_lt MAX_TOKENS (count + n)) n count go

-- ---- expansion

-- each of the lists, one after the other
abbrev pub all_of : (ℕ → List PreprocessingToken → Option (Answer (List PreprocessingToken))) → ℕ → List (List PreprocessingToken) → Option (Answer (List (List PreprocessingToken)))
all_of one count [] = gives [] count
all_of one count (ts ∷ rest) = and_then (one count ts) (λ here count. and_then (all_of one count rest) (λ others count. gives (here ∷ others) count))

-- what a token gives before ts, by what it is used as; `go` expands what comes behind
abbrev pub by_use : (ℕ → List PreprocessingToken → Option (Answer (List PreprocessingToken))) → ℕ → PreprocessingToken → List PreprocessingToken → Use → Option (Answer (List PreprocessingToken))
by_use go count t ts Passes = and_then (go count ts) (λ others count. gives (t ∷ others) count)
by_use go count t ts (ObjectLike m) = put (length (object_replacement m t)) count (λ count. go count (object_replacement m t ++ ts))
by_use go count t ts (FunctionLike m parameters found) =
    and_then (all_of go count found.arguments) (λ arguments count.
    put (length (function_replacement m parameters arguments t found.close)) count
    (λ count. go count (function_replacement m parameters arguments t found.close ++ found.rest)))
by_use go count t ts Misused = refuses (fault.Refused (refusal.MacroArguments t.token.pos)) count

-- the expansion of a list, in at most so many steps
abbrev pub expanded : ℕ → List Macro → ℕ → List PreprocessingToken → Option (Answer (List PreprocessingToken))
expanded zero macros count ts = None
expanded (suc steps) macros count [] = gives [] count
expanded (suc steps) macros count (t ∷ ts) = by_use (expanded steps macros) count t ts (use_of macros t ts)

-- tokens of a text hide nothing
abbrev pub unhidden : List Token → List PreprocessingToken
unhidden = map (λ t. record { token = t; hide_set = [] })

abbrev pub tokens_of : List PreprocessingToken → List Token
tokens_of = map (λ (t : PreprocessingToken). t.token)

abbrev pub expanded_tokens : ℕ → List Macro → ℕ → List Token → Option (Answer (List Token))
expanded_tokens steps macros count ts = and_then (expanded steps macros count (unhidden ts)) (λ found count. gives (tokens_of found) count)

-- from some number of steps on it gives this
abbrev pub Settles : {A : Type 0} → (ℕ → Option A) → A → Type 0
Settles {A} f x = (n : ℕ) × ((m : ℕ) → n ≤ m → f m ≡ Some x)

-- the expansion of a list of tokens, with `count` put before the scan already
abbrev pub ExpandsTo : List Macro → ℕ → List Token → Answer (List Token) → Type 0
ExpandsTo macros count ts answer = Settles (λ steps. expanded_tokens steps macros count ts) answer

-- the same, where a call answers a fault; want of memory is free
abbrev pub FailsTo : List Macro → ℕ → List Token → Fault → ℕ → Type 0
FailsTo macros count ts fault.NoMemory now = Unit {0}
FailsTo macros count ts e now = ExpandsTo macros count ts (record { value = Err e; count = now })

-- the faults of an expansion
abbrev pub IsExpansionFault : Fault → Type 0
IsExpansionFault (fault.Refused (refusal.MacroArguments p)) = Unit {0}
IsExpansionFault (fault.Limit l) = fault.Limit l ≡ too_many
IsExpansionFault fault.NoMemory = Unit {0}
IsExpansionFault _ = ⊥
