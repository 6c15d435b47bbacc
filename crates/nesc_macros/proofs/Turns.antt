-- The turns of the expansion: where the state after a turn ends in an answer, the one before it ends in it.
use Rattle.std.proofs.Common.{◌≡◌, ℕ, zero, suc, ◌+◌, ◌<◌, ◌≤◌, Bool, true, false, List, [], ◌∷◌, ◌++◌, length, Option, Some, None, Result, Ok, Err, refl, sym, ap, subst, ◌∙◌, arith, append_assoc, drop}
use Rattle.std.specs.Prelude.{nat_lt}
use Rattle.std.proofs.lemmas.Bool.{lt-ltb, le-ltb}
use Rattle.std.proofs.lemmas.List.{append-nil, length-map}
use Rattle.nm_base.specs.declared.limit.TheConstants.{MAX_TOKENS}
use Rattle.nm_base.specs.declared.token.Token.{Token}
use Rattle.nm_base.specs.declared.refusal.Refusal.TheVariants as refusal
use Rattle.nm_base.specs.declared.fault.Fault.{Fault}
use Rattle.nm_base.specs.declared.fault.Fault.TheVariants as fault
use Rattle.nesc_macros.specs.declared.definition.Macro.{Macro}
use Rattle.nesc_macros.specs.Invocation.{Name, PreprocessingToken, Passes, ObjectLike, FunctionLike, Misused, use_of, Actuals}
use Rattle.nesc_macros.specs.Expansion.{Answer, ExpandsTo, FailsTo, Settles, all_of, and_then, by_use, expanded, gives, go_on, intersection, object_replacement, placed, put_where, tokens_of, too_many, unhidden}
use Rattle.nesc_macros.specs.Code.{UnlessNoMemory}
use Rattle.nesc_macros.specs.Numbers.{Scope, macros_at}
use Rattle.nesc_macros.specs.Frames.{EndsIn, LeadsTo, ResumesTo, Suspended, answered, behind, completed, replaced, resumed, value_behind, with_argument}

abbrev Tokens : Type 0
Tokens = List PreprocessingToken

abbrev refused_with : Fault → ℕ → Answer Tokens
refused_with e count = record { value = Err e; count = count }

-- ---- numbers of steps

from_next : {A : Type 0} (f : ℕ → Option A) (x : A) (n : ℕ) → ((k : ℕ) → n ≤ k → f (suc k) ≡ Some x) → Settles f x
from_next {A = A} f x n step = (suc n, later) where
  later : (m : ℕ) → suc n ≤ m → f m ≡ Some x
  later zero le = absurd (omega arith)
  later (suc k) le = step k (omega arith)

-- ---- one token

value_behind_nothing : (v : Result Tokens Fault) → value_behind [] v ≡ v
value_behind_nothing (Ok ts) = refl
value_behind_nothing (Err e) = refl

behind_nothing : (a : Answer Tokens) → behind [] a ≡ a
behind_nothing a = ap (λ (v : Result Tokens Fault). record { value = v; count = a.count }) (value_behind_nothing a.value)

value_behind_both : (out : Tokens) (t : PreprocessingToken) (v : Result Tokens Fault) → value_behind out (value_behind (t ∷ []) v) ≡ value_behind (out ++ t ∷ []) v
value_behind_both out t (Ok ts) = ap (λ (l : Tokens). Ok l) (sym (append_assoc out (t ∷ []) ts))
value_behind_both out t (Err e) = refl

behind_both : (out : Tokens) (t : PreprocessingToken) (a : Answer Tokens) → behind out (behind (t ∷ []) a) ≡ behind (out ++ t ∷ []) a
behind_both out t a = ap (λ (v : Result Tokens Fault). record { value = v; count = a.count }) (value_behind_both out t a.value)

passed : (t : PreprocessingToken) (v : Result Tokens Fault) (count : ℕ) → go_on v count (λ others count. gives (t ∷ others) count) ≡ Some (record { value = value_behind (t ∷ []) v; count = count })
passed t (Ok ts) count = refl
passed t (Err e) count = refl

pub token_passes : (macros : List Macro) (count : ℕ) (frames : List Suspended) (out rest next : Tokens) (t : PreprocessingToken) (whole : Answer Tokens) → use_of macros t rest ≡ Passes → next ≡ out ++ t ∷ [] → EndsIn macros count frames next rest whole → EndsIn macros count frames out (t ∷ rest) whole
token_passes macros count frames out rest next t whole is next-is ends = (
  behind (t ∷ []) ends.0,
  from_next (λ (n : ℕ). expanded n macros count (t ∷ rest)) (behind (t ∷ []) ends.0) ends.1.0
      (λ k le. ap (by_use (expanded k macros) count t rest) is ∙ ap (λ (o : Option (Answer Tokens)). and_then o (λ others count. gives (t ∷ others) count)) (ends.1.1 k le) ∙ passed t ends.0.value ends.0.count),
  subst (λ (a : Answer Tokens). LeadsTo macros frames a whole) (ap (λ (l : Tokens). behind l ends.0) next-is ∙ sym (behind_both out t ends.0)) ends.2,
)

pub object_is_replaced : (macros : List Macro) (count now : ℕ) (frames : List Suspended) (out rest list next : Tokens) (t : PreprocessingToken) (m : Macro) (whole : Answer Tokens) → use_of macros t rest ≡ ObjectLike m → list ≡ object_replacement m t → now ≡ count + length list → now ≤ MAX_TOKENS → next ≡ list ++ rest → EndsIn macros now frames out next whole → EndsIn macros count frames out (t ∷ rest) whole
object_is_replaced macros count now frames out rest list next t m whole is list-is now-is within next-is ends =
    let now-too : now ≡ count + length (object_replacement m t) = now-is ∙ ap (λ (l : Tokens). count + length l) list-is in
    let fits : nat_lt MAX_TOKENS (count + length (object_replacement m t)) ≡ false = le-ltb _ _ (omega (arith, now-too)) in
    let next-too : next ≡ object_replacement m t ++ rest = next-is ∙ ap (λ (l : Tokens). l ++ rest) list-is in (
      ends.0,
      from_next (λ (n : ℕ). expanded n macros count (t ∷ rest)) ends.0 ends.1.0
          (λ k le. ap (by_use (expanded k macros) count t rest) is
          ∙ ap (λ (b : Bool). put_where b (length (object_replacement m t)) count (λ c. expanded k macros c (object_replacement m t ++ rest))) fits
          ∙ ap (λ (c : ℕ). expanded k macros c (object_replacement m t ++ rest)) (sym now-too)
          ∙ ap (λ (l : Tokens). expanded k macros now l) (sym next-too)
          ∙ ends.1.1 k le),
      ends.2,
    )

pub function_is_used : (macros : List Macro) (count : ℕ) (frames : List Suspended) (out rest : Tokens) (expanded-so-far : List Tokens) (hide_set : List Name) (t : PreprocessingToken) (m : Macro) (parameters : List Name) (found : Actuals) (whole : Answer Tokens) → use_of macros t rest ≡ FunctionLike m parameters found → expanded-so-far ≡ [] → hide_set ≡ m.name ∷ intersection t.hide_set found.close.hide_set
    → ResumesTo macros count (record { pos = t.token.pos; hide_set = hide_set; definition = m; parameters = parameters; expanded = expanded-so-far; waiting = found.arguments; out = out; pending = found.rest }) frames whole
    → EndsIn macros count frames out (t ∷ rest) whole
function_is_used macros count frames out rest expanded-so-far hide_set t m parameters found whole is nothing hides leads =
    let emptied = subst (λ (l : List Tokens). ResumesTo macros count (record { pos = t.token.pos; hide_set = hide_set; definition = m; parameters = parameters; expanded = l; waiting = found.arguments; out = out; pending = found.rest }) frames whole) nothing leads in
    let resumes = subst (λ (l : List Name). ResumesTo macros count (record { pos = t.token.pos; hide_set = l; definition = m; parameters = parameters; expanded = []; waiting = found.arguments; out = out; pending = found.rest }) frames whole) hides emptied in (
      resumes.0,
      from_next (λ (n : ℕ). expanded n macros count (t ∷ rest)) resumes.0 resumes.1.0
          (λ k le. ap (by_use (expanded k macros) count t rest) is ∙ resumes.1.1 k le),
      resumes.2,
    )

-- ---- refusals

-- a refusal in an argument is one of the whole
refusal_leads : (macros : List Macro) (frames : List Suspended) (e : Fault) (count : ℕ) → LeadsTo macros frames (refused_with e count) (refused_with e count)
refusal_leads macros [] e count = refl
refusal_leads macros (f ∷ outer) e count = (refused_with e count, (0, λ m le. refl), refusal_leads macros outer e count)

pub token_is_misused : (macros : List Macro) (count : ℕ) (frames : List Suspended) (out rest : Tokens) (t : PreprocessingToken) → use_of macros t rest ≡ Misused → EndsIn macros count frames out (t ∷ rest) (refused_with (fault.Refused (refusal.MacroArguments t.token.pos)) count)
token_is_misused macros count frames out rest t is = (
  refused_with (fault.Refused (refusal.MacroArguments t.token.pos)) count,
  from_next (λ (n : ℕ). expanded n macros count (t ∷ rest)) _ 0 (λ k le. ap (by_use (expanded k macros) count t rest) is),
  refusal_leads macros frames (fault.Refused (refusal.MacroArguments t.token.pos)) count,
)

pub object_is_too_long : (macros : List Macro) (count more : ℕ) (frames : List Suspended) (out rest : Tokens) (t : PreprocessingToken) (m : Macro) → use_of macros t rest ≡ ObjectLike m → more ≡ length (object_replacement m t) → MAX_TOKENS < count + more → EndsIn macros count frames out (t ∷ rest) (refused_with too_many count)
object_is_too_long macros count more frames out rest t m is more-is past =
    let over : nat_lt MAX_TOKENS (count + length (object_replacement m t)) ≡ true = lt-ltb _ _ (omega (arith, more-is)) in (
      refused_with too_many count,
      from_next (λ (n : ℕ). expanded n macros count (t ∷ rest)) _ 0
          (λ k le. ap (by_use (expanded k macros) count t rest) is
          ∙ ap (λ (b : Bool). put_where b (length (object_replacement m t)) count (λ c. expanded k macros c (object_replacement m t ++ rest))) over),
      refusal_leads macros frames too_many count,
    )

-- ---- the arguments of a use

abbrev Lists : Type 0
Lists = List Tokens

abbrev Rest : Type 0
Rest = Lists → ℕ → Option (Answer Tokens)

with_the_others : (front : Lists) (here : Tokens) (v : Result Lists Fault) (count : ℕ) (rest : Rest) → and_then (go_on v count (λ others count. gives (here ∷ others) count)) (λ others count. rest (front ++ others) count) ≡ go_on v count (λ others count. rest ((front ++ here ∷ []) ++ others) count)
with_the_others front here (Ok others) count rest = ap (λ (l : Lists). rest l count) (sym (append_assoc front (here ∷ []) others))
with_the_others front here (Err e) count rest = refl

after_the_others : (front : Lists) (here : Tokens) (o : Option (Answer Lists)) (rest : Rest) → and_then (and_then o (λ others count. gives (here ∷ others) count)) (λ others count. rest (front ++ others) count) ≡ and_then o (λ others count. rest ((front ++ here ∷ []) ++ others) count)
after_the_others front here None rest = refl
after_the_others front here (Some a) rest = with_the_others front here a.value a.count rest

after_one : (one : ℕ → Tokens → Option (Answer Tokens)) (front more : Lists) (v : Result Tokens Fault) (count : ℕ) (rest : Rest) → and_then (go_on v count (λ here count. and_then (all_of one count more) (λ others count. gives (here ∷ others) count))) (λ others count. rest (front ++ others) count) ≡ go_on v count (λ here count. and_then (all_of one count more) (λ others count. rest ((front ++ here ∷ []) ++ others) count))
after_one one front more (Ok here) count rest = after_the_others front here (all_of one count more) rest
after_one one front more (Err e) count rest = refl

-- an argument, and then the others
argument_then_others : (steps : ℕ) (macros : List Macro) (count : ℕ) (f : Suspended) (argument : Tokens) (more : Lists) (a : Answer Tokens) → f.waiting ≡ argument ∷ more → expanded steps macros count argument ≡ Some a → resumed steps macros count f ≡ answered steps macros (record f { waiting = more }) a
argument_then_others steps macros count f argument more a waits told =
    ap (λ (l : Lists). and_then (all_of (expanded steps macros) count l) (λ others count. completed steps macros f (f.expanded ++ others) count)) waits
    ∙ ap (λ (o : Option (Answer Tokens)). and_then (and_then o (λ here count. and_then (all_of (expanded steps macros) count more) (λ others count. gives (here ∷ others) count))) (λ others count. completed steps macros f (f.expanded ++ others) count)) told
    ∙ after_one (expanded steps macros) f.expanded more a.value a.count (completed steps macros f)

pub argument_is_next : (macros : List Macro) (count : ℕ) (outer : List Suspended) (f : Suspended) (argument : Tokens) (more : Lists) (whole : Answer Tokens) → f.waiting ≡ argument ∷ more → EndsIn macros count (record f { waiting = more } ∷ outer) [] argument whole → ResumesTo macros count f outer whole
argument_is_next macros count outer f argument more whole waits ends =
    let leads = ends.2 in (
      leads.0,
      (
        ends.1.0 + leads.1.0,
        λ m le. argument_then_others m macros count f argument more ends.0 waits (ends.1.1 m (omega arith))
            ∙ ap (λ (a : Answer Tokens). answered m macros (record f { waiting = more }) a) (sym (behind_nothing ends.0))
            ∙ leads.1.1 m (omega arith),
      ),
      leads.2,
    )

pub argument_is_expanded : (macros : List Macro) (count : ℕ) (outer : List Suspended) (f : Suspended) (out pending : Tokens) (whole : Answer Tokens) → pending ≡ [] → ResumesTo macros count (with_argument f out) outer whole → EndsIn macros count (f ∷ outer) out pending whole
argument_is_expanded macros count outer f out pending whole none resumes =
    subst (λ (l : Tokens). EndsIn macros count (f ∷ outer) out l whole) (sym none) (
      nothing,
      from_next (λ (n : ℕ). expanded n macros count []) _ 0 (λ k le. refl),
      subst (λ (l : Tokens). LeadsTo macros (f ∷ outer) (record { value = Ok l; count = count }) whole) (sym (append-nil out)) (resumes.0, resumes.1, resumes.2),
    )
  where
    nothing : Answer Tokens
    nothing = record { value = Ok []; count = count }

-- all arguments are expanded
completes : (steps : ℕ) (macros : List Macro) (count : ℕ) (f : Suspended) → f.waiting ≡ [] → resumed steps macros count f ≡ completed steps macros f f.expanded count
completes steps macros count f waits =
    ap (λ (l : Lists). and_then (all_of (expanded steps macros) count l) (λ others count. completed steps macros f (f.expanded ++ others) count)) waits
    ∙ ap (λ (l : Lists). completed steps macros f l count) (append-nil f.expanded)

pub function_is_replaced : (macros : List Macro) (count now : ℕ) (outer : List Suspended) (f : Suspended) (list next : Tokens) (whole : Answer Tokens) → f.waiting ≡ [] → list ≡ replaced f f.expanded → now ≡ count + length list → now ≤ MAX_TOKENS → next ≡ list ++ f.pending → EndsIn macros now outer f.out next whole → ResumesTo macros count f outer whole
function_is_replaced macros count now outer f list next whole waits list-is now-is within next-is ends =
    let now-too : now ≡ count + length (replaced f f.expanded) = now-is ∙ ap (λ (l : Tokens). count + length l) list-is in
    let fits : nat_lt MAX_TOKENS (count + length (replaced f f.expanded)) ≡ false = le-ltb _ _ (omega (arith, now-too)) in
    let next-too : next ≡ replaced f f.expanded ++ f.pending = next-is ∙ ap (λ (l : Tokens). l ++ f.pending) list-is in (
      ends.0,
      (
        ends.1.0,
        λ m le. completes m macros count f waits
            ∙ ap (λ (b : Bool). put_where b (length (replaced f f.expanded)) count (λ c. expanded m macros c (replaced f f.expanded ++ f.pending))) fits
            ∙ ap (λ (c : ℕ). expanded m macros c (replaced f f.expanded ++ f.pending)) (sym now-too)
            ∙ ap (λ (l : Tokens). expanded m macros now l) (sym next-too)
            ∙ ends.1.1 m le,
      ),
      ends.2,
    )

pub function_is_too_long : (macros : List Macro) (count : ℕ) (outer : List Suspended) (f : Suspended) → f.waiting ≡ [] → MAX_TOKENS < count + length (replaced f f.expanded) → ResumesTo macros count f outer (refused_with too_many count)
function_is_too_long macros count outer f waits past =
    let over : nat_lt MAX_TOKENS (count + length (replaced f f.expanded)) ≡ true = lt-ltb _ _ past in (
      refused_with too_many count,
      (
        0,
        λ m le. completes m macros count f waits
            ∙ ap (λ (b : Bool). put_where b (length (replaced f f.expanded)) count (λ c. expanded m macros c (replaced f f.expanded ++ f.pending))) over,
      ),
      refusal_leads macros outer too_many count,
    )

-- ---- the whole

pub ends_at_once : (macros : List Macro) (count : ℕ) (out pending : Tokens) → pending ≡ [] → EndsIn macros count [] out pending (record { value = Ok out; count = count })
ends_at_once macros count out pending none =
    subst (λ (l : Tokens). EndsIn macros count [] out l (record { value = Ok out; count = count })) (sym none) (
      nothing,
      from_next (λ (n : ℕ). expanded n macros count []) _ 0 (λ k le. refl),
      ap (λ (l : Tokens). record { value = Ok l; count = count }) (append-nil out),
    )
  where
    nothing : Answer Tokens
    nothing = record { value = Ok []; count = count }

-- ---- where a call is refused

pub none_left : {A : Type 0} (old new : List A) → old ≡ new → new ≡ drop 1 old → old ≡ []
none_left [] new same rest = refl
none_left (x ∷ old) new same rest = absurd (let len : length (x ∷ old) ≡ length old = ap length (same ∙ rest) in omega (arith, len))

pub too_long_unless : (e : Fault) (count now : ℕ) (outer : Scope → List Suspended) (f : Scope → Suspended) → e ≡ too_many → now ≡ count → ((scope : Scope) → (f scope).waiting ≡ []) → ((scope : Scope) → MAX_TOKENS < count + length (replaced (f scope) (f scope).expanded)) → UnlessNoMemory e ((scope : Scope) → ResumesTo (macros_at scope) count (f scope) (outer scope) (refused_with e now))
too_long_unless e count now outer f is same waits past = rw (is, same) (λ scope. function_is_too_long (macros_at scope) count (outer scope) (f scope) (waits scope) (past scope))

pub ends_elsewhere : (macros : List Macro) (count : ℕ) (frames frames' : List Suspended) (out out' pending pending' : Tokens) (whole : Answer Tokens) → frames ≡ frames' → out ≡ out' → pending ≡ pending' → EndsIn macros count frames out pending whole → EndsIn macros count frames' out' pending' whole
ends_elsewhere macros count frames frames' out out' pending pending' whole frames-is out-is pending-is ends =
    subst (λ (l : List Suspended). EndsIn macros count l out' pending' whole) frames-is
    (subst (λ (l : Tokens). EndsIn macros count frames l pending' whole) out-is
    (subst (λ (l : Tokens). EndsIn macros count frames out l whole) pending-is ends))

pub unless_weaker : {P Q : Type 0} (e : Fault) → (P → Q) → UnlessNoMemory e P → UnlessNoMemory e Q
unless_weaker fault.NoMemory f p = tt
unless_weaker (fault.Refused r) f p = f p
unless_weaker (fault.Missing n) f p = f p
unless_weaker fault.ReadFault f p = f p
unless_weaker (fault.Limit l) f p = f p
unless_weaker (fault.TooLarge r n) f p = f p

pub unless_too_many : (P : Fault → ℕ → Type 0) (e : Fault) (count now : ℕ) → e ≡ too_many → now ≡ count → P too_many count → UnlessNoMemory e (P e now)
unless_too_many P e count now is same p = rw (is, same) p

pub object_length : (m : Macro) (t : PreprocessingToken) → length (object_replacement m t) ≡ length m.replacement
object_length m t = length-map m.replacement (placed t.token.pos (m.name ∷ t.hide_set))

-- ---- the contract

-- where the rest ends in an answer, the whole expands to it
abbrev pub Follows : List Macro → ℕ → Tokens → ℕ → List Suspended → Tokens → Tokens → Type 0
Follows macros count whole now frames out pending = (a : Answer Tokens) → EndsIn macros now frames out pending a → Settles (λ (n : ℕ). expanded n macros count whole) a

pub expands_to : (macros : List Macro) (count now : ℕ) (tokens : List Token) (out : Tokens) (v : List Token) → v ≡ tokens_of out → Settles (λ (n : ℕ). expanded n macros count (unhidden tokens)) (record { value = Ok out; count = now }) → ExpandsTo macros count tokens (record { value = Ok v; count = now })
expands_to macros count now tokens out v is settles =
    subst (λ (l : List Token). ExpandsTo macros count tokens (record { value = Ok l; count = now })) (sym is)
    (settles.0, λ m le. ap (λ (o : Option (Answer Tokens)). and_then o (λ found count. gives (tokens_of found) count)) (settles.1 m le))

expands_to_refusal : (macros : List Macro) (count now : ℕ) (tokens : List Token) (e : Fault) → Settles (λ (n : ℕ). expanded n macros count (unhidden tokens)) (refused_with e now) → ExpandsTo macros count tokens (record { value = Err e; count = now })
expands_to_refusal macros count now tokens e settles = (settles.0, λ m le. ap (λ (o : Option (Answer Tokens)). and_then o (λ found count. gives (tokens_of found) count)) (settles.1 m le))

pub fails_to : (macros : List Macro) (count now : ℕ) (tokens : List Token) (e : Fault) → UnlessNoMemory e (Settles (λ (n : ℕ). expanded n macros count (unhidden tokens)) (refused_with e now)) → FailsTo macros count tokens e now
fails_to macros count now tokens fault.NoMemory settles = tt
fails_to macros count now tokens (fault.Refused r) settles = expands_to_refusal macros count now tokens (fault.Refused r) settles
fails_to macros count now tokens (fault.Missing n) settles = expands_to_refusal macros count now tokens (fault.Missing n) settles
fails_to macros count now tokens fault.ReadFault settles = expands_to_refusal macros count now tokens fault.ReadFault settles
fails_to macros count now tokens (fault.Limit l) settles = expands_to_refusal macros count now tokens (fault.Limit l) settles
fails_to macros count now tokens (fault.TooLarge r n) settles = expands_to_refusal macros count now tokens (fault.TooLarge r n) settles

pub refused_here : (macros : List Macro) (count now later : ℕ) (tokens : List Token) (frames : List Suspended) (out pending pending' : Tokens) (e : Fault) → Follows macros count (unhidden tokens) now frames out pending → pending ≡ pending' → UnlessNoMemory e (EndsIn macros now frames out pending' (refused_with e later)) → FailsTo macros count tokens e later
refused_here macros count now later tokens frames out pending pending' e follows is ends =
    fails_to macros count later tokens e (unless_weaker e (λ done. follows (refused_with e later) (ends_elsewhere macros now frames frames out out pending' pending (refused_with e later) refl refl (sym is) done)) ends)

pub follows_token : (macros : List Macro) (count now later : ℕ) (whole : Tokens) (frames frames' : List Suspended) (out out' pending pending' next : Tokens) → Follows macros count whole now frames out pending → pending ≡ pending' → ((a : Answer Tokens) → EndsIn macros later frames' out' next a → EndsIn macros now frames out pending' a) → Follows macros count whole later frames' out' next
follows_token macros count now later whole frames frames' out out' pending pending' next follows is leads a ends =
    follows a (ends_elsewhere macros now frames frames out out pending' pending a refl refl (sym is) (leads a ends))

-- the list that is expanded is an argument, and has come to its end
pub ends_argument : (macros : List Macro) (now : ℕ) (frames outer : List Suspended) (f : Suspended) (out value pending : Tokens) (expanded-now : Lists) (a : Answer Tokens) → frames ≡ f ∷ outer → pending ≡ [] → expanded-now ≡ f.expanded ++ value ∷ [] → value ≡ out → ResumesTo macros now (record f { expanded = expanded-now }) outer a → EndsIn macros now frames out pending a
ends_argument macros now frames outer f out value pending expanded-now a frames-is none pushed value-is resumes =
    let more : expanded-now ≡ f.expanded ++ out ∷ [] = pushed ∙ ap (λ (l : Tokens). f.expanded ++ l ∷ []) value-is in
    ends_elsewhere macros now (f ∷ outer) frames out out pending pending a (sym frames-is) refl refl
    (argument_is_expanded macros now outer f out pending a none (subst (λ (l : Lists). ResumesTo macros now (record f { expanded = l }) outer a) more resumes))
