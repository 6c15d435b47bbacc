-- Whether a condition holds, by its parts.
use Rattle.std.specs.Prelude.{◌≡◌, ℕ, ℤ, List, Option, Some, None, Ok, Err}
use Rattle.std.proofs.Common.{◌∙◌, ◌∷◌, drop, false, Bool, refl, ap}
use Rattle.nm_base.specs.declared.pos.Pos.{Pos}
use Rattle.nm_base.specs.declared.token.Token.{Token}
use Rattle.nm_base.specs.declared.fault.Fault.{Fault}
use Rattle.nm_base.specs.declared.fault.Fault.TheVariants as fault
use Rattle.nesc_macros.specs.declared.definition.Macro.{Macro}
use Rattle.nesc_macros.specs.Expansion.{Answer, Settles, ExpandsTo, FailsTo, expanded_tokens}
use Rattle.nesc_conditions.specs.Resolved.{resolved}
use Rattle.nesc_conditions.specs.Conditions.{condition, ConditionIs}
use Rattle.nesc_preproc.specs.Obeyed.{Outcome, Situation, after, asked, elif_at, elif_by, asked_of, stops, truth_of, valued, with_conditionals, with_tokens}
use Rattle.nesc_preproc.specs.declared.context.Context.{Context}
use Rattle.nesc_preproc.specs.declared.conditional.Conditional.{Conditional}
use Rattle.nesc_preproc.specs.Conditionals.{at_group}
use Rattle.nesc_preproc.specs.Answers.{Asks, ObeysIn, situation_of}
use Rattle.nesc_preproc.proofs.Settling.{then_settles, refusal_settles, map_settles, same_settles}

-- a value, or none
pub asks_value : (macros : List Macro) (count : ℕ) (at : Pos) (line found ts : List Token) (now : ℕ) (v : Option ℤ)
    → resolved macros line ≡ Some found → ExpandsTo macros count found (record { value = Ok ts; count = now }) → ConditionIs ts v
    → Settles (λ steps. asked steps macros count at line) (record { value = truth_of at v; count = now })
asks_value macros count at line found ts now v is-found expands is-value =
    same_settles _ _ _ (λ n. ap (asked_of n macros count at) is-found)
    (then_settles (λ n. expanded_tokens n macros count found) (λ n ts now. valued at (condition n ts) now) ts now (record { value = truth_of at v; count = now }) expands
    (map_settles (λ n. condition n ts) (λ o. valued at o now) v (record { value = truth_of at v; count = now }) refl is-value))

-- the answer to it
pub asks_truth : (macros : List Macro) (count : ℕ) (at : Pos) (line found ts : List Token) (now : ℕ) (v : Option ℤ)
    → resolved macros line ≡ Some found → ExpandsTo macros count found (record { value = Ok ts; count = now }) → ConditionIs ts v
    → Asks (truth_of at v) now (λ steps. asked steps macros count at line)
asks_truth macros count at line found ts now None is-found expands is-value = asks_value macros count at line found ts now None is-found expands is-value
asks_truth macros count at line found ts now (Some v) is-found expands is-value = asks_value macros count at line found ts now (Some v) is-found expands is-value

asks_refusal : (macros : List Macro) (count : ℕ) (at : Pos) (line found : List Token) (now : ℕ) (e : Fault)
    → resolved macros line ≡ Some found → ExpandsTo macros count found (record { value = Err e; count = now })
    → Settles (λ steps. asked steps macros count at line) (record { value = Err e; count = now })
asks_refusal macros count at line found now e is-found expands =
    same_settles _ _ _ (λ n. ap (asked_of n macros count at) is-found)
    (refusal_settles (λ n. expanded_tokens n macros count found) (λ n ts now. valued at (condition n ts) now) e now expands)

-- the expansion is refused
pub asks_fault : (macros : List Macro) (count : ℕ) (at : Pos) (line found : List Token) (now : ℕ) (e : Fault)
    → resolved macros line ≡ Some found → FailsTo macros count found e now
    → Asks (Err e) now (λ steps. asked steps macros count at line)
asks_fault macros count at line found now (fault.Refused r) is-found fails = asks_refusal macros count at line found now (fault.Refused r) is-found fails
asks_fault macros count at line found now (fault.Missing n) is-found fails = asks_refusal macros count at line found now (fault.Missing n) is-found fails
asks_fault macros count at line found now fault.ReadFault is-found fails = asks_refusal macros count at line found now fault.ReadFault is-found fails
asks_fault macros count at line found now (fault.Limit l) is-found fails = asks_refusal macros count at line found now (fault.Limit l) is-found fails
asks_fault macros count at line found now (fault.TooLarge r n) is-found fails = asks_refusal macros count at line found now (fault.TooLarge r n) is-found fails
asks_fault macros count at line found now fault.NoMemory is-found fails = tt

fault_settles : (go : Bool → Situation → Situation) (s now : Situation) (f : ℕ → Option (Answer Bool)) (g : ℕ → Option Outcome) (e : Fault) (count : ℕ)
    → ((n : ℕ) → g n ≡ after go s (f n)) → Settles f (record { value = Err e; count = count }) → now ≡ with_tokens s count → Settles g (stops e now)
fault_settles go s now f g e count same p is-now =
    rw is-now (same_settles _ g _ same (map_settles f (after go s) (record { value = Err e; count = count }) (stops e (with_tokens s count)) refl p))

-- the condition is refused
pub obeys_fault : (go : Bool → Situation → Situation) (s : Situation) (now : Context) (f : ℕ → Option (Answer Bool)) (g : ℕ → Option Outcome) (e : Fault)
    → ((n : ℕ) → g n ≡ after go s (f n)) → Asks (Err e) now.known.tokens f → situation_of now ≡ with_tokens s now.known.tokens → ObeysIn (Err e) now g
obeys_fault go s now f g (fault.Refused r) same p is-now = fault_settles go s (situation_of now) f g (fault.Refused r) now.known.tokens same p is-now
obeys_fault go s now f g (fault.Missing n) same p is-now = fault_settles go s (situation_of now) f g (fault.Missing n) now.known.tokens same p is-now
obeys_fault go s now f g fault.ReadFault same p is-now = fault_settles go s (situation_of now) f g fault.ReadFault now.known.tokens same p is-now
obeys_fault go s now f g (fault.Limit l) same p is-now = fault_settles go s (situation_of now) f g (fault.Limit l) now.known.tokens same p is-now
obeys_fault go s now f g (fault.TooLarge r n) same p is-now = fault_settles go s (situation_of now) f g (fault.TooLarge r n) now.known.tokens same p is-now
obeys_fault go s now f g fault.NoMemory same p is-now = tt

pub elif_is : (at : Pos) (line : List Token) (s : Situation) (cs : List Conditional) (c : Conditional)
    → cs ≡ c ∷ drop 1 cs → c.last ≡ false → c.taken ≡ false → (n : ℕ)
    → elif_at n at line s cs ≡ after (λ v now. with_conditionals now (at_group c v ∷ drop 1 cs)) s (asked n s.macros s.known.tokens at line)
elif_is at line s cs c whole last taken n =
    ap (elif_at n at line s) whole ∙ ap (λ l. elif_by n at line s c (drop 1 cs) l c.taken) last ∙ ap (elif_by n at line s c (drop 1 cs) false) taken
