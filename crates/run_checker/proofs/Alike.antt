-- With more turns a body does the same, as far as there are as many actions as turns: each turn begins with a Tick.
use Rattle.std.proofs.Common.{◌≡◌, ℕ, ℤ, pos, negsuc, zero, suc, ◌+◌, ◌≤◌, nat_lt, Bool, true, false, List, [], ◌∷◌, Option, Some, None, refl, arith, if◌then◌else◌}
use Rattle.nm_base.specs.declared.action.Action.{Action}
use Rattle.nm_base.specs.declared.action.Action.TheVariants.{Load, Store, Tick}
use Rattle.nm_base.specs.declared.int_type.IntType.{IntType}
use Rattle.nm_base.specs.declared.int_type.IntType.TheVariants.{I8, U8, I16, U16, I32, U32}
use Rattle.nesc_core.specs.Plain.{Ty, void, int, pointer, array, struct}
use Rattle.nm_base.specs.Behaviour.{Behaviour, Returns, Does, Asks, Faults, Cut}
use Rattle.core_meaning.specs.Numbers.{is_zero}
use Rattle.core_meaning.specs.declared.flow.Flow.{Flow}
use Rattle.core_meaning.specs.declared.flow.Flow.TheVariants.{On, Broke, Continued, Gave}
use Rattle.core_meaning.specs.Flow.{on, again, turn, turns, from_case}
use Rattle.core_meaning.specs.declared.access.Where.{Where}
use Rattle.core_meaning.specs.declared.access.Where.TheVariants.{At, Within}
use Rattle.core_meaning.specs.Work.{Locals, Work, give, ◌>>=◌, act, ask, fault, or_fault, set_local, set_locals, moved, get, set, get_int, set_int, number_of, load, store}
use Rattle.core_meaning.specs.Act.{Calls, call, element, tested}

-- the same for their first k actions, and ended in the same way before that
abbrev pub Alike : ℕ → Behaviour → Behaviour → Type 0
Alike zero b c = Unit {0}
Alike (suc k) Cut c = c ≡ Cut
Alike (suc k) (Returns v) c = c ≡ Returns v
Alike (suc k) (Does a b) c = (b' : Behaviour) × ((c ≡ Does a b') × Alike k b b')
Alike (suc k) (Asks a b) c = (b' : ℕ → Behaviour) × ((c ≡ Asks a b') × ((x : ℕ) → Alike k (b x) (b' x)))
Alike (suc k) (Faults code) c = c ≡ Faults code

-- the same of work, whatever comes after it
pub record Agree {A : Type 0} (k : ℕ) (w w' : Work A) : Type 0 where
  pub by : (j : ℕ) → j ≤ k → (after after' : A → Locals → Behaviour) → ((i : ℕ) → i ≤ j → (x : A) (locals : Locals) → Alike i (after x locals) (after' x locals)) → (locals : Locals)
      → Alike j (w after locals) (w' after' locals)

pub record CallsAgree (k : ℕ) (c d : Calls) : Type 0 where
  pub by : (j : ℕ) → j ≤ k → (f : ℕ) (arguments : List ℤ) (after after' : ℤ → Behaviour) → ((i : ℕ) → i ≤ j → (v : ℤ) → Alike i (after v) (after' v))
      → Alike j (c f arguments after) (d f arguments after')

-- ---- pieces

none_alike : (j : ℕ) → j ≤ 0 → (b c : Behaviour) → Alike j b c
none_alike zero le b c = tt
none_alike (suc j) le b c = absurd (omega (arith, le))

pub cut_alike : (j : ℕ) → Alike j Cut Cut
cut_alike zero = tt
cut_alike (suc j) = refl

pub returns_alike : (j v : ℕ) → Alike j (Returns v) (Returns v)
returns_alike zero v = tt
returns_alike (suc j) v = refl

fewer : {A : Type 0} {k : ℕ} {w w' : Work A} → Agree (suc k) w w' → Agree k w w'
fewer h = record { by = λ j le. h.by j (omega (arith, le)) }

pub then_agrees : {A B : Type 0} {k : ℕ} {w w' : Work A} {f g : A → Work B} → Agree k w w' → ((x : A) → Agree k (f x) (g x)) → Agree k (◌>>=◌ w f) (◌>>=◌ w' g)
then_agrees h m = record { by = λ j le after after' r. h.by j le _ _ (λ i le_i x. (m x).by i (omega (arith, le, le_i)) after after' (λ n le_n. r n (omega (arith, le_n, le_i)))) }

pub give_agrees : {A : Type 0} {k : ℕ} (x : A) → Agree k (give x) (give x)
give_agrees x = record { by = λ j le after after' r locals. r j (omega arith) x locals }

pub act_agrees : {k : ℕ} (a : Action) → Agree k (act a) (act a)
act_agrees a = record { by = λ j le. at j }
  where
    at : (j : ℕ) (after after' : Unit {0} → Locals → Behaviour) → ((i : ℕ) → i ≤ j → (x : Unit {0}) (locals : Locals) → Alike i (after x locals) (after' x locals)) → (locals : Locals)
        → Alike j (Does a (after tt locals)) (Does a (after' tt locals))
    at zero after after' r locals = tt
    at (suc j) after after' r locals = (after' tt locals, (refl, r j (omega arith) tt locals))

pub ask_agrees : {k : ℕ} (a : Action) → Agree k (ask a) (ask a)
ask_agrees a = record { by = λ j le. at j }
  where
    at : (j : ℕ) (after after' : ℕ → Locals → Behaviour) → ((i : ℕ) → i ≤ j → (x : ℕ) (locals : Locals) → Alike i (after x locals) (after' x locals)) → (locals : Locals)
        → Alike j (Asks a (λ x. after x locals)) (Asks a (λ x. after' x locals))
    at zero after after' r locals = tt
    at (suc j) after after' r locals = ((λ x. after' x locals), (refl, λ x. r j (omega arith) x locals))

fault_alike : (j code : ℕ) → Alike j (Faults code) (Faults code)
fault_alike zero code = tt
fault_alike (suc j) code = refl

pub fault_agrees : {A : Type 0} {k : ℕ} (code : ℕ) → Agree k (fault {A = A} code) (fault code)
fault_agrees code = record { by = λ j le after after' r locals. fault_alike j code }

pub or_fault_agrees : {k : ℕ} (code : ℕ) (z : Option ℤ) → Agree k (or_fault code z) (or_fault code z)
or_fault_agrees code None = fault_agrees code
or_fault_agrees code (Some z) = give_agrees z

pub set_local_agrees : {k : ℕ} (x : ℕ) (bytes : List ℕ) → Agree k (set_local x bytes) (set_local x bytes)
set_local_agrees x bytes = record { by = λ j le after after' r locals. r j (omega arith) tt _ }

pub set_locals_agrees : {k : ℕ} (first : ℕ) (all : List (List ℕ)) → Agree k (set_locals first all) (set_locals first all)
set_locals_agrees first [] = give_agrees tt
set_locals_agrees first (bytes ∷ rest) = then_agrees (set_local_agrees first bytes) (λ _. set_locals_agrees (first + 1) rest)

pub if_agrees : {k : ℕ} {A : Type 0} (b : Bool) {v v' w w' : Work A} → Agree k v v' → Agree k w w' → Agree k (if b then v else w) (if b then v' else w')
if_agrees true h k = h
if_agrees false h k = k

pub tested_agrees : {k : ℕ} {w w' : Work ℤ} → Agree k w w' → Agree k (tested w) (tested w')
tested_agrees h = then_agrees h (λ v. give_agrees _)

pub call_agrees : {k : ℕ} {c d : Calls} → CallsAgree k c d → (f : ℕ) (arguments : List ℤ) → Agree k (call c f arguments) (call d f arguments)
call_agrees h f arguments = record { by = λ j le after after' r locals. h.by j le f arguments _ _ (λ i le_i v. r i le_i v locals) }

-- ---- accesses

get_agrees : {k : ℕ} (w : Where) (is_word : Bool) → Agree k (get w is_word) (get w is_word)
get_agrees (At a) is_word = ask_agrees (Load a is_word)
get_agrees (Within x o) false = record { by = λ j le after after' r locals. r j (omega arith) _ locals }
get_agrees (Within x o) true = record { by = λ j le after after' r locals. r j (omega arith) _ locals }

set_agrees : {k : ℕ} (w : Where) (is_word : Bool) (n : ℕ) → Agree k (set w is_word n) (set w is_word n)
set_agrees (At a) is_word n = act_agrees (Store a is_word n)
set_agrees (Within x o) false n = record { by = λ j le after after' r locals. r j (omega arith) tt _ }
set_agrees (Within x o) true n = record { by = λ j le after after' r locals. r j (omega arith) tt _ }

get_int_agrees : {k : ℕ} (t : IntType) (w : Where) → Agree k (get_int t w) (get_int t w)
get_int_agrees I8 w = get_agrees w false
get_int_agrees U8 w = get_agrees w false
get_int_agrees I16 w = get_agrees w true
get_int_agrees U16 w = get_agrees w true
get_int_agrees I32 w = then_agrees (get_agrees w true) (λ low. then_agrees (get_agrees (moved w 2) true) (λ high. give_agrees _))
get_int_agrees U32 w = then_agrees (get_agrees w true) (λ low. then_agrees (get_agrees (moved w 2) true) (λ high. give_agrees _))

set_int_agrees : {k : ℕ} (t : IntType) (w : Where) (n : ℕ) → Agree k (set_int t w n) (set_int t w n)
set_int_agrees I8 w n = set_agrees w false n
set_int_agrees U8 w n = set_agrees w false n
set_int_agrees I16 w n = set_agrees w true n
set_int_agrees U16 w n = set_agrees w true n
set_int_agrees I32 w n = then_agrees (set_agrees w true _) (λ _. set_agrees (moved w 2) true _)
set_int_agrees U32 w n = then_agrees (set_agrees w true _) (λ _. set_agrees (moved w 2) true _)

pub load_agrees : {k : ℕ} (t : Ty) (w : Where) → Agree k (load t w) (load t w)
load_agrees void w = then_agrees (get_agrees w true) (λ n. give_agrees _)
load_agrees (int t) w = then_agrees (get_int_agrees t w) (λ n. give_agrees _)
load_agrees (pointer t) w = then_agrees (get_agrees w true) (λ n. give_agrees _)
load_agrees (array t k) w = then_agrees (get_agrees w true) (λ n. give_agrees _)
load_agrees (struct k) w = then_agrees (get_agrees w true) (λ n. give_agrees _)

pub store_agrees : {k : ℕ} (t : Ty) (w : Where) (v : ℤ) → Agree k (store t w v) (store t w v)
store_agrees t w v = set_int_agrees (number_of t) w _

pub element_agrees : {k : ℕ} (count size : ℕ) (w : Where) (i : ℤ) → Agree k (element count size w i) (element count size w i)
element_agrees count size w (pos i) = if_agrees (nat_lt i count) (give_agrees _) (fault_agrees 1)
element_agrees count size w (negsuc i) = fault_agrees 1

-- ---- statements

pub on_agrees : {k : ℕ} (flow : Flow) {w w' : Work Flow} → Agree k w w' → Agree k (on flow w) (on flow w')
on_agrees On h = h
on_agrees Broke h = give_agrees Broke
on_agrees Continued h = give_agrees Continued
on_agrees (Gave v) h = give_agrees (Gave v)

again_agrees : {k : ℕ} (flow : Flow) {w w' : Work Flow} → Agree k w w' → Agree k (again flow w) (again flow w')
again_agrees On h = h
again_agrees Broke h = give_agrees On
again_agrees Continued h = h
again_agrees (Gave v) h = give_agrees (Gave v)

-- a Tick takes one action of the number
ticks : {A : Type 0} {k : ℕ} {w w' : Work A} → Agree k w w' → Agree (suc k) (◌>>=◌ (act Tick) (λ _. w)) (◌>>=◌ (act Tick) (λ _. w'))
ticks {A = A} {k = k} {w = w} {w' = w'} h = record { by = at }
  where
    at : (j : ℕ) → j ≤ suc k → (after after' : A → Locals → Behaviour) → ((i : ℕ) → i ≤ j → (x : A) (locals : Locals) → Alike i (after x locals) (after' x locals)) → (locals : Locals)
        → Alike j (Does Tick (w after locals)) (Does Tick (w' after' locals))
    at zero le after after' r locals = tt
    at (suc j) le after after' r locals = (w' after' locals, (refl, h.by j (omega (arith, le)) after after' (λ i le_i. r i (omega (arith, le_i))) locals))

turn_agrees : {k : ℕ} (first : Bool) {test test' : Work ℤ} {body body' : Work Flow} {step step' : Work (Unit {0})} {more more' : Work Flow}
    → Agree k test test' → Agree k body body' → Agree k step step' → Agree k more more'
    → Agree (suc k) (turn first test body step more) (turn first test' body' step' more')
turn_agrees true test body step more =
    ticks (then_agrees test (λ x. if_agrees (is_zero x) (give_agrees On)
    (then_agrees body (λ flow. again_agrees flow (then_agrees step (λ _. more))))))
turn_agrees false test body step more =
    ticks (then_agrees body (λ flow. again_agrees flow
    (then_agrees test (λ x. if_agrees (is_zero x) (give_agrees On) more))))

pub turns_agree : (k m n : ℕ) → k ≤ m → k ≤ n → (first : Bool) {test test' : Work ℤ} {body body' : Work Flow} {step step' : Work (Unit {0})}
    → Agree k test test' → Agree k body body' → Agree k step step'
    → Agree k (turns m first test body step) (turns n first test' body' step')
turns_agree zero m n low high first test body step = record { by = λ j le after after' r locals. none_alike j le _ _ }
turns_agree (suc k) zero n low high first test body step = absurd (omega (arith, low))
turns_agree (suc k) (suc m) zero low high first test body step = absurd (omega (arith, high))
turns_agree (suc k) (suc m) (suc n) low high first test body step =
    turn_agrees first (fewer test) (fewer body) (fewer step) (turns_agree k m n (omega (arith, low)) (omega (arith, high)) first (fewer test) (fewer body) (fewer step))

pub from_case_agrees : {k : ℕ} (case default : Option ℕ) {from from' : ℕ → Work Flow} → ((i : ℕ) → Agree k (from i) (from' i)) → Agree k (from_case case default from) (from_case case default from')
from_case_agrees (Some i) default h = h i
from_case_agrees None (Some i) h = h i
from_case_agrees None None h = give_agrees On
