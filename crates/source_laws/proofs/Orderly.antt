-- Bodies are orderly, form by form.
use Rattle.std.proofs.Common.{ℕ, ℤ, pos, negsuc, zero, suc, ◌+◌, Bool, true, false, List, [], ◌∷◌, length, take, drop, Option, Some, None, refl}
use Rattle.std.specs.Prelude.{if◌then◌else◌, nat_lt, slice_get, unsigned_abs}
use Rattle.nm_base.specs.declared.action.Action.TheVariants.{Tick, Out, In, Post}
use Rattle.nm_base.specs.Behaviour.{Behaviour, Returns, Does}
use Rattle.nm_base.specs.declared.action.Action.TheVariants.{Begin, End}
use Rattle.nm_base.specs.declared.int_type.IntType.{IntType}
use Rattle.nm_base.specs.declared.int_type.IntType.TheVariants.{I8, U8, I16, U16, I32, U32}
use Rattle.nm_base.specs.IntType.{wrapped}
use Rattle.nesc_core.specs.Plain.{Ty, Expr, Exprs, Place, Stmt, Stmts, Body, Program, no_exprs, more_exprs, no_stmts, more_stmts, void, int, pointer, array, struct}
use Rattle.nesc_core.specs.Plain as plain
use Rattle.nesc_core.specs.PlaceTypes.{place_type}
use Rattle.nesc_core.specs.Parts.{is_part}
use Rattle.nesc_core.specs.Heres.{gives_value}
use Rattle.core_meaning.specs.Numbers.{is_zero, binary, residue}
use Rattle.core_meaning.specs.declared.access.Where.{Where}
use Rattle.core_meaning.specs.declared.access.Where.TheVariants.{At, Within}
use Rattle.core_meaning.specs.declared.flow.Flow.{Flow}
use Rattle.core_meaning.specs.declared.flow.Flow.TheVariants.{On, Broke, Continued, Gave}
use Rattle.core_meaning.specs.Flow.{on, again, turn, turns, from_case, result, start_of_value, start_of_default}
use Rattle.core_meaning.specs.Work.{Locals, Work, give, ◌>>=◌, ◌>>◌, act, ask, fault, or_fault, set_local, set_locals, moved, get, set, get_long, set_long, get_int, set_int, number_of, load, store}
use Rattle.core_meaning.specs.Act.{Calls, call, tested, element, find, value, values, holding, fill, done, returned, run, run_from, enter, calls_of, root}
use Rattle.source_laws.specs.Orderly.{IsOrderly}

-- the work leaves as many statements open as there were, whatever comes after it
record Keeps {A : Type 0} (w : Work A) : Type 0 where
  by : (count : ℕ) (after : A → Locals → Behaviour) → ((x : A) (locals : Locals) → IsOrderly (after x locals) count) → (locals : Locals) → IsOrderly (w after locals) count

record CallKeeps (calls : Calls) (f : ℕ) : Type 0 where
  by : (count : ℕ) (arguments : List ℤ) (after : ℤ → Behaviour) → ((v : ℤ) → IsOrderly (after v) count) → IsOrderly (calls f arguments after) count

-- ---- pieces

then_keeps : {A B : Type 0} {w : Work A} {g : A → Work B} → Keeps w → ((x : A) → Keeps (g x)) → Keeps (◌>>=◌ w g)
then_keeps h k = record { by = λ count after r. h.by count _ (λ x. (k x).by count after r) }

give_keeps : {A : Type 0} (x : A) → Keeps (give x)
give_keeps x = record { by = λ count after r locals. r x locals }

fault_keeps : {A : Type 0} (code : ℕ) → Keeps (fault {A = A} code)
fault_keeps code = record { by = λ count after r locals. tt }

or_fault_keeps : (code : ℕ) (z : Option ℤ) → Keeps (or_fault code z)
or_fault_keeps code None = fault_keeps code
or_fault_keeps code (Some z) = give_keeps z

tick_keeps : Keeps (act Tick)
tick_keeps = record { by = λ count after r locals. r tt locals }

out_keeps : (port v : ℕ) → Keeps (act (Out port v))
out_keeps port v = record { by = λ count after r locals. r tt locals }

in_keeps : (port : ℕ) → Keeps (ask (In port))
in_keeps port = record { by = λ count after r locals. (tt, λ x. r x locals) }

post_keeps : (k : ℕ) → Keeps (ask (Post k))
post_keeps k = record { by = λ count after r locals. (tt, λ x. r x locals) }

set_local_keeps : (x : ℕ) (bytes : List ℕ) → Keeps (set_local x bytes)
set_local_keeps x bytes = record { by = λ count after r locals. r tt _ }

set_locals_keep : (first : ℕ) (all : List (List ℕ)) → Keeps (set_locals first all)
set_locals_keep first [] = give_keeps tt
set_locals_keep first (bytes ∷ rest) = then_keeps (set_local_keeps first bytes) (λ _. set_locals_keep (first + 1) rest)

if_keeps : {A : Type 0} {v w : Work A} (b : Bool) → Keeps v → Keeps w → Keeps (if b then v else w)
if_keeps true h k = h
if_keeps false h k = k

tested_keeps : {w : Work ℤ} → Keeps w → Keeps (tested w)
tested_keeps h = then_keeps h (λ v. give_keeps _)

call_keeps : {calls : Calls} {f : ℕ} (arguments : List ℤ) → CallKeeps calls f → Keeps (call calls f arguments)
call_keeps arguments h = record { by = λ count after r locals. h.by count arguments _ (λ v. r v locals) }

-- ---- accesses

get_keeps : (w : Where) (is_word : Bool) → Keeps (get w is_word)
get_keeps (At a) is_word = record { by = λ count after r locals. (tt, λ x. r x locals) }
get_keeps (Within x o) false = record { by = λ count after r locals. r _ locals }
get_keeps (Within x o) true = record { by = λ count after r locals. r _ locals }

set_keeps : (w : Where) (is_word : Bool) (n : ℕ) → Keeps (set w is_word n)
set_keeps (At a) is_word n = record { by = λ count after r locals. r tt locals }
set_keeps (Within x o) false n = record { by = λ count after r locals. r tt _ }
set_keeps (Within x o) true n = record { by = λ count after r locals. r tt _ }

get_long_keeps : (w : Where) → Keeps (get_long w)
get_long_keeps w = then_keeps (get_keeps w true) (λ x. then_keeps (get_keeps (moved w 2) true) (λ y. give_keeps _))

set_long_keeps : (w : Where) (n : ℕ) → Keeps (set_long w n)
set_long_keeps w n = then_keeps (set_keeps w true _) (λ _. set_keeps (moved w 2) true _)

get_int_keeps : (t : IntType) (w : Where) → Keeps (get_int t w)
get_int_keeps I8 w = get_keeps w false
get_int_keeps U8 w = get_keeps w false
get_int_keeps I16 w = get_keeps w true
get_int_keeps U16 w = get_keeps w true
get_int_keeps I32 w = get_long_keeps w
get_int_keeps U32 w = get_long_keeps w

set_int_keeps : (t : IntType) (w : Where) (n : ℕ) → Keeps (set_int t w n)
set_int_keeps I8 w n = set_keeps w false n
set_int_keeps U8 w n = set_keeps w false n
set_int_keeps I16 w n = set_keeps w true n
set_int_keeps U16 w n = set_keeps w true n
set_int_keeps I32 w n = set_long_keeps w n
set_int_keeps U32 w n = set_long_keeps w n

load_keeps : (t : Ty) (w : Where) → Keeps (load t w)
load_keeps void w = then_keeps (get_keeps w true) (λ n. give_keeps _)
load_keeps (int t) w = then_keeps (get_int_keeps t w) (λ n. give_keeps _)
load_keeps (pointer t) w = then_keeps (get_keeps w true) (λ n. give_keeps _)
load_keeps (array t n) w = then_keeps (get_keeps w true) (λ n. give_keeps _)
load_keeps (struct k) w = then_keeps (get_keeps w true) (λ n. give_keeps _)

store_keeps : (t : Ty) (w : Where) (v : ℤ) → Keeps (store t w v)
store_keeps t w v = set_int_keeps (number_of t) w _

element_keeps : (count size : ℕ) (w : Where) (i : ℤ) → Keeps (element count size w i)
element_keeps count size w (pos i) = if_keeps (nat_lt i count) (give_keeps _) (fault_keeps 1)
element_keeps count size w (negsuc i) = fault_keeps 1

-- ---- statements

on_keeps : (flow : Flow) {w : Work Flow} → Keeps w → Keeps (on flow w)
on_keeps On h = h
on_keeps Broke h = give_keeps Broke
on_keeps Continued h = give_keeps Continued
on_keeps (Gave v) h = give_keeps (Gave v)

again_keeps : (flow : Flow) {w : Work Flow} → Keeps w → Keeps (again flow w)
again_keeps On h = h
again_keeps Broke h = give_keeps On
again_keeps Continued h = h
again_keeps (Gave v) h = give_keeps (Gave v)

turn_keeps : (first : Bool) {test : Work ℤ} {body : Work Flow} {step : Work (Unit {0})} {more : Work Flow}
    → Keeps test → Keeps body → Keeps step → Keeps more → Keeps (turn first test body step more)
turn_keeps true test body step more =
    then_keeps tick_keeps (λ _. then_keeps test (λ x. if_keeps (is_zero x) (give_keeps On)
    (then_keeps body (λ flow. again_keeps flow (then_keeps step (λ _. more))))))
turn_keeps false test body step more =
    then_keeps tick_keeps (λ _. then_keeps body (λ flow. again_keeps flow
    (then_keeps test (λ x. if_keeps (is_zero x) (give_keeps On) more))))

turns_keep : (n : ℕ) (first : Bool) {test : Work ℤ} {body : Work Flow} {step : Work (Unit {0})}
    → Keeps test → Keeps body → Keeps step → Keeps (turns n first test body step)
turns_keep zero first test body step = record { by = λ count after r locals. tt }
turns_keep (suc n) first test body step = turn_keeps first test body step (turns_keep n first test body step)

from_case_keeps : (case default : Option ℕ) {from : ℕ → Work Flow} → ((k : ℕ) → Keeps (from k)) → Keeps (from_case case default from)
from_case_keeps (Some k) default h = h k
from_case_keeps None (Some k) h = h k
from_case_keeps None None h = give_keeps On

-- an atomic statement is open inside, and not behind
atomic_keeps : {w : Work Flow} → Keeps w → Keeps (λ after locals. Does Begin (w (λ flow l. Does End (after flow l)) locals))
atomic_keeps h = record { by = λ count after r locals. h.by (suc count) _ (λ flow l. r flow l) locals }

module _ (p : Program) (types : List Ty) (calls : Calls) (deeper : (f : ℕ) → CallKeeps calls f) where
  mutual
    find_keeps : (place : Place) → Keeps (find p types calls place)
    find_keeps (plain.object k) = give_keeps _
    find_keeps (plain.local x) = give_keeps _
    find_keeps (plain.deref e t) = then_keeps (value_keeps e) (λ a. if_keeps (is_part p t (unsigned_abs a)) (give_keeps _) (fault_keeps 2))
    find_keeps (plain.index place e) = then_keeps (find_keeps place) (λ w. then_keeps (value_keeps e) (λ x. element_keeps _ _ w x))
    find_keeps (plain.field place k) = then_keeps (find_keeps place) (λ w. give_keeps _)

    value_keeps : (e : Expr) → Keeps (value p types calls e)
    value_keeps (plain.const t x) = give_keeps _
    value_keeps plain.null = give_keeps _
    value_keeps (plain.read place at) = then_keeps (find_keeps place) (λ w. load_keeps (place_type p types place) w)
    value_keeps (plain.addr place) = then_keeps (find_keeps place) (λ w. give_keeps _)
    value_keeps (plain.un op t e) = then_keeps (value_keeps e) (λ x. give_keeps _)
    value_keeps (plain.bin op t a c) = then_keeps (value_keeps a) (λ x. then_keeps (value_keeps c) (λ y. or_fault_keeps 3 _))
    value_keeps (plain.convert t e) = then_keeps (value_keeps e) (λ x. give_keeps _)
    value_keeps (plain.offset a c size) = then_keeps (value_keeps a) (λ x. then_keeps (value_keeps c) (λ y. give_keeps _))
    value_keeps (plain.distance a c size) = then_keeps (value_keeps a) (λ x. then_keeps (value_keeps c) (λ y. give_keeps _))
    value_keeps (plain.both a c) = then_keeps (value_keeps a) (λ x. if_keeps (is_zero x) (give_keeps _) (tested_keeps (value_keeps c)))
    value_keeps (plain.either a c) = then_keeps (value_keeps a) (λ x. if_keeps (is_zero x) (tested_keeps (value_keeps c)) (give_keeps _))
    value_keeps (plain.choice test a c) = then_keeps (value_keeps test) (λ x. if_keeps (is_zero x) (value_keeps c) (value_keeps a))
    value_keeps (plain.assign place e at) =
        then_keeps (find_keeps place) (λ w. then_keeps (value_keeps e) (λ v. then_keeps (store_keeps (place_type p types place) w v) (λ _. give_keeps v)))
    value_keeps (plain.update place op t e gives_old at) =
        then_keeps (find_keeps place) (λ w. then_keeps (load_keeps (place_type p types place) w) (λ old. then_keeps (value_keeps e) (λ y.
        then_keeps {g = λ z. let new = wrapped (number_of (place_type p types place)) z in ◌>>◌ (store (place_type p types place) w new) (give (if gives_old then old else new))}
        (or_fault_keeps 3 (binary op t (wrapped t old) y)) (λ z. let new = wrapped (number_of (place_type p types place)) z in
        then_keeps (store_keeps (place_type p types place) w new) (λ _. give_keeps (if gives_old then old else new))))))
    value_keeps (plain.call f arguments at) =
        then_keeps (values_keep arguments) (λ vs. then_keeps tick_keeps (λ _. then_keeps (call_keeps vs (deeper f)) (λ v. then_keeps tick_keeps (λ _. give_keeps v))))
    value_keeps (plain.post k) = then_keeps (post_keeps k) (λ x. give_keeps _)
    value_keeps (plain.port_in port) = then_keeps (in_keeps port) (λ x. give_keeps _)
    value_keeps (plain.port_out port e) = then_keeps (value_keeps e) (λ v. then_keeps (out_keeps port _) (λ _. give_keeps v))
    value_keeps (plain.comma a c) = then_keeps (value_keeps a) (λ _. value_keeps c)

    values_keep : (es : Exprs) → Keeps (values p types calls es)
    values_keep no_exprs = give_keeps _
    values_keep (more_exprs e rest) = then_keeps (value_keeps e) (λ v. then_keeps (values_keep rest) (λ vs. give_keeps _))

  module _ (n : ℕ) where
    fill_keeps : (first count : ℕ) (vs : List ℤ) → Keeps (fill p types calls n first count vs)
    fill_keeps first count vs = set_locals_keep first (holding p.structs (take count (drop first types)) vs)

    done_keeps : (step : Option Expr) → Keeps (done p types calls n step)
    done_keeps None = give_keeps tt
    done_keeps (Some e) = then_keeps (value_keeps e) (λ _. give_keeps tt)

    returned_keeps : (e : Option Expr) → Keeps (returned p types calls n e)
    returned_keeps None = give_keeps _
    returned_keeps (Some e) = value_keeps e

    mutual
      run_keeps : (s : Stmt) → Keeps (run p types calls n s)
      run_keeps (plain.eval e) = then_keeps (value_keeps e) (λ _. give_keeps _)
      run_keeps (plain.block all) = run_from_keeps all zero
      run_keeps (plain.branch test x y) = then_keeps (value_keeps test) (λ v. if_keeps (is_zero v) (run_keeps y) (run_keeps x))
      run_keeps (plain.loop first test step body) = turns_keep n first (value_keeps test) (run_keeps body) (done_keeps step)
      run_keeps (plain.switch e cases all) =
          then_keeps (value_keeps e) (λ v. then_keeps (from_case_keeps (start_of_value cases v) (start_of_default cases) (run_from_keeps all)) (λ flow. give_keeps _))
      run_keeps plain.break = give_keeps _
      run_keeps plain.continue = give_keeps _
      run_keeps (plain.return e) = then_keeps (returned_keeps e) (λ v. give_keeps _)
      run_keeps (plain.atomic s) = atomic_keeps (run_keeps s)
      run_keeps (plain.clear x) = then_keeps (fill_keeps x 1 []) (λ _. give_keeps On)
      run_keeps (plain.here arguments first count body) =
          then_keeps (values_keep arguments) (λ vs. then_keeps (fill_keeps first count vs) (λ _. then_keeps tick_keeps (λ _.
          then_keeps (run_keeps body) (λ flow. then_keeps tick_keeps (λ _.
          then_keeps (if_keeps (gives_value body) (fill_keeps (first + count) 1 (result flow ∷ [])) (give_keeps tt)) (λ _. give_keeps On))))))

      run_from_keeps : (all : Stmts) (k : ℕ) → Keeps (run_from p types calls n all k)
      run_from_keeps no_stmts k = give_keeps _
      run_from_keeps (more_stmts s rest) zero = then_keeps (run_keeps s) (λ flow. on_keeps flow (run_from_keeps rest zero))
      run_from_keeps (more_stmts s rest) (suc k) = run_from_keeps rest k

-- ---- bodies

enter_keeps : (p : Program) (n : ℕ) (calls : Calls) → ((f : ℕ) → CallKeeps calls f) → (o : Option Body) (count : ℕ) (arguments : List ℤ) (after : ℤ → Behaviour)
    → ((v : ℤ) → IsOrderly (after v) count) → IsOrderly (enter p o calls n arguments after) count
enter_keeps p n calls deeper None count arguments after r = tt
enter_keeps p n calls deeper (Some b) count arguments after r = (run_keeps p b.locals calls deeper n b.code).by count _ (λ flow locals. r (result flow)) _

calls_keep : (p : Program) (n depth : ℕ) (f : ℕ) → CallKeeps (calls_of p depth n) f
calls_keep p n zero f = record { by = λ count arguments after r. tt }
calls_keep p n (suc depth) f = record { by = λ count arguments after r. enter_keeps p n (calls_of p depth n) (calls_keep p n depth) (slice_get p.bodies f) count arguments after r }

pub bodies_are_orderly : (p : Program) (f n : ℕ) → IsOrderly (root p f n) 0
bodies_are_orderly p f n = (calls_keep p n (length p.bodies) f).by 0 [] (λ v. Returns (residue 32 v)) (λ v. refl)
