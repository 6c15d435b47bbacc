-- An expression does the same whether a local that it does not name is set before it or behind it.
use Rattle.std.proofs.Common.{◌≡◌, ◌≢◌, ℕ, ◌+◌, ◌*◌, ◌/◌, ◌%◌, Bool, true, false, List, [], ◌∷◌, ◌++◌, All, Option, Some, None, refl, sym, ap, ◌∙◌, get_or-set_other}
use Rattle.std.proofs.Math.Path.{fun_ext}
use Rattle.std.proofs.lemmas.List.{set_comm}
use Rattle.std.proofs.lemmas.List.Elements.{All-head}
use Rattle.std.specs.Prelude.{ℤ, pos, negsuc, nat_lt, not, unsigned_abs, int_div, slice_get, slice_index, slice_index_or, slice_set, if◌then◌else◌, ◌+ℤ◌, ◌-ℤ◌, ◌*ℤ◌}
use Rattle.nm_base.specs.declared.int_type.IntType.{IntType}
use Rattle.nm_base.specs.declared.int_type.IntType.TheVariants.{I8, U8, I16, U16, I32, U32}
use Rattle.nm_base.specs.IntType.{width, wrapped}
use Rattle.nm_base.specs.declared.action.Action.TheVariants as action
use Rattle.nm_base.specs.Behaviour.{Behaviour, Does, Asks}
use Rattle.nesc_core.specs.Plain.{Ty, void, int, pointer, array, struct, Expr, Exprs, no_exprs, more_exprs, Place, Program}
use Rattle.nesc_core.specs.Plain as plain
use Rattle.nesc_core.specs.PlaceTypes.{place_type, element_of, count_of, field_offset}
use Rattle.nesc_core.specs.Parts.{is_part}
use Rattle.nesc_core.specs.Heres.{expr_locals, exprs_locals, place_locals}
use Rattle.core_meaning.specs.Numbers.{binary, residue, is_zero, truth, unary}
use Rattle.core_meaning.specs.Layout.{object_address, size_of}
use Rattle.core_meaning.specs.declared.access.Where.{Where}
use Rattle.core_meaning.specs.declared.access.Where.TheVariants.{At, Within}
use Rattle.core_meaning.specs.Work.{Locals, Work, address_of, fault, get, get_int, get_long, give, load, moved, number_of, or_fault, set, set_int, set_long, store}
use Rattle.core_meaning.specs.Act.{Calls, element, find, value, values}
use Rattle.lower_stmt.proofs.Common.{both_of}

-- ---- local y gets these bytes, behind the work in place of before it

module _ (p : Program) (types : List Ty) (calls : Calls) (y : ℕ) (bytes : List ℕ) where
  abbrev pub with_set : Locals → Locals
  with_set env = slice_set env y bytes

  -- what follows does not tell it
  abbrev Alike : {A : Type 0} → (A → Locals → Behaviour) → (A → Locals → Behaviour) → Type 0
  Alike {A} k k' = (x : A) (env : Locals) → k x (with_set env) ≡ k' x env

  -- work that leaves the local alone
  abbrev pub Leaves : {A : Type 0} → Work A → Type 0
  Leaves {A} work = (k k' : A → Locals → Behaviour) (env : Locals) → ((x : A) (env : Locals) → k x (with_set env) ≡ k' x env) → work k (with_set env) ≡ work k' env

  -- ---- accesses

  abbrev Avoids : Where → Type 0
  Avoids (At a) = Unit {0}
  Avoids (Within x o) = x ≢ y

  avoids_moved : (w : Where) (n : ℕ) → Avoids w → Avoids (moved w n)
  avoids_moved (At a) n h = tt
  avoids_moved (Within x o) n h = h

  bytes_there : (x : ℕ) (env : Locals) → x ≢ y → slice_index_or (with_set env) x [] ≡ slice_index_or env x []
  bytes_there x env other = get_or-set_other env y x bytes [] other

  get_leaves : (w : Where) (is_word : Bool) → Avoids w → Leaves (get w is_word)
  get_leaves (At a) is_word h k k' env e = ap (Asks (action.Load a is_word)) (fun_ext (λ x. e x env))
  get_leaves (Within x o) false h k k' env e =
      ap (λ (l : List ℕ). k (slice_index l o) (with_set env)) (bytes_there x env h) ∙ e (slice_index (slice_index_or env x []) o) env
  get_leaves (Within x o) true h k k' env e =
      ap (λ (l : List ℕ). k (slice_index l o + 256 * slice_index l (o + 1)) (with_set env)) (bytes_there x env h)
      ∙ e (slice_index (slice_index_or env x []) o + 256 * slice_index (slice_index_or env x []) (o + 1)) env

  written_leaves : (x : ℕ) (f : List ℕ → List ℕ) (k k' : Unit {0} → Locals → Behaviour) (env : Locals) → x ≢ y → ((u : Unit {0}) (env : Locals) → k u (with_set env) ≡ k' u env) →
      k tt (slice_set (with_set env) x (f (slice_index_or (with_set env) x []))) ≡ k' tt (slice_set env x (f (slice_index_or env x [])))
  written_leaves x f k k' env other e =
      let new : List ℕ = f (slice_index_or env x []) in
      ap (λ (l : List ℕ). k tt (slice_set (with_set env) x (f l))) (bytes_there x env other) ∙ ap (k tt) (set_comm env y x bytes new (λ q. other (sym q))) ∙ e tt (slice_set env x new)

  set_leaves : (w : Where) (is_word : Bool) (n : ℕ) → Avoids w → Leaves (set w is_word n)
  set_leaves (At a) is_word n h k k' env e = ap (Does (action.Store a is_word n)) (e tt env)
  set_leaves (Within x o) false n h k k' env e = written_leaves x (λ l. slice_set l o n) k k' env h e
  set_leaves (Within x o) true n h k k' env e = written_leaves x (λ l. slice_set (slice_set l o (n % 256)) (o + 1) (n / 256)) k k' env h e

  long_leaves : (w : Where) → Avoids w → Leaves (get_long w)
  long_leaves w h k k' env e =
      get_leaves w true h (λ low. get (moved w 2) true (λ high. k (low + 65536 * high))) (λ low. get (moved w 2) true (λ high. k' (low + 65536 * high))) env
      (λ low env1. get_leaves (moved w 2) true (avoids_moved w 2 h) (λ high. k (low + 65536 * high)) (λ high. k' (low + 65536 * high)) env1 (λ high env2. e (low + 65536 * high) env2))

  set_long_leaves : (w : Where) (n : ℕ) → Avoids w → Leaves (set_long w n)
  set_long_leaves w n h k k' env e =
      set_leaves w true (n % 65536) h (λ _. set (moved w 2) true (n / 65536) k) (λ _. set (moved w 2) true (n / 65536) k') env
      (λ _ env1. set_leaves (moved w 2) true (n / 65536) (avoids_moved w 2 h) k k' env1 e)

  get_int_leaves : (t : IntType) (w : Where) → Avoids w → Leaves (get_int t w)
  get_int_leaves I8 w h k k' env e = get_leaves w false h k k' env e
  get_int_leaves U8 w h k k' env e = get_leaves w false h k k' env e
  get_int_leaves I16 w h k k' env e = get_leaves w true h k k' env e
  get_int_leaves U16 w h k k' env e = get_leaves w true h k k' env e
  get_int_leaves I32 w h k k' env e = long_leaves w h k k' env e
  get_int_leaves U32 w h k k' env e = long_leaves w h k k' env e

  set_int_leaves : (t : IntType) (w : Where) (n : ℕ) → Avoids w → Leaves (set_int t w n)
  set_int_leaves I8 w n h k k' env e = set_leaves w false n h k k' env e
  set_int_leaves U8 w n h k k' env e = set_leaves w false n h k k' env e
  set_int_leaves I16 w n h k k' env e = set_leaves w true n h k k' env e
  set_int_leaves U16 w n h k k' env e = set_leaves w true n h k k' env e
  set_int_leaves I32 w n h k k' env e = set_long_leaves w n h k k' env e
  set_int_leaves U32 w n h k k' env e = set_long_leaves w n h k k' env e

  load_leaves : (t : Ty) (w : Where) → Avoids w → Leaves (load t w)
  load_leaves void w h k k' env e = get_leaves w true h (λ n. k (pos n)) (λ n. k' (pos n)) env (λ n. e (pos n))
  load_leaves (int t) w h k k' env e = get_int_leaves t w h (λ n. k (wrapped t (pos n))) (λ n. k' (wrapped t (pos n))) env (λ n. e (wrapped t (pos n)))
  load_leaves (pointer t) w h k k' env e = get_leaves w true h (λ n. k (pos n)) (λ n. k' (pos n)) env (λ n. e (pos n))
  load_leaves (array t m) w h k k' env e = get_leaves w true h (λ n. k (pos n)) (λ n. k' (pos n)) env (λ n. e (pos n))
  load_leaves (struct j) w h k k' env e = get_leaves w true h (λ n. k (pos n)) (λ n. k' (pos n)) env (λ n. e (pos n))

  store_leaves : (t : Ty) (w : Where) (v : ℤ) → Avoids w → Leaves (store t w v)
  store_leaves t w v h k k' env e = set_int_leaves (number_of t) w (residue (width (number_of t)) v) h k k' env e

  -- ---- forms

  or_leaves : (code : ℕ) (o : Option ℤ) → Leaves (or_fault code o)
  or_leaves code None k k' env e = refl
  or_leaves code (Some z) k k' env e = e z env

  if_leaves : {A : Type 0} (b : Bool) (yes_work no_work : Work A) → Leaves yes_work → Leaves no_work → Leaves (if b then yes_work else no_work)
  if_leaves true yes_work no_work hy hn k k' env e = hy k k' env e
  if_leaves false yes_work no_work hy hn k k' env e = hn k k' env e

  -- what follows a place
  abbrev AlikeBehind : (Where → Locals → Behaviour) → (Where → Locals → Behaviour) → Type 0
  AlikeBehind k k' = (w : Where) (env : Locals) → Avoids w → k w (with_set env) ≡ k' w env

  element_leaves : (count size : ℕ) (w : Where) (i : ℤ) (k k' : Where → Locals → Behaviour) (env : Locals) → Avoids w → AlikeBehind k k' → element count size w i k (with_set env) ≡ element count size w i k' env
  element_leaves count size w (pos i) k k' env h e = by (nat_lt i count)
    where
      by : (b : Bool) → (if b then give (moved w (i * size)) else fault 1) k (with_set env) ≡ (if b then give (moved w (i * size)) else fault 1) k' env
      by true = e (moved w (i * size)) env (avoids_moved w (i * size) h)
      by false = refl
  element_leaves count size w (negsuc i) k k' env h e = refl

  part_leaves : (b : Bool) (a : ℕ) (k k' : Where → Locals → Behaviour) (env : Locals) → AlikeBehind k k' → (if b then give (At a) else fault 2) k (with_set env) ≡ (if b then give (At a) else fault 2) k' env
  part_leaves true a k k' env e = e (At a) env tt
  part_leaves false a k k' env e = refl

  abbrev Others : List ℕ → Type 0
  Others xs = All (λ x. x ≢ y) xs

  mutual
    find_leaves : (place : Place) → Others (place_locals place) → (k k' : Where → Locals → Behaviour) (env : Locals) → AlikeBehind k k' → find p types calls place k (with_set env) ≡ find p types calls place k' env
    find_leaves (plain.object j) h k k' env e = e (At (object_address (slice_get p.objects j))) env tt
    find_leaves (plain.local x) h k k' env e = e (Within x 0) env (All-head (λ z. z ≢ y) x [] h)
    find_leaves (plain.deref a t) h k k' env e =
        value_leaves a h (λ z. (if is_part p t (unsigned_abs z) then give (At (unsigned_abs z)) else fault 2) k) (λ z. (if is_part p t (unsigned_abs z) then give (At (unsigned_abs z)) else fault 2) k') env
        (λ z env1. part_leaves (is_part p t (unsigned_abs z)) (unsigned_abs z) k k' env1 e)
    find_leaves (plain.index place a) h k k' env e =
        let both = both_of (λ z. z ≢ y) (place_locals place) (expr_locals a) h in
        let count : ℕ = count_of (place_type p types place) in
        let size : ℕ = size_of p (element_of (place_type p types place)) in
        find_leaves place both.0 (λ w. value p types calls a (λ i. element count size w i k)) (λ w. value p types calls a (λ i. element count size w i k')) env
        (λ w env1 there. value_leaves a both.1 (λ i. element count size w i k) (λ i. element count size w i k') env1 (λ i env2. element_leaves count size w i k k' env2 there e))
    find_leaves (plain.field place j) h k k' env e =
        let o : ℕ = field_offset p.structs (place_type p types place) j in
        find_leaves place h (λ w. k (moved w o)) (λ w. k' (moved w o)) env (λ w env1 there. e (moved w o) env1 (avoids_moved w o there))

    pub value_leaves : (a : Expr) → Others (expr_locals a) → (k k' : ℤ → Locals → Behaviour) (env : Locals) → ((v : ℤ) (env : Locals) → k v (with_set env) ≡ k' v env) →
        value p types calls a k (with_set env) ≡ value p types calls a k' env
    value_leaves (plain.const t n) h k k' env e = e n env
    value_leaves plain.null h k k' env e = e (pos 0) env
    value_leaves (plain.read place at) h k k' env e =
        let ty : Ty = place_type p types place in
        find_leaves place h (λ w. load ty w k) (λ w. load ty w k') env (λ w env1 there. load_leaves ty w there k k' env1 e)
    value_leaves (plain.addr place) h k k' env e = find_leaves place h (λ w. k (pos (address_of w))) (λ w. k' (pos (address_of w))) env (λ w env1 there. e (pos (address_of w)) env1)
    value_leaves (plain.un op t a) h k k' env e = value_leaves a h (λ x. k (unary op t x)) (λ x. k' (unary op t x)) env (λ x. e (unary op t x))
    value_leaves (plain.bin op t a b) h k k' env e =
        let both = both_of (λ z. z ≢ y) (expr_locals a) (expr_locals b) h in
        value_leaves a both.0 (λ x. value p types calls b (λ z. or_fault 3 (binary op t x z) k)) (λ x. value p types calls b (λ z. or_fault 3 (binary op t x z) k')) env
        (λ x env1. value_leaves b both.1 (λ z. or_fault 3 (binary op t x z) k) (λ z. or_fault 3 (binary op t x z) k') env1 (λ z env2. or_leaves 3 (binary op t x z) k k' env2 e))
    value_leaves (plain.convert t a) h k k' env e = value_leaves a h (λ x. k (wrapped t x)) (λ x. k' (wrapped t x)) env (λ x. e (wrapped t x))
    value_leaves (plain.offset a b size) h k k' env e =
        let both = both_of (λ z. z ≢ y) (expr_locals a) (expr_locals b) h in
        value_leaves a both.0 (λ x. value p types calls b (λ z. k (wrapped U16 (x +ℤ z *ℤ pos size)))) (λ x. value p types calls b (λ z. k' (wrapped U16 (x +ℤ z *ℤ pos size)))) env
        (λ x env1. value_leaves b both.1 (λ z. k (wrapped U16 (x +ℤ z *ℤ pos size))) (λ z. k' (wrapped U16 (x +ℤ z *ℤ pos size))) env1 (λ z. e (wrapped U16 (x +ℤ z *ℤ pos size))))
    value_leaves (plain.distance a b size) h k k' env e =
        let both = both_of (λ z. z ≢ y) (expr_locals a) (expr_locals b) h in
        value_leaves a both.0 (λ x. value p types calls b (λ z. k (int_div (wrapped I16 (x -ℤ z)) (pos size)))) (λ x. value p types calls b (λ z. k' (int_div (wrapped I16 (x -ℤ z)) (pos size)))) env
        (λ x env1. value_leaves b both.1 (λ z. k (int_div (wrapped I16 (x -ℤ z)) (pos size))) (λ z. k' (int_div (wrapped I16 (x -ℤ z)) (pos size))) env1 (λ z. e (int_div (wrapped I16 (x -ℤ z)) (pos size))))
    value_leaves (plain.both a b) h k k' env e =
        let both = both_of (λ z. z ≢ y) (expr_locals a) (expr_locals b) h in
        let second : Work ℤ = λ q. value p types calls b (λ z. q (truth (not (is_zero z)))) in
        value_leaves a both.0 (λ x. (if is_zero x then give (pos 0) else second) k) (λ x. (if is_zero x then give (pos 0) else second) k') env
        (λ x env1. if_leaves (is_zero x) (give (pos 0)) second (λ q q' env2 d. d (pos 0) env2)
        (λ q q' env2 d. value_leaves b both.1 (λ z. q (truth (not (is_zero z)))) (λ z. q' (truth (not (is_zero z)))) env2 (λ z. d (truth (not (is_zero z))))) k k' env1 e)
    value_leaves (plain.either a b) h k k' env e =
        let both = both_of (λ z. z ≢ y) (expr_locals a) (expr_locals b) h in
        let second : Work ℤ = λ q. value p types calls b (λ z. q (truth (not (is_zero z)))) in
        value_leaves a both.0 (λ x. (if is_zero x then second else give (pos 1)) k) (λ x. (if is_zero x then second else give (pos 1)) k') env
        (λ x env1. if_leaves (is_zero x) second (give (pos 1))
        (λ q q' env2 d. value_leaves b both.1 (λ z. q (truth (not (is_zero z)))) (λ z. q' (truth (not (is_zero z)))) env2 (λ z. d (truth (not (is_zero z))))) (λ q q' env2 d. d (pos 1) env2) k k' env1 e)
    value_leaves (plain.choice test a b) h k k' env e =
        let two = both_of (λ z. z ≢ y) (expr_locals test ++ expr_locals a) (expr_locals b) h in
        let one = both_of (λ z. z ≢ y) (expr_locals test) (expr_locals a) two.0 in
        value_leaves test one.0 (λ x. (if is_zero x then value p types calls b else value p types calls a) k) (λ x. (if is_zero x then value p types calls b else value p types calls a) k') env
        (λ x env1. if_leaves (is_zero x) (value p types calls b) (value p types calls a) (λ q q' env2 d. value_leaves b two.1 q q' env2 d) (λ q q' env2 d. value_leaves a one.1 q q' env2 d) k k' env1 e)
    value_leaves (plain.assign place a at) h k k' env e =
        let both = both_of (λ z. z ≢ y) (place_locals place) (expr_locals a) h in
        let ty : Ty = place_type p types place in
        find_leaves place both.0 (λ w. value p types calls a (λ v. store ty w v (λ _. k v))) (λ w. value p types calls a (λ v. store ty w v (λ _. k' v))) env
        (λ w env1 there. value_leaves a both.1 (λ v. store ty w v (λ _. k v)) (λ v. store ty w v (λ _. k' v)) env1 (λ v env2. store_leaves ty w v there (λ _. k v) (λ _. k' v) env2 (λ _. e v)))
    value_leaves (plain.update place op t a gives_old at) h k k' env e =
        let both = both_of (λ z. z ≢ y) (place_locals place) (expr_locals a) h in
        let ty : Ty = place_type p types place in
        let last : (q : ℤ → Locals → Behaviour) → Where → ℤ → ℤ → Locals → Behaviour = λ q w old z. store ty w (wrapped (number_of ty) z) (λ _. q (if gives_old then old else wrapped (number_of ty) z)) in
        find_leaves place both.0
        (λ w. load ty w (λ old. value p types calls a (λ x. or_fault 3 (binary op t (wrapped t old) x) (λ z. last k w old z))))
        (λ w. load ty w (λ old. value p types calls a (λ x. or_fault 3 (binary op t (wrapped t old) x) (λ z. last k' w old z)))) env
        (λ w env1 there. load_leaves ty w there (λ old. value p types calls a (λ x. or_fault 3 (binary op t (wrapped t old) x) (λ z. last k w old z)))
        (λ old. value p types calls a (λ x. or_fault 3 (binary op t (wrapped t old) x) (λ z. last k' w old z))) env1
        (λ old env2. value_leaves a both.1 (λ x. or_fault 3 (binary op t (wrapped t old) x) (λ z. last k w old z)) (λ x. or_fault 3 (binary op t (wrapped t old) x) (λ z. last k' w old z)) env2
        (λ x env3. or_leaves 3 (binary op t (wrapped t old) x) (λ z. last k w old z) (λ z. last k' w old z) env3
        (λ z env4. store_leaves ty w (wrapped (number_of ty) z) there (λ _. k (if gives_old then old else wrapped (number_of ty) z)) (λ _. k' (if gives_old then old else wrapped (number_of ty) z)) env4
        (λ _. e (if gives_old then old else wrapped (number_of ty) z))))))
    value_leaves (plain.call f arguments at) h k k' env e =
        values_leaves arguments h (λ vs env1. Does action.Tick (calls f vs (λ v. Does action.Tick (k v env1)))) (λ vs env1. Does action.Tick (calls f vs (λ v. Does action.Tick (k' v env1)))) env
        (λ vs env1. ap (λ b. Does action.Tick (calls f vs b)) (fun_ext (λ v. ap (Does action.Tick) (e v env1))))
    value_leaves (plain.post j) h k k' env e = ap (Asks (action.Post j)) (fun_ext (λ x. e (wrapped U8 (pos x)) env))
    value_leaves (plain.port_in port) h k k' env e = ap (Asks (action.In port)) (fun_ext (λ x. e (pos x) env))
    value_leaves (plain.port_out port a) h k k' env e =
        value_leaves a h (λ v env1. Does (action.Out port (residue 16 v)) (k v env1)) (λ v env1. Does (action.Out port (residue 16 v)) (k' v env1)) env
        (λ v env1. ap (Does (action.Out port (residue 16 v))) (e v env1))
    value_leaves (plain.comma a b) h k k' env e =
        let both = both_of (λ z. z ≢ y) (expr_locals a) (expr_locals b) h in
        value_leaves a both.0 (λ _. value p types calls b k) (λ _. value p types calls b k') env (λ _ env1. value_leaves b both.1 k k' env1 e)

    pub values_leaves : (es : Exprs) → Others (exprs_locals es) → (k k' : List ℤ → Locals → Behaviour) (env : Locals) → ((vs : List ℤ) (env : Locals) → k vs (with_set env) ≡ k' vs env) →
        values p types calls es k (with_set env) ≡ values p types calls es k' env
    values_leaves no_exprs h k k' env e = e [] env
    values_leaves (more_exprs a rest) h k k' env e =
        let both = both_of (λ z. z ≢ y) (expr_locals a) (exprs_locals rest) h in
        value_leaves a both.0 (λ v. values p types calls rest (λ vs. k (v ∷ vs))) (λ v. values p types calls rest (λ vs. k' (v ∷ vs))) env
        (λ v env1. values_leaves rest both.1 (λ vs. k (v ∷ vs)) (λ vs. k' (v ∷ vs)) env1 (λ vs. e (v ∷ vs)))
