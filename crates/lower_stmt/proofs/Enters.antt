-- A value becomes that of a local: an argument of an inlined call as soon as it is there, or the call's result.
use Rattle.std.proofs.Common.{◌≡◌, ◌≢◌, ℕ, zero, suc, ◌+◌, ◌-◌, ◌*◌, ◌/◌, ◌%◌, ◌<◌, ◌≤◌, Bool, true, false, List, [], ◌∷◌, ◌++◌, All, length, take, drop, Option, Some, None, refl, sym, ap, ◌∙◌, subst, arith}
use Rattle.std.specs.Prelude.{ℤ, slice_get, slice_index_or, slice_set, if◌then◌else◌}
use Rattle.std.proofs.Math.Path.{fun_ext}
use Rattle.nm_base.specs.declared.int_type.IntType.{IntType}
use Rattle.nm_base.specs.declared.int_type.IntType.TheVariants.{I8, U8, I16, U16, I32, U32}
use Rattle.nm_base.specs.Behaviour.{Behaviour}
use Rattle.nesc_core.specs.declared.tree.BinOp.{BinOp}
use Rattle.nesc_core.specs.Plain.{Ty, void, int, pointer, array, struct, Expr, Exprs, no_exprs, more_exprs, Body, Program}
use Rattle.nesc_core.specs.Plain as plain
use Rattle.nesc_core.specs.Typing.{AllHave, Has, IsCallable, IsPointer, IsScalar, IsStepped, IsUpdated}
use Rattle.nesc_core.specs.Typing as typing
use Rattle.nesc_core.specs.WellFormed.{IsWellFormed, count_exprs}
use Rattle.nesc_core.specs.Heres.{expr_locals, exprs_locals}
use Rattle.nesc_core.specs.Derefs.{expr_derefs, exprs_derefs}
use Rattle.nesc_core.specs.Calls.{expr_calls, exprs_calls}
use Rattle.core_meaning.specs.Numbers.{residue}
use Rattle.core_meaning.specs.Layout.{size_of}
use Rattle.core_meaning.specs.declared.access.Where.TheVariants.{Within}
use Rattle.core_meaning.specs.Work.{Locals, bytes_of, number_of, set_locals, store}
use Rattle.core_meaning.specs.Act.{holding, value, values as values_of}
use Rattle.mid_code.specs.Machine.{put}
use Rattle.mid_code.specs.Runs.{Runs, Stands}
use Rattle.mid_code.proofs.Stands.{split}
use Rattle.mid_code.proofs.Written.{put_same, put_other}
use Rattle.lower_expr.specs.declared.spot.Spot.{Spot}
use Rattle.lower_expr.specs.declared.spot.Spot.TheVariants.{Values, Frame}
use Rattle.lower_expr.specs.Held.{IsHeld}
use Rattle.lower_expr.specs.Locals.{LocalIsHeld}
use Rattle.lower_expr.specs.Code.{expr_code, is_void, kind_of_spot, labels, local_code, put_code}
use Rattle.lower_expr.proofs.Called.{body_formed}
use Rattle.lower_expr.proofs.Found.{IsFound, as_number, found_still}
use Rattle.lower_expr.proofs.Kept.{byte_small, four_bytes, one_byte, two_bytes, written_twice}
use Rattle.lower_expr.proofs.Numbers.{low_small, rest_small}
use Rattle.lower_expr.proofs.Pieces.{set_runs}
use Rattle.lower_expr.proofs.Stores.{written_runs}
use Rattle.lower_expr.proofs.Values.{holds_put, keeps_refl}
use Rattle.lower_stmt.specs.Code.{clears_code, enter_code}
use Rattle.lower_stmt.specs.Runs.{AreHeld, Setting, code, here}
use Rattle.lower_stmt.proofs.Common.{GoesOn, Ready, behind, both_of, two_ready, value_runs}
use Rattle.lower_stmt.proofs.Clears.{bytes_long, clear_runs, set_to_itself}
use Rattle.lower_stmt.proofs.Apart.{values_leaves}

-- ---- bytes of a number

one_is : (l : List ℕ) (n : ℕ) → length l ≡ 1 → n < 256 → one_byte l n ≡ bytes_of 1 n
one_is [] n e lt = absurd (omega (arith, e))
one_is (a ∷ []) n e lt = let same : n ≡ n % 256 = omega (arith, lt) in ap (λ x. x ∷ []) same
one_is (a ∷ b ∷ l) n e lt = absurd (omega (arith, e))

two_is : (l : List ℕ) (n : ℕ) → length l ≡ 2 → n < 65536 → two_bytes l n ≡ bytes_of 2 n
two_is [] n e lt = absurd (omega (arith, e))
two_is (a ∷ []) n e lt = absurd (omega (arith, e))
two_is (a ∷ b ∷ []) n e lt = let same : n / 256 ≡ n / 256 % 256 = omega (arith, lt) in ap (λ x. n % 256 ∷ x ∷ []) same
two_is (a ∷ b ∷ d ∷ l) n e lt = absurd (omega (arith, e))

four_is : (l : List ℕ) (n : ℕ) → length l ≡ 4 → n < 4294967296 → four_bytes l n ≡ bytes_of 4 n
four_is [] n e lt = absurd (omega (arith, e))
four_is (a ∷ []) n e lt = absurd (omega (arith, e))
four_is (a ∷ b ∷ []) n e lt = absurd (omega (arith, e))
four_is (a ∷ b ∷ d ∷ []) n e lt = absurd (omega (arith, e))
four_is (a ∷ b ∷ d ∷ f ∷ []) n e lt =
    let e0 : n % 65536 % 256 ≡ n % 256 = omega arith in
    let e1 : n % 65536 / 256 ≡ n / 256 % 256 = omega arith in
    let e2 : n / 65536 % 256 ≡ n / 256 / 256 % 256 = omega arith in
    let e3 : n / 65536 / 256 ≡ n / 256 / 256 / 256 % 256 = omega (arith, lt) in
    ap (λ x. x ∷ n % 65536 / 256 ∷ n / 65536 % 256 ∷ n / 65536 / 256 ∷ []) e0 ∙ ap (λ x. n % 256 ∷ x ∷ n / 65536 % 256 ∷ n / 65536 / 256 ∷ []) e1
    ∙ ap (λ x. n % 256 ∷ n / 256 % 256 ∷ x ∷ n / 65536 / 256 ∷ []) e2 ∙ ap (λ x. n % 256 ∷ n / 256 % 256 ∷ n / 256 / 256 % 256 ∷ x ∷ []) e3
four_is (a ∷ b ∷ d ∷ f ∷ g ∷ l) n e lt = absurd (omega (arith, e))

-- to store a number in a whole local is to give the local its bytes
module _ (p : Program) (x : ℕ) (v : ℤ) (k : Unit {0} → Locals → Behaviour) (env : Locals) (inside : x < length env) where
  abbrev old : List ℕ
  old = slice_index_or env x []

  byte_store : length old ≡ 1 → k tt (slice_set env x (one_byte old (residue 8 v))) ≡ k tt (slice_set env x (bytes_of 1 (residue 8 v)))
  byte_store e = ap (λ b. k tt (slice_set env x b)) (one_is old (residue 8 v) e (byte_small v))

  word_store : length old ≡ 2 → k tt (slice_set env x (two_bytes old (residue 16 v))) ≡ k tt (slice_set env x (bytes_of 2 (residue 16 v)))
  word_store e = ap (λ b. k tt (slice_set env x b)) (two_is old (residue 16 v) e (low_small v))

  long_store : (t : IntType) → length old ≡ 4 →
      k tt (slice_set (slice_set env x (two_bytes old (residue 32 v % 65536))) x
      (slice_set (slice_set (slice_index_or (slice_set env x (two_bytes old (residue 32 v % 65536))) x []) 2 (residue 32 v / 65536 % 256)) 3 (residue 32 v / 65536 / 256)))
      ≡ k tt (slice_set env x (bytes_of 4 (residue 32 v)))
  long_store t e = ap (k tt) (written_twice env x (residue 32 v) inside) ∙ ap (λ b. k tt (slice_set env x b)) (four_is old (residue 32 v) e (rest_small v))

  store_local : (ty : Ty) → IsScalar ty → length old ≡ size_of p ty → store ty (Within x 0) v k env ≡ k tt (slice_set env x (bytes_of (size_of p ty) (residue (8 * size_of p ty) v)))
  store_local void ok e = absurd ok
  store_local (int I8) ok e = byte_store e
  store_local (int U8) ok e = byte_store e
  store_local (int I16) ok e = word_store e
  store_local (int U16) ok e = word_store e
  store_local (int I32) ok e = long_store I32 e
  store_local (int U32) ok e = long_store U32 e
  store_local (pointer t) ok e = word_store e
  store_local (array t m) ok e = absurd ok
  store_local (struct j) ok e = absurd ok

-- ---- types of values

pub scalar_result : (ty : Ty) → IsScalar ty → typing.IsResult ty
scalar_result void h = absurd h
scalar_result (int t) h = tt
scalar_result (pointer t) h = tt
scalar_result (array t m) h = absurd h
scalar_result (struct j) h = absurd h

result_scalar : (ty : Ty) → typing.IsResult ty → is_void ty ≡ false → IsScalar ty
result_scalar void h e = absurd (cc)
result_scalar (int t) h e = tt
result_scalar (pointer t) h e = tt
result_scalar (array t m) h e = absurd h
result_scalar (struct j) h e = absurd h

void_is : (ty : Ty) → is_void ty ≡ true → ty ≡ void
void_is void e = refl
void_is (int t) e = absurd (cc)
void_is (pointer t) e = absurd (cc)
void_is (array t m) e = absurd (cc)
void_is (struct j) e = absurd (cc)

-- what is no local has no number
pub scalar_inside : (types : List Ty) (x : ℕ) → IsScalar (slice_index_or types x void) → x < length types
scalar_inside [] x h = absurd h
scalar_inside (t ∷ types) zero h = omega arith
scalar_inside (t ∷ types) (suc x) h = let lt = scalar_inside types x h in omega (arith, lt)

pub drop_at : (types : List Ty) (k : ℕ) → k < length types → drop k types ≡ slice_index_or types k void ∷ drop (k + 1) types
drop_at [] k lt = absurd (omega (arith, lt))
drop_at (t ∷ types) zero lt = refl
drop_at (t ∷ types) (suc k) lt = let e : k + 1 + 1 ≡ suc k + 1 = omega arith in drop_at types k (omega (arith, lt)) ∙ ap (λ q. slice_index_or types k void ∷ q) (one_more types k)
  where
    one_more : (types : List Ty) (k : ℕ) → drop (k + 1) types ≡ drop (suc k + 1) (t ∷ types)
    one_more types k = let e : suc (k + 1) ≡ suc k + 1 = omega arith in ap (λ q. drop q (t ∷ types)) e

pointer_result : (p : Program) (ty : Ty) → IsPointer p.structs ty → typing.IsResult ty
pointer_result p void h = absurd h
pointer_result p (int t) h = absurd h
pointer_result p (pointer t) h = tt
pointer_result p (array t m) h = absurd h
pointer_result p (struct j) h = absurd h

stepped_result : (p : Program) (size : ℕ) (ty : Ty) → IsStepped p.structs size ty → typing.IsResult ty
stepped_result p size void h = absurd h
stepped_result p size (int t) h = absurd h
stepped_result p size (pointer t) h = tt
stepped_result p size (array t m) h = absurd h
stepped_result p size (struct j) h = absurd h

updated_result : (op : BinOp) (t : IntType) (ty : Ty) → IsUpdated op t ty → typing.IsResult ty
updated_result op t void h = absurd h
updated_result op t (int s) h = tt
updated_result op t (pointer s) h = tt
updated_result op t (array s m) h = absurd h
updated_result op t (struct j) h = absurd h

-- an expression has no type but those of results
module _ (p : Program) (types : List Ty) (formed : IsWellFormed p) where
  called_result : (f : ℕ) (o : Option Body) (arguments : List Ty → Type 0) (ty : Ty) → slice_get p.bodies f ≡ o → IsCallable o arguments ty → typing.IsResult ty
  called_result f None arguments ty is h = absurd h
  called_result f (Some b) arguments ty is h = subst typing.IsResult (sym h.0) (body_formed p f b formed is).given

  has_result : (e : Expr) (ty : Ty) → Has p types e ty → typing.IsResult ty
  has_result (plain.const t x) ty h = subst typing.IsResult (sym h.0) tt
  has_result plain.null ty h = pointer_result p ty h
  has_result (plain.read place at) ty h = scalar_result ty h.1
  has_result (plain.addr place) ty h = subst typing.IsResult (sym h.0) tt
  has_result (plain.un op t e) ty h = subst typing.IsResult (sym h.0) tt
  has_result (plain.bin op t a b) ty h = subst typing.IsResult (sym h.0) tt
  has_result (plain.convert t e) ty h = subst typing.IsResult (sym h.0) tt
  has_result (plain.offset a b size) ty h = stepped_result p size ty h.0
  has_result (plain.distance a b size) ty h = subst typing.IsResult (sym h.0) tt
  has_result (plain.both a b) ty h = subst typing.IsResult (sym h.0) tt
  has_result (plain.either a b) ty h = subst typing.IsResult (sym h.0) tt
  has_result (plain.choice test a b) ty h = has_result a ty h.1
  has_result (plain.assign place e at) ty h = scalar_result ty h.1
  has_result (plain.update place op t e gives_old at) ty h = updated_result op t ty h.1
  has_result (plain.call f arguments at) ty h = called_result f (slice_get p.bodies f) _ ty refl h
  has_result (plain.post k) ty h = subst typing.IsResult (sym h.0) tt
  has_result (plain.port_in port) ty h = subst typing.IsResult (sym h.0) tt
  has_result (plain.port_out port e) ty h = subst typing.IsResult (sym h.0) tt
  has_result (plain.comma a b) ty h = has_result b ty h.1

module _ (c : Setting) where
  abbrev r : ℕ
  r = c.base

  abbrev type_at : ℕ → Ty
  type_at x = slice_index_or c.types x void

  abbrev size_at : ℕ → ℕ
  size_at x = size_of c.p (type_at x)

  -- the bytes of a number in a local
  abbrev pub number_bytes : ℕ → ℤ → List ℕ
  number_bytes x v = bytes_of (size_at x) (residue (8 * size_at x) v)

  -- ---- a place and a number

  -- where a local is, by a value that leads there, while those from base + 2 on are as they were
  abbrev Placed : (o : Option Spot) (x end n : ℕ) → Behaviour → Locals → (values frame : ℕ → ℕ) → Type 0
  Placed o x end n b env values frame =
      (new : ℕ → ℕ) → AreHeld c env new frame → IsFound c.p c.types c.spots (kind_of_spot o) (type_at x) (Within x 0) new r → ((i : ℕ) → r + 2 ≤ i → new i ≡ values i) → Runs c.codes n b (here c end new frame)

  pub placed_runs : (o : Option Spot) (x pc end n : ℕ) (b : Behaviour) (env : Locals) (values frame : ℕ → ℕ) → slice_get c.spots x ≡ o → x < length c.types →
      Stands (code c) pc (local_code o r) end → AreHeld c env values frame → Placed o x end n b env values frame → Runs c.codes n b (here c pc values frame)
  placed_runs None x pc end n b env values frame spot lt s h next =
      absurd (subst (λ o. LocalIsHeld c.base o (type_at x) (size_at x) (slice_index_or env x []) values frame) spot (h.at x lt))
  placed_runs (Some (Values regs)) x pc end n b env values frame spot lt s h next =
      behind c n b pc end values frame s (next values h (record { spot = spot; below = lt; first = refl; type = refl }) (λ i far. refl))
  placed_runs (Some (Frame o)) x pc end n b env values frame spot lt s h next =
      let new : ℕ → ℕ = put values r o in
      set_runs c.codes c.f c.rest c.fits.labelled n c.p c.types c.spots c.base b r o pc values frame s.0
      (behind c n b (pc + 1) end new frame s.1
      (next new (holds_put c.base c.p c.types c.spots env values frame r o (omega arith) h)
      (record { from = o; spot = spot; below = lt; inside = omega arith; at = put_same values r o ∙ (let q : o ≡ o + 0 = omega arith in q) })
      (λ i far. put_other values r o i (λ e. omega (arith, e, far)))))

  pub put_runs : (o : Option Spot) (x : ℕ) (v : ℤ) (pc end n : ℕ) (after : Locals → Behaviour) (env : Locals) (values frame : ℕ → ℕ) → IsScalar (type_at x) → x < length c.types →
      IsFound c.p c.types c.spots (kind_of_spot o) (type_at x) (Within x 0) values r → IsHeld (number_of (type_at x)) v values (r + 2) →
      Stands (code c) pc (put_code (kind_of_spot o) (number_of (type_at x)) (r + 2) r) end → AreHeld c env values frame → GoesOn c n end after →
      Runs c.codes n (after (slice_set env x (number_bytes x v))) (here c pc values frame)
  put_runs o x v pc end n after env values frame scalar lt found held s h next =
      let many = h.count in
      subst (λ b. Runs c.codes n b (here c pc values frame)) (store_local c.p x v (λ _. after) env (omega (arith, lt, many)) (type_at x) scalar (h.bytes x lt).length_is)
      (written_runs c.codes c.f c.rest c.fits.labelled n c.p c.types c.spots c.base (kind_of_spot o) (type_at x) (Within x 0) v (r + 2) r pc end after env values values frame
      scalar c.fits.lie (omega arith) (omega arith) found held s h (keeps_refl c.base r values) (λ env1 new frame1 h1 k1 far. next env1 new frame1 h1))

  -- ---- an argument

  argument_by : (b : Bool) (e : Expr) (x l pc end n : ℕ) (k : ℤ → Locals → Behaviour) (env : Locals) (values frame : ℕ → ℕ) → is_void (type_at x) ≡ b → n ≤ c.turns → x < length c.types →
      Has c.p c.types e (type_at x) → Ready c (expr_derefs e) (expr_calls e) →
      Stands (code c) pc (if b then expr_code c.p c.types c.checks c.spots e (r + 2) l
      else local_code (slice_get c.spots x) r ++ (expr_code c.p c.types c.checks c.spots e (r + 2) l ++ put_code (kind_of_spot (slice_get c.spots x)) (number_of (type_at x)) (r + 2) r)) end →
      AreHeld c env values frame → ((v : ℤ) → GoesOn c n end (k v)) →
      Runs c.codes n (value c.p c.types c.calls e (λ v env1. k v (slice_set env1 x (number_bytes x v))) env) (here c pc values frame)
  argument_by true e x l pc end n k env values frame is few lt typed ready s h next =
      value_runs c e (type_at x) (r + 2) l pc end n (λ v env1. k v (slice_set env1 x (number_bytes x v))) env values frame few (omega arith) typed ready s h
      (λ v env1 values1 frame1 h1.
      let many = h1.holds.count in
      let no_size : size_at x ≡ 0 = ap (size_of c.p) (void_is (type_at x) is) in
      let sized = (h1.holds.bytes x lt).length_is in
      let there : number_bytes x v ≡ slice_index_or env1 x [] = none_alike (number_bytes x v) (slice_index_or env1 x []) (bytes_long (size_at x) (residue (8 * size_at x) v) ∙ no_size) (sized ∙ no_size) in
      next v (slice_set env1 x (number_bytes x v)) values1 frame1
      (subst (λ e. AreHeld c e values1 frame1) (sym (ap (slice_set env1 x) there ∙ set_to_itself env1 x (omega (arith, lt, many)))) h1.holds))
    where
      none_alike : (a b : List ℕ) → length a ≡ 0 → length b ≡ 0 → a ≡ b
      none_alike [] [] ea eb = refl
      none_alike [] (y ∷ b) ea eb = absurd (omega (arith, eb))
      none_alike (y ∷ a) b ea eb = absurd (omega (arith, ea))
  argument_by false e x l pc end n k env values frame is few lt typed ready s h next =
      let scalar = result_scalar (type_at x) (has_result c.p c.types c.fits.formed e (type_at x) typed) is in
      let spot : Option Spot = slice_get c.spots x in
      let s1 = split (code c) pc end (local_code spot r) _ s in
      let s2 = split (code c) s1.0 end (expr_code c.p c.types c.checks c.spots e (r + 2) l) (put_code (kind_of_spot spot) (number_of (type_at x)) (r + 2) r) s1.2 in
      placed_runs spot x pc s1.0 n (value c.p c.types c.calls e (λ v env1. k v (slice_set env1 x (number_bytes x v))) env) env values frame refl lt s1.1 h
      (λ values1 h1 found far.
      value_runs c e (type_at x) (r + 2) l s1.0 s2.0 n (λ v env1. k v (slice_set env1 x (number_bytes x v))) env values1 frame few (omega arith) typed ready s2.1 h1
      (λ v env2 values2 frame2 h2.
      put_runs spot x v s2.0 end n (k v) env2 values2 frame2 scalar lt
      (found_still c.p c.types c.spots (kind_of_spot spot) (type_at x) (Within x 0) values1 values2 r (h2.keeps.at r (omega arith) (omega arith)) found)
      (as_number (type_at x) v values2 (r + 2) scalar h2.is) s2.2 h2.holds (next v)))

  -- ---- all of them, and the other locals

  -- the locals from x on, of which there are so many, get these values and then zeros
  abbrev pub fills : (x count : ℕ) → List ℤ → (Locals → Behaviour) → Locals → Behaviour
  fills x count vs after = set_locals x (holding c.p.structs (take count (drop x c.types)) vs) (λ _. after)

  pub clears_runs : (count x l pc end n : ℕ) (after : Locals → Behaviour) (env : Locals) (values frame : ℕ → ℕ) → n ≤ c.turns → x + count ≤ length c.types →
      Stands (code c) pc (clears_code c.p c.types c.checks c.spots c.base count x l) end → AreHeld c env values frame → GoesOn c n end after → Runs c.codes n (fills x count [] after env) (here c pc values frame)
  clears_runs zero x l pc end n after env values frame few inside s h next = behind c n (after env) pc end values frame s (next env values frame h)
  clears_runs (suc count) x l pc end n after env values frame few inside s h next =
      let lt : x < length c.types = omega (arith, inside) in
      let s1 = split (code c) pc end _ (clears_code c.p c.types c.checks c.spots c.base count (x + 1) (l + 2)) s in
      subst (λ ds. Runs c.codes n (set_locals x (holding c.p.structs (take (suc count) ds) []) (λ _. after) env) (here c pc values frame)) (sym (drop_at c.types x lt))
      ((clear_runs c x l pc s1.0 lt s1.1).by n (fills (x + 1) count [] after) env values frame few h
      (λ env1 values1 frame1 h1. clears_runs count (x + 1) (l + 2) s1.0 end n after env1 values1 frame1 few (omega (arith, inside)) s1.2 h1 next))

  pub enter_runs : (es : Exprs) (count x l pc end n : ℕ) (after : Locals → Behaviour) (env : Locals) (values frame : ℕ → ℕ) → n ≤ c.turns → x + count ≤ length c.types → count_exprs es ≤ count →
      AllHave c.p c.types es (take (count_exprs es) (drop x c.types)) → Ready c (exprs_derefs es) (exprs_calls es) → ((y : ℕ) → x ≤ y → y < x + count → All (λ z. z ≢ y) (exprs_locals es)) →
      Stands (code c) pc (enter_code c.p c.types c.checks c.spots c.base es x l) end → AreHeld c env values frame → GoesOn c n end (fills (x + count_exprs es) (count - count_exprs es) [] after) →
      Runs c.codes n (values_of c.p c.types c.calls es (λ vs. fills x count vs after) env) (here c pc values frame)
  enter_runs no_exprs count x l pc end n after env values frame few inside room typed ready apart s h next =
      let e1 : x + 0 ≡ x = omega arith in
      let e2 : count - 0 ≡ count = omega arith in
      behind c n (fills x count [] after env) pc end values frame s
      (subst (λ q. Runs c.codes n (fills q count [] after env) (here c end values frame)) e1
      (subst (λ q. Runs c.codes n (fills (x + 0) q [] after env) (here c end values frame)) e2 (next env values frame h)))
  enter_runs (more_exprs e rest) zero x l pc end n after env values frame few inside room typed ready apart s h next = absurd (omega (arith, room))
  enter_runs (more_exprs e rest) (suc count) x l pc end n after env values frame few inside room typed ready apart s h next =
      let lt : x < length c.types = omega (arith, inside) in
      let both = two_ready c (expr_derefs e) (exprs_derefs rest) (expr_calls e) (exprs_calls rest) ready in
      let types = subst (λ ds. AllHave c.p c.types (more_exprs e rest) (take (suc (count_exprs rest)) ds)) (drop_at c.types x lt) typed in
      let s1 = split (code c) pc end _ (enter_code c.p c.types c.checks c.spots c.base rest (x + 1) (l + labels e)) s in
      let more : List ℤ → Locals → Behaviour = λ vs. fills (x + 1) count vs after in
      let others : All (λ z. z ≢ x) (exprs_locals rest) = (both_of (λ z. z ≢ x) (expr_locals e) (exprs_locals rest) (apart x (omega arith) (omega arith))).1 in
      let e1 : x + suc (count_exprs rest) ≡ x + 1 + count_exprs rest = omega arith in
      let e2 : suc count - suc (count_exprs rest) ≡ count - count_exprs rest = omega arith in
      let next1 : GoesOn c n end (fills (x + 1 + count_exprs rest) (count - count_exprs rest) [] after) =
      subst (λ q. GoesOn c n end (fills q (count - count_exprs rest) [] after)) e1 (subst (λ q. GoesOn c n end (fills (x + suc (count_exprs rest)) q [] after)) e2 next) in
      subst (λ ds. Runs c.codes n (value c.p c.types c.calls e (λ v. values_of c.p c.types c.calls rest (λ vs. set_locals x (holding c.p.structs (take (suc count) ds) (v ∷ vs)) (λ _. after))) env) (here c pc values frame))
      (sym (drop_at c.types x lt))
      (subst (λ (b : ℤ → Locals → Behaviour). Runs c.codes n (value c.p c.types c.calls e b env) (here c pc values frame))
      (fun_ext (λ v. fun_ext (λ env1. values_leaves c.p c.types c.calls x (number_bytes x v) rest others more (λ vs env2. more vs (slice_set env2 x (number_bytes x v))) env1 (λ vs env2. refl))))
      (argument_by (is_void (type_at x)) e x l pc s1.0 n (λ v. values_of c.p c.types c.calls rest more) env values frame refl few lt types.0 both.0 s1.1 h
      (λ v env1 values1 frame1 h1. enter_runs rest count (x + 1) (l + labels e) s1.0 end n after env1 values1 frame1 few (omega (arith, inside)) (omega (arith, room)) types.1 both.1
      (λ y from below. (both_of (λ z. z ≢ y) (expr_locals e) (exprs_locals rest) (apart y (omega (arith, from)) (omega (arith, below)))).1) s1.2 h1 next1)))
