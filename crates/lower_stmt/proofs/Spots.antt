-- Where the locals of a body are held: each in values of its own, or in bytes of its own of the frame.
use Rattle.std.proofs.Common.{◌≡◌, ◌≢◌, ◌⊎◌, inl, inr, ⊎_elim, ℕ, zero, suc, ◌+◌, ◌<◌, ◌≤◌, Bool, true, false, List, [], ◌∷◌, length, Some, refl, sym, ap, ◌∙◌, arith}
use Rattle.std.specs.Prelude.{slice_get, slice_index_or}
use Rattle.std.proofs.lemmas.Bool.{cases_lt}
use Rattle.nm_base.specs.declared.int_type.IntType.TheVariants.{I8, U8, I16, U16, I32, U32}
use Rattle.nesc_core.specs.Plain.{Ty, void, int, pointer, array, struct, Program}
use Rattle.nesc_core.specs.Typing.{IsScalar}
use Rattle.core_meaning.specs.Layout.{size_of}
use Rattle.core_meaning.specs.Work.{number_of}
use Rattle.mid_code.specs.Help.{is_wide}
use Rattle.lower_expr.specs.declared.spot.Regs.{Regs}
use Rattle.lower_expr.specs.declared.spot.Spot.{Spot}
use Rattle.lower_expr.specs.declared.spot.Spot.TheVariants.{Values, Frame}
use Rattle.lower_expr.specs.Locals.{value_at}
use Rattle.lower_stmt.specs.Bodies.{all_bytes, all_values, bytes_in_frame, spot_at, spots_from, values_of}

-- ---- sums before a local

abbrev pub values_before : List Ty → ℕ → ℕ
values_before [] x = 0
values_before (t ∷ ts) zero = 0
values_before (t ∷ ts) (suc x) = values_of t + values_before ts x

abbrev pub bytes_before : Program → List Ty → ℕ → ℕ
bytes_before p [] x = 0
bytes_before p (t ∷ ts) zero = 0
bytes_before p (t ∷ ts) (suc x) = bytes_in_frame p t + bytes_before p ts x

pub values_inside : (ts : List Ty) (x : ℕ) → x < length ts → values_before ts x + values_of (slice_index_or ts x void) ≤ all_values ts
values_inside [] x lt = absurd (omega (arith, lt))
values_inside (t ∷ ts) zero lt = omega arith
values_inside (t ∷ ts) (suc x) lt = let h = values_inside ts x (omega (arith, lt)) in omega (arith, h)

values_apart : (ts : List Ty) (x y : ℕ) → x < y → y < length ts → values_before ts x + values_of (slice_index_or ts x void) ≤ values_before ts y
values_apart [] x y lt below = absurd (omega (arith, below))
values_apart (t ∷ ts) x zero lt below = absurd (omega (arith, lt))
values_apart (t ∷ ts) zero (suc y) lt below = omega arith
values_apart (t ∷ ts) (suc x) (suc y) lt below = let h = values_apart ts x y (omega (arith, lt)) (omega (arith, below)) in omega (arith, h)

bytes_inside : (p : Program) (ts : List Ty) (x : ℕ) → x < length ts → bytes_before p ts x + bytes_in_frame p (slice_index_or ts x void) ≤ all_bytes p ts
bytes_inside p [] x lt = absurd (omega (arith, lt))
bytes_inside p (t ∷ ts) zero lt = omega arith
bytes_inside p (t ∷ ts) (suc x) lt = let h = bytes_inside p ts x (omega (arith, lt)) in omega (arith, h)

bytes_apart : (p : Program) (ts : List Ty) (x y : ℕ) → x < y → y < length ts → bytes_before p ts x + bytes_in_frame p (slice_index_or ts x void) ≤ bytes_before p ts y
bytes_apart p [] x y lt below = absurd (omega (arith, below))
bytes_apart p (t ∷ ts) x zero lt below = absurd (omega (arith, lt))
bytes_apart p (t ∷ ts) zero (suc y) lt below = omega arith
bytes_apart p (t ∷ ts) (suc x) (suc y) lt below = let h = bytes_apart p ts x y (omega (arith, lt)) (omega (arith, below)) in omega (arith, h)

-- ---- the spot of a local

pub spot_is : (p : Program) (ts : List Ty) (v o x : ℕ) → x < length ts → slice_get (spots_from p ts v o) x ≡ Some (spot_at (slice_index_or ts x void) (v + values_before ts x) (o + bytes_before p ts x))
spot_is p [] v o x lt = absurd (omega (arith, lt))
spot_is p (t ∷ ts) v o zero lt =
    let e1 : v ≡ v + 0 = omega arith in
    let e2 : o ≡ o + 0 = omega arith in
    ap (λ m. Some (spot_at t m o)) e1 ∙ ap (λ m. Some (spot_at t (v + 0) m)) e2
spot_is p (t ∷ ts) v o (suc x) lt =
    let e1 : v + values_of t + values_before ts x ≡ v + (values_of t + values_before ts x) = omega arith in
    let e2 : o + bytes_in_frame p t + bytes_before p ts x ≡ o + (bytes_in_frame p t + bytes_before p ts x) = omega arith in
    spot_is p ts (v + values_of t) (o + bytes_in_frame p t) x (omega (arith, lt))
    ∙ ap (λ m. Some (spot_at (slice_index_or ts x void) m (o + bytes_in_frame p t + bytes_before p ts x))) e1
    ∙ ap (λ m. Some (spot_at (slice_index_or ts x void) (v + (values_of t + values_before ts x)) m)) e2

-- what is in the frame has a place there, and room
pub record IsFramed (p : Program) (ty : Ty) (o from : ℕ) : Type 0 where
  pub at : from ≡ o
  pub room : size_of p ty ≤ bytes_in_frame p ty

framed_is : (p : Program) (ty : Ty) (v o from : ℕ) → spot_at ty v o ≡ Frame from → IsFramed p ty o from
framed_is p void v o from e = record { at = cc; room = omega arith }
framed_is p (int t) v o from e = absurd (cc)
framed_is p (pointer t) v o from e = absurd (cc)
framed_is p (array t m) v o from e = record { at = cc; room = omega arith }
framed_is p (struct k) v o from e = record { at = cc; room = omega arith }

values_scalar : (ty : Ty) (v o : ℕ) (regs : Regs) → spot_at ty v o ≡ Values regs → IsScalar ty
values_scalar void v o regs e = absurd (cc)
values_scalar (int t) v o regs e = tt
values_scalar (pointer t) v o regs e = tt
values_scalar (array t m) v o regs e = absurd (cc)
values_scalar (struct k) v o regs e = absurd (cc)

abbrev pub half : Bool → ℕ
half false = 0
half true = 1

-- a value that holds a half of a local is one of its own
record IsOwn (ty : Ty) (v : ℕ) (a : Bool) (s : ℕ) : Type 0 where
  at : s ≡ v + half a
  own : half a < values_of ty

own_is : (ty : Ty) (v o s : ℕ) (a : Bool) → value_at (Some (spot_at ty v o)) a (is_wide (number_of ty)) ≡ Some s → IsOwn ty v a s
own_is void v o s a e = absurd (cc)
own_is (array t m) v o s a e = absurd (cc)
own_is (struct k) v o s a e = absurd (cc)
own_is (pointer t) v o s false e = let q : v ≡ s = cc in record { at = omega (arith, q); own = omega arith }
own_is (pointer t) v o s true e = absurd (cc)
own_is (int I8) v o s false e = let q : v ≡ s = cc in record { at = omega (arith, q); own = omega arith }
own_is (int I8) v o s true e = absurd (cc)
own_is (int U8) v o s false e = let q : v ≡ s = cc in record { at = omega (arith, q); own = omega arith }
own_is (int U8) v o s true e = absurd (cc)
own_is (int I16) v o s false e = let q : v ≡ s = cc in record { at = omega (arith, q); own = omega arith }
own_is (int I16) v o s true e = absurd (cc)
own_is (int U16) v o s false e = let q : v ≡ s = cc in record { at = omega (arith, q); own = omega arith }
own_is (int U16) v o s true e = absurd (cc)
own_is (int I32) v o s false e = let q : v ≡ s = cc in record { at = omega (arith, q); own = omega arith }
own_is (int I32) v o s true e = let q : v + 1 ≡ s = cc in record { at = omega (arith, q); own = omega arith }
own_is (int U32) v o s false e = let q : v ≡ s = cc in record { at = omega (arith, q); own = omega arith }
own_is (int U32) v o s true e = let q : v + 1 ≡ s = cc in record { at = omega (arith, q); own = omega arith }

same_half : (a b : Bool) (v : ℕ) → v + half a ≡ v + half b → a ≡ b
same_half false false v e = refl
same_half false true v e = absurd (omega (arith, e))
same_half true false v e = absurd (omega (arith, e))
same_half true true v e = refl

module _ (p : Program) (ts : List Ty) where
  abbrev spots : List Spot
  spots = spots_from p ts 0 0

  abbrev type_at : ℕ → Ty
  type_at x = slice_index_or ts x void

  -- from 0 on
  pub spot_here : (x : ℕ) → x < length ts → slice_get spots x ≡ Some (spot_at (type_at x) (values_before ts x) (bytes_before p ts x))
  spot_here x lt =
      let e1 : 0 + values_before ts x ≡ values_before ts x = omega arith in
      let e2 : 0 + bytes_before p ts x ≡ bytes_before p ts x = omega arith in
      spot_is p ts 0 0 x lt ∙ ap (λ m. Some (spot_at (type_at x) m (0 + bytes_before p ts x))) e1 ∙ ap (λ m. Some (spot_at (type_at x) (values_before ts x) m)) e2

  named : (x : ℕ) (s : Spot) → x < length ts → slice_get spots x ≡ Some s → spot_at (type_at x) (values_before ts x) (bytes_before p ts x) ≡ s
  named x s lt e = let q : Some (spot_at (type_at x) (values_before ts x) (bytes_before p ts x)) ≡ Some s = sym (spot_here x lt) ∙ e in cc

  pub framed_here : (x from : ℕ) → x < length ts → slice_get spots x ≡ Some (Frame from) → IsFramed p (type_at x) (bytes_before p ts x) from
  framed_here x from lt e = framed_is p (type_at x) (values_before ts x) (bytes_before p ts x) from (named x (Frame from) lt e)

  pub in_values : (x : ℕ) (regs : Regs) → x < length ts → slice_get spots x ≡ Some (Values regs) → IsScalar (type_at x)
  in_values x regs lt e = values_scalar (type_at x) (values_before ts x) (bytes_before p ts x) regs (named x (Values regs) lt e)

  pub frame_inside : (x from : ℕ) → x < length ts → slice_get spots x ≡ Some (Frame from) → from + size_of p (type_at x) ≤ all_bytes p ts
  frame_inside x from lt e =
      let f = framed_here x from lt e in
      let at = f.at in
      let room = f.room in
      let h = bytes_inside p ts x lt in
      omega (arith, at, room, h)

  before_other : (x y from other : ℕ) → x < y → y < length ts → slice_get spots x ≡ Some (Frame from) → slice_get spots y ≡ Some (Frame other) → from + size_of p (type_at x) ≤ other
  before_other x y from other lt below ex ey =
      let f = framed_here x from (omega (arith, lt, below)) ex in
      let g = framed_here y other below ey in
      let at = f.at in
      let room = f.room in
      let there = g.at in
      let h = bytes_apart p ts x y lt below in
      omega (arith, at, room, there, h)

  pub frame_apart : (x y from other : ℕ) → x < length ts → y < length ts → x ≢ y → slice_get spots x ≡ Some (Frame from) → slice_get spots y ≡ Some (Frame other) →
      (from + size_of p (type_at x) ≤ other) ⊎ (other + size_of p (type_at y) ≤ from)
  frame_apart x y from other lx ly differ ex ey =
      ⊎_elim (λ lt. inl (before_other x y from other lt ly ex ey)) (λ le. inr (before_other y x other from (let d = differ in grind (arith, d, le)) lx ey ex)) (cases_lt x y)

  -- the value of a half, as a number
  own_here : (x s : ℕ) (a : Bool) → x < length ts → value_at (slice_get spots x) a (is_wide (number_of (type_at x))) ≡ Some s → IsOwn (type_at x) (values_before ts x) a s
  own_here x s a lt e =
      own_is (type_at x) (values_before ts x) (bytes_before p ts x) s a (sym (ap (λ o. value_at o a (is_wide (number_of (type_at x)))) (spot_here x lt)) ∙ e)

  ordered : (x y s : ℕ) (a b : Bool) → x < y → y < length ts → value_at (slice_get spots x) a (is_wide (number_of (type_at x))) ≡ Some s → value_at (slice_get spots y) b (is_wide (number_of (type_at y))) ≡ Some s → ⊥
  ordered x y s a b lt below ex ey =
      let f = own_here x s a (omega (arith, lt, below)) ex in
      let g = own_here y s b below ey in
      let at = f.at in
      let own = f.own in
      let there = g.at in
      let h = values_apart ts x y lt below in
      omega (arith, at, own, there, h)

  pub values_differ : (x y s : ℕ) (a b : Bool) → x < length ts → y < length ts → value_at (slice_get spots x) a (is_wide (number_of (type_at x))) ≡ Some s →
      value_at (slice_get spots y) b (is_wide (number_of (type_at y))) ≡ Some s → (x ≡ y) × (a ≡ b)
  values_differ x y s a b lx ly ex ey =
      ⊎_elim (λ lt. absurd (ordered x y s a b lt ly ex ey))
      (λ le. ⊎_elim (λ lt. absurd (ordered y x s b a lt lx ey ex))
      (λ ge. let same : x ≡ y = omega (arith, le, ge) in (
        same,
        (let f = own_here x s a lx ex in
            let g = own_here y s b ly ey in
            let there : s ≡ values_before ts x + half b = g.at ∙ ap (λ m. values_before ts m + half b) (sym same) in
            same_half a b (values_before ts x) (sym f.at ∙ there)),
      )) (cases_lt y x)) (cases_lt x y)
