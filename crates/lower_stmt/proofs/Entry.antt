-- At the start of a body's function its values and its frame hold the locals: parameters have the numbers that were passed, and all
-- others are 0.
use Rattle.std.proofs.Common.{◌≡◌, ◌≢◌, ⊎_elim, ℕ, zero, suc, ◌+◌, ◌*◌, ◌/◌, ◌%◌, ◌<◌, ◌≤◌, Bool, true, false, List, [], ◌∷◌, ◌++◌, All, length, take, Some, refl, sym, ap, ◌∙◌, subst, arith}
use Rattle.std.specs.Prelude.{ℤ, pos, slice_get, slice_index, slice_index_or}
use Rattle.std.proofs.lemmas.Bool.{cases_lt}
use Rattle.std.proofs.lemmas.List.Elements.{All-head, All-tail}
use Rattle.nm_base.specs.declared.int_type.IntType.{IntType}
use Rattle.nm_base.specs.declared.int_type.IntType.TheVariants.{I8, U8, I16, U16, I32, U32}
use Rattle.nm_base.specs.IntType.{wrapped}
use Rattle.nesc_core.specs.Plain.{Ty, void, int, pointer, array, struct, Field, Program}
use Rattle.nesc_core.specs.Size.{layout_of}
use Rattle.nesc_core.specs.Typing.{IsOf, IsScalar}
use Rattle.core_meaning.specs.Numbers.{residue}
use Rattle.core_meaning.specs.Layout.{size_of}
use Rattle.core_meaning.specs.Work.{Locals, bytes_of, number_of}
use Rattle.core_meaning.specs.Act.{holding}
use Rattle.mid_code.specs.Help.{is_wide}
use Rattle.mid_code.specs.Machine.{put, put_all}
use Rattle.mid_code.proofs.Written.{put_same, put_other}
use Rattle.lower_expr.specs.Held.{halves_of, high, low}
use Rattle.lower_expr.specs.Pieces.{values_at}
use Rattle.lower_expr.specs.Runs.{AreOf, passed}
use Rattle.lower_expr.specs.Locals.{HasBytes, Holds, LocalIsHeld, local_value}
use Rattle.lower_expr.proofs.Halves.{number_of_rest}
use Rattle.lower_expr.proofs.Kept.{byte_small, number_of_byte}
use Rattle.lower_expr.proofs.Numbers.{low_small, number_of_low, rest_small}
use Rattle.lower_stmt.specs.Bodies.{all_values, params_from, spot_at, spots_from, values_of}
use Rattle.lower_stmt.proofs.Clears.{are_bytes, zero_value}
use Rattle.lower_stmt.proofs.Spots.{bytes_before, spot_here, values_before, values_differ, values_inside}

-- ---- values that are passed

-- what lies beside the values of a number is as it was
beside : (w : Bool) (v i : ℕ) (vs : List ℕ) → i ≢ v → (w ≡ true → i ≢ v + 1) → ((old : ℕ → ℕ) (xs : List ℕ) → put_all old vs xs i ≡ old i) →
    (old : ℕ → ℕ) (xs : List ℕ) → put_all old (values_at w v ++ vs) xs i ≡ old i
beside false v i vs first second others old [] = refl
beside false v i vs first second others old (x ∷ xs) = others (put old v x) xs ∙ put_other old v x i first
beside true v i vs first second others old [] = refl
beside true v i vs first second others old (x ∷ []) = put_other old v x i first
beside true v i vs first second others old (x ∷ y ∷ xs) = others (put (put old v x) (v + 1) y) xs ∙ put_other (put old v x) (v + 1) y i (second refl) ∙ put_other old v x i first

untouched : (ts : List Ty) (v i : ℕ) (old : ℕ → ℕ) (xs : List ℕ) → i < v → put_all old (params_from ts v) xs i ≡ old i
untouched [] v i old xs lt = refl
untouched (t ∷ ts) v i old xs lt =
    beside (is_wide (number_of t)) v i (params_from ts (v + values_of t)) (λ e. omega (arith, e, lt)) (λ w e. omega (arith, e, lt))
    (λ old1 xs1. untouched ts (v + values_of t) i old1 xs1 (omega (arith, lt))) old xs

-- how many values a number takes
record HasWidth (t : Ty) : Type 0 where
  some : 1 ≤ values_of t
  wide : is_wide (number_of t) ≡ true → values_of t ≡ 2

width_of : (t : Ty) → IsScalar t → HasWidth t
width_of void h = absurd h
width_of (int I8) h = record { some = omega arith; wide = λ e. absurd (cc) }
width_of (int U8) h = record { some = omega arith; wide = λ e. absurd (cc) }
width_of (int I16) h = record { some = omega arith; wide = λ e. absurd (cc) }
width_of (int U16) h = record { some = omega arith; wide = λ e. absurd (cc) }
width_of (int I32) h = record { some = omega arith; wide = λ e. refl }
width_of (int U32) h = record { some = omega arith; wide = λ e. refl }
width_of (pointer t) h = record { some = omega arith; wide = λ e. absurd (cc) }
width_of (array t n) h = absurd h
width_of (struct k) h = absurd h

over : (ts : List Ty) (v i : ℕ) (old : ℕ → ℕ) (xs : List ℕ) → All IsScalar ts → v + all_values ts ≤ i → put_all old (params_from ts v) xs i ≡ old i
over [] v i old xs scalars le = refl
over (t ∷ ts) v i old xs scalars le =
    let width = width_of t (All-head IsScalar t ts scalars) in
    let some = width.some in
    beside (is_wide (number_of t)) v i (params_from ts (v + values_of t)) (λ e. omega (arith, e, le, some)) (λ w e. let two = width.wide w in omega (arith, e, le, two))
    (λ old1 xs1. over ts (v + values_of t) i old1 xs1 (All-tail IsScalar t ts scalars) (omega (arith, le))) old xs

-- a number of a type, from a value on
record IsPassed (t : Ty) (z : ℤ) (values : ℕ → ℕ) (v : ℕ) : Type 0 where
  number : IsOf (number_of t) z
  low_half : values v ≡ low z
  high_half : is_wide (number_of t) ≡ true → values (v + 1) ≡ high z

first_passed : (w : Bool) (t : Ty) (ts : List Ty) (z : ℤ) (v : ℕ) (old : ℕ → ℕ) (xs : List ℕ) → IsOf (number_of t) z → is_wide (number_of t) ≡ w → HasWidth t →
    IsPassed t z (put_all old (values_at w v ++ params_from ts (v + values_of t)) (halves_of w z ++ xs)) v
first_passed false t ts z v old xs number is width =
    let some = width.some in
    record {
      number = number;
      low_half = untouched ts (v + values_of t) v (put old v (low z)) xs (omega (arith, some)) ∙ put_same old v (low z);
      high_half = λ e. absurd (cc);
    }
first_passed true t ts z v old xs number is width =
    let two = width.wide is in
    let new : ℕ → ℕ = put (put old v (low z)) (v + 1) (high z) in
    record {
      number = number;
      low_half = untouched ts (v + values_of t) v new xs (omega (arith, two)) ∙ put_other (put old v (low z)) (v + 1) (high z) v (λ e. omega (arith, e)) ∙ put_same old v (low z);
      high_half = λ e. untouched ts (v + values_of t) (v + 1) new xs (omega (arith, two)) ∙ put_same (put old v (low z)) (v + 1) (high z);
    }

-- values behind those of one number
behind_first : (P : (ℕ → ℕ) → Type 0) (w : Bool) (z : ℤ) (v : ℕ) (vs xs : List ℕ) → ((old : ℕ → ℕ) → P (put_all old vs xs)) → (old : ℕ → ℕ) → P (put_all old (values_at w v ++ vs) (halves_of w z ++ xs))
behind_first P false z v vs xs h old = h (put old v (low z))
behind_first P true z v vs xs h old = h (put (put old v (low z)) (v + 1) (high z))

passed_at : (ts : List Ty) (zs : List ℤ) (v : ℕ) (old : ℕ → ℕ) (x : ℕ) → All IsScalar ts → AreOf ts zs → x < length ts →
    IsPassed (slice_index_or ts x void) (slice_index_or zs x (pos 0)) (put_all old (params_from ts v) (passed ts zs)) (v + values_before ts x)
passed_at [] zs v old x scalars of lt = absurd (omega (arith, lt))
passed_at (t ∷ ts) [] v old x scalars of lt = absurd of
passed_at (t ∷ ts) (z ∷ zs) v old zero scalars of lt =
    let e : v ≡ v + 0 = omega arith in
    subst (IsPassed t z (put_all old (params_from (t ∷ ts) v) (passed (t ∷ ts) (z ∷ zs)))) e
    (first_passed (is_wide (number_of t)) t ts z v old (passed ts zs) of.0 refl (width_of t (All-head IsScalar t ts scalars)))
passed_at (t ∷ ts) (z ∷ zs) v old (suc x) scalars of lt =
    let e : v + values_of t + values_before ts x ≡ v + (values_of t + values_before ts x) = omega arith in
    subst (IsPassed (slice_index_or ts x void) (slice_index_or zs x (pos 0)) (put_all old (params_from (t ∷ ts) v) (passed (t ∷ ts) (z ∷ zs)))) e
    (behind_first (λ values. IsPassed (slice_index_or ts x void) (slice_index_or zs x (pos 0)) values (v + values_of t + values_before ts x)) (is_wide (number_of t)) z v (params_from ts (v + values_of t)) (passed ts zs)
    (λ old1. passed_at ts zs (v + values_of t) old1 x (All-tail IsScalar t ts scalars) of.1 (omega (arith, lt))) old)

-- ---- bytes

same_count : (ts : List Ty) (zs : List ℤ) → AreOf ts zs → length zs ≡ length ts
same_count [] [] of = refl
same_count [] (z ∷ zs) of = absurd of
same_count (t ∷ ts) [] of = absurd of
same_count (t ∷ ts) (z ∷ zs) of = ap suc (same_count ts zs of.1)

module _ (structs : List (List Field)) where
  pub holding_count : (ts : List Ty) (zs : List ℤ) → length (holding structs ts zs) ≡ length ts
  holding_count [] zs = refl
  holding_count (t ∷ ts) [] = ap suc (holding_count ts [])
  holding_count (t ∷ ts) (z ∷ zs) = ap suc (holding_count ts zs)

  given_bytes : (ts : List Ty) (zs : List ℤ) (x : ℕ) → x < length ts → x < length zs →
      slice_index_or (holding structs ts zs) x [] ≡ bytes_of (layout_of structs (slice_index_or ts x void)).size (residue (8 * (layout_of structs (slice_index_or ts x void)).size) (slice_index_or zs x (pos 0)))
  given_bytes [] zs x lt inside = absurd (omega (arith, lt))
  given_bytes (t ∷ ts) [] x lt inside = absurd (omega (arith, inside))
  given_bytes (t ∷ ts) (z ∷ zs) zero lt inside = refl
  given_bytes (t ∷ ts) (z ∷ zs) (suc x) lt inside = given_bytes ts zs x (omega (arith, lt)) (omega (arith, inside))

  zero_bytes : (ts : List Ty) (zs : List ℤ) (x : ℕ) → x < length ts → length zs ≤ x → slice_index_or (holding structs ts zs) x [] ≡ bytes_of (layout_of structs (slice_index_or ts x void)).size 0
  zero_bytes [] zs x lt le = absurd (omega (arith, lt))
  zero_bytes (t ∷ ts) [] zero lt le = refl
  zero_bytes (t ∷ ts) [] (suc x) lt le = zero_bytes ts [] x (omega (arith, lt)) (omega arith)
  zero_bytes (t ∷ ts) (z ∷ zs) zero lt le = absurd (omega (arith, le))
  zero_bytes (t ∷ ts) (z ∷ zs) (suc x) lt le = zero_bytes ts zs x (omega (arith, lt)) (omega (arith, le))

zero_byte : (size i : ℕ) → slice_index (bytes_of size 0) i ≡ 0
zero_byte zero i = refl
zero_byte (suc size) zero = refl
zero_byte (suc size) (suc i) = zero_byte size i

-- the bytes of a number stand for it
byte_again : (t : IntType) (z : ℤ) → residue 8 z % 256 ≡ residue 8 z
byte_again t z = let lt = byte_small z in omega (arith, lt)

word_again : (n : ℕ) → n < 65536 → n % 256 + 256 * (n / 256 % 256) ≡ n
word_again n lt = omega (arith, lt)

long_again : (n : ℕ) → n < 4294967296 → n % 256 + 256 * (n / 256 % 256) + 65536 * (n / 256 / 256 % 256 + 256 * (n / 256 / 256 / 256 % 256)) ≡ n
long_again n lt = omega (arith, lt)

number_there : (p : Program) (t : Ty) (z : ℤ) → IsScalar t → IsOf (number_of t) z → local_value (number_of t) (bytes_of (size_of p t) (residue (8 * size_of p t) z)) ≡ z
number_there p void z ok of = absurd ok
number_there p (int I8) z ok of = ap (λ m. wrapped I8 (pos m)) (byte_again I8 z) ∙ number_of_byte I8 tt z of
number_there p (int U8) z ok of = ap (λ m. wrapped U8 (pos m)) (byte_again U8 z) ∙ number_of_byte U8 tt z of
number_there p (int I16) z ok of = ap (λ m. wrapped I16 (pos m)) (word_again (residue 16 z) (low_small z)) ∙ number_of_low I16 tt z of
number_there p (int U16) z ok of = ap (λ m. wrapped U16 (pos m)) (word_again (residue 16 z) (low_small z)) ∙ number_of_low U16 tt z of
number_there p (int I32) z ok of = ap (λ m. wrapped I32 (pos m)) (long_again (residue 32 z) (rest_small z)) ∙ number_of_rest I32 tt z of
number_there p (int U32) z ok of = ap (λ m. wrapped U32 (pos m)) (long_again (residue 32 z) (rest_small z)) ∙ number_of_rest U32 tt z of
number_there p (pointer t) z ok of = ap (λ m. wrapped U16 (pos m)) (word_again (residue 16 z) (low_small z)) ∙ number_of_low U16 tt z of
number_there p (array t n) z ok of = absurd ok
number_there p (struct k) z ok of = absurd ok

-- ---- a local

-- a number in the values of its spot
in_spot : (t : Ty) (v o base size : ℕ) (bytes : List ℕ) (values frame : ℕ → ℕ) → IsScalar t → v + values_of t ≤ base → values v ≡ low (local_value (number_of t) bytes) →
    (is_wide (number_of t) ≡ true → values (v + 1) ≡ high (local_value (number_of t) bytes)) → LocalIsHeld base (Some (spot_at t v o)) t size bytes values frame
in_spot void v o base size bytes values frame ok le low_is high_is = absurd ok
in_spot (int I8) v o base size bytes values frame ok le low_is high_is = record { low_below = omega (arith, le); high_below = tt; low_half = low_is; high_half = tt }
in_spot (int U8) v o base size bytes values frame ok le low_is high_is = record { low_below = omega (arith, le); high_below = tt; low_half = low_is; high_half = tt }
in_spot (int I16) v o base size bytes values frame ok le low_is high_is = record { low_below = omega (arith, le); high_below = tt; low_half = low_is; high_half = tt }
in_spot (int U16) v o base size bytes values frame ok le low_is high_is = record { low_below = omega (arith, le); high_below = tt; low_half = low_is; high_half = tt }
in_spot (int I32) v o base size bytes values frame ok le low_is high_is = record { low_below = omega (arith, le); high_below = omega (arith, le); low_half = low_is; high_half = high_is refl }
in_spot (int U32) v o base size bytes values frame ok le low_is high_is = record { low_below = omega (arith, le); high_below = omega (arith, le); low_half = low_is; high_half = high_is refl }
in_spot (pointer t) v o base size bytes values frame ok le low_is high_is = record { low_below = omega (arith, le); high_below = tt; low_half = low_is; high_half = tt }
in_spot (array t n) v o base size bytes values frame ok le low_is high_is = absurd ok
in_spot (struct k) v o base size bytes values frame ok le low_is high_is = absurd ok

-- a local that is 0
zero_spot : (p : Program) (t : Ty) (v o base : ℕ) (values : ℕ → ℕ) → v + values_of t ≤ base → values v ≡ 0 → values (v + 1) ≡ 0 →
    LocalIsHeld base (Some (spot_at t v o)) t (size_of p t) (bytes_of (size_of p t) 0) values (λ (i : ℕ). 0)
zero_spot p void v o base values le first second = λ i lt. sym (zero_byte (size_of p void) i)
zero_spot p (int t) v o base values le first second =
    in_spot (int t) v o base (size_of p (int t)) (bytes_of (size_of p (int t)) 0) values (λ (i : ℕ). 0) tt le (first ∙ sym (ap low (zero_value p (int t) tt))) (λ w. second ∙ sym (ap high (zero_value p (int t) tt)))
zero_spot p (pointer t) v o base values le first second =
    in_spot (pointer t) v o base (size_of p (pointer t)) (bytes_of (size_of p (pointer t)) 0) values (λ (i : ℕ). 0) tt le (first ∙ sym (ap low (zero_value p (pointer t) tt))) (λ w. second ∙ sym (ap high (zero_value p (pointer t) tt)))
zero_spot p (array t n) v o base values le first second = λ i lt. sym (zero_byte (size_of p (array t n)) i)
zero_spot p (struct k) v o base values le first second = λ i lt. sym (zero_byte (size_of p (struct k)) i)

-- ---- the first of a list

taken_type : (ts : List Ty) (k x : ℕ) → x < k → slice_index_or (take k ts) x void ≡ slice_index_or ts x void
taken_type [] zero x lt = refl
taken_type [] (suc k) x lt = refl
taken_type (t ∷ ts) zero x lt = absurd (omega (arith, lt))
taken_type (t ∷ ts) (suc k) zero lt = refl
taken_type (t ∷ ts) (suc k) (suc x) lt = taken_type ts k x (omega (arith, lt))

taken_before : (ts : List Ty) (k x : ℕ) → x < k → values_before (take k ts) x ≡ values_before ts x
taken_before [] zero x lt = refl
taken_before [] (suc k) x lt = refl
taken_before (t ∷ ts) zero x lt = absurd (omega (arith, lt))
taken_before (t ∷ ts) (suc k) zero lt = refl
taken_before (t ∷ ts) (suc k) (suc x) lt = ap (λ m. values_of t + m) (taken_before ts k x (omega (arith, lt)))

taken_all : (ts : List Ty) (k x : ℕ) → k ≤ x → x < length ts → all_values (take k ts) ≤ values_before ts x
taken_all [] k x le lt = absurd (omega (arith, lt))
taken_all (t ∷ ts) zero x le lt = omega arith
taken_all (t ∷ ts) (suc k) zero le lt = absurd (omega (arith, le))
taken_all (t ∷ ts) (suc k) (suc x) le lt = let h = taken_all ts k x (omega (arith, le)) (omega (arith, lt)) in omega (arith, h)

taken_long : (ts : List Ty) (k : ℕ) → k ≤ length ts → length (take k ts) ≡ k
taken_long [] zero le = refl
taken_long [] (suc k) le = absurd (omega (arith, le))
taken_long (t ∷ ts) zero le = refl
taken_long (t ∷ ts) (suc k) le = ap suc (taken_long ts k (omega (arith, le)))

scalar_at : (ts : List Ty) (x : ℕ) → x < length ts → All IsScalar ts → IsScalar (slice_index_or ts x void)
scalar_at [] x lt h = absurd (omega (arith, lt))
scalar_at (t ∷ ts) zero lt h = All-head IsScalar t ts h
scalar_at (t ∷ ts) (suc x) lt h = scalar_at ts x (omega (arith, lt)) (All-tail IsScalar t ts h)

-- ---- all locals

module _ (p : Program) (ts : List Ty) (k : ℕ) (zs : List ℤ) (le : k ≤ length ts) (scalars : All IsScalar (take k ts)) (of : AreOf (take k ts) zs) where
  abbrev first : ℕ → ℕ
  first = put_all (λ (i : ℕ). 0) (params_from (take k ts) 0) (passed (take k ts) zs)

  abbrev env : Locals
  env = holding p.structs ts zs

  abbrev type_at : ℕ → Ty
  type_at x = slice_index_or ts x void

  zs_long : length zs ≡ k
  zs_long = same_count (take k ts) zs of ∙ taken_long ts k le

  -- a parameter
  parameter_held : (x : ℕ) → x < k → LocalIsHeld (all_values ts) (slice_get (spots_from p ts 0 0) x) (type_at x) (size_of p (type_at x)) (slice_index_or env x []) first (λ (i : ℕ). 0)
  parameter_held x lt =
      let long = zs_long in
      let taken = taken_long ts k le in
      let inside : x < length ts = omega (arith, lt, le) in
      let type_is = taken_type ts k x lt in
      let scalar = subst IsScalar type_is (scalar_at (take k ts) x (omega (arith, taken, lt)) scalars) in
      let z : ℤ = slice_index_or zs x (pos 0) in
      let e : 0 + values_before (take k ts) x ≡ values_before ts x = (let q = taken_before ts k x lt in omega (arith, q)) in
      let is : IsPassed (type_at x) z first (values_before ts x) =
      subst (λ t. IsPassed t z first (values_before ts x)) type_is (subst (IsPassed (slice_index_or (take k ts) x void) z first) e (passed_at (take k ts) zs 0 (λ (i : ℕ). 0) x scalars of (omega (arith, taken, lt)))) in
      let bytes : slice_index_or env x [] ≡ bytes_of (size_of p (type_at x)) (residue (8 * size_of p (type_at x)) z) = given_bytes p.structs ts zs x inside (omega (arith, long, lt)) in
      let number : local_value (number_of (type_at x)) (slice_index_or env x []) ≡ z = ap (local_value (number_of (type_at x))) bytes ∙ number_there p (type_at x) z scalar is.number in
      subst (λ o. LocalIsHeld (all_values ts) o (type_at x) (size_of p (type_at x)) (slice_index_or env x []) first (λ (i : ℕ). 0)) (sym (spot_here p ts x inside))
      (in_spot (type_at x) (values_before ts x) (bytes_before p ts x) (all_values ts) (size_of p (type_at x)) (slice_index_or env x []) first (λ (i : ℕ). 0) scalar (values_inside ts x inside)
      (is.low_half ∙ sym (ap low number)) (λ w. is.high_half w ∙ sym (ap high number)))

  -- another local
  other_held : (x : ℕ) → k ≤ x → x < length ts → LocalIsHeld (all_values ts) (slice_get (spots_from p ts 0 0) x) (type_at x) (size_of p (type_at x)) (slice_index_or env x []) first (λ (i : ℕ). 0)
  other_held x ge inside =
      let long = zs_long in
      let above = taken_all ts k x ge inside in
      let bytes : slice_index_or env x [] ≡ bytes_of (size_of p (type_at x)) 0 = zero_bytes p.structs ts zs x inside (omega (arith, long, ge)) in
      subst (λ o. LocalIsHeld (all_values ts) o (type_at x) (size_of p (type_at x)) (slice_index_or env x []) first (λ (i : ℕ). 0)) (sym (spot_here p ts x inside))
      (subst (λ l. LocalIsHeld (all_values ts) (Some (spot_at (type_at x) (values_before ts x) (bytes_before p ts x))) (type_at x) (size_of p (type_at x)) l first (λ (i : ℕ). 0)) (sym bytes)
      (zero_spot p (type_at x) (values_before ts x) (bytes_before p ts x) (all_values ts) first (values_inside ts x inside)
      (over (take k ts) 0 (values_before ts x) (λ (i : ℕ). 0) (passed (take k ts) zs) scalars (omega (arith, above)))
      (over (take k ts) 0 (values_before ts x + 1) (λ (i : ℕ). 0) (passed (take k ts) zs) scalars (omega (arith, above)))))

  sized : (x : ℕ) → x < length ts → HasBytes (size_of p (type_at x)) (slice_index_or env x [])
  sized x inside = ⊎_elim
      (λ (lt : x < length zs). subst (HasBytes (size_of p (type_at x))) (sym (given_bytes p.structs ts zs x inside lt)) (are_bytes (size_of p (type_at x)) (residue (8 * size_of p (type_at x)) (slice_index_or zs x (pos 0)))))
      (λ (ge : length zs ≤ x). subst (HasBytes (size_of p (type_at x))) (sym (zero_bytes p.structs ts zs x inside ge)) (are_bytes (size_of p (type_at x)) 0))
      (cases_lt x (length zs))

  pub entry_holds : Holds p ts (spots_from p ts 0 0) (all_values ts) env first (λ (i : ℕ). 0)
  entry_holds = record {
    at = λ x inside. ⊎_elim (λ (lt : x < k). parameter_held x lt) (λ (ge : k ≤ x). other_held x ge inside) (cases_lt x k);
    count = let e = holding_count p.structs ts zs in omega (arith, e);
    bytes = sized;
    apart = λ x y v a b lx ly ex ey. values_differ p ts x y v a b lx ly ex ey;
  }
