-- Where a place lies once its parts are evaluated: in an object that it touches.
use Rattle.std.proofs.Common.{◌≡◌, ℕ, ℤ, pos, negsuc, ◌+◌, ◌*◌, ◌%◌, ◌^◌, ◌<◌, ◌≤◌, nat_lt, Bool, true, false, List, Option, Some, None, refl, arith, if◌then◌else◌}
use Rattle.std.specs.Prelude.{slice_get}
use Rattle.std.proofs.Math.Nat.{mul-le-mul_right}
use Rattle.std.proofs.lemmas.Bool.Decides.{nat_tests}
use Rattle.nm_base.specs.declared.int_type.IntType.{IntType}
use Rattle.nm_base.specs.declared.int_type.IntType.TheVariants.{I8, U8, I16, U16, I32, U32}
use Rattle.nesc_core.specs.Plain.{Ty, void, int, pointer, array, struct, Place, Object, Program}
use Rattle.nesc_core.specs.Plain as plain
use Rattle.nesc_core.specs.PlaceTypes.{place_type, element_of, count_of, fields_of, field_type, field_offset, object_type}
use Rattle.nesc_core.specs.Parts.{is_part}
use Rattle.core_meaning.specs.Layout.{size_of, object_address}
use Rattle.core_meaning.specs.declared.access.Where.{Where}
use Rattle.core_meaning.specs.declared.access.Where.TheVariants.{At, Within}
use Rattle.core_meaning.specs.Work.{give, fault, moved, get, set, get_int, set_int, get_long, set_long, load, store}
use Rattle.core_meaning.specs.Act.{element}
use Rattle.race_checker.specs.Report.{touches}
use Rattle.race_checker.specs.Bare.{bytes, IsScalar}
use Rattle.race_checker.proofs.Keeps.{Goes, Any, then_goes, give_goes, fault_goes}

-- these bytes lie in an object that the place touches
pub record LiesIn (p : Program) (place : Place) (a size : ℕ) : Type 0 where
  pub which : ℕ
  pub object : Object
  pub is : slice_get p.objects which ≡ Some object
  pub touched : touches p place which ≡ true
  pub from : object.addr ≤ a
  pub to : a + size ≤ object.addr + size_of p object.ty
  pub fits : object.addr + size_of p object.ty ≤ 65535

abbrev pub IsThere : Ty → Type 0
IsThere void = ⊥
IsThere (int t) = Unit {0}
IsThere (pointer t) = Unit {0}
IsThere (array t n) = Unit {0}
IsThere (struct k) = Unit {0}

-- what the layout of the objects gives
pub record Layouts (p : Program) : Type 0 where
  pub fits : (k : ℕ) (o : Object) → slice_get p.objects k ≡ Some o → o.addr + size_of p o.ty ≤ 65535
  pub part : (e : plain.Expr) (t : Ty) (a : ℕ) → is_part p t a ≡ true → LiesIn p (plain.deref e t) a (size_of p t)
  pub field : (t : Ty) (k : ℕ) → IsThere (field_type (slice_get (fields_of p.structs t) k)) → field_offset p.structs t k + size_of p (field_type (slice_get (fields_of p.structs t) k)) ≤ size_of p t

-- a local has no address
abbrev pub Lies : (p : Program) → Place → (size : ℕ) → Where → Type 0
Lies p place size (At a) = LiesIn p place a size
Lies p place size (Within x o) = Unit {0}

module _ (p : Program) (layouts : Layouts p) where
  pub object_lies : (k : ℕ) (o : Option Object) → slice_get p.objects k ≡ o → IsThere (object_type o)
      → Lies p (plain.object k) (size_of p (object_type o)) (At (object_address o))
  object_lies k None is there = absurd there
  object_lies k (Some o) is there = record {
    which = k;
    object = o;
    is = is;
    touched = grind (arith, nat_tests);
    from = omega arith;
    to = omega arith;
    fits = layouts.fits k o is;
  }

  in_array : (size n i a end : ℕ) → i < n → a + size * n ≤ end → end ≤ 65535 → ((a + i * size) % 2 ^ 16 ≡ a + i * size) × (a + i * size + size ≤ end)
  in_array size n i a end below to fits =
      let all : a + i * size + size ≤ end = omega (arith, to, mul-le-mul_right {m = i + 1} {n = n} size (omega (arith, below))) in
      (omega (arith, all, fits), all)

  element_lies : (t : Ty) (place : Place) (e : plain.Expr) (i : ℕ) (w : Where) → (IsThere t → Lies p place (size_of p t) w) → i < count_of t → IsThere (element_of t)
      → Lies p (plain.index place e) (size_of p (element_of t)) (moved w (i * size_of p (element_of t)))
  element_lies t place e i (Within x o) h below there = tt
  element_lies (array t n) place e i (At a) h below there =
      let whole : LiesIn p place a (size_of p t * n) = h tt in
      let spot = in_array (size_of p t) n i a (whole.object.addr + size_of p whole.object.ty) below whole.to whole.fits in
      record {
        which = whole.which;
        object = whole.object;
        is = whole.is;
        touched = whole.touched;
        from = rw spot.0 (omega (arith, whole.from));
        to = rw spot.0 spot.1;
        fits = whole.fits;
      }
  element_lies void place e i (At a) h below there = absurd there
  element_lies (int t) place e i (At a) h below there = absurd there
  element_lies (pointer t) place e i (At a) h below there = absurd there
  element_lies (struct k) place e i (At a) h below there = absurd there

  moved_in : (place : Place) (size offset part : ℕ) (w : Where) → Lies p place size w → offset + part ≤ size → Lies p place part (moved w offset)
  moved_in place size offset part (Within x o) h le = tt
  moved_in place size offset part (At a) h le =
      let same : (a + offset) % 2 ^ 16 ≡ a + offset = omega (arith, h.to, h.fits, le) in
      record {
        which = h.which;
        object = h.object;
        is = h.is;
        touched = h.touched;
        from = rw same (omega (arith, h.from));
        to = rw same (omega (arith, h.to, le));
        fits = h.fits;
      }

  of_struct : (t : Ty) (k : ℕ) → IsThere (field_type (slice_get (fields_of p.structs t) k)) → IsThere t
  of_struct void k there = there
  of_struct (int t) k there = tt
  of_struct (pointer t) k there = tt
  of_struct (array t n) k there = tt
  of_struct (struct j) k there = tt

  field_touches : (place : Place) (k size : ℕ) (w : Where) → Lies p place size w → Lies p (plain.field place k) size w
  field_touches place k size (Within x o) h = tt
  field_touches place k size (At a) h = record { which = h.which; object = h.object; is = h.is; touched = h.touched; from = h.from; to = h.to; fits = h.fits }

  pub field_lies : (t : Ty) (place : Place) (k : ℕ) (w : Where) → (IsThere t → Lies p place (size_of p t) w) → IsThere (field_type (slice_get (fields_of p.structs t) k))
      → Lies p (plain.field place k) (size_of p (field_type (slice_get (fields_of p.structs t) k))) (moved w (field_offset p.structs t k))
  field_lies t place k w h there =
      field_touches place k _ _ (moved_in place (size_of p t) (field_offset p.structs t k) _ w (h (of_struct t k there)) (layouts.field t k there))

  -- ---- accesses

  module _ (Fine : ℕ → Bool → Type 0) (d : ℕ) (place : Place)
      (fine : d ≡ 0 → (a : ℕ) (is_word : Bool) → LiesIn p place a (bytes is_word) → Fine a is_word) where
    get_goes : (w : Where) (is_word : Bool) → Lies p place (bytes is_word) w → Goes Fine d d Any (get w is_word)
    get_goes (At a) is_word lies = record { by = λ after r locals. (λ outside. fine outside a is_word lies, λ x. r x tt locals) }
    get_goes (Within x o) false lies = record { by = λ after r locals. r _ tt locals }
    get_goes (Within x o) true lies = record { by = λ after r locals. r _ tt locals }

    set_goes : (w : Where) (is_word : Bool) (n : ℕ) → Lies p place (bytes is_word) w → Goes Fine d d Any (set w is_word n)
    set_goes (At a) is_word n lies = record { by = λ after r locals. (λ outside. fine outside a is_word lies, r tt tt locals) }
    set_goes (Within x o) false n lies = record { by = λ after r locals. r tt tt _ }
    set_goes (Within x o) true n lies = record { by = λ after r locals. r tt tt _ }

    low : (w : Where) → Lies p place 4 w → Lies p place 2 w
    low (Within x o) h = tt
    low (At a) h = record { which = h.which; object = h.object; is = h.is; touched = h.touched; from = h.from; to = omega (arith, h.to); fits = h.fits }

    get_long_goes : (w : Where) → Lies p place 4 w → Goes Fine d d Any (get_long w)
    get_long_goes w lies = then_goes (get_goes w true (low w lies)) (λ x _. then_goes (get_goes (moved w 2) true (moved_in place 4 2 2 w lies (omega arith))) (λ y _. give_goes _ tt))

    set_long_goes : (w : Where) (n : ℕ) → Lies p place 4 w → Goes Fine d d Any (set_long w n)
    set_long_goes w n lies = then_goes (set_goes w true _ (low w lies)) (λ _ _. set_goes (moved w 2) true _ (moved_in place 4 2 2 w lies (omega arith)))

    get_int_goes : (t : IntType) (w : Where) → Lies p place (size_of p (int t)) w → Goes Fine d d Any (get_int t w)
    get_int_goes I8 w lies = get_goes w false lies
    get_int_goes U8 w lies = get_goes w false lies
    get_int_goes I16 w lies = get_goes w true lies
    get_int_goes U16 w lies = get_goes w true lies
    get_int_goes I32 w lies = get_long_goes w lies
    get_int_goes U32 w lies = get_long_goes w lies

    set_int_goes : (t : IntType) (w : Where) (n : ℕ) → Lies p place (size_of p (int t)) w → Goes Fine d d Any (set_int t w n)
    set_int_goes I8 w n lies = set_goes w false n lies
    set_int_goes U8 w n lies = set_goes w false n lies
    set_int_goes I16 w n lies = set_goes w true n lies
    set_int_goes U16 w n lies = set_goes w true n lies
    set_int_goes I32 w n lies = set_long_goes w n lies
    set_int_goes U32 w n lies = set_long_goes w n lies

    there : (t : Ty) → IsScalar t → IsThere t
    there void is = is
    there (int t) is = tt
    there (pointer t) is = tt
    there (array t n) is = tt
    there (struct k) is = tt

    pub load_goes : (t : Ty) (w : Where) → IsScalar t → (IsThere t → Lies p place (size_of p t) w) → Goes Fine d d Any (load t w)
    load_goes void w is lies = absurd is
    load_goes (int t) w is lies = then_goes (get_int_goes t w (lies tt)) (λ n _. give_goes _ tt)
    load_goes (pointer t) w is lies = then_goes (get_goes w true (lies tt)) (λ n _. give_goes _ tt)
    load_goes (array t n) w is lies = absurd is
    load_goes (struct k) w is lies = absurd is

    pub store_goes : (t : Ty) (w : Where) (v : ℤ) → IsScalar t → (IsThere t → Lies p place (size_of p t) w) → Goes Fine d d Any (store t w v)
    store_goes void w v is lies = absurd is
    store_goes (int t) w v is lies = set_int_goes t w _ (lies tt)
    store_goes (pointer t) w v is lies = set_goes w true _ (lies tt)
    store_goes (array t n) w v is lies = absurd is
    store_goes (struct k) w v is lies = absurd is

  -- ---- the checks of places

  abbrev pub Placed : (types : List Ty) → Place → Where → Type 0
  Placed types place w = IsThere (place_type p types place) → Lies p place (size_of p (place_type p types place)) w

  module _ (Fine : ℕ → Bool → Type 0) (d : ℕ) (types : List Ty) (place : Place) (e : plain.Expr) where
    pub element_goes : (w : Where) (i : ℤ) → Placed types place w
        → Goes Fine d d (Placed types (plain.index place e)) (element (count_of (place_type p types place)) (size_of p (element_of (place_type p types place))) w i)
    element_goes w (negsuc i) lies = fault_goes 1
    element_goes w (pos i) lies = by_test (nat_lt i (count_of (place_type p types place))) refl
      where
        by_test : (t : Bool) → nat_lt i (count_of (place_type p types place)) ≡ t
            → Goes Fine d d (Placed types (plain.index place e)) (if t then give (moved w (i * size_of p (element_of (place_type p types place)))) else fault 1)
        by_test true is = give_goes _ (element_lies (place_type p types place) place e i w lies (grind (arith, nat_tests)))
        by_test false is = fault_goes 1

  pub deref_goes : (Fine : ℕ → Bool → Type 0) (d : ℕ) (types : List Ty) (e : plain.Expr) (t : Ty) (a : ℕ) (b : Bool) → is_part p t a ≡ b
      → Goes Fine d d (Placed types (plain.deref e t)) (if b then give (At a) else fault 2)
  deref_goes Fine d types e t a true is = give_goes _ (λ there. layouts.part e t a is)
  deref_goes Fine d types e t a false is = fault_goes 2
