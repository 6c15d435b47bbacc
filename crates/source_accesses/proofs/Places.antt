-- Where a place lies once its parts are evaluated: in an object, where its alignment allows.
use Rattle.std.proofs.Common.{◌≡◌, ℕ, ℤ, pos, negsuc, ◌+◌, ◌*◌, ◌%◌, ◌^◌, ◌<◌, ◌≤◌, nat_lt, Bool, true, false, List, [], ◌∷◌, zero, suc, length, Option, Some, None, refl, arith, if◌then◌else◌}
use Rattle.std.specs.Prelude.{slice_get}
use Rattle.std.proofs.lemmas.Bool.Decides.{nat_tests}
use Rattle.nm_base.specs.declared.int_type.IntType.{IntType}
use Rattle.nm_base.specs.declared.int_type.IntType.TheVariants.{I8, U8, I16, U16, I32, U32}
use Rattle.nesc_core.specs.declared.layout.Layout.{Layout}
use Rattle.nesc_core.specs.Plain.{Ty, void, int, pointer, array, struct, Object, Program}
use Rattle.nesc_core.specs.PlaceTypes.{element_of, count_of, fields_of, field_type, field_offset, object_type}
use Rattle.nesc_core.specs.Typing.{IsArray, IsScalar}
use Rattle.nesc_core.specs.Size.{layout_of, AreSized}
use Rattle.nesc_core.specs.Parts.{is_part}
use Rattle.core_meaning.specs.Layout.{size_of, object_address}
use Rattle.core_meaning.specs.declared.access.Where.{Where}
use Rattle.core_meaning.specs.declared.access.Where.TheVariants.{At, Within}
use Rattle.core_meaning.specs.Work.{give, fault, moved, get, set, get_int, set_int, get_long, set_long, load, store}
use Rattle.core_meaning.specs.Act.{element}
use Rattle.source_accesses.specs.Accesses.{IsAligned, IsInObject, bytes}
use Rattle.source_accesses.proofs.Aligned.{Suits, sum-suits, layout-even}
use Rattle.source_accesses.proofs.Parts.{IsPartOf, element_part, field_part}
use Rattle.source_accesses.proofs.Keeps.{Goes, Any, then_goes, give_goes, fault_goes}

-- a value of this layout lies in an object
pub record LiesIn (p : Program) (a : ℕ) (l : Layout) : Type 0 where
  pub which : ℕ
  pub object : Object
  pub is : slice_get p.objects which ≡ Some object
  pub from : object.addr ≤ a
  pub to : a + l.size ≤ object.addr + size_of p object.ty
  pub fits : object.addr + size_of p object.ty ≤ 65535
  pub suits : Suits l.align a

-- a local has no address
abbrev pub Lies : (p : Program) → Layout → Where → Type 0
Lies p l (At a) = LiesIn p a l
Lies p l (Within x o) = Unit {0}

-- what the layout of the objects gives
pub record Objects (p : Program) : Type 0 where
  pub sized : AreSized p.structs
  pub fits : (k : ℕ) (o : Object) → slice_get p.objects k ≡ Some o → o.addr + size_of p o.ty ≤ 65535
  pub even : (k : ℕ) (o : Object) → slice_get p.objects k ≡ Some o → o.addr % 2 ≡ 0
  pub part : (t : Ty) (a : ℕ) → is_part p t a ≡ true → LiesIn p a (layout_of p.structs t)

module _ (p : Program) (objects : Objects p) where
  abbrev L : Ty → Layout
  L t = layout_of p.structs t

  pub object_lies : (k : ℕ) (o : Option Object) → slice_get p.objects k ≡ o → k < length p.objects → Lies p (L (object_type o)) (At (object_address o))
  object_lies k None is lt = absurd (missing p.objects k lt is)
    where
      missing : (os : List Object) (k : ℕ) → k < length os → slice_get os k ≡ None → ⊥
      missing [] k lt is = omega (arith, lt)
      missing (o ∷ os) zero lt is = absurd (cc)
      missing (o ∷ os) (suc k) lt is = missing os k (omega (arith, lt)) is
  object_lies k (Some o) is lt = record {
    which = k;
    object = o;
    is = is;
    from = omega arith;
    to = omega arith;
    fits = objects.fits k o is;
    suits = λ e. objects.even k o is;
  }

  -- a part of what lies there
  moved_in : (whole part : Layout) (offset : ℕ) (w : Where) → IsPartOf whole part offset → part.align ≤ 2 → whole.align ≤ 2 → Lies p whole w → Lies p part (moved w offset)
  moved_in whole part offset (Within x o) of small most h = tt
  moved_in whole part offset (At a) of small most h =
      let ends = of.ends in
      let to = h.to in
      let fits = h.fits in
      let same : (a + offset) % 2 ^ 16 ≡ a + offset = omega (arith, to, fits, ends) in
      let least = of.aligns in
      record {
        which = h.which;
        object = h.object;
        is = h.is;
        from = rw same (omega (arith, h.from));
        to = rw same (omega (arith, to, ends));
        fits = h.fits;
        suits = rw same (sum-suits part.align a offset (λ e. h.suits (omega (arith, e, least, most))) of.suits);
      }

  -- ---- accesses

  abbrev Fine : ℕ → Bool → Type 0
  Fine a is_word = IsInObject p a is_word

  aligned_at : (is_word : Bool) (align a : ℕ) → (is_word ≡ true → align ≡ 2) → Suits align a → IsAligned is_word a
  aligned_at true align a wide suits = suits (wide refl)
  aligned_at false align a wide suits = tt

  in_object : (a : ℕ) (is_word : Bool) (l : Layout) → bytes is_word ≤ l.size → (is_word ≡ true → l.align ≡ 2) → LiesIn p a l → IsInObject p a is_word
  in_object a is_word l room wide h = record {
    which = h.which;
    object = h.object;
    is = h.is;
    from = h.from;
    to = let to = h.to in omega (arith, to, room);
    aligned = aligned_at is_word l.align a wide h.suits;
  }

  get_goes : (w : Where) (is_word : Bool) (l : Layout) → bytes is_word ≤ l.size → (is_word ≡ true → l.align ≡ 2) → Lies p l w → Goes Fine Any (get w is_word)
  get_goes (At a) is_word l room wide lies = record { by = λ after r locals. (in_object a is_word l room wide lies, λ x. r x tt locals) }
  get_goes (Within x o) false l room wide lies = record { by = λ after r locals. r _ tt locals }
  get_goes (Within x o) true l room wide lies = record { by = λ after r locals. r _ tt locals }

  set_goes : (w : Where) (is_word : Bool) (n : ℕ) (l : Layout) → bytes is_word ≤ l.size → (is_word ≡ true → l.align ≡ 2) → Lies p l w → Goes Fine Any (set w is_word n)
  set_goes (At a) is_word n l room wide lies = record { by = λ after r locals. (in_object a is_word l room wide lies, r tt tt locals) }
  set_goes (Within x o) false n l room wide lies = record { by = λ after r locals. r tt tt _ }
  set_goes (Within x o) true n l room wide lies = record { by = λ after r locals. r tt tt _ }

  abbrev byte : Layout
  byte = record { size = 1; align = 1 }

  abbrev word : Layout
  word = record { size = 2; align = 2 }

  abbrev long : Layout
  long = record { size = 4; align = 2 }

  high_lies : (w : Where) → Lies p long w → Lies p word (moved w 2)
  high_lies w lies = moved_in long word 2 w (record { ends = omega arith; suits = λ e. refl; aligns = omega arith }) (omega arith) (omega arith) lies

  get_long_goes : (w : Where) → Lies p long w → Goes Fine Any (get_long w)
  get_long_goes w lies =
      then_goes (get_goes w true long (omega arith) (λ e. refl) lies) (λ x _.
      then_goes (get_goes (moved w 2) true word (omega arith) (λ e. refl) (high_lies w lies)) (λ y _. give_goes _ tt))

  set_long_goes : (w : Where) (n : ℕ) → Lies p long w → Goes Fine Any (set_long w n)
  set_long_goes w n lies =
      then_goes (set_goes w true _ long (omega arith) (λ e. refl) lies) (λ _ _.
      set_goes (moved w 2) true _ word (omega arith) (λ e. refl) (high_lies w lies))

  get_int_goes : (t : IntType) (w : Where) → Lies p (L (int t)) w → Goes Fine Any (get_int t w)
  get_int_goes I8 w lies = get_goes w false byte (omega arith) (λ e. absurd (cc)) lies
  get_int_goes U8 w lies = get_goes w false byte (omega arith) (λ e. absurd (cc)) lies
  get_int_goes I16 w lies = get_goes w true word (omega arith) (λ e. refl) lies
  get_int_goes U16 w lies = get_goes w true word (omega arith) (λ e. refl) lies
  get_int_goes I32 w lies = get_long_goes w lies
  get_int_goes U32 w lies = get_long_goes w lies

  set_int_goes : (t : IntType) (w : Where) (n : ℕ) → Lies p (L (int t)) w → Goes Fine Any (set_int t w n)
  set_int_goes I8 w n lies = set_goes w false n byte (omega arith) (λ e. absurd (cc)) lies
  set_int_goes U8 w n lies = set_goes w false n byte (omega arith) (λ e. absurd (cc)) lies
  set_int_goes I16 w n lies = set_goes w true n word (omega arith) (λ e. refl) lies
  set_int_goes U16 w n lies = set_goes w true n word (omega arith) (λ e. refl) lies
  set_int_goes I32 w n lies = set_long_goes w n lies
  set_int_goes U32 w n lies = set_long_goes w n lies

  pub load_goes : (t : Ty) (w : Where) → IsScalar t → Lies p (L t) w → Goes Fine Any (load t w)
  load_goes void w is lies = absurd is
  load_goes (int t) w is lies = then_goes (get_int_goes t w lies) (λ n _. give_goes _ tt)
  load_goes (pointer t) w is lies = then_goes (get_goes w true word (omega arith) (λ e. refl) lies) (λ n _. give_goes _ tt)
  load_goes (array t n) w is lies = absurd is
  load_goes (struct k) w is lies = absurd is

  pub store_goes : (t : Ty) (w : Where) (v : ℤ) → IsScalar t → Lies p (L t) w → Goes Fine Any (store t w v)
  store_goes void w v is lies = absurd is
  store_goes (int t) w v is lies = set_int_goes t w _ lies
  store_goes (pointer t) w v is lies = set_goes w true _ word (omega arith) (λ e. refl) lies
  store_goes (array t n) w v is lies = absurd is
  store_goes (struct k) w v is lies = absurd is

  -- ---- elements, fields and pointers

  element_lies : (t : Ty) (i : ℕ) (w : Where) → IsArray t → i < count_of t → Lies p (L t) w → Lies p (L (element_of t)) (moved w (i * size_of p (element_of t)))
  element_lies void i w is lt lies = absurd is
  element_lies (int t) i w is lt lies = absurd is
  element_lies (pointer t) i w is lt lies = absurd is
  element_lies (struct k) i w is lt lies = absurd is
  element_lies (array t n) i w is lt lies =
      moved_in (L (array t n)) (L t) (i * size_of p t) w (element_part p.structs t n i lt) (layout-even p.structs t).small (layout-even p.structs (array t n)).small lies

  pub field_lies : (t : Ty) (k : ℕ) (w : Where) → k < length (fields_of p.structs t) → Lies p (L t) w
      → Lies p (L (field_type (slice_get (fields_of p.structs t) k))) (moved w (field_offset p.structs t k))
  field_lies t k w lt lies =
      let part : Ty = field_type (slice_get (fields_of p.structs t) k) in
      moved_in (L t) (L part) (field_offset p.structs t k) w (field_part p.structs objects.sized t k lt) (layout-even p.structs part).small (layout-even p.structs t).small lies

  pub element_goes : (t : Ty) (w : Where) (i : ℤ) → IsArray t → Lies p (L t) w → Goes Fine (Lies p (L (element_of t))) (element (count_of t) (size_of p (element_of t)) w i)
  element_goes t w (negsuc i) is lies = fault_goes 1
  element_goes t w (pos i) is lies = by_test (nat_lt i (count_of t)) refl
    where
      by_test : (b : Bool) → nat_lt i (count_of t) ≡ b → Goes Fine (Lies p (L (element_of t))) (if b then give (moved w (i * size_of p (element_of t))) else fault 1)
      by_test true below = give_goes _ (element_lies t i w is (grind (arith, nat_tests)) lies)
      by_test false below = fault_goes 1

  pub deref_goes : (t : Ty) (a : ℕ) (b : Bool) → is_part p t a ≡ b → Goes Fine (Lies p (L t)) (if b then give (At a) else fault 2)
  deref_goes t a true is = give_goes _ (objects.part t a is)
  deref_goes t a false is = fault_goes 2
