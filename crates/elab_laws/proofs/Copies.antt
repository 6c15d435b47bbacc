-- A struct assignment copies each number and pointer in the struct, and nothing where there is none.
use Rattle.std.proofs.Common.{◌≡◌, ℕ, zero, suc, ◌+◌, ◌*◌, ◌<◌, ◌≤◌, List, [], ◌∷◌, ◌++◌, fold, Some, ap, sym, subst, ◌∙◌, refl, arith}
use Rattle.std.specs.Prelude.{pos, slice_get}
use Rattle.std.specs.List.{flat_map, range_with_len}
use Rattle.std.proofs.lemmas.Int.{ints}
use Rattle.std.proofs.lemmas.Nat.{mul-le}
use Rattle.nm_base.specs.declared.pos.Pos.{Pos}
use Rattle.nm_base.specs.declared.int_type.IntType.{IntType}
use Rattle.nm_base.specs.declared.int_type.IntType.TheVariants.{I8, U8, I16, U16, I32, U32}
use Rattle.nesc_core.specs.declared.layout.Layout.{Layout}
use Rattle.nesc_core.specs.Plain.{Ty, Expr, Place, Program, Field, void, int, pointer, array, struct}
use Rattle.nesc_core.specs.Plain as core
use Rattle.nesc_core.specs.Size.{layout, int_layout, with_field, fields_layout, struct_of_fields}
use Rattle.nesc_core.specs.Typing.{IsSome, Has}
use Rattle.nesc_core.proofs.SizeLemmas.{fold-grows, rounded-le}
use Rattle.elab_meaning.specs.Scope.{Struct}
use Rattle.elab_meaning.specs.Convert.{layout_in}
use Rattle.elab_meaning.specs.Places.{copies_in, copies_of_fields, copies_of_struct, element_number, fields_of_struct}
use Rattle.elab_laws.specs.Known.{Each, IsPrefix, AreLaid, PointsIn}
use Rattle.elab_laws.specs.Formed.{IsPlaceOf, fields_in}
use Rattle.elab_laws.proofs.Lists.{each_joined}
use Rattle.elab_laws.proofs.Numbers.{in_range}
use Rattle.elab_laws.proofs.Sizes.{AreStructs, repeats, stands}
use Rattle.elab_laws.proofs.Operations as operations

-- ---- lists

none_of : {A B : Type 0} (f : A → List B) (xs : List A) → ((x : A) → f x ≡ []) → flat_map f xs ≡ []
none_of f [] h = refl
none_of f (x ∷ xs) h = ap (λ ys. ys ++ flat_map f xs) (h x) ∙ none_of f xs h

each_flat : {A B : Type 0} (P : B → Type 0) (Q : A → Type 0) (f : A → List B) (xs : List A) → Each Q xs → ((x : A) → Q x → Each P (f x)) → Each P (flat_map f xs)
each_flat P Q f [] h g = tt
each_flat P Q f (x ∷ xs) h g = each_joined P (f x) (flat_map f xs) (g x h.0) (each_flat P Q f xs h.1 g)

in_range_below : (n a m : ℕ) → a + m ≤ n → Each (λ i. i < n) (range_with_len a m)
in_range_below n a zero h = tt
in_range_below n a (suc m) h = (omega (arith, h), in_range_below n (a + 1) m (omega (arith, h)))

-- ---- what takes no bytes

int_some : (t : IntType) → (int_layout t).size ≡ 0 → ⊥
int_some I8 e = omega (arith, e)
int_some U8 e = omega (arith, e)
int_some I16 e = omega (arith, e)
int_some U16 e = omega (arith, e)
int_some I32 e = omega (arith, e)
int_some U32 e = omega (arith, e)

no_product : (a n : ℕ) → a * suc n ≡ 0 → a ≡ 0
no_product zero n e = refl
no_product (suc a) n e = let h = mul-le 1 1 (suc a) (suc n) (omega arith) (omega arith) in absurd (omega (arith, h, e))

rounded_none : (fs : List Layout) → (struct_of_fields (fields_layout fs)).size ≡ 0 → (fields_layout fs).size ≡ 0
rounded_none fs e = let h = rounded-le (fields_layout fs).size (fields_layout fs).align in omega (arith, h, e)

first_none : (done : Layout) (f : Layout) (fs : List Layout) → (fold with_field done (f ∷ fs)).size ≡ 0 → f.size ≡ 0
first_none done f fs e = let h = fold-grows (with_field done f) fs in omega (arith, h, e)

module _ (at at_value : Pos) (ss : List Struct) (ok : AreStructs ss) where
  abbrev IsNone : (ℕ → Place → Place → List Expr) → Type 0
  IsNone g = (k : ℕ) (x : Struct) → slice_get ss k ≡ Some x → x.layout.size ≡ 0 → (a b : Place) → g k a b ≡ []

  none_in : (g : ℕ → Place → Place → List Expr) → IsNone g → (t : Ty) (l : Layout) → layout_in ss t ≡ Some l → l.size ≡ 0 → (a b : Place) → copies_in g at at_value t a b ≡ []
  none_in g none void l e z a b = refl
  none_in g none (int t) l e z a b = absurd (int_some t (let s : int_layout t ≡ l = cc in ap (λ (m : Layout). m.size) s ∙ z))
  none_in g none (pointer t) l e z a b = let s : layout 2 2 ≡ l = cc in let q : 2 ≡ 0 = ap (λ (m : Layout). m.size) s ∙ z in absurd (omega (arith, q))
  none_in g none (array t n) l e z a b = let r = repeats n (layout_in ss t) l e in by n r.part r.is (ap (λ (m : Layout). m.size) (sym r.whole) ∙ z) (λ q i. none_in g none t r.part r.is q (element_number a i) (element_number b i))
    where
      by : (n : ℕ) (part : Layout) → layout_in ss t ≡ Some part → part.size * n ≡ 0 → (part.size ≡ 0 → (i : ℕ) → copies_in g at at_value t (element_number a i) (element_number b i) ≡ []) → copies_in g at at_value (array t n) a b ≡ []
      by zero part q y f = refl
      by (suc n) part q y f = none_of (λ i. copies_in g at at_value t (element_number a i) (element_number b i)) (range_with_len 0 (suc n)) (f (no_product part.size n y))
  none_in g none (struct k) l e z a b = let s = stands ss k l e in none k s.item s.is (ap (λ (m : Layout). m.size) s.whole ∙ z) a b

  none_in_fields : (g : ℕ → Place → Place → List Expr) → IsNone g → (k i : ℕ) (fs : List Field) (ls : List Layout) (done : Layout) → AreLaid ss k fs ls → (fold with_field done ls).size ≡ 0
      → (a b : Place) → copies_of_fields g at at_value i fs a b ≡ []
  none_in_fields g none k i [] ls done h z a b = refl
  none_in_fields g none k i (f ∷ fs) [] done h z a b = absurd h
  none_in_fields g none k i (f ∷ fs) (l ∷ ls) done h z a b =
      ap (λ xs. xs ++ copies_of_fields g at at_value (suc i) fs a b) (none_in g none f.ty l h.0 (first_none done l ls z) (core.field a i) (core.field b i))
      ∙ none_in_fields g none k (suc i) fs ls (with_field done l) h.2 z a b

  pub none_in_struct : (depth : ℕ) → IsNone (copies_of_struct ss at at_value depth)
  none_in_struct zero k x e z a b = refl
  none_in_struct (suc depth) k x e z a b =
      let s = ok k x e in
      ap (λ o. copies_of_fields (copies_of_struct ss at at_value depth) at at_value 0 (fields_of_struct o) a b) e
      ∙ none_in_fields (copies_of_struct ss at at_value depth) (none_in_struct depth) k 0 x.fields s.layouts (layout 0 1) s.laid
      (rounded_none s.layouts (ap (λ (m : Layout). m.size) (sym s.whole) ∙ z)) a b

  -- ---- each copy is an assignment

  module _ (p : Program) (types : List Ty) (first : IsPrefix (fields_in ss) p.structs)
      (points : (k : ℕ) (x : Struct) → slice_get ss k ≡ Some x → Each (λ (f : Field). PointsIn ss f.ty) x.fields) where
    abbrev S : Expr → Type 0
    S e = IsSome (Has p types e)

    abbrev Copies : (ℕ → Place → Place → List Expr) → Type 0
    Copies g = (k : ℕ) (x : Struct) → slice_get ss k ≡ Some x → (a b : Place) → IsPlaceOf p types a (struct k) → IsPlaceOf p types b (struct k) → Each S (g k a b)

    element_is : (a : Place) (t : Ty) (n i : ℕ) → IsPlaceOf p types a (array t n) → i ≤ 32767 → IsPlaceOf p types (element_number a i) t
    element_is a t n i h low = operations.element_is p types ss ok first points a t n (core.const I16 (pos i)) I16 h (refl, in_range I16 (pos i) (omega (arith, ints), omega (arith, ints, low)))

    copied_in : (g : ℕ → Place → Place → List Expr) → IsNone g → Copies g → (t : Ty) (l : Layout) → layout_in ss t ≡ Some l → (a b : Place)
        → IsPlaceOf p types a t → IsPlaceOf p types b t → Each S (copies_in g at at_value t a b)
    copied_in g none copies void l e a b h k = tt
    copied_in g none copies (int t) l e a b h k = ((int t, (sym h.ty, tt, h.formed, (sym k.ty, tt, k.formed))), tt)
    copied_in g none copies (pointer t) l e a b h k = ((pointer t, (sym h.ty, tt, h.formed, (sym k.ty, tt, k.formed))), tt)
    copied_in g none copies (array t n) l e a b h k =
        let r = repeats n (layout_in ss t) l e in
        by r.part r.is r.part.size refl (let few = r.few in let s = ap (λ (m : Layout). m.size) r.whole in omega (arith, few, s))
        (λ i low. copied_in g none copies t r.part r.is (element_number a i) (element_number b i) (element_is a t n i h low) (element_is b t n i k low))
      where
        by : (part : Layout) → layout_in ss t ≡ Some part → (z : ℕ) → part.size ≡ z → part.size * n ≤ 32767
            → ((i : ℕ) → i ≤ 32767 → Each S (copies_in g at at_value t (element_number a i) (element_number b i))) → Each S (copies_in g at at_value (array t n) a b)
        by part q zero y few f =
            subst (Each S) (sym (none_of (λ i. copies_in g at at_value t (element_number a i) (element_number b i)) (range_with_len 0 n) (λ i. none_in g none t part q y (element_number a i) (element_number b i)))) tt
        by part q (suc z) y few f =
            let one : 1 ≤ part.size = omega (arith, y) in
            let h = mul-le 1 n part.size n one (omega arith) in
            each_flat S (λ i. i < n) (λ i. copies_in g at at_value t (element_number a i) (element_number b i)) (range_with_len 0 n) (in_range_below n 0 n (omega arith)) (λ i lt. f i (omega (arith, lt, h, few)))
    copied_in g none copies (struct k) l e a b h m = let s = stands ss k l e in copies k s.item s.is a b h m

    copied_fields : (g : ℕ → Place → Place → List Expr) → IsNone g → Copies g → (k : ℕ) (x : Struct) → slice_get ss k ≡ Some x → (a b : Place) → IsPlaceOf p types a (struct k) → IsPlaceOf p types b (struct k)
        → (i : ℕ) (fs : List Field) (ls : List Layout) → AreLaid ss k fs ls → ((j : ℕ) (f : Field) → slice_get fs j ≡ Some f → slice_get x.fields (i + j) ≡ Some f)
        → Each S (copies_of_fields g at at_value i fs a b)
    copied_fields g none copies k x e a b h m i [] ls laid there = tt
    copied_fields g none copies k x e a b h m i (f ∷ fs) [] laid there = absurd laid
    copied_fields g none copies k x e a b h m i (f ∷ fs) (l ∷ ls) laid there =
        let here : slice_get x.fields i ≡ Some f = subst (λ n. slice_get x.fields n ≡ Some f) (let z : i + 0 ≡ i = omega arith in z) (there 0 f refl) in
        each_joined S (copies_in g at at_value f.ty (core.field a i) (core.field b i)) (copies_of_fields g at at_value (suc i) fs a b)
        (copied_in g none copies f.ty l laid.0 (core.field a i) (core.field b i)
        (operations.field_is p types ss ok first points a k i x f e here h) (operations.field_is p types ss ok first points b k i x f e here m))
        (copied_fields g none copies k x e a b h m (suc i) fs ls laid.2
        (λ j f q. subst (λ n. slice_get x.fields n ≡ Some f) (let z : i + suc j ≡ suc i + j = omega arith in z) (there (suc j) f q)))

    pub copies_ok : (depth : ℕ) → Copies (copies_of_struct ss at at_value depth)
    copies_ok zero k x e a b h m = tt
    copies_ok (suc depth) k x e a b h m =
        let s = ok k x e in
        subst (λ o. Each S (copies_of_fields (copies_of_struct ss at at_value depth) at at_value 0 (fields_of_struct o) a b)) (sym e)
        (copied_fields (copies_of_struct ss at at_value depth) (none_in_struct depth) (copies_ok depth) k x e a b h m 0 x.fields s.layouts s.laid
        (λ j f q. subst (λ n. slice_get x.fields n ≡ Some f) (let z : j ≡ 0 + j = omega arith in z) q))
