-- Parts and fields lie in their objects, where their alignments allow.
use Rattle.std.proofs.Common.{◌≡◌, ℕ, zero, suc, ◌+◌, ◌*◌, ◌%◌, ◌<◌, ◌≤◌, inl, inr, List, [], ◌∷◌, length, map, fold, take, Some, refl, sym, subst, ap, arith}
use Rattle.std.specs.Prelude.{slice_get, slice_index_or}
use Rattle.std.proofs.Math.Nat.{mul-le-mul_right}
use Rattle.std.proofs.lemmas.Option.{none-some, same_Some}
use Rattle.nesc_core.specs.declared.layout.Layout.{Layout}
use Rattle.nesc_core.specs.Plain.{Ty, void, int, pointer, array, struct, Field}
use Rattle.nesc_core.specs.Size.{layout, rounded, with_field, fields_layout, layout_of, NamesBelow, AreSized}
use Rattle.nesc_core.specs.Parts.{Part, part_at, parts_of_elements, parts_of_fields, parts_at}
use Rattle.nesc_core.specs.PlaceTypes.{fields_of, field_type, field_offset}
use Rattle.nesc_core.specs.Laws.{StructsAreTheirFields}
use Rattle.nesc_core.proofs.SizeLemmas.{rounded-le, fold-grows, struct_at-whole}
use Rattle.source_accesses.proofs.Lists.{IsIn, all_in, in_either, place_of}
use Rattle.source_accesses.proofs.Aligned.{Suits, rounded-suits, sum-suits, product-suits, layout-even, field-aligns}

-- ---- parts

pub record Inside (structs : List (List Field)) (q : Part) (a size : ℕ) : Type 0 where
  pub from : a ≤ q.address
  pub to : q.address + (layout_of structs q.ty).size ≤ a + size
  pub suits : Suits (layout_of structs q.ty).align q.address

module _ (structs : List (List Field)) (sized : AreSized structs) (law : StructsAreTheirFields structs) where
  wider : (q : Part) (a size b more : ℕ) → Inside structs q a size → b ≤ a → a + size ≤ b + more → Inside structs q b more
  wider q a size b more h from to = record { from = omega (arith, h.from, from); to = omega (arith, h.to, to); suits = h.suits }

  itself : (q : Part) (a : ℕ) (t : Ty) → q ≡ part_at a t → Suits (layout_of structs t).align a → Inside structs q a (layout_of structs t).size
  itself q a t same suits = subst (λ x. Inside structs x a (layout_of structs t).size) (sym same) (record { from = omega arith; to = omega arith; suits = suits })

  in_elements : (parts : ℕ → List Part) (size align : ℕ) (q : Part) → Suits align size → ((a : ℕ) → Suits align a → IsIn q (parts a) → Inside structs q a size)
      → (n a : ℕ) → Suits align a → IsIn q (parts_of_elements parts size n a) → Inside structs q a (size * n)
  in_elements parts size align q whole one zero a suits h = absurd h
  in_elements parts size align q whole one (suc n) a suits h = elim (in_either q (parts a) (parts_of_elements parts size n (a + size)) h) [
    | inl here ↦ wider q a size a (size * suc n) (one a suits here) (omega arith) (omega arith)
    | inr more ↦ wider q (a + size) (size * n) a (size * suc n) (in_elements parts size align q whole one n (a + size) (sum-suits align a size suits whole) more) (omega arith) (omega arith)
  ]

  in_fields : (q : Part) (a : ℕ) (fs : List Field) → ((f : Field) → IsIn f fs → Suits (layout_of structs f.ty).align a)
      → ((f : Field) (b : ℕ) → IsIn f fs → Suits (layout_of structs f.ty).align b → IsIn q (parts_at structs f.ty b) → Inside structs q b (layout_of structs f.ty).size)
      → (done : Layout) → IsIn q (parts_of_fields (parts_at structs) (layout_of structs) a done fs)
      → Inside structs q a (fold with_field done (map (λ f. layout_of structs f.ty) fs)).size
  in_fields q a [] suits one done h = absurd h
  in_fields q a (f ∷ fs) suits one done h =
      let l : Layout = layout_of structs f.ty in
      elim (in_either q (parts_at structs f.ty (a + rounded done.size l.align)) (parts_of_fields (parts_at structs) (layout_of structs) a (with_field done l) fs) h) [
        | inl here ↦
            wider q (a + rounded done.size l.align) l.size a _
            (one f _ (inl refl) (sum-suits l.align a (rounded done.size l.align) (suits f (inl refl)) (rounded-suits done.size l.align)) here)
            (omega arith) (omega (arith, fold-grows (with_field done l) (map (λ f. layout_of structs f.ty) fs)))
        | inr more ↦ in_fields q a fs (λ g there. suits g (inr there)) (λ g b there. one g b (inr there)) (with_field done l) more
      ]

  names_more : (m n : ℕ) → m ≤ n → (t : Ty) → NamesBelow m t → NamesBelow n t
  names_more m n le void h = h
  names_more m n le (int t) h = h
  names_more m n le (pointer t) h = h
  names_more m n le (array t len) h = names_more m n le t h
  names_more m n le (struct k) h = omega (arith, le, h)

  -- a struct is aligned as its fields are
  struct_suits : (k a : ℕ) → k < length structs → Suits (layout_of structs (struct k)).align a → (f : Field) → IsIn f (slice_index_or structs k []) → Suits (layout_of structs f.ty).align a
  struct_suits k a below suits f there e =
      let L : Field → Layout = λ f. layout_of structs f.ty in
      let fs : List Field = slice_index_or structs k [] in
      let at = place_of f fs there in
      let least : (L f).align ≤ (fields_layout (map L fs)).align = field-aligns L fs (layout 0 1) at.0 f at.1 in
      let same : (layout_of structs (struct k)).align ≡ (fields_layout (map L fs)).align = ap (λ (l : Layout). l.align) (law.layouts k below) in
      let most = (layout-even structs (struct k)).small in
      suits (omega (arith, e, least, same, most))

  in_struct : (n : ℕ) → suc n ≤ length structs
      → ((t : Ty) → NamesBelow n t → (q : Part) (a : ℕ) → Suits (layout_of structs t).align a → IsIn q (parts_at structs t a) → Inside structs q a (layout_of structs t).size)
      → (k : ℕ) → k < suc n → (q : Part) (a : ℕ) → Suits (layout_of structs (struct k)).align a
      → IsIn q (part_at a (struct k) ∷ parts_of_fields (parts_at structs) (layout_of structs) a (layout 0 1) (slice_index_or structs k []))
      → Inside structs q a (layout_of structs (struct k)).size
  in_struct n le lower k below q a suits (inl same) = itself q a (struct k) same suits
  in_struct n le lower k below q a suits (inr h) =
      let fs : List Field = slice_index_or structs k [] in
      let fl : Layout = fields_layout (map (λ f. layout_of structs f.ty) fs) in
      let names : (f : Field) → IsIn f fs → NamesBelow n f.ty =
      λ f there. names_more k n (omega (arith, below)) f.ty (all_in (λ f. NamesBelow k f.ty) f fs (sized.lower k (omega (arith, below, le))) there) in
      let fields : Inside structs q a fl.size = in_fields q a fs (struct_suits k a (omega (arith, below, le)) suits) (λ f b there own part. lower f.ty (names f there) q b own part) (layout 0 1) h in
      let size : (layout_of structs (struct k)).size ≡ rounded fl.size fl.align = ap (λ (l : Layout). l.size) (law.layouts k (omega (arith, below, le))) in
      wider q a fl.size a _ fields (omega arith) (omega (arith, size, rounded-le fl.size fl.align))

  pub inside : (n : ℕ) → n ≤ length structs → (t : Ty) → NamesBelow n t → (q : Part) (a : ℕ) → Suits (layout_of structs t).align a → IsIn q (parts_at structs t a) → Inside structs q a (layout_of structs t).size
  inside n le void names q a suits (inl same) = itself q a void same suits
  inside n le void names q a suits (inr h) = absurd h
  inside n le (int t) names q a suits (inl same) = itself q a (int t) same suits
  inside n le (int t) names q a suits (inr h) = absurd h
  inside n le (pointer t) names q a suits (inl same) = itself q a (pointer t) same suits
  inside n le (pointer t) names q a suits (inr h) = absurd h
  inside n le (array t len) names q a suits (inl same) = itself q a (array t len) same suits
  inside n le (array t len) names q a suits (inr h) =
      in_elements (parts_at structs t) (layout_of structs t).size (layout_of structs t).align q (layout-even structs t).whole (λ b own there. inside n le t names q b own there) len a suits h
  inside zero le (struct k) names q a suits h = absurd (omega (arith, names))
  inside (suc n) le (struct k) names q a suits h =
      in_struct n le (inside n (omega (arith, le))) k names q a suits (subst (IsIn q) (law.parts k (omega (arith, names, le)) a) h)

-- ---- fields and elements

pub record IsPartOf (whole part : Layout) (offset : ℕ) : Type 0 where
  pub ends : offset + part.size ≤ whole.size
  pub suits : Suits part.align offset
  pub aligns : part.align ≤ whole.align

fields_le : (L : Field → Layout) (done : Layout) (fs : List Field) (k : ℕ) (f : Field) → slice_get fs k ≡ Some f →
    rounded (fold with_field done (map L (take k fs))).size (L f).align + (L f).size ≤ (fold with_field done (map L fs)).size
fields_le L done [] k f is = absurd (none-some f is)
fields_le L done (g ∷ fs) zero f is = subst (λ x. rounded done.size (L x).align + (L x).size ≤ (fold with_field (with_field done (L g)) (map L fs)).size) (same_Some g f is) (fold-grows (with_field done (L g)) (map L fs))
fields_le L done (g ∷ fs) (suc k) f is = fields_le L (with_field done (L g)) fs k f is

past_end : (structs : List (List Field)) (k i : ℕ) → k < length (slice_index_or structs i []) → i < length structs
past_end [] i k lt = absurd (omega (arith, lt))
past_end (s ∷ ss) k zero lt = omega arith
past_end (s ∷ ss) k (suc i) lt = let h = past_end ss k i lt in omega (arith, h)

there_is : (fs : List Field) (k : ℕ) → k < length fs → (f : Field) × (slice_get fs k ≡ Some f)
there_is [] k lt = absurd (omega (arith, lt))
there_is (f ∷ fs) zero lt = (f, refl)
there_is (f ∷ fs) (suc k) lt = there_is fs k (omega (arith, lt))

pub field_part : (structs : List (List Field)) → AreSized structs → (t : Ty) (k : ℕ) → k < length (fields_of structs t) →
    IsPartOf (layout_of structs t) (layout_of structs (field_type (slice_get (fields_of structs t) k))) (field_offset structs t k)
field_part structs sized void k lt = absurd (omega (arith, lt))
field_part structs sized (int t) k lt = absurd (omega (arith, lt))
field_part structs sized (pointer t) k lt = absurd (omega (arith, lt))
field_part structs sized (array t n) k lt = absurd (omega (arith, lt))
field_part structs sized (struct i) k lt =
    let fs : List Field = slice_index_or structs i [] in
    let L : Field → Layout = λ f. layout_of structs f.ty in
    let all : Layout = fields_layout (map L fs) in
    let before : Layout = fields_layout (map L (take k fs)) in
    let whole = struct_at-whole structs sized.lower i (past_end structs k i lt) in
    let size : (layout_of structs (struct i)).size ≡ rounded all.size all.align = ap (λ (l : Layout). l.size) whole in
    let align : (layout_of structs (struct i)).align ≡ all.align = ap (λ (l : Layout). l.align) whole in
    let at = there_is fs k lt in
    let ends = fields_le L (layout 0 1) fs k at.0 at.1 in
    let grows = rounded-le all.size all.align in
    let least = field-aligns L fs (layout 0 1) k at.0 at.1 in
    subst (λ o. IsPartOf (layout_of structs (struct i)) (layout_of structs (field_type o)) (rounded before.size (layout_of structs (field_type o)).align)) (sym at.1)
    (record { ends = omega (arith, ends, grows, size); suits = rounded-suits before.size (L at.0).align; aligns = omega (arith, least, align) })

pub element_part : (structs : List (List Field)) (t : Ty) (n i : ℕ) → i < n → IsPartOf (layout_of structs (array t n)) (layout_of structs t) (i * (layout_of structs t).size)
element_part structs t n i lt =
    let size : ℕ = (layout_of structs t).size in
    let le : size * (i + 1) ≤ size * n = times_le size (i + 1) n (omega (arith, lt)) in
    record { ends = omega (arith, le); suits = λ e. turned size i (product size i e); aligns = omega arith }
  where
    times_le : (s m n : ℕ) → m ≤ n → s * m ≤ s * n
    times_le s m n le = omega (arith, mul-le-mul_right {m = m} {n = n} s le)

    turned : (s i : ℕ) → (s * i) % 2 ≡ 0 → (i * s) % 2 ≡ 0
    turned s i e = omega (arith, e)

    product : (s i : ℕ) → (layout_of structs t).align ≡ 2 → ((layout_of structs t).size * i) % 2 ≡ 0
    product s i e = product-suits _ _ i (layout-even structs t).whole e
