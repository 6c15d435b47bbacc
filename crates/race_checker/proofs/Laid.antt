-- Parts and fields lie in their objects.
use Rattle.std.proofs.Common.{◌≡◌, ℕ, zero, suc, ◌+◌, ◌*◌, ◌<◌, ◌≤◌, ◌==◌, Bool, true, false, cond, ◌⊎◌, inl, inr, List, [], ◌∷◌, ◌++◌, length, map, fold, take, Option, Some, None, refl, sym, subst, ap, arith, ◌∙◌, eqb-true}
use Rattle.std.specs.Prelude.{slice_get, slice_index_or, ◌||◌}
use Rattle.std.specs.List.{list_any, filter, flat_map, All}
use Rattle.std.proofs.lemmas.Bool.{false≢true}
use Rattle.std.proofs.lemmas.Option.{none-some, same_Some}
use Rattle.std.proofs.lemmas.List.Elements.{All-head, All-tail}
use Rattle.nesc_core.specs.declared.layout.Layout.{Layout}
use Rattle.nesc_core.specs.Plain.{Ty, void, int, pointer, array, struct, Expr, Field, Object, Program}
use Rattle.nesc_core.specs.Plain as plain
use Rattle.nesc_core.specs.Size.{layout, rounded, with_field, fields_layout, layout_of, NamesBelow, AreSized}
use Rattle.nesc_core.specs.Parts.{Part, part_at, same_type, parts_of_elements, parts_of_fields, parts_at, parts_of_object}
use Rattle.nesc_core.specs.Laws.{StructsAreTheirFields, EachStructIsItsFields}
use Rattle.nesc_core.proofs.SizeLemmas.{rounded-le, fold-grows}
use Rattle.nesc_core.proofs.PlaceLemmas.{same_type-is}
use Rattle.nesc_core.specs.PlaceTypes.{fields_of, field_type, field_offset}
use Rattle.nesc_core.specs.Parts.{is_part}
use Rattle.core_meaning.specs.Layout.{size_of}
use Rattle.race_checker.specs.Report.{is_pointed_at}
use Rattle.call_graph.proofs.Lists.{Found, in_either, any_found, found_any, map_found, flat_found}
use Rattle.call_graph.specs.Paths.{IsIn}
use Rattle.race_checker.specs.Bare.{IsLaidOut}
use Rattle.race_checker.proofs.Places.{LiesIn, IsThere, Layouts}

-- ---- lists

by_test : {A : Type 0} (test : A → Bool) (y x : A) (xs ys : List A) → (IsIn y ys → IsIn y xs × (test y ≡ true))
    → (t : Bool) → test x ≡ t → IsIn y (cond t (x ∷ ys) ys) → IsIn y (x ∷ xs) × (test y ≡ true)
by_test test y x xs ys rest true is (inl same) = (inl same, subst (λ z. test z ≡ true) (sym same) is)
by_test test y x xs ys rest true is (inr there) = let more = rest there in (inr more.0, more.1)
by_test test y x xs ys rest false is there = let more = rest there in (inr more.0, more.1)

filter_found : {A : Type 0} (test : A → Bool) (y : A) (xs : List A) → IsIn y (filter test xs) → IsIn y xs × (test y ≡ true)
filter_found test y [] h = absurd h
filter_found test y (x ∷ xs) h = by_test test y x xs (filter test xs) (filter_found test y xs) (test x) refl h

pub place_of : {A : Type 0} (x : A) (xs : List A) → IsIn x xs → (k : ℕ) × (slice_get xs k ≡ Some x)
place_of x [] h = absurd h
place_of x (y ∷ xs) (inl same) = (0, ap Some (sym same))
place_of x (y ∷ xs) (inr h) = let more = place_of x xs h in (suc more.0, more.1)

-- ---- parts lie inside

pub record Inside (structs : List (List Field)) (q : Part) (a size : ℕ) : Type 0 where
  pub from : a ≤ q.address
  pub to : q.address + (layout_of structs q.ty).size ≤ a + size

module _ (structs : List (List Field)) (sized : AreSized structs) (law : StructsAreTheirFields structs) where
  wider : (q : Part) (a size b more : ℕ) → Inside structs q a size → b ≤ a → a + size ≤ b + more → Inside structs q b more
  wider q a size b more h from to = record { from = omega (arith, h.from, from); to = omega (arith, h.to, to) }

  itself : (q : Part) (a : ℕ) (t : Ty) → q ≡ part_at a t → Inside structs q a (layout_of structs t).size
  itself q a t same = subst (λ x. Inside structs x a (layout_of structs t).size) (sym same) (record { from = omega arith; to = omega arith })

  in_elements : (parts : ℕ → List Part) (size : ℕ) (q : Part) → ((a : ℕ) → IsIn q (parts a) → Inside structs q a size)
      → (n a : ℕ) → IsIn q (parts_of_elements parts size n a) → Inside structs q a (size * n)
  in_elements parts size q one zero a h = absurd h
  in_elements parts size q one (suc n) a h = elim (in_either q (parts a) (parts_of_elements parts size n (a + size)) h) [
    | inl here ↦ wider q a size a (size * suc n) (one a here) (omega arith) (omega arith)
    | inr more ↦ wider q (a + size) (size * n) a (size * suc n) (in_elements parts size q one n (a + size) more) (omega arith) (omega arith)
  ]

  in_fields : (q : Part) (a : ℕ) (fs : List Field) → ((f : Field) (b : ℕ) → IsIn f fs → IsIn q (parts_at structs f.ty b) → Inside structs q b (layout_of structs f.ty).size)
      → (done : Layout) → IsIn q (parts_of_fields (parts_at structs) (layout_of structs) a done fs)
      → Inside structs q a (fold with_field done (map (λ f. layout_of structs f.ty) fs)).size
  in_fields q a [] one done h = absurd h
  in_fields q a (f ∷ fs) one done h =
      let l : Layout = layout_of structs f.ty in
      elim (in_either q (parts_at structs f.ty (a + rounded done.size l.align)) (parts_of_fields (parts_at structs) (layout_of structs) a (with_field done l) fs) h) [
        | inl here ↦ wider q (a + rounded done.size l.align) l.size a _ (one f _ (inl refl) here) (omega arith) (omega (arith, fold-grows (with_field done l) (map (λ f. layout_of structs f.ty) fs)))
        | inr more ↦ in_fields q a fs (λ g b there. one g b (inr there)) (with_field done l) more
      ]

  all_in : (P : Field → Type 0) (f : Field) (fs : List Field) → All P fs → IsIn f fs → P f
  all_in P f [] all h = absurd h
  all_in P f (g ∷ fs) all (inl same) = subst P (sym same) (All-head P g fs all)
  all_in P f (g ∷ fs) all (inr h) = all_in P f fs (All-tail P g fs all) h

  names_more : (m n : ℕ) → m ≤ n → (t : Ty) → NamesBelow m t → NamesBelow n t
  names_more m n le void h = h
  names_more m n le (int t) h = h
  names_more m n le (pointer t) h = h
  names_more m n le (array t len) h = names_more m n le t h
  names_more m n le (struct k) h = omega (arith, le, h)

  in_struct : (n : ℕ) → suc n ≤ length structs → ((t : Ty) → NamesBelow n t → (q : Part) (a : ℕ) → IsIn q (parts_at structs t a) → Inside structs q a (layout_of structs t).size)
      → (k : ℕ) → k < suc n → (q : Part) (a : ℕ)
      → IsIn q (part_at a (struct k) ∷ parts_of_fields (parts_at structs) (layout_of structs) a (layout 0 1) (slice_index_or structs k []))
      → Inside structs q a (layout_of structs (struct k)).size
  in_struct n le lower k below q a (inl same) = itself q a (struct k) same
  in_struct n le lower k below q a (inr h) =
      let fs : List Field = slice_index_or structs k [] in
      let fl : Layout = fields_layout (map (λ f. layout_of structs f.ty) fs) in
      let names : (f : Field) → IsIn f fs → NamesBelow n f.ty =
      λ f there. names_more k n (omega (arith, below)) f.ty (all_in (λ f. NamesBelow k f.ty) f fs (sized.lower k (omega (arith, below, le))) there) in
      let fields : Inside structs q a fl.size = in_fields q a fs (λ f b there part. lower f.ty (names f there) q b part) (layout 0 1) h in
      let size : (layout_of structs (struct k)).size ≡ rounded fl.size fl.align = ap (λ (l : Layout). l.size) (law.layouts k (omega (arith, below, le))) in
      wider q a fl.size a _ fields (omega arith) (omega (arith, size, rounded-le fl.size fl.align))

  inside : (n : ℕ) → n ≤ length structs → (t : Ty) → NamesBelow n t → (q : Part) (a : ℕ) → IsIn q (parts_at structs t a) → Inside structs q a (layout_of structs t).size
  inside n le void names q a (inl same) = itself q a void same
  inside n le void names q a (inr h) = absurd h
  inside n le (int t) names q a (inl same) = itself q a (int t) same
  inside n le (int t) names q a (inr h) = absurd h
  inside n le (pointer t) names q a (inl same) = itself q a (pointer t) same
  inside n le (pointer t) names q a (inr h) = absurd h
  inside n le (array t len) names q a (inl same) = itself q a (array t len) same
  inside n le (array t len) names q a (inr h) = in_elements (parts_at structs t) (layout_of structs t).size q (λ b there. inside n le t names q b there) len a h
  inside zero le (struct k) names q a h = absurd (omega (arith, names))
  inside (suc n) le (struct k) names q a h =
      in_struct n le (inside n (omega (arith, le))) k names q a (subst (IsIn q) (law.parts k (omega (arith, names, le)) a) h)

field_in : (L : Field → Layout) (fs : List Field) (k : ℕ) (f : Field) (done : Layout) → slice_get fs k ≡ Some f
    → rounded (fold with_field done (map L (take k fs))).size (L f).align + (L f).size ≤ (fold with_field done (map L fs)).size
field_in L [] k f done is = absurd (none-some f is)
field_in L (g ∷ fs) zero f done is = subst (λ x. rounded done.size (L x).align + (L x).size ≤ (fold with_field (with_field done (L g)) (map L fs)).size) (same_Some g f is) (fold-grows (with_field done (L g)) (map L fs))
field_in L (g ∷ fs) (suc k) f done is = field_in L fs k f (with_field done (L g)) is

index_within : (xs : List (List Field)) (k j : ℕ) (f : Field) → slice_get (slice_index_or xs k []) j ≡ Some f → k < length xs
index_within [] k j f is = absurd (none-some f is)
index_within (x ∷ xs) zero j f is = omega arith
index_within (x ∷ xs) (suc k) j f is = omega (arith, index_within xs k j f is)

module _ (p : Program) (law : EachStructIsItsFields) (laid : IsLaidOut p) where
  of_field : (k j : ℕ) (o : Option Field) → slice_get (slice_index_or p.structs k []) j ≡ o → IsThere (field_type o)
      → rounded (fields_layout (map (λ f. layout_of p.structs f.ty) (take j (slice_index_or p.structs k [])))).size (layout_of p.structs (field_type o)).align + size_of p (field_type o)
      ≤ size_of p (struct k)
  of_field k j None is there = absurd there
  of_field k j (Some f) is there =
      let fl : Layout = fields_layout (map (λ f. layout_of p.structs f.ty) (slice_index_or p.structs k [])) in
      let size : (layout_of p.structs (struct k)).size ≡ rounded fl.size fl.align = ap (λ (l : Layout). l.size) ((law p.structs laid.sized).layouts k (index_within p.structs k j f is)) in
      omega (arith, size, rounded-le fl.size fl.align, field_in (λ f. layout_of p.structs f.ty) (slice_index_or p.structs k []) j f (layout 0 1) is)

  field : (t : Ty) (k : ℕ) → IsThere (field_type (slice_get (fields_of p.structs t) k)) → field_offset p.structs t k + size_of p (field_type (slice_get (fields_of p.structs t) k)) ≤ size_of p t
  field void k there = absurd there
  field (int t) k there = absurd there
  field (pointer t) k there = absurd there
  field (array t n) k there = absurd there
  field (struct j) k there = of_field j k _ refl there

  part : (e : Expr) (t : Ty) (a : ℕ) → is_part p t a ≡ true → LiesIn p (plain.deref e t) a (size_of p t)
  part e t a is =
      let address = any_found (λ x. x == a) _ is in
      let at = map_found (λ (x : Part). x.address) address.it _ address.there in
      let typed = filter_found (λ (x : Part). same_type x.ty t) at.it _ at.there in
      let whole = flat_found (parts_of_object p.structs) at.it _ typed.0 in
      let taken = filter_found (λ (o : Object). o.taken) whole.it _ whole.there in
      let which = place_of whole.it p.objects taken.0 in
      let well = laid.lies which.0 whole.it which.1 in
      let lies : Inside p.structs at.it whole.it.addr (size_of p whole.it.ty) =
      inside p.structs laid.sized (law p.structs laid.sized) (length p.structs) (omega arith) whole.it.ty well.sized.names at.it whole.it.addr whole.fact in
      let place : at.it.address ≡ a = sym at.fact ∙ eqb-true address.it a address.fact in
      let ty : at.it.ty ≡ t = same_type-is at.it.ty t typed.1 in
      let size : (layout_of p.structs at.it.ty).size ≡ size_of p t = ap (λ u. (layout_of p.structs u).size) ty in
      let pointed : is_pointed_at p t (Some whole.it) ≡ true = rw taken.1 (found_any (λ (x : Part). same_type x.ty t) at.it _ whole.fact typed.1) in
      record {
        which = which.0;
        object = whole.it;
        is = which.1;
        touched = subst (λ o. is_pointed_at p t o ≡ true) (sym which.1) pointed;
        from = omega (arith, lies.from, place);
        to = omega (arith, lies.to, place, size);
        fits = well.inside;
      }

  pub layouts_of : Layouts p
  layouts_of = record { fits = λ k o is. (laid.lies k o is).inside; part = part; field = field }
