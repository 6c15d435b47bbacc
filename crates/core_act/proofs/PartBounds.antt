-- No part lies behind the last address that a word can name.
use Rattle.std.proofs.Common.{◌≡◌, ℕ, zero, suc, ◌+◌, ◌*◌, ◌<◌, ◌≤◌, Bool, true, false, cond, List, [], ◌∷◌, ◌++◌, map, fold, length, get_or, All, ap, ◌∙◌, refl, arith}
use Rattle.std.specs.List.{filter, flat_map, list_any}
use Rattle.std.specs.Prelude.{⊤, ◌==◌, ◌||◌}
use Rattle.std.proofs.lemmas.Bool.Decides.{nat_tests}
use Rattle.nesc_core.specs.declared.layout.Layout.{Layout}
use Rattle.nesc_core.specs.Plain.{Ty, void, int, pointer, array, struct, Field, Object, Program}
use Rattle.nesc_core.specs.Size.{layout, rounded, with_field, fields_layout, type_layout, struct_at, layout_of}
use Rattle.nesc_core.specs.Parts.{Part, addresses, parts_of, parts_of_elements, parts_of_fields, parts_in_struct, parts_of_object, taken_in, same_type, is_part, LiesWell}
use Rattle.nesc_core.proofs.SizeLemmas.{rounded-le, fold-grows}

-- all parts begin at this address or below
abbrev pub Low : ℕ → List Part → Type 0
Low m [] = ⊤
Low m (x ∷ xs) = (x.address ≤ m) × Low m xs

low_append : (m : ℕ) (xs ys : List Part) → Low m xs → Low m ys → Low m (xs ++ ys)
low_append m [] ys h k = k
low_append m (x ∷ xs) ys h k = (h.0, low_append m xs ys h.1 k)

low_more : (m n : ℕ) → m ≤ n → (xs : List Part) → Low m xs → Low n xs
low_more m n le [] h = tt
low_more m n le (x ∷ xs) h = (omega (arith, h.0), low_more m n le xs h.1)

elements_low : (parts : ℕ → List Part) (size : ℕ) → ((a : ℕ) → Low (a + size) (parts a)) → (n a : ℕ) → Low (a + size * n) (parts_of_elements parts size n a)
elements_low parts size h zero a = tt
elements_low parts size h (suc n) a =
    low_append (a + size * suc n) (parts a) (parts_of_elements parts size n (a + size))
    (low_more (a + size) (a + size * suc n) (omega arith) (parts a) (h a))
    (low_more (a + size + size * n) (a + size * suc n) (omega arith) (parts_of_elements parts size n (a + size)) (elements_low parts size h n (a + size)))

parts_low : (of : ℕ → Layout) (inner : ℕ → ℕ → List Part) → ((k a : ℕ) → Low (a + (of k).size) (inner k a)) → (t : Ty) (a : ℕ) → Low (a + (type_layout of t).size) (parts_of of inner t a)
parts_low of inner h void a = (omega arith, tt)
parts_low of inner h (int t) a = (omega arith, tt)
parts_low of inner h (pointer t) a = (omega arith, tt)
parts_low of inner h (array t n) a = (omega arith, elements_low (parts_of of inner t) (type_layout of t).size (parts_low of inner h t) n a)
parts_low of inner h (struct k) a = (omega arith, h k a)

fields_low : (parts : Ty → ℕ → List Part) (lies : Ty → Layout) → ((t : Ty) (a : ℕ) → Low (a + (lies t).size) (parts t a))
    → (a : ℕ) (done : Layout) (fs : List Field) → Low (a + (fold with_field done (map (λ f. lies f.ty) fs)).size) (parts_of_fields parts lies a done fs)
fields_low parts lies h a done [] = tt
fields_low parts lies h a done (f ∷ fs) =
    let all = (fold with_field (with_field done (lies f.ty)) (map (λ (g : Field). lies g.ty) fs)).size in
    let here = a + rounded done.size (lies f.ty).align in
    let grows = fold-grows (with_field done (lies f.ty)) (map (λ (g : Field). lies g.ty) fs) in
    low_append (a + all) (parts f.ty here) (parts_of_fields parts lies a (with_field done (lies f.ty)) fs)
    (low_more (here + (lies f.ty).size) (a + all) (omega (arith, grows)) (parts f.ty here) (h f.ty here))
    (fields_low parts lies h a (with_field done (lies f.ty)) fs)

module _ (structs : List (List Field)) where
  in_struct_low : (depth k a : ℕ) → Low (a + (struct_at structs depth k).size) (parts_in_struct structs depth k a)
  in_struct_low zero k a = tt
  in_struct_low (suc depth) k a =
      let fs = get_or structs k [] in
      let lies = type_layout (struct_at structs depth) in
      let whole = fields_layout (map (λ (f : Field). lies f.ty) fs) in
      low_more (a + whole.size) (a + rounded whole.size whole.align) (omega (arith, rounded-le whole.size whole.align)) _
      (fields_low (parts_of (struct_at structs depth) (parts_in_struct structs depth)) lies
      (parts_low (struct_at structs depth) (parts_in_struct structs depth) (in_struct_low depth)) a (layout 0 1) fs)

  object_low : (o : Object) → LiesWell structs o → Low 65535 (parts_of_object structs o)
  object_low o h =
      low_more (o.addr + (layout_of structs o.ty).size) 65535 h.inside _
      (parts_low (struct_at structs (length structs)) (parts_in_struct structs (length structs)) (in_struct_low (length structs)) o.ty o.addr)

  taken_low : (os : List Object) → All (LiesWell structs) os → Low 65535 (taken_in structs os)
  taken_low [] all = tt
  taken_low (o ∷ os) all = by_taken o.taken (taken_low os (λ i d below. all (suc i) d (omega arith)))
    where
      by_taken : (b : Bool) → Low 65535 (taken_in structs os)
          → Low 65535 (flat_map (parts_of_object structs) (cond b (o ∷ filter (λ (x : Object). x.taken) os) (filter (λ (x : Object). x.taken) os)))
      by_taken true rest = low_append 65535 (parts_of_object structs o) (taken_in structs os) (object_low o (all 0 o (omega arith))) rest
      by_taken false rest = rest

none_high : (t : Ty) (m a : ℕ) → m < a → (xs : List Part) → Low m xs → list_any (λ x. x == a) (addresses t xs) ≡ false
none_high t m a high [] h = refl
none_high t m a high (x ∷ xs) h = by_type (same_type x.ty t) (none_high t m a high xs h.1)
  where
    apart : (x.address == a) ≡ false
    apart = let low = h.0 in grind (arith, nat_tests)

    by_type : (b : Bool) → list_any (λ y. y == a) (addresses t xs) ≡ false
        → list_any (λ y. y == a) (map (λ (y : Part). y.address) (cond b (x ∷ filter (λ (y : Part). same_type y.ty t) xs) (filter (λ (y : Part). same_type y.ty t) xs))) ≡ false
    by_type true rest = ap (λ b. b || list_any (λ y. y == a) (addresses t xs)) apart ∙ rest
    by_type false rest = rest

-- a part's address is a word
pub part_low : (p : Program) (t : Ty) (a : ℕ) → All (LiesWell p.structs) p.objects → is_part p t a ≡ true → a ≤ 65535
part_low p t a all is = by_order (λ high. none_high t 65535 a high (taken_in p.structs p.objects) (taken_low p.structs p.objects all))
  where
    by_order : (65535 < a → is_part p t a ≡ false) → a ≤ 65535
    by_order none = grind (arith, nat_tests)
