-- Structs whose fields name lower ones: their layouts, one after the other.
use Rattle.std.proofs.Common.{◌≡◌, ℕ, zero, suc, ◌+◌, ◌*◌, ◌<◌, ◌≤◌, Bool, true, false, All, List, [], ◌∷◌, ◌++◌, length, map, fold, get_or, take, Some, None, refl, sym, ap, subst, ◌∙◌, arith}
use Rattle.std.specs.Prelude.{nat_lt}
use Rattle.std.proofs.lemmas.Bool.Decides.{nat_tests}
use Rattle.std.proofs.lemmas.List.{get_or_append_left, get_or_default, get_or_past, map_more, map_push, take_all}
use Rattle.std.proofs.lemmas.Option.{same_Some}
use Rattle.std.proofs.Math.ListN as list
use Rattle.std.proofs.Math.Seq.{get_or-append_seam}
use Rattle.nesc_core.specs.declared.tree.Structs.{Structs}
use Rattle.nesc_core.specs.declared.tree.Field as tree
use Rattle.nesc_core.specs.declared.layout.Layout.{Layout}
use Rattle.nesc_core.specs.Layouts.{at, made_of}
use Rattle.nesc_core.specs.Plain.{Ty, void, int, pointer, array, struct, Field}
use Rattle.nesc_core.specs.Size.{layout, with_field, fields_layout, struct_of_fields, struct_at, type_layout, NamesBelow}
use Rattle.nesc_core.specs.View.{field_of, structs_of}
use Rattle.nesc_core.proofs.SizeLemmas.{struct_at-whole}
use Rattle.kernel_code.specs.Sizes.{AreInOrder, cut, struct_in}
use Rattle.kernel_code.proofs.Cut.{array_cut, cut_cut, struct_cut, with_field_cut}

-- ---- what a type names

pub none_below : (n : ℕ) (t : Ty) → None ≡ struct_in t → NamesBelow n t
none_below n void is = tt
none_below n (int t) is = tt
none_below n (pointer t) is = tt
none_below n (array t len) is = none_below n t is
none_below n (struct k) is = absurd (cc)

pub some_below : (n k : ℕ) (t : Ty) → Some k ≡ struct_in t → k < n → NamesBelow n t
some_below n k void is lt = tt
some_below n k (int t) is lt = tt
some_below n k (pointer t) is lt = tt
some_below n k (array t len) is lt = some_below n k t is lt
some_below n k (struct j) is lt = let same : k ≡ j = same_Some k j is in omega (arith, same, lt)

pub ruleset below = (none_below, some_below)

-- ---- layouts that are cut alike below a number

module _ (g h : ℕ → Layout) (n : ℕ) (same : (k : ℕ) → k < n → cut (g k) ≡ cut (h k)) where
  type_below : (t : Ty) → NamesBelow n t → cut (type_layout g t) ≡ cut (type_layout h t)
  type_below void names = refl
  type_below (int t) names = refl
  type_below (pointer t) names = refl
  type_below (array t len) names =
      sym (array_cut (cut (type_layout g t)) (type_layout g t) len refl)
      ∙ ap (λ (l : Layout). cut (layout (l.size * len) l.align)) (type_below t names)
      ∙ array_cut (cut (type_layout h t)) (type_layout h t) len refl
  type_below (struct k) names = same k names

  fields_below : (fs : List Field) → All (λ (f : Field). NamesBelow n f.ty) fs → (a b : Layout) → cut a ≡ cut b
      → cut (fold with_field a (map (λ (f : Field). type_layout g f.ty) fs)) ≡ cut (fold with_field b (map (λ (f : Field). type_layout h f.ty) fs))
  fields_below [] names a b is = is
  fields_below (f ∷ fs) names a b is =
      fields_below fs (λ i d lt. names (suc i) d (omega (arith, lt))) (with_field a (type_layout g f.ty)) (with_field b (type_layout h f.ty))
      (sym (with_field_cut a (type_layout g f.ty))
      ∙ ap (λ (l : Layout). cut (with_field l (cut (type_layout g f.ty)))) is
      ∙ ap (λ (l : Layout). cut (with_field (cut b) l)) (type_below f.ty (names 0 f (omega arith)))
      ∙ with_field_cut b (type_layout h f.ty))

-- ---- one more struct

module _ (structs : List (List Field)) (ordered : AreInOrder structs) where
  abbrev of_struct : ℕ → Layout
  of_struct = struct_at structs (length structs)

  module _ (i : ℕ) (inside : i < length structs) (layouts : List Layout) (known : (k : ℕ) → k < i → at layouts k ≡ cut (of_struct k)) where
    made_next : cut (made_of layouts (get_or structs i [])) ≡ cut (of_struct i)
    made_next =
        sym (struct_cut (fields_layout (map (λ (f : Field). type_layout (at layouts) f.ty) (get_or structs i []))))
        ∙ ap (λ (l : Layout). cut (struct_of_fields l))
        (fields_below (at layouts) of_struct i (λ k lt. ap cut (known k lt) ∙ cut_cut (of_struct k)) (get_or structs i []) (ordered i inside) (layout 0 1) (layout 0 1) refl)
        ∙ struct_cut (fields_layout (map (λ (f : Field). type_layout of_struct f.ty) (get_or structs i [])))
        ∙ ap cut (sym (struct_at-whole structs ordered i inside))

    -- one more layout
    pub known_more : (new : List Layout) (l : Layout) (fields : List Field) → length layouts ≡ i → new ≡ layouts ++ l ∷ [] → l ≡ cut (made_of layouts fields)
        → fields ≡ get_or structs i [] → (k : ℕ) → k < i + 1 → at new k ≡ cut (of_struct k)
    known_more new l fields long is made are k lt = ap (λ (ls : List Layout). at ls k) is ∙ by_place (nat_lt k i) refl
      where
        by_place : (t : Bool) → nat_lt k i ≡ t → at (layouts ++ l ∷ []) k ≡ cut (of_struct k)
        by_place true before =
            let lower : k < i = grind (arith, nat_tests) in
            get_or_append_left layouts (l ∷ []) (layout 0 1) k (omega (arith, long, lower)) ∙ known k lower
        by_place false here =
            let last : k ≡ i = grind (arith, nat_tests) in
            ap (at (layouts ++ l ∷ [])) (last ∙ sym long)
            ∙ get_or-append_seam layouts l [] (layout 0 1)
            ∙ made
            ∙ ap (λ fs. cut (made_of layouts fs)) are
            ∙ made_next
            ∙ ap (λ j. cut (of_struct j)) (sym last)

  past : (n k : ℕ) → length structs ≤ k → cut (struct_at structs n k) ≡ layout 0 1
  past zero k over = refl
  past (suc n) k over = ap (λ (fs : List Field). cut (struct_of_fields (fields_layout (map (λ (f : Field). type_layout (struct_at structs n) f.ty) fs)))) (get_or_past structs k [] over)

  -- all structs are done
  pub all_known : (i : ℕ) (layouts : List Layout) → length structs ≤ i → length layouts ≡ i → ((k : ℕ) → k < i → at layouts k ≡ cut (of_struct k)) → (k : ℕ) → at layouts k ≡ cut (of_struct k)
  all_known i layouts over long known k = by_place (nat_lt k i) refl
    where
      by_place : (t : Bool) → nat_lt k i ≡ t → at layouts k ≡ cut (of_struct k)
      by_place true before = known k (grind (arith, nat_tests))
      by_place false here =
          let after : i ≤ k = grind (arith, nat_tests) in
          get_or_past layouts k (layout 0 1) (omega (arith, long, after)) ∙ sym (past (length structs) k (omega (arith, over, after)))

-- ---- what the loop over all structs has at hand: struct i's fields

module _
    (s : Structs) (i : ℕ) (xs : List (List tree.Field)) (item fields : List tree.Field)
    (same : xs ≡ s.structs) (lt : i < length xs) (is : item ≡ get_or xs i item) (fields_is : fields ≡ item) where
  pub inside_is : i < length (structs_of s)
  inside_is = rw list.length-map (subst (λ (ys : List (List tree.Field)). i < length ys) same lt)

  pub fields_here : map field_of fields ≡ get_or (structs_of s) i []
  fields_here =
      ap (map field_of) (fields_is ∙ is)
      ∙ sym (list.get_or-map (map field_of) xs i item)
      ∙ get_or_default (map (map field_of) xs) i (map field_of item) [] (rw list.length-map lt)
      ∙ ap (λ (ys : List (List tree.Field)). get_or (map (map field_of) ys) i []) same

pub all_inside : (s : Structs) (i : ℕ) (xs : List (List tree.Field)) → xs ≡ s.structs → length xs ≤ i → length (structs_of s) ≤ i
all_inside s i xs same over = rw list.length-map (subst (λ (ys : List (List tree.Field)). length ys ≤ i) same over)

-- ---- one more layout in the loop over all structs, and all of them

module _ (made : List Field → Layout) where
  pub next_more : (xs : List (List tree.Field)) (i : ℕ) (item fields : List tree.Field) (old new : List Layout) (l : Layout)
      → i < length xs → item ≡ get_or xs i item → fields ≡ item → old ≡ map made (map (map field_of) (take i xs)) → l ≡ made (map field_of fields) → new ≡ old ++ l ∷ []
      → new ≡ map made (map (map field_of) (take (i + 1) xs))
  next_more xs i item fields old new l below is own so_far here are =
      let last : l ≡ made (map field_of (get_or xs i item)) = here ∙ ap (λ (fs : List tree.Field). made (map field_of fs)) (own ∙ is) in
      are
      ∙ ap (λ (ls : List Layout). ls ++ l ∷ []) so_far
      ∙ ap (λ (y : Layout). map made (map (map field_of) (take i xs)) ++ y ∷ []) last
      ∙ sym (map_push made (map (map field_of) (take i xs)) (map field_of (get_or xs i item)))
      ∙ ap (map made) (sym (map_more (map field_of) xs i item below))

  pub all_next : (s : Structs) (xs : List (List tree.Field)) (i : ℕ) (new : List Layout) → xs ≡ s.structs → length xs ≤ i → new ≡ map made (map (map field_of) (take i xs))
      → new ≡ map made (structs_of s)
  all_next s xs i new same over are =
      are
      ∙ ap (λ (ys : List (List tree.Field)). map made (map (map field_of) ys)) (take_all i xs over)
      ∙ ap (λ (ys : List (List tree.Field)). map made (map (map field_of) ys)) same
