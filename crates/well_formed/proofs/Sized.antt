-- Structs whose layouts are made one behind the other are sized, and the layouts are those of the definition.
use Rattle.std.proofs.Common.{◌≡◌, ℕ, zero, suc, ◌+◌, ◌<◌, ◌≤◌, List, [], ◌∷◌, ◌++◌, length, map, get_or, All, ap, sym, subst, ◌∙◌, refl, arith, append-nil, append_assoc}
use Rattle.std.proofs.lemmas.List.FromFn.{map-range_with_len_more}
use Rattle.nesc_core.specs.declared.layout.Layout.{Layout}
use Rattle.nesc_core.specs.Layouts.{at, first_layouts, layouts_of, made_of}
use Rattle.nesc_core.specs.Plain.{Ty, Field}
use Rattle.nesc_core.specs.Size.{AreSized, IsSized, IsSmall, NamesBelow, fields_layout, layout_of, struct_at, struct_of_fields, type_layout}
use Rattle.nesc_core.proofs.LayoutLemmas.{at_first, length_first, small-same, type_first}
use Rattle.nesc_core.proofs.SizeLemmas.{map-same, struct_at-whole}
use Rattle.well_formed.specs.Laid.{AreGood, AreLaid, AreSmall, IsGood, NameBelow, laid}

below-all : (n : ℕ) (fs : List Field) → NameBelow n fs → All (λ f. NamesBelow n f.ty) fs
below-all n [] h i d inside = absurd (omega arith)
below-all n (f ∷ fs) h zero d inside = h.0
below-all n (f ∷ fs) h (suc i) d inside = below-all n fs h.1 i d (omega arith)

small-all : (layouts : List Layout) (fs : List Field) → AreSmall layouts fs → All (λ f. IsSmall (at layouts) f.ty) fs
small-all layouts [] h i d inside = absurd (omega arith)
small-all layouts (f ∷ fs) h zero d inside = h.0
small-all layouts (f ∷ fs) h (suc i) d inside = small-all layouts fs h.1 i d (omega arith)

-- ---- each struct is good behind those before it

length-more : (done : List Layout) (l : Layout) → length (done ++ (l ∷ [])) ≡ length done + 1
length-more [] l = refl
length-more (x ∷ done) l = omega (arith, length-more done l)

good-lower : (done : List Layout) (structs : List (List Field)) → AreGood done structs → (k : ℕ) → k < length structs
    → All (λ f. NamesBelow (length done + k) f.ty) (get_or structs k [])
good-lower done [] h k inside = absurd (omega arith)
good-lower done (fs ∷ rest) h zero inside = subst (λ m. All (λ f. NamesBelow m f.ty) fs) (omega arith) (below-all (length done) fs h.0.0)
good-lower done (fs ∷ rest) h (suc k) inside =
    subst (λ m. All (λ f. NamesBelow m f.ty) (get_or rest k [])) (omega (arith, length-more done (made_of done fs)))
    (good-lower (done ++ (made_of done fs ∷ [])) rest h.1 k (omega arith))

module _ (structs : List (List Field)) (lower : (k : ℕ) → k < length structs → All (λ f. NamesBelow k f.ty) (get_or structs k [])) where
  made_next : (k : ℕ) → k < length structs → made_of (first_layouts structs k) (get_or structs k []) ≡ struct_at structs (length structs) k
  made_next k inside =
      ap (λ ls. struct_of_fields (fields_layout ls))
      (map-same (λ (f : Field). type_layout (at (first_layouts structs k)) f.ty) (λ (f : Field). layout_of structs f.ty) (get_or structs k [])
      (λ i d below. type_first structs k (get_or (get_or structs k []) i d).ty (lower k inside i d below)))
      ∙ sym (struct_at-whole structs lower k inside)

  first_more : (k : ℕ) → k < length structs → first_layouts structs k ++ (made_of (first_layouts structs k) (get_or structs k []) ∷ []) ≡ first_layouts structs (k + 1)
  first_more k inside =
      ap (λ l. first_layouts structs k ++ (l ∷ [])) (made_next k inside)
      ∙ sym (map-range_with_len_more (struct_at structs (length structs)) 0 k k (omega arith))

  get-behind : (before : List (List Field)) (fs : List Field) (rest : List (List Field)) → get_or (before ++ (fs ∷ rest)) (length before) [] ≡ fs
  get-behind [] fs rest = refl
  get-behind (b ∷ before) fs rest = get-behind before fs rest

  length-behind : (before : List (List Field)) (fs : List Field) (rest : List (List Field)) → length before < length (before ++ (fs ∷ rest))
  length-behind [] fs rest = omega arith
  length-behind (b ∷ before) fs rest = omega (arith, length-behind before fs rest)

  one-more : (xs : List (List Field)) (x : List Field) → length xs + 1 ≡ length (xs ++ (x ∷ []))
  one-more [] x = refl
  one-more (y ∷ ys) x = omega (arith, one-more ys x)

  -- one more struct behind those before it
  next : (before : List (List Field)) (fs : List Field) (rest : List (List Field)) → structs ≡ before ++ (fs ∷ rest)
      → first_layouts structs (length before) ++ (made_of (first_layouts structs (length before)) fs ∷ []) ≡ first_layouts structs (length (before ++ (fs ∷ [])))
  next before fs rest is =
      let inside : length before < length structs = subst (λ (xs : List (List Field)). length before < length xs) (sym is) (length-behind before fs rest) in
      let here : get_or structs (length before) [] ≡ fs = ap (λ (xs : List (List Field)). get_or xs (length before) []) is ∙ get-behind before fs rest in
      ap (λ (gs : List Field). first_layouts structs (length before) ++ (made_of (first_layouts structs (length before)) gs ∷ [])) (sym here)
      ∙ first_more (length before) inside ∙ ap (first_layouts structs) (one-more before fs)

  laid-from : (before rest : List (List Field)) → structs ≡ before ++ rest → laid (first_layouts structs (length before)) rest ≡ layouts_of structs
  laid-from before [] is = ap (λ (xs : List (List Field)). first_layouts structs (length xs)) (sym (is ∙ append-nil before))
  laid-from before (fs ∷ rest) is =
      ap (λ (ls : List Layout). laid ls rest) (next before fs rest is)
      ∙ laid-from (before ++ (fs ∷ [])) rest (is ∙ sym (append_assoc before (fs ∷ []) rest))

  -- what is good of each struct behind the layouts of those before it
  good-at : (before rest : List (List Field)) → structs ≡ before ++ rest → AreGood (first_layouts structs (length before)) rest → (k : ℕ) → k < length rest
      → IsGood (first_layouts structs (length before + k)) (get_or rest k [])
  good-at before [] is good k inside = absurd (omega arith)
  good-at before (fs ∷ rest) is good zero inside = subst (λ n. IsGood (first_layouts structs n) fs) (omega arith) good.0
  good-at before (fs ∷ rest) is good (suc k) inside =
      subst (λ n. IsGood (first_layouts structs n) (get_or rest k [])) (omega (arith, one-more before fs))
      (good-at (before ++ (fs ∷ [])) rest (is ∙ sym (append_assoc before (fs ∷ []) rest))
      (subst (λ (ls : List Layout). AreGood ls rest) (next before fs rest is) good.1) k (omega arith))

  good-here : AreGood [] structs → (k : ℕ) → k < length structs → IsGood (first_layouts structs k) (get_or structs k [])
  good-here good k inside = subst (λ n. IsGood (first_layouts structs n) (get_or structs k [])) (omega arith) (good-at [] structs refl good k inside)

  sized : AreGood [] structs → AreSized structs
  sized good = record {
    lower = lower;
    small = λ k inside i d below.
        small-same (at (first_layouts structs k)) (struct_at structs (length structs)) k (at_first structs k) (get_or (get_or structs k []) i d).ty (lower k inside i d below)
        (small-all (first_layouts structs k) (get_or structs k []) (good-here good k inside).1 i d below);
    small_whole = λ k inside. subst (λ (l : Layout). l.size ≤ 32767) (made_next k inside) (good-here good k inside).2;
  }

pub are_laid : (structs : List (List Field)) (layouts : List Layout) → AreGood [] structs → layouts ≡ laid [] structs → AreLaid structs layouts
are_laid structs layouts good is =
    let lower : (k : ℕ) → k < length structs → All (λ f. NamesBelow k f.ty) (get_or structs k []) =
    λ k inside. subst (λ m. All (λ f. NamesBelow m f.ty) (get_or structs k [])) (omega arith) (good-lower [] structs good k inside) in
    record { sized = sized structs lower good; are = is ∙ laid-from structs lower [] structs refl }

-- ---- a type by the layouts of all structs

module _ (structs : List (List Field)) (layouts : List Layout) (t : Ty) (laid_well : AreLaid structs layouts) (names : NamesBelow (length layouts) t) where
  below : NamesBelow (length structs) t
  below = subst (λ n. NamesBelow n t) (ap length laid_well.are ∙ length_first structs (length structs)) names

  pub is_sized : IsSmall (at layouts) t → IsSized structs t
  is_sized small = record {
    names = below;
    small = small-same (at (layouts_of structs)) (struct_at structs (length structs)) (length structs) (at_first structs (length structs)) t below
        (subst (λ (ls : List Layout). IsSmall (at ls) t) laid_well.are small);
  }

  pub layout_is : type_layout (at layouts) t ≡ layout_of structs t
  layout_is = ap (λ (ls : List Layout). type_layout (at ls) t) laid_well.are ∙ type_first structs (length structs) t below

pub ruleset of_laid = (is_sized, layout_is)
