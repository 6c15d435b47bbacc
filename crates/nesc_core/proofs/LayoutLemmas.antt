-- The list of layouts that is made from the lowest struct on gives each type its layout.
use Rattle.std.proofs.Common.{◌≡◌, ℕ, ◌+◌, ◌*◌, ◌<◌, ◌≤◌, List, [], ◌∷◌, ◌++◌, length, map, get_or, take, ap, sym, ◌∙◌, arith, All, subst}
use Rattle.std.proofs.lemmas.List.{get_or_default, take_all, map_more}
use Rattle.std.proofs.lemmas.List.FromFn.{get_or-map-range_with_len, length-map-range_with_len, map-range_with_len_more}
use Rattle.std.proofs.lemmas.List.Sums.{fold-append}
use Rattle.std.proofs.Math.ListN as list
use Rattle.nesc_core.specs.declared.tree.Structs.{Structs}
use Rattle.nesc_core.specs.declared.tree.Field as tree
use Rattle.nesc_core.specs.declared.layout.Layout.{Layout}
use Rattle.nesc_core.specs.Plain.{Ty, void, int, pointer, array, struct, Field}
use Rattle.nesc_core.specs.View.{type_of, field_of, structs_of}
use Rattle.nesc_core.specs.Layouts.{at, first_layouts, layouts_of, made_of}
use Rattle.nesc_core.specs.Size.{layout, rounded, with_field, fields_layout, struct_of_fields, type_layout, struct_at, layout_of, NamesBelow, IsSmall, AreSized, IsSized}
use Rattle.nesc_core.proofs.SizeLemmas.{field-le, map-field_of, map-same, rounded-le, struct_at-whole, type_layout-same}

-- ---- the loop over a struct's fields

module _ (layouts : List Layout) (fields : List tree.Field) where
  abbrev of_field : tree.Field → Layout
  of_field f = type_layout (at layouts) (type_of f.ty)

  pub made_is : made_of layouts (map field_of fields) ≡ struct_of_fields (fields_layout (map of_field fields))
  made_is = ap (λ ls. struct_of_fields (fields_layout ls)) (map-field_of (at layouts) fields)

  -- what holds of all fields holds of the one at hand
  pub field_has : (P : Field → Type 0) → All P (map field_of fields) → (i : ℕ) (f : tree.Field) → i < length fields → f ≡ get_or fields i f → P (field_of f)
  field_has P all i f below is =
      let inside : i < length (map field_of fields) = rw list.length-map below in
      subst P (list.get_or-map field_of fields i f ∙ ap field_of (sym is)) (all i (field_of f) inside)

  pub end_small : (made_of layouts (map field_of fields)).size ≤ 32767 → (fields_layout (map of_field fields)).size ≤ 32767
  end_small small =
      let room : (struct_of_fields (fields_layout (map of_field fields))).size ≤ 32767 = subst (λ (l : Layout). l.size ≤ 32767) made_is small in
      omega (arith, room, rounded-le (fields_layout (map of_field fields)).size (fields_layout (map of_field fields)).align)

  pub field_small : (made_of layouts (map field_of fields)).size ≤ 32767 → (i : ℕ) (f : tree.Field) (done : Layout) → i < length fields → f ≡ get_or fields i f
      → done ≡ fields_layout (map of_field (take i fields)) → rounded done.size (of_field f).align + (of_field f).size ≤ 32767
  field_small small i f done below is so_far =
      let here : rounded (fields_layout (map of_field (take i fields))).size (of_field (get_or fields i f)).align + (of_field (get_or fields i f)).size ≤ 32767 =
      omega (arith, end_small small, field-le of_field (layout 0 1) fields i f below) in
      subst (λ (d : Layout). rounded d.size (of_field f).align + (of_field f).size ≤ 32767) (sym so_far)
      (subst (λ (x : tree.Field). rounded (fields_layout (map of_field (take i fields))).size (of_field x).align + (of_field x).size ≤ 32767) (sym is) here)

  pub done_more : (i : ℕ) (f : tree.Field) (done : Layout) → i < length fields → f ≡ get_or fields i f
      → done ≡ fields_layout (map of_field (take i fields)) → with_field done (of_field f) ≡ fields_layout (map of_field (take (i + 1) fields))
  done_more i f done below is so_far =
      ap (λ (d : Layout). with_field d (of_field f)) so_far
      ∙ ap (λ (x : tree.Field). with_field (fields_layout (map of_field (take i fields))) (of_field x)) is
      ∙ sym (ap fields_layout (map_more of_field fields i f below) ∙ fold-append with_field (layout 0 1) (map of_field (take i fields)) (of_field (get_or fields i f) ∷ []))

  pub all_done : (i : ℕ) (done : Layout) → length fields ≤ i → done ≡ fields_layout (map of_field (take i fields)) → done ≡ fields_layout (map of_field fields)
  all_done i done over so_far = so_far ∙ ap (λ ys. fields_layout (map of_field ys)) (take_all i fields over)

-- ---- the list so far is as good as all layouts for a type that names its structs alone

pub small-same : (g h : ℕ → Layout) (n : ℕ) → ((j : ℕ) → j < n → g j ≡ h j) → (t : Ty) → NamesBelow n t → IsSmall g t → IsSmall h t
small-same g h n same void names small = small
small-same g h n same (int t) names small = small
small-same g h n same (pointer t) names small = small
small-same g h n same (array t len) names small =
    (small-same g h n same t names small.0, subst (λ (l : Layout). l.size * len ≤ 32767) (type_layout-same g h n same t names) small.1)
small-same g h n same (struct k) names small = subst (λ (l : Layout). l.size ≤ 32767) (same k names) small

module _ (structs : List (List Field)) (n : ℕ) where
  abbrev of_struct : ℕ → Layout
  of_struct = struct_at structs (length structs)

  pub length_first : length (first_layouts structs n) ≡ n
  length_first = length-map-range_with_len of_struct 0 n

  pub at_first : (j : ℕ) → j < n → at (first_layouts structs n) j ≡ of_struct j
  at_first j below = get_or-map-range_with_len of_struct 0 n j j (layout 0 1) below (omega arith)

  pub type_first : (t : Ty) → NamesBelow n t → type_layout (at (first_layouts structs n)) t ≡ layout_of structs t
  type_first t names = type_layout-same (at (first_layouts structs n)) of_struct n at_first t names

  pub small_first : (t : Ty) → NamesBelow n t → IsSmall of_struct t → IsSmall (at (first_layouts structs n)) t
  small_first t names small = small-same of_struct (at (first_layouts structs n)) n (λ j below. sym (at_first j below)) t names small

-- ---- one more struct

module _ (structs : List (List Field)) (sized : AreSized structs) (k : ℕ) (inside : k < length structs) where
  abbrev fields_at : List Field
  fields_at = get_or structs k []

  pub names_next : All (λ f. NamesBelow (length (first_layouts structs k)) f.ty) fields_at
  names_next i d below = subst (λ n. NamesBelow n (get_or fields_at i d).ty) (sym (length_first structs k)) (sized.lower k inside i d below)

  pub small_next : All (λ f. IsSmall (at (first_layouts structs k)) f.ty) fields_at
  small_next i d below = small_first structs k (get_or fields_at i d).ty (sized.lower k inside i d below) (sized.small k inside i d below)

  pub made_next : made_of (first_layouts structs k) fields_at ≡ struct_at structs (length structs) k
  made_next =
      ap (λ ls. struct_of_fields (fields_layout ls))
      (map-same (λ (f : Field). type_layout (at (first_layouts structs k)) f.ty) (λ (f : Field). layout_of structs f.ty) fields_at
      (λ i d below. type_first structs k (get_or fields_at i d).ty (sized.lower k inside i d below)))
      ∙ sym (struct_at-whole structs sized.lower k inside)

  pub made_small : (made_of (first_layouts structs k) fields_at).size ≤ 32767
  made_small = subst (λ (l : Layout). l.size ≤ 32767) (sym made_next) (sized.small_whole k inside)

  pub first_more : first_layouts structs k ++ made_of (first_layouts structs k) fields_at ∷ [] ≡ first_layouts structs (k + 1)
  first_more =
      ap (λ l. first_layouts structs k ++ l ∷ []) made_next
      ∙ sym (map-range_with_len_more (struct_at structs (length structs)) 0 k k (omega arith))

-- what the loop over all structs has at hand: struct k's fields, and the layouts of those below
module _
    (s : Structs) (sized : AreSized (structs_of s)) (k : ℕ)
    (xs : List (List tree.Field)) (item fields : List tree.Field) (layouts items : List Layout)
    (same : xs ≡ s.structs) (below : k < length xs) (is : item ≡ get_or xs k item) (fields_is : fields ≡ item)
    (so_far : items ≡ first_layouts (structs_of s) k) (layouts_is : layouts ≡ items) where
  inside : k < length (structs_of s)
  inside = rw list.length-map (subst (λ (ys : List (List tree.Field)). k < length ys) same below)

  here : map field_of fields ≡ get_or (structs_of s) k []
  here =
      ap (map field_of) (fields_is ∙ is)
      ∙ sym (list.get_or-map (map field_of) xs k item)
      ∙ get_or_default (map (map field_of) xs) k (map field_of item) [] (rw list.length-map below)
      ∙ ap (λ (ys : List (List tree.Field)). get_or (map (map field_of) ys) k []) same

  lower : layouts ≡ first_layouts (structs_of s) k
  lower = layouts_is ∙ so_far

  pub names_here : All (λ f. NamesBelow (length layouts) f.ty) (map field_of fields)
  names_here =
      subst (λ (ls : List Layout). All (λ f. NamesBelow (length ls) f.ty) (map field_of fields)) (sym lower)
      (subst (All (λ f. NamesBelow (length (first_layouts (structs_of s) k)) f.ty)) (sym here) (names_next (structs_of s) sized k inside))

  pub small_here : All (λ f. IsSmall (at layouts) f.ty) (map field_of fields)
  small_here =
      subst (λ (ls : List Layout). All (λ f. IsSmall (at ls) f.ty) (map field_of fields)) (sym lower)
      (subst (All (λ f. IsSmall (at (first_layouts (structs_of s) k)) f.ty)) (sym here) (small_next (structs_of s) sized k inside))

  made_here : made_of layouts (map field_of fields) ≡ made_of (first_layouts (structs_of s) k) (get_or (structs_of s) k [])
  made_here = ap (λ (ls : List Layout). made_of ls (map field_of fields)) lower ∙ ap (made_of (first_layouts (structs_of s) k)) here

  pub whole_here : (made_of layouts (map field_of fields)).size ≤ 32767
  whole_here = subst (λ (l : Layout). l.size ≤ 32767) (sym made_here) (made_small (structs_of s) sized k inside)

  pub more_here : (l : Layout) (new : List Layout) → l ≡ made_of layouts (map field_of fields) → new ≡ items ++ l ∷ [] → new ≡ first_layouts (structs_of s) (k + 1)
  more_here l new l_is new_is =
      new_is ∙ ap (λ (ls : List Layout). ls ++ l ∷ []) so_far ∙ ap (λ (x : Layout). first_layouts (structs_of s) k ++ x ∷ []) (l_is ∙ made_here)
      ∙ first_more (structs_of s) sized k inside

-- ---- the finished list

module _ (structs : List (List Field)) (t : Ty) (sized : IsSized structs t) (layouts : List Layout) (whole : layouts ≡ layouts_of structs) where
  pub names_whole : NamesBelow (length layouts) t
  names_whole = subst (λ n. NamesBelow n t) (sym (ap length whole ∙ length_first structs (length structs))) sized.names

  pub small_whole : IsSmall (at layouts) t
  small_whole = subst (λ (ls : List Layout). IsSmall (at ls) t) (sym whole) (small_first structs (length structs) t sized.names sized.small)

  pub type_whole : type_layout (at layouts) t ≡ layout_of structs t
  type_whole = ap (λ (ls : List Layout). type_layout (at ls) t) whole ∙ type_first structs (length structs) t sized.names
