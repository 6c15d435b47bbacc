-- The layouts that are made one behind the other are those of the definition, where structs name structs of lower numbers.
use Rattle.std.proofs.Common.{◌≡◌, ℕ, zero, suc, ◌+◌, ◌<◌, ◌≤◌, List, [], ◌∷◌, ◌++◌, length, map, get_or, sum_by, All, ap, sym, subst, ◌∙◌, refl, arith, append-nil, append_assoc}
use Rattle.std.proofs.lemmas.List.FromFn.{map-range_with_len_more}
use Rattle.std.proofs.lemmas.List.Sums.{sum_by-cons}
use Rattle.nesc_core.specs.declared.layout.Layout.{Layout}
use Rattle.nesc_core.specs.declared.tree.CoreType as tree
use Rattle.nesc_core.specs.Layouts.{at, first_layouts, layouts_of, made_of}
use Rattle.nesc_core.specs.Plain.{Ty, Field}
use Rattle.nesc_core.specs.Size.{NamesBelow, fields_layout, layout_of, struct_at, struct_of_fields, type_layout}
use Rattle.nesc_core.specs.View.{type_of}
use Rattle.nesc_core.proofs.LayoutLemmas.{length_first, type_first}
use Rattle.nesc_core.proofs.SizeLemmas.{map-same, struct_at-whole}
use Rattle.elab_weights.specs.Tables.{AreFirst, NameBelow, NameLower, bytes_of, laid}

below-all : (n : ℕ) (fs : List Field) → NameBelow n fs → All (λ f. NamesBelow n f.ty) fs
below-all n [] h i d inside = absurd (omega arith)
below-all n (f ∷ fs) h zero d inside = h.0
below-all n (f ∷ fs) h (suc i) d inside = below-all n fs h.1 i d (omega arith)

lower-at : (n : ℕ) (structs : List (List Field)) → NameLower n structs → (k : ℕ) → k < length structs → All (λ f. NamesBelow (n + k) f.ty) (get_or structs k [])
lower-at n [] h k inside = absurd (omega arith)
lower-at n (fs ∷ rest) h zero inside = subst (λ m. All (λ f. NamesBelow m f.ty) fs) (omega arith) (below-all n fs h.0)
lower-at n (fs ∷ rest) h (suc k) inside =
    subst (λ m. All (λ f. NamesBelow m f.ty) (get_or rest k [])) (omega arith) (lower-at (n + 1) rest h.1 k (omega arith))

module _ (structs : List (List Field)) (lower : (k : ℕ) → k < length structs → All (λ f. NamesBelow k f.ty) (get_or structs k [])) where
  made_next : (k : ℕ) → k < length structs → made_of (first_layouts structs k) (get_or structs k []) ≡ struct_at structs (length structs) k
  made_next k inside =
      ap (λ ls. struct_of_fields (fields_layout ls))
      (map-same (λ (f : Field). type_layout (at (first_layouts structs k)) f.ty) (λ (f : Field). layout_of structs f.ty) (get_or structs k [])
      (λ i d below. type_first structs k (get_or (get_or structs k []) i d).ty (lower k inside i d below)))
      ∙ sym (struct_at-whole structs lower k inside)

  first_more : (k : ℕ) → k < length structs → first_layouts structs k ++ (made_of (first_layouts structs k) (get_or structs k []) ∷ []) ≡ first_layouts structs (k + 1)
  first_more k inside =
      ap (λ l. first_layouts structs k ++ (l ∷ [])) (made_next k inside)
      ∙ sym (map-range_with_len_more (struct_at structs (length structs)) 0 k k (omega arith))

  get-behind : (before : List (List Field)) (fs : List Field) (rest : List (List Field)) → get_or (before ++ (fs ∷ rest)) (length before) [] ≡ fs
  get-behind [] fs rest = refl
  get-behind (b ∷ before) fs rest = get-behind before fs rest

  length-behind : (before : List (List Field)) (fs : List Field) (rest : List (List Field)) → length before < length (before ++ (fs ∷ rest))
  length-behind [] fs rest = omega arith
  length-behind (b ∷ before) fs rest = omega (arith, length-behind before fs rest)

  laid-from : (before rest : List (List Field)) → structs ≡ before ++ rest → laid (first_layouts structs (length before)) rest ≡ first_layouts structs (length structs)
  laid-from before [] is = ap (λ (xs : List (List Field)). first_layouts structs (length xs)) (sym (is ∙ append-nil before))
  laid-from before (fs ∷ rest) is =
      let inside : length before < length structs = subst (λ (xs : List (List Field)). length before < length xs) (sym is) (length-behind before fs rest) in
      let here : get_or structs (length before) [] ≡ fs = ap (λ (xs : List (List Field)). get_or xs (length before) []) is ∙ get-behind before fs rest in
      let more : first_layouts structs (length before) ++ (made_of (first_layouts structs (length before)) fs ∷ []) ≡ first_layouts structs (length before + 1) =
      ap (λ (gs : List Field). first_layouts structs (length before) ++ (made_of (first_layouts structs (length before)) gs ∷ [])) (sym here)
      ∙ first_more (length before) inside in
      let count : length before + 1 ≡ length (before ++ (fs ∷ [])) = one-more before fs in
      ap (λ (ls : List Layout). laid ls rest) (more ∙ ap (first_layouts structs) count)
      ∙ laid-from (before ++ (fs ∷ [])) rest (is ∙ sym (append_assoc before (fs ∷ []) rest))
    where
      one-more : (xs : List (List Field)) (x : List Field) → length xs + 1 ≡ length (xs ++ (x ∷ []))
      one-more [] x = refl
      one-more (y ∷ ys) x = omega (arith, one-more ys x)

pub laid-are : (structs : List (List Field)) → NameLower 0 structs → laid [] structs ≡ layouts_of structs
laid-are structs h = laid-from structs (λ k inside. subst (λ m. All (λ f. NamesBelow m f.ty) (get_or structs k [])) (omega arith) (lower-at 0 structs h k inside)) [] structs refl

pub all_first : (structs : List (List Field)) (layouts : List Layout) → NameLower 0 structs → layouts ≡ laid [] structs → AreFirst structs layouts
all_first structs layouts h is = record { count = length structs; are = is ∙ laid-are structs h }

pub none_first : (structs : List (List Field)) (layouts : List Layout) → layouts ≡ [] → AreFirst structs layouts
none_first structs layouts is = record { count = 0; are = is }

pub layout_first : (structs : List (List Field)) (layouts : List Layout) (t : Ty) → AreFirst structs layouts → NamesBelow (length layouts) t
    → type_layout (at layouts) t ≡ layout_of structs t
layout_first structs layouts t first names =
    let below : NamesBelow first.count t = subst (λ n. NamesBelow n t) (ap length first.are ∙ length_first structs first.count) names in
    ap (λ (ls : List Layout). type_layout (at ls) t) first.are ∙ type_first structs first.count t below

pub bytes_more : (structs : List (List Field)) (t : tree.CoreType) (ts : List tree.CoreType)
    → sum_by (bytes_of structs) (map type_of (t ∷ ts)) ≡ bytes_of structs (type_of t) + sum_by (bytes_of structs) (map type_of ts)
bytes_more structs t ts = sum_by-cons (bytes_of structs) (type_of t) (map type_of ts)

pub ruleset first = (all_first, none_first)

pub ruleset sums = (bytes_more)
