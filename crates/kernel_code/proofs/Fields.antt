-- Fields one after the other: their layouts, which are cut.
use Rattle.std.proofs.Common.{◌≡◌, ℕ, suc, ◌+◌, ◌<◌, ◌≤◌, List, [], ◌∷◌, length, map, take, get_or, refl, sym, ap, ◌∙◌}
use Rattle.std.proofs.lemmas.List.{length-map, take_all, map_more}
use Rattle.std.proofs.lemmas.List.Sums.{fold-append}
use Rattle.std.proofs.Math.ListN as list
use Rattle.nesc_core.specs.declared.layout.Layout.{Layout}
use Rattle.nesc_core.specs.declared.tree.Field as tree
use Rattle.nesc_core.specs.declared.tree.Structs.{Structs}
use Rattle.nesc_core.specs.Layouts.{at, made_of}
use Rattle.nesc_core.specs.Plain.{Field, Ty}
use Rattle.nesc_core.specs.Size.{layout, with_field, fields_layout, struct_of_fields, struct_at, type_layout, layout_of}
use Rattle.nesc_core.specs.View.{field_of, structs_of, type_of}
use Rattle.nesc_core.proofs.SizeLemmas.{map-field_of}
use Rattle.kernel_code.specs.Sizes.{cut}
use Rattle.kernel_code.proofs.Cut.{cut_cut, cut_fields, cut_type, field_cut, struct_cut}

-- ---- layouts

module _ (g : tree.Field → Layout) (xs : List tree.Field) where
  pub one_more : (i : ℕ) (x : tree.Field) (done f : Layout) → i < length xs → x ≡ get_or xs i x
      → done ≡ cut (fields_layout (map g (take i xs))) → f ≡ cut (g x) → cut (with_field done f) ≡ cut (fields_layout (map g (take (i + 1) xs)))
  one_more i x done f below is so_far here =
      field_cut done f (fields_layout (map g (take i xs))) (g x) so_far here
      ∙ ap (λ (y : tree.Field). cut (with_field (fields_layout (map g (take i xs))) (g y))) is
      ∙ sym (ap (λ ls. cut (fields_layout ls)) (map_more g xs i x below)
      ∙ ap cut (fold-append with_field (layout 0 1) (map g (take i xs)) (g (get_or xs i x) ∷ [])))

  pub all_done : (i : ℕ) (done : Layout) → length xs ≤ i → done ≡ cut (fields_layout (map g (take i xs)))
      → cut (struct_of_fields done) ≡ cut (struct_of_fields (fields_layout (map g xs)))
  all_done i done over so_far =
      ap (λ (l : Layout). cut (struct_of_fields l)) (so_far ∙ ap (λ ys. cut (fields_layout (map g ys))) (take_all i xs over))
      ∙ struct_cut (fields_layout (map g xs))

-- of all fields, as plain ones
pub plain_fields : (g : ℕ → Layout) (xs : List tree.Field)
    → cut (struct_of_fields (fields_layout (map (λ (f : tree.Field). type_layout g (type_of f.ty)) xs)))
    ≡ cut (struct_of_fields (fields_layout (map (λ (f : Field). type_layout g f.ty) (map field_of xs))))
plain_fields g xs = ap (λ ls. cut (struct_of_fields (fields_layout ls))) (sym (map-field_of g xs))

-- ---- the layouts of all structs, from those where structs stand less deep

module _ (structs : List (List Field)) (d : ℕ) (layouts : List Layout) (known : (k : ℕ) → at layouts k ≡ cut (struct_at structs d k)) where
  abbrev next : List Field → Layout
  next fields = cut (made_of layouts fields)

  next_is : (fields : List Field) → next fields ≡ cut (struct_of_fields (fields_layout (map (λ (f : Field). type_layout (struct_at structs d) f.ty) fields)))
  next_is fields =
      sym (struct_cut (fields_layout (map (λ (f : Field). type_layout (at layouts) f.ty) fields)))
      ∙ ap (λ (l : Layout). cut (struct_of_fields l))
      (cut_fields (λ (f : Field). type_layout (at layouts) f.ty) (λ (f : Field). type_layout (struct_at structs d) f.ty)
      (λ f. cut_type (at layouts) (struct_at structs d) (λ k. ap cut (known k) ∙ cut_cut (struct_at structs d k)) f.ty)
      fields (layout 0 1) (layout 0 1) refl)
      ∙ struct_cut (fields_layout (map (λ (f : Field). type_layout (struct_at structs d) f.ty) fields))

  pub next_known : (k : ℕ) → at (map next structs) k ≡ cut (struct_at structs (suc d) k)
  next_known k = list.get_or-map next structs k [] ∙ next_is (get_or structs k [])

  -- the same, where the layouts were lent
  pub next_all : (n : ℕ) (lent new : List Layout) → n ≡ suc d → lent ≡ layouts → new ≡ map (λ (fields : List Field). cut (made_of lent fields)) structs
      → (k : ℕ) → at new k ≡ cut (struct_at structs n k)
  next_all n lent new one same are k =
      ap (λ (ls : List Layout). at ls k) (are ∙ ap (λ (ls : List Layout). map (λ (fields : List Field). cut (made_of ls fields)) structs) same)
      ∙ next_known k
      ∙ ap (λ m. cut (struct_at structs m k)) (sym one)

pub all_depths : (s : Structs) (d : ℕ) (layouts : List Layout) → d ≡ length s.structs → ((k : ℕ) → at layouts k ≡ cut (struct_at (structs_of s) d k))
    → (k : ℕ) → at layouts k ≡ cut (struct_at (structs_of s) (length (structs_of s)) k)
all_depths s d layouts is known k = known k ∙ ap (λ m. cut (struct_at (structs_of s) m k)) (is ∙ sym (length-map s.structs (map field_of)))

-- a type, from the layouts of all structs, where these were lent
pub whole_type : (structs : List (List Field)) (lent items : List Layout) → lent ≡ items → ((k : ℕ) → at items k ≡ cut (struct_at structs (length structs) k))
    → (t : Ty) → cut (type_layout (at lent) t) ≡ cut (layout_of structs t)
whole_type structs lent items same known t =
    cut_type (at lent) (struct_at structs (length structs))
    (λ k. ap cut (ap (λ (ls : List Layout). at ls k) same ∙ known k) ∙ cut_cut (struct_at structs (length structs) k)) t
