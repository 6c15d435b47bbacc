-- Fields lie inside their struct, whose size fits in 16 bits.
use Rattle.std.proofs.Common.{◌≡◌, ℕ, zero, suc, ◌<◌, ◌≤◌, List, [], ◌∷◌, length, map, take, fold, get_or, arith, subst}
use Rattle.std.specs.Prelude.{slice_get}
use Rattle.nesc_core.specs.declared.layout.Layout.{Layout}
use Rattle.nesc_core.specs.Plain.{Ty, void, int, pointer, array, struct, Field}
use Rattle.nesc_core.specs.Size.{layout, rounded, with_field, fields_layout, struct_of_fields, struct_at, layout_of, AreSized, IsSized}
use Rattle.nesc_core.specs.PlaceTypes.{field_offset, field_type, fields_of}
use Rattle.nesc_core.proofs.SizeLemmas.{fold-grows, rounded-le, struct_at-whole}

module _ (structs : List (List Field)) where
  abbrev lies : Field → Layout
  lies f = layout_of structs f.ty

  offset-le : (done : Layout) (fs : List Field) (k : ℕ) → k < length fs
      → rounded (fold with_field done (map lies (take k fs))).size (layout_of structs (field_type (slice_get fs k))).align ≤ (fold with_field done (map lies fs)).size
  offset-le done [] k below = absurd (omega arith)
  offset-le done (f ∷ fs) zero below = omega (arith, fold-grows (with_field done (lies f)) (map lies fs))
  offset-le done (f ∷ fs) (suc k) below = offset-le (with_field done (lies f)) fs k (omega arith)

  pub field_offset-small : (t : Ty) (k : ℕ) → AreSized structs → IsSized structs t → k < length (fields_of structs t) → field_offset structs t k ≤ 32767
  field_offset-small void k all sized inside = absurd (omega arith)
  field_offset-small (int t) k all sized inside = absurd (omega arith)
  field_offset-small (pointer t) k all sized inside = absurd (omega arith)
  field_offset-small (array t n) k all sized inside = absurd (omega arith)
  field_offset-small (struct n) k all sized inside =
      let fs = get_or structs n [] in
      let whole : struct_at structs (length structs) n ≡ struct_of_fields (fields_layout (map lies fs)) = struct_at-whole structs all.lower n sized.names in
      let small : (struct_of_fields (fields_layout (map lies fs))).size ≤ 32767 = subst (λ (l : Layout). l.size ≤ 32767) whole (all.small_whole n sized.names) in
      omega (arith, small, rounded-le (fields_layout (map lies fs)).size (fields_layout (map lies fs)).align, offset-le (layout 0 1) fs k inside)
