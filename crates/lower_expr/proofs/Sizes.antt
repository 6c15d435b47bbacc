-- Elements and fields lie inside of what they are parts of.
use Rattle.std.proofs.Common.{◌≡◌, ℕ, zero, suc, ◌+◌, ◌*◌, ◌<◌, ◌≤◌, List, [], ◌∷◌, length, map, take, fold, ap, arith}
use Rattle.std.specs.Prelude.{slice_get, slice_index_or}
use Rattle.std.proofs.Math.Nat.{mul_comm, mul-le-mul_right}
use Rattle.nesc_core.specs.declared.layout.Layout.{Layout}
use Rattle.nesc_core.specs.Plain.{Ty, void, int, pointer, array, struct, Field, Program}
use Rattle.nesc_core.specs.Size.{layout, rounded, with_field, fields_layout, layout_of, AreSized}
use Rattle.nesc_core.specs.PlaceTypes.{element_of, count_of, fields_of, field_offset, field_type}
use Rattle.nesc_core.specs.Typing.{IsArray}
use Rattle.nesc_core.proofs.SizeLemmas.{fold-grows, rounded-le, struct_at-whole}
use Rattle.core_meaning.specs.Layout.{size_of}

fields_le : (lies : Ty → Layout) (done : Layout) (fs : List Field) (k : ℕ) → k < length fs →
    rounded (fold with_field done (map (λ f. lies f.ty) (take k fs))).size (lies (field_type (slice_get fs k))).align + (lies (field_type (slice_get fs k))).size ≤ (fold with_field done (map (λ f. lies f.ty) fs)).size
fields_le lies done [] k lt = absurd (omega arith)
fields_le lies done (f ∷ fs) zero lt = fold-grows (with_field done (lies f.ty)) (map (λ g. lies g.ty) fs)
fields_le lies done (f ∷ fs) (suc k) lt = fields_le lies (with_field done (lies f.ty)) fs k (omega arith)

past_end : (structs : List (List Field)) (k i : ℕ) → k < length (slice_index_or structs i []) → i < length structs
past_end [] i k lt = absurd (omega arith)
past_end (s ∷ ss) k zero lt = omega arith
past_end (s ∷ ss) k (suc i) lt = let h = past_end ss k i lt in omega (arith, h)

-- a field ends where its struct ends, or before
pub field_inside : (p : Program) → AreSized p.structs → (ty : Ty) (k : ℕ) → k < length (fields_of p.structs ty) →
    field_offset p.structs ty k + size_of p (field_type (slice_get (fields_of p.structs ty) k)) ≤ size_of p ty
field_inside p sized void k lt = absurd (omega arith)
field_inside p sized (int t) k lt = absurd (omega arith)
field_inside p sized (pointer t) k lt = absurd (omega arith)
field_inside p sized (array t n) k lt = absurd (omega arith)
field_inside p sized (struct i) k lt =
    let fs : List Field = slice_index_or p.structs i [] in
    let whole = struct_at-whole p.structs sized.lower i (past_end p.structs k i lt) in
    let all : Layout = fields_layout (map (λ f. layout_of p.structs f.ty) fs) in
    let ends = fields_le (layout_of p.structs) (layout 0 1) fs k lt in
    let grows = rounded-le all.size all.align in
    let size : size_of p (struct i) ≡ rounded all.size all.align = ap (λ (l : Layout). l.size) whole in
    omega (arith, ends, grows, size)

-- an element ends where its array ends, or before
pub element_inside : (p : Program) (ty : Ty) (i : ℕ) → IsArray ty → i < count_of ty → i * size_of p (element_of ty) + size_of p (element_of ty) ≤ size_of p ty
element_inside p void i is lt = absurd is
element_inside p (int t) i is lt = absurd is
element_inside p (pointer t) i is lt = absurd is
element_inside p (struct k) i is lt = absurd is
element_inside p (array t n) i is lt =
    let le : (i + 1) * size_of p t ≤ n * size_of p t = mul-le-mul_right (size_of p t) (omega (arith, lt)) in
    let turned = mul_comm n (size_of p t) in
    let parts : (i + 1) * size_of p t ≡ i * size_of p t + size_of p t = omega arith in
    omega (arith, le, turned, parts)
