-- What locals take, and where those in the frame lie.
use Rattle.std.proofs.Common.{◌≡◌, ℕ, zero, suc, ◌+◌, ◌*◌, ◌≤◌, List, [], ◌∷◌, Some, sum_by, arith}
use Rattle.std.specs.Prelude.{slice_get, slice_index_or}
use Rattle.std.proofs.lemmas.List.Sums.{sum_by-cons}
use Rattle.nm_base.specs.declared.int_type.IntType.TheVariants.{I8, U8, I16, U16, I32, U32}
use Rattle.nesc_core.specs.Plain.{Ty, void, int, pointer, array, struct, Field, Body, Program}
use Rattle.nesc_core.specs.Size.{layout_of, AreSized, IsSized}
use Rattle.nesc_core.specs.Weights.{even, frame_weight, stmt_atomics, stmt_levels}
use Rattle.nesc_core.specs.WellFormed.{greatest_frame}
use Rattle.core_meaning.specs.Layout.{size_of}
use Rattle.lower_expr.specs.declared.spot.Spot.TheVariants.{Frame}
use Rattle.lower_stmt.specs.Bodies.{all_bytes, all_values, bytes_in_frame, spot_at, spots_from, values_of}

module _ (p : Program) where
  abbrev evened : Ty → ℕ
  evened t = even (layout_of p.structs t).size

  -- a value is two bytes
  one_fits : (t : Ty) → 2 * values_of t + bytes_in_frame p t ≤ evened t
  one_fits void = omega arith
  one_fits (int I8) = omega arith
  one_fits (int U8) = omega arith
  one_fits (int I16) = omega arith
  one_fits (int U16) = omega arith
  one_fits (int I32) = omega arith
  one_fits (int U32) = omega arith
  one_fits (pointer t) = omega arith
  one_fits (array t n) = omega arith
  one_fits (struct k) = omega arith

  pub locals_fit : (ts : List Ty) → 2 * all_values ts + all_bytes p ts ≤ sum_by evened ts
  locals_fit [] = omega arith
  locals_fit (t ∷ ts) =
      let e = sum_by-cons evened t ts in
      let first = one_fits t in
      let rest = locals_fit ts in
      omega (arith, e, first, rest)

  -- what a body's frame takes, by its weight
  pub weight_bounds : (b : Body) → frame_weight p b ≤ greatest_frame
      → 2 * all_values b.locals + all_bytes p b.locals + 4 * stmt_levels b.code + 2 * stmt_atomics b.code + 40 ≤ 10020
  weight_bounds b h = let k = locals_fit b.locals in omega (arith, h, k)

  spot_fits : (t : Ty) (v o from : ℕ) → spot_at t v o ≡ Frame from → from + size_of p t ≤ o + bytes_in_frame p t
  spot_fits void v o from e = let at : from ≡ o = cc in omega (arith, at)
  spot_fits (int t) v o from e = absurd (cc)
  spot_fits (pointer t) v o from e = absurd (cc)
  spot_fits (array t n) v o from e = let at : from ≡ o = cc in omega (arith, at)
  spot_fits (struct k) v o from e = let at : from ≡ o = cc in omega (arith, at)

  -- locals in the frame lie in what all take
  pub inside : (ts : List Ty) (v o x from : ℕ) → slice_get (spots_from p ts v o) x ≡ Some (Frame from) → from + size_of p (slice_index_or ts x void) ≤ o + all_bytes p ts
  inside [] v o x from e = absurd (cc)
  inside (t ∷ ts) v o zero from e =
      let is : spot_at t v o ≡ Frame from = cc in
      let h = spot_fits t v o from is in
      omega (arith, h)
  inside (t ∷ ts) v o (suc x) from e =
      let h = inside ts (v + values_of t) (o + bytes_in_frame p t) x from e in
      omega (arith, h)

-- ---- sizes

pub size_small : (structs : List (List Field)) (t : Ty) → AreSized structs → IsSized structs t → (layout_of structs t).size ≤ 32767
size_small structs void all sized = omega arith
size_small structs (int I8) all sized = omega arith
size_small structs (int U8) all sized = omega arith
size_small structs (int I16) all sized = omega arith
size_small structs (int U16) all sized = omega arith
size_small structs (int I32) all sized = omega arith
size_small structs (int U32) all sized = omega arith
size_small structs (pointer t) all sized = omega arith
size_small structs (array t n) all sized = sized.small.1
size_small structs (struct k) all sized = sized.small
