-- The frame and the values of a body's function keep to the weight of its frame.
use Rattle.std.proofs.Common.{◌≡◌, ◌+◌, ◌*◌, ◌%◌, ◌≤◌, List, [], ◌∷◌, refl, arith}
use Rattle.std.specs.Prelude.{sum_by}
use Rattle.std.proofs.lemmas.List.Sums.{sum_by-cons}
use Rattle.nm_base.specs.declared.int_type.IntType.TheVariants.{I8, U8, I16, U16, I32, U32}
use Rattle.nesc_core.specs.Plain.{Ty, void, int, pointer, array, struct, Body, Program}
use Rattle.nesc_core.specs.Weights.{even, frame_weight}
use Rattle.core_meaning.specs.Layout.{size_of}
use Rattle.lower_stmt.specs.Bodies.{all_bytes, all_values, bytes_in_frame, mid_fn_of, values_of}
use Rattle.lower_stmt.specs.Bounds.{IsWithin}

one_even : (p : Program) (t : Ty) → bytes_in_frame p t % 2 ≡ 0
one_even p void = refl
one_even p (int t) = refl
one_even p (pointer t) = refl
one_even p (array t n) = omega arith
one_even p (struct k) = omega arith

all_even : (p : Program) (ts : List Ty) → all_bytes p ts % 2 ≡ 0
all_even p [] = refl
all_even p (t ∷ ts) = let first = one_even p t in let rest = all_even p ts in omega (arith, first, rest)

one_fits : (p : Program) (t : Ty) → bytes_in_frame p t + 2 * values_of t ≤ even (size_of p t)
one_fits p void = omega arith
one_fits p (int I8) = omega arith
one_fits p (int U8) = omega arith
one_fits p (int I16) = omega arith
one_fits p (int U16) = omega arith
one_fits p (int I32) = omega arith
one_fits p (int U32) = omega arith
one_fits p (pointer t) = omega arith
one_fits p (array t n) = omega arith
one_fits p (struct k) = omega arith

all_fit : (p : Program) (ts : List Ty) → all_bytes p ts + 2 * all_values ts ≤ sum_by (λ t. even (size_of p t)) ts
all_fit p [] = omega arith
all_fit p (t ∷ ts) =
    let e : sum_by (λ t. even (size_of p t)) (t ∷ ts) ≡ even (size_of p t) + sum_by (λ t. even (size_of p t)) ts = sum_by-cons (λ t. even (size_of p t)) t ts in
    let first = one_fits p t in
    let rest = all_fit p ts in
    omega (arith, e, first, rest)

pub is_within : (p : Program) (checks : List Ty) (b : Body) → IsWithin (frame_weight p b) (mid_fn_of p checks b)
is_within p checks b = record {
  is_even = let e = all_even p b.locals in omega (arith, e);
  within = let le = all_fit p b.locals in omega (arith, le);
}
