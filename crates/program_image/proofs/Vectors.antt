-- The vectors of an image lead to the code of the lines, and to reset.
use Rattle.std.proofs.Common.{◌≡◌, ℕ, ◌+◌, ◌-◌, ◌*◌, ◌/◌, ◌%◌, ◌<◌, ◌≤◌, true, false, List, ◌++◌, length, map, refl, sym, ap, ◌∙◌, arith}
use Rattle.std.specs.Prelude.{◌&&◌, nat_le, nat_lt, replicate, slice_index}
use Rattle.std.specs.List.{range_with_len}
use Rattle.std.proofs.lemmas.Bool.{eq-eqb, ne_eqb}
use Rattle.std.proofs.lemmas.Bool.Decides.{nat_tests}
use Rattle.std.proofs.lemmas.List.{get_or-append-add, get_or_append_left}
use Rattle.std.proofs.lemmas.List.FromFn.{get_or-map-range_with_len, length-map-range_with_len}
use Rattle.msp_isa.specs.Image.{byte_of, image_map}
use Rattle.msp_isa.specs.Stands.{word_in}

no_code_there : (a : ℕ) → 0xFFE0 ≤ a → (nat_le 0x4000 a && nat_lt a 0xFFE0) ≡ false
no_code_there a low = grind (arith, nat_tests)

vectors_there : (a : ℕ) → 0xFFE0 ≤ a → a < 0x10000 → (nat_le 0xFFE0 a && nat_lt a 0x10000) ≡ true
vectors_there a low high = grind (arith, nat_tests)

in_vectors : (words vectors : List ℕ) (a : ℕ) → 0xFFE0 ≤ a → a < 0x10000 → image_map words vectors a ≡ byte_of (slice_index vectors ((a - 0xFFE0) / 2)) a
in_vectors words vectors a low high = rw (no_code_there a low, vectors_there a low high) refl

half : (k : ℕ) → (0xFFE0 + 2 * k - 0xFFE0) / 2 ≡ k
half k = omega arith

half_odd : (k : ℕ) → (0xFFE0 + 2 * k + 1 - 0xFFE0) / 2 ≡ k
half_odd k = omega arith

even_low : (w k : ℕ) → byte_of w (0xFFE0 + 2 * k) ≡ w % 256
even_low w k = rw (eq-eqb ((0xFFE0 + 2 * k) % 2) 0 (omega arith)) refl

odd_high : (w k : ℕ) → byte_of w (0xFFE0 + 2 * k + 1) ≡ w / 256
odd_high w k = rw (ne_eqb ((0xFFE0 + 2 * k + 1) % 2) 0 (omega arith)) refl

both_halves : (w : ℕ) → w % 256 + 256 * (w / 256) ≡ w
both_halves w = omega arith

vector_at : (words vectors : List ℕ) (k : ℕ) → k < 16 → word_in (image_map words vectors) (0xFFE0 + 2 * k) ≡ slice_index vectors k
vector_at words vectors k few =
    let low : image_map words vectors (0xFFE0 + 2 * k) ≡ slice_index vectors k % 256 =
    in_vectors words vectors (0xFFE0 + 2 * k) (omega arith) (omega (arith, few)) ∙ ap (λ (n : ℕ). byte_of (slice_index vectors n) (0xFFE0 + 2 * k)) (half k) ∙ even_low (slice_index vectors k) k in
    let high : image_map words vectors (0xFFE0 + 2 * k + 1) ≡ slice_index vectors k / 256 =
    in_vectors words vectors (0xFFE0 + 2 * k + 1) (omega arith) (omega (arith, few)) ∙ ap (λ (n : ℕ). byte_of (slice_index vectors n) (0xFFE0 + 2 * k + 1)) (half_odd k) ∙ odd_high (slice_index vectors k) k in
    rw (low, high) (both_halves (slice_index vectors k))

module _ (entries : ℕ → ℕ) (place : ℕ) (words vectors : List ℕ) (leads : vectors ≡ map entries (range_with_len (place + 1) 8) ++ replicate 8 (entries place)) where
  abbrev lines : List ℕ
  lines = map entries (range_with_len (place + 1) 8)

  many : length lines ≡ 8
  many = length-map-range_with_len entries (place + 1) 8

  pub line_leads : (v : ℕ) → v < 8 → word_in (image_map words vectors) (0xFFE0 + 2 * v) ≡ entries (place + (v + 1))
  line_leads v few =
      vector_at words vectors v (omega (arith, few))
      ∙ ap (λ l. slice_index l v) leads
      ∙ get_or_append_left lines (replicate 8 (entries place)) 0 v (let e = many in omega (arith, e, few))
      ∙ get_or-map-range_with_len entries (place + 1) 8 v (place + (v + 1)) 0 few (omega arith)

  pub reset_leads : word_in (image_map words vectors) 0xFFFE ≡ entries place
  reset_leads =
      vector_at words vectors 15 (omega arith)
      ∙ ap (λ l. slice_index l 15) leads
      ∙ ap (λ k. slice_index (lines ++ replicate 8 (entries place)) (k + 7)) (sym many)
      ∙ get_or-append-add lines (replicate 8 (entries place)) 7 0
