use Rattle.std.proofs.Common.{◌≡◌, ◌≤◌, ◌<◌, ◌+◌, ◌-◌, ℕ, Bool, true, false, cond, ◌&&◌, nat_lt, List, length, arith, refl, sym, ap, ◌∙◌, ◌/◌}
use Rattle.std.specs.Prelude.{nat_le, slice_index}
use Rattle.std.proofs.Math.Path.{fun_ext}
use Rattle.std.proofs.lemmas.Bool.Decides.{nat_tests}
use Rattle.std.proofs.lemmas.List.{get_or_past}
use Rattle.msp_isa.specs.Image.{byte_of, image_map}
use Rattle.msp_isa.proofs.loaded.load_image.Goals as goal

module _ (code vectors : List ℕ) (a : ℕ) where
  abbrev by_tests : Bool → Bool → Bool → Bool → ℕ
  by_tests t u v w =
      cond (t && u) (byte_of (slice_index code ((a - 0x4000) / 2)) a) (cond (v && w) (byte_of (slice_index vectors ((a - 0xFFE0) / 2)) a) 0)

  below : a < 0x4000 → image_map code vectors a ≡ 0
  below low =
      let t : nat_le 0x4000 a ≡ false = grind (arith, nat_tests) in
      let v : nat_le 0xFFE0 a ≡ false = grind (arith, nat_tests) in
      ap (λ x. by_tests x (nat_lt a 0xFFE0) (nat_le 0xFFE0 a) (nat_lt a 0x10000)) t
      ∙ ap (λ x. by_tests false (nat_lt a 0xFFE0) x (nat_lt a 0x10000)) v

  behind : 0x10000 ≤ a → image_map code vectors a ≡ 0
  behind high =
      let t : nat_le 0x4000 a ≡ true = grind (arith, nat_tests) in
      let u : nat_lt a 0xFFE0 ≡ false = grind (arith, nat_tests) in
      let v : nat_le 0xFFE0 a ≡ true = grind (arith, nat_tests) in
      let w : nat_lt a 0x10000 ≡ false = grind (arith, nat_tests) in
      ap (λ x. by_tests x (nat_lt a 0xFFE0) (nat_le 0xFFE0 a) (nat_lt a 0x10000)) t
      ∙ ap (λ x. by_tests true x (nat_le 0xFFE0 a) (nat_lt a 0x10000)) u
      ∙ ap (λ x. by_tests true false x (nat_lt a 0x10000)) v
      ∙ ap (λ x. by_tests true false true x) w

module _ (code vectors bytes : List ℕ) (whole : length bytes ≡ 49152) (same : (k : ℕ) → k < 49152 → slice_index bytes k ≡ image_map code vectors (0x4000 + k)) (a : ℕ) where
  within : (t : Bool) → nat_lt a 0x10000 ≡ t → 0x4000 ≤ a → slice_index bytes (a - 0x4000) ≡ image_map code vectors a
  within true test low =
      let high : a < 0x10000 = grind (arith, nat_tests) in
      let back : 0x4000 + (a - 0x4000) ≡ a = omega arith in
      same (a - 0x4000) (omega arith) ∙ ap (λ x. image_map code vectors x) back
  within false test low =
      let high : 0x10000 ≤ a = grind (arith, nat_tests) in
      get_or_past bytes (a - 0x4000) 0 (omega (arith, whole)) ∙ sym (behind code vectors a high)

  at_address : (t : Bool) → nat_le 0x4000 a ≡ t → cond t (slice_index bytes (a - 0x4000)) 0 ≡ image_map code vectors a
  at_address true test = let low : 0x4000 ≤ a = grind (arith, nat_tests) in within (nat_lt a 0x10000) refl low
  at_address false test = let low : a < 0x4000 = grind (arith, nat_tests) in sym (below code vectors a low)

pub returns : goal.returns
returns c =
    let n : c.loop-offset.offset ≡ 49152 = omega (arith, c.loop-offset-test.false, c.loop-offset.auto.offset-end) in
    let code = c.args.image.now.code.items in
    let vectors = c.args.image.now.vectors in
    let bytes = c.loop-offset.bytes.items in
    fun_ext (λ a. at_address code vectors bytes (c.loop-offset.invariant.count ∙ n) (λ k h. c.loop-offset.invariant.same k (omega (arith, h, n))) a (nat_le 0x4000 a) refl)
