-- The low byte of a number as a number that may be negative.
use Rattle.std.proofs.Common.{◌≡◌, ℕ, zero, suc, ◌+◌, ◌-◌, ◌*◌, ◌/◌, ◌%◌, ◌<◌, ◌≤◌, Bool, true, false, List, refl, sym, ap, ◌∙◌, arith}
use Rattle.std.specs.Prelude.{ℤ, pos, negsuc, ◌-ℤ◌, nat_lt, bit_and, bit_xor}
use Rattle.std.specs.Int.Bits.{xor_zero_r}
use Rattle.std.proofs.lemmas.Int.{ints}
use Rattle.std.proofs.lemmas.Nat.{and_mask, xor_block}
use Rattle.std.proofs.lemmas.Bool.{ltb-true}
use Rattle.std.proofs.lemmas.Bool.Decides.{nat_tests}
use Rattle.nm_base.specs.declared.int_type.IntType.TheVariants.{I8}
use Rattle.nm_base.specs.IntType.{wrapped, signed_part}
use Rattle.nm_base.specs.Behaviour.{Behaviour}
use Rattle.nesc_core.specs.Plain.{Ty, int, Program}
use Rattle.core_meaning.specs.Numbers.{residue}
use Rattle.core_meaning.specs.Work.{Locals}
use Rattle.mid_code.specs.declared.instr.Op.TheVariants.{And, Xor, Sub}
use Rattle.mid_code.specs.declared.instr.Mid.{Mid}
use Rattle.mid_code.specs.declared.code.MidCode.{MidCode}
use Rattle.mid_code.specs.Machine.{Activation, fn_of, put}
use Rattle.mid_code.specs.Words.{operate}
use Rattle.mid_code.specs.Runs.{IsLabelled, Runs, Stands}
use Rattle.mid_code.proofs.Stands.{at_end}
use Rattle.mid_code.proofs.Written.{put_same, put_other}
use Rattle.lower_expr.specs.declared.spot.Spot.{Spot}
use Rattle.lower_expr.specs.Held.{low}
use Rattle.lower_expr.specs.Runs.{Keeps}
use Rattle.lower_expr.specs.Locals.{Holds}
use Rattle.lower_expr.specs.Pieces.{fit_code}
use Rattle.lower_expr.proofs.Values.{keeps_put, holds_put}
use Rattle.lower_expr.proofs.Numbers.{byte_of_low, from_half, from_zero, wrapped_again}
use Rattle.lower_expr.proofs.Pieces.{Next, at_here, narrow_at, set_runs}
use Rattle.lower_expr.proofs.Wide.{bin_runs}

bit_turned : (q : ℕ) → q < 2 → bit_xor q 1 ≡ 1 - q
bit_turned zero lt = refl
bit_turned (suc zero) lt = refl
bit_turned (suc (suc q)) lt = absurd (omega (arith, lt))

top_turned : (b : ℕ) → b < 256 → bit_xor b 128 ≡ (1 - b / 128) * 128 + b % 128
top_turned b lt =
    let parts : b ≡ b / 128 * 128 + b % 128 = omega arith in
    let few : b / 128 < 2 = omega (arith, lt) in
    ap (λ u. bit_xor u 128) parts ∙ xor_block 7 (b / 128) 1 (b % 128) 0 (omega arith) (omega arith)
    ∙ ap (λ u. u * 128 + bit_xor (b % 128) 0) (bit_turned (b / 128) few) ∙ ap (λ u. (1 - b / 128) * 128 + u) (xor_zero_r (b % 128))

signed_byte : (m : ℕ) (c : Bool) → nat_lt m 128 ≡ c → m < 256 → ((1 - m / 128) * 128 + m % 128 + (65536 - 128)) % 65536 ≡ low (signed_part (pos m) (pos 128))
signed_byte m true e lt =
    let t = ltb-true m 128 e in
    let h : ((1 - m / 128) * 128 + m % 128 + (65536 - 128)) % 65536 ≡ m % 65536 = omega (arith, t) in
    h ∙ ap low (sym (from_zero m 128 t))
signed_byte m false e lt =
    let t : 128 ≤ m = grind (arith, nat_tests) in
    let h : ((1 - m / 128) * 128 + m % 128 + (65536 - 128)) % 65536 ≡ 65536 - 1 - (255 - m) % 65536 = omega (arith, t, lt) in
    let g : pos m -ℤ pos 128 -ℤ pos 128 ≡ negsuc (255 - m) = omega (arith, ints, t, lt) in
    h ∙ ap low (sym (from_half m 128 t ∙ g))

byte_below : (v : ℤ) → residue 8 v < 256
byte_below (pos a) = omega arith
byte_below (negsuc a) = omega arith

wrapped_byte : (v : ℤ) → signed_part (pos (residue 8 v)) (pos 128) ≡ wrapped I8 v
wrapped_byte (pos a) = refl
wrapped_byte (negsuc a) = refl

pub byte_with_sign : (v : ℤ) → operate Sub (bit_xor (low v % 256) 128) 128 ≡ low (wrapped I8 v)
byte_with_sign v =
    let m : ℕ = residue 8 v in
    ap (λ u. operate Sub (bit_xor u 128) 128) (byte_of_low v) ∙ ap (λ u. operate Sub u 128) (top_turned m (byte_below v))
    ∙ signed_byte m (nat_lt m 128) refl (byte_below v) ∙ ap low (wrapped_byte v)

pub byte_again : (x : ℕ) → wrapped I8 (pos (x % 256)) ≡ wrapped I8 (pos x)
byte_again x = ap (λ m. signed_part (pos m) (pos 128)) (let h : x % 256 % 256 ≡ x % 256 = omega arith in h)

pub low_of_byte : (x : ℕ) → x % 256 ≡ low (pos (x % 256))
low_of_byte x = omega arith

module _ (codes : MidCode) (f : ℕ) (rest : List Activation) (labels : IsLabelled (fn_of codes f).code) (n : ℕ)
    (p : Program) (types : List Ty) (spots : List Spot) (base : ℕ) where
  abbrev code : List Mid
  code = (fn_of codes f).code

  abbrev here : ℕ → (ℕ → ℕ) → (ℕ → ℕ) → List Activation
  here pc values frame = at_here codes f rest labels n p types spots base pc values frame

  abbrev Behind : Ty → (r end : ℕ) → (ℕ → ℕ) → (ℤ → Locals → Behaviour) → Type 0
  Behind ty r end old after = Next codes f rest labels n p types spots base ty r end old after

  pub signed_byte_runs : (v : ℤ) (r pc end : ℕ) (after : ℤ → Locals → Behaviour) (env : Locals) (first values frame : ℕ → ℕ) →
      base ≤ r → values r ≡ low v → Stands code pc (fit_code I8 r) end →
      Holds p types spots base env values frame → Keeps base r first values → Behind (int I8) r end first after →
      Runs codes n (after (wrapped I8 v) env) (here pc values frame)
  signed_byte_runs v r pc end after env first values frame le is s h k next =
      let z : ℤ = wrapped I8 v in
      let one : ℕ → ℕ = put values (r + 1) 255 in
      let b : ℕ = bit_and (one r) (one (r + 1)) in
      let two : ℕ → ℕ = put one r b in
      let three : ℕ → ℕ = put two (r + 1) 128 in
      let x : ℕ = bit_xor (three r) (three (r + 1)) in
      let four : ℕ → ℕ = put three r x in
      let w : ℕ = operate Sub (four r) (four (r + 1)) in
      let b_is : b ≡ low v % 256 =
      ap (λ m. bit_and m (one (r + 1))) (put_other values (r + 1) 255 r (λ e. omega arith) ∙ is) ∙ ap (bit_and (low v)) (put_same values (r + 1) 255) ∙ and_mask (low v) 8 in
      let x_is : x ≡ bit_xor (low v % 256) 128 =
      ap (λ m. bit_xor m (three (r + 1))) (put_other two (r + 1) 128 r (λ e. omega arith) ∙ put_same one r b ∙ b_is) ∙ ap (bit_xor (low v % 256)) (put_same two (r + 1) 128) in
      let w_is : w ≡ low z =
      ap (λ m. operate Sub m (four (r + 1))) (put_same three r x ∙ x_is)
      ∙ ap (operate Sub (bit_xor (low v % 256) 128)) (put_other three r x (r + 1) (λ e. omega arith) ∙ put_same two (r + 1) 128) ∙ byte_with_sign v in
      set_runs codes f rest labels n p types spots base (after z env) (r + 1) 255 pc values frame s.0
      (bin_runs codes f rest labels n p types spots base (after z env) And r r (r + 1) (pc + 1) one frame s.1.0
      (set_runs codes f rest labels n p types spots base (after z env) (r + 1) 128 (pc + 1 + 1) two frame s.1.1.0
      (bin_runs codes f rest labels n p types spots base (after z env) Xor r r (r + 1) (pc + 1 + 1 + 1) three frame s.1.1.1.0
      (bin_runs codes f rest labels n p types spots base (after z env) Sub r r (r + 1) (pc + 1 + 1 + 1 + 1) four frame s.1.1.1.1.0
      (at_end codes f rest n (after z env) (pc + 1 + 1 + 1 + 1 + 1) end (put four r w) frame s.1.1.1.1.1
      (next z env (put four r w) frame (record {
        holds = holds_put base p types spots env four frame r w le (holds_put base p types spots env three frame r x le (holds_put base p types spots env two frame (r + 1) 128 (omega arith) (holds_put base p types spots env one frame r b le (holds_put base p types spots env values frame (r + 1) 255 (omega arith) h))));
        keeps = keeps_put base r r w first four (omega arith) (keeps_put base r r x first three (omega arith) (keeps_put base r (r + 1) 128 first two (omega arith) (keeps_put base r r b first one (omega arith) (keeps_put base r (r + 1) 255 first values (omega arith) k))));
        is = narrow_at codes f rest labels n p types spots base I8 z r w four refl (wrapped_again I8 v) w_is;
      })))))))
