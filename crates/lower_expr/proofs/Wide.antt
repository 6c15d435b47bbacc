-- The code of operations on numbers of 32 bits, and of bits that are turned, does what the operations do.
use Rattle.std.proofs.Common.{◌≡◌, ℕ, ◌+◌, ◌/◌, ◌≤◌, Bool, true, false, List, Some, refl, sym, ap, ◌∙◌, subst, arith}
use Rattle.std.specs.Prelude.{ℤ, pos, negsuc, slice_get, bit_or, bit_xor, int_lt, not, ◌==◌, ◌-ℤ◌}
use Rattle.nm_base.specs.declared.int_type.IntType.{IntType}
use Rattle.nm_base.specs.declared.int_type.IntType.TheVariants.{I8, U8, I16, U16, I32, U32}
use Rattle.nm_base.specs.IntType.{wrapped}
use Rattle.nm_base.specs.Behaviour.{Behaviour}
use Rattle.nesc_core.specs.Plain.{Ty, int, Program}
use Rattle.core_meaning.specs.Numbers.{truth, is_zero}
use Rattle.core_meaning.specs.Work.{Locals}
use Rattle.mid_code.specs.declared.instr.Op.{Op}
use Rattle.mid_code.specs.declared.instr.Op.TheVariants.{Sub, Or, Xor}
use Rattle.mid_code.specs.declared.instr.Test.{Test}
use Rattle.mid_code.specs.declared.instr.Test.TheVariants.{Eq, Ne, Le}
use Rattle.mid_code.specs.declared.instr.Mid.{Mid}
use Rattle.mid_code.specs.declared.instr.Mid.TheVariants.{Bin, Carry, Label}
use Rattle.mid_code.specs.declared.code.MidCode.{MidCode}
use Rattle.mid_code.specs.Machine.{Activation, fn_of, put}
use Rattle.mid_code.specs.Words.{operate, carry, holds}
use Rattle.mid_code.specs.Runs.{IsLabelled, Runs, Stands}
use Rattle.mid_code.specs.Help.{is_wide}
use Rattle.mid_code.proofs.Runs.{goes}
use Rattle.mid_code.proofs.Stands.{does, at_end, branch_runs, stay_runs}
use Rattle.mid_code.proofs.Written.{put_same, put_other}
use Rattle.lower_expr.specs.declared.spot.Spot.{Spot}
use Rattle.lower_expr.specs.Held.{IsHeld, IsHighHeld, low, high}
use Rattle.lower_expr.specs.Runs.{Keeps}
use Rattle.lower_expr.specs.Locals.{Holds}
use Rattle.lower_expr.specs.Pieces.{bits_code, equal_code, unary_code, widen_code, zero_code}
use Rattle.nesc_core.specs.declared.tree.UnOp.TheVariants as un
use Rattle.lower_expr.proofs.Values.{keeps_put, holds_put}
use Rattle.lower_expr.proofs.Numbers.{Is32Bits, high_difference, low_wrapped_wide, rest_wrapped, wide_low_difference, wrapped_again}
use Rattle.lower_expr.proofs.Halves.{IsShortSigned, differing, high_of_sign, sign_half, signed_word, zero_halves}
use Rattle.lower_expr.proofs.Pieces.{Next, at_here, is_zero_runs, label_runs, narrow_at, non_zero_runs, set_runs, test_runs, zero_runs, zero_to}

-- a number at r where one of 32 bits was tested, which takes its place
abbrev pub tested : (wide : Bool) → (ℕ → ℕ) → ℕ → ℕ → ℕ
tested true values r = put (put values r (bit_or (values r) (values (r + 1)))) (r + 2) 0
tested false values r = put values (r + 2) 0

-- what is written from r on
module _ (p : Program) (types : List Ty) (spots : List Spot) (base r : ℕ) (le : base ≤ r) where
  abbrev pub Apart : (ℕ → ℕ) → Locals → (ℕ → ℕ) → (ℕ → ℕ) → Type 0
  Apart first env values frame = Holds p types spots base env values frame × Keeps base r first values

  pub apart_put : (s x : ℕ) (first : ℕ → ℕ) (env : Locals) (values frame : ℕ → ℕ) → r ≤ s → Apart first env values frame → Apart first env (put values s x) frame
  apart_put s x first env values frame from h = (holds_put base p types spots env values frame s x (omega arith) h.0, keeps_put base r s x first values from h.1)

  pub apart_tested : (wide : Bool) (first : ℕ → ℕ) (env : Locals) (values frame : ℕ → ℕ) → Apart first env values frame → Apart first env (tested wide values r) frame
  apart_tested true first env values frame h = apart_put (r + 2) 0 first env _ frame (omega arith) (apart_put r _ first env values frame (omega arith) h)
  apart_tested false first env values frame h = apart_put (r + 2) 0 first env values frame (omega arith) h

pub is_wide_of : (t : IntType) → Is32Bits t → is_wide t ≡ true
is_wide_of I32 ok = refl
is_wide_of U32 ok = refl
is_wide_of I8 ok = absurd ok
is_wide_of U8 ok = absurd ok
is_wide_of I16 ok = absurd ok
is_wide_of U16 ok = absurd ok

pub wide_is : (t : IntType) → is_wide t ≡ true → Is32Bits t
wide_is I32 e = tt
wide_is U32 e = tt
wide_is I8 e = absurd (cc)
wide_is U8 e = absurd (cc)
wide_is I16 e = absurd (cc)
wide_is U16 e = absurd (cc)

-- the high half of a number of 32 bits
pub high_of : (t : IntType) (v : ℤ) (values : ℕ → ℕ) (r : ℕ) → Is32Bits t → IsHeld t v values r → values (r + 1) ≡ high v
high_of t v values r ok h = subst (λ b. IsHighHeld b v values (r + 1)) (is_wide_of t ok) h.high_half

pub wide_at : (t : IntType) (z : ℤ) (values : ℕ → ℕ) (r : ℕ) → Is32Bits t → wrapped t z ≡ z → values r ≡ low z → values (r + 1) ≡ high z → IsHeld t z values r
wide_at t z values r ok number l h = record { number = number; low_half = l; high_half = subst (λ b. IsHighHeld b z values (r + 1)) (sym (is_wide_of t ok)) h }

module _ (codes : MidCode) (f : ℕ) (rest : List Activation) (labels : IsLabelled (fn_of codes f).code) (n : ℕ)
    (p : Program) (types : List Ty) (spots : List Spot) (base : ℕ) where
  abbrev code : List Mid
  code = (fn_of codes f).code

  abbrev here : ℕ → (ℕ → ℕ) → (ℕ → ℕ) → List Activation
  here pc values frame = at_here codes f rest labels n p types spots base pc values frame

  abbrev Behind : Ty → (r end : ℕ) → (ℕ → ℕ) → (ℤ → Locals → Behaviour) → Type 0
  Behind ty r end old after = Next codes f rest labels n p types spots base ty r end old after

  pub bin_runs : (b : Behaviour) (op : Op) (v x y pc : ℕ) (values frame : ℕ → ℕ) → slice_get code pc ≡ Some (Bin op v x y) →
      Runs codes n b (here (pc + 1) (put values v (operate op (values x) (values y))) frame) → Runs codes n b (here pc values frame)
  bin_runs b op v x y pc values frame at h = goes codes n b _ _ (does codes f rest pc values frame (Bin op v x y) at) h

  -- a number of 32 bits whose halves were written last
  halves_end : (t : IntType) (z : ℤ) (l m r pc end : ℕ) (after : ℤ → Locals → Behaviour) (env : Locals) (first values frame : ℕ → ℕ) →
      base ≤ r → Is32Bits t → wrapped t z ≡ z → l ≡ low z → m ≡ high z → pc ≡ end → Holds p types spots base env values frame → Keeps base r first values →
      Behind (int t) r end first after → Runs codes n (after z env) (here pc (put (put values r l) (r + 1) m) frame)
  halves_end t z l m r pc end after env first values frame le ok number l_is m_is e h k next =
      let one : ℕ → ℕ = put values r l in
      let two : ℕ → ℕ = put one (r + 1) m in
      at_end codes f rest n (after z env) pc end two frame e
      (next z env two frame (record {
        holds = holds_put base p types spots env one frame (r + 1) m (omega arith) (holds_put base p types spots env values frame r l le h);
        keeps = keeps_put base r (r + 1) m first one (omega arith) (keeps_put base r r l first values (omega arith) k);
        is = wide_at t z two r ok number (put_other one (r + 1) m r (λ e. omega arith) ∙ put_same values r l ∙ l_is) (put_same one (r + 1) m ∙ m_is);
      }))

  pub wide_bits_runs : (op : Op) (t : IntType) (x y z : ℤ) (r pc end : ℕ) (after : ℤ → Locals → Behaviour) (env : Locals) (first values frame : ℕ → ℕ) →
      base ≤ r → Is32Bits t → wrapped t z ≡ z → operate op (low x) (low y) ≡ low z → operate op (high x) (high y) ≡ high z → IsHeld t x values r → IsHeld t y values (r + 2) →
      Stands code pc (bits_code op true r) end → Holds p types spots base env values frame → Keeps base r first values →
      Behind (int t) r end first after → Runs codes n (after z env) (here pc values frame)
  wide_bits_runs op t x y z r pc end after env first values frame le ok number low_is high_is hx hy s h k next =
      let l : ℕ = operate op (values r) (values (r + 2)) in
      let one : ℕ → ℕ = put values r l in
      let m : ℕ = operate op (one (r + 1)) (one (r + 3)) in
      let el : l ≡ low z = ap (λ u. operate op u (values (r + 2))) hx.low_half ∙ ap (operate op (low x)) hy.low_half ∙ low_is in
      let three_is : r + 3 ≡ r + 2 + 1 = omega arith in
      let e1 : one (r + 1) ≡ high x = put_other values r l (r + 1) (λ e. omega arith) ∙ high_of t x values r ok hx in
      let e3 : one (r + 3) ≡ high y = put_other values r l (r + 3) (λ e. omega arith) ∙ ap values three_is ∙ high_of t y values (r + 2) ok hy in
      let em : m ≡ high z = ap (λ u. operate op u (one (r + 3))) e1 ∙ ap (operate op (high x)) e3 ∙ high_is in
      bin_runs (after z env) op r r (r + 2) pc values frame s.0
      (bin_runs (after z env) op (r + 1) (r + 1) (r + 3) (pc + 1) one frame s.1.0
      (halves_end t z l m r (pc + 1 + 1) end after env first values frame le ok number el em s.1.1 h k next))

  -- ---- all bits turned

  pub not_runs : (wide : Bool) (t : IntType) (v : ℤ) (r l pc end : ℕ) (after : ℤ → Locals → Behaviour) (env : Locals) (first values frame : ℕ → ℕ) →
      base ≤ r → is_wide t ≡ wide → bit_xor (low v) 65535 ≡ low (wrapped t (negsuc 0 -ℤ v)) →
      (Is32Bits t → bit_xor (high v) 65535 ≡ high (wrapped t (negsuc 0 -ℤ v))) → IsHeld t v values r →
      Stands code pc (unary_code un.Not wide r l) end → Holds p types spots base env values frame → Keeps base r first values →
      Behind (int t) r end first after → Runs codes n (after (wrapped t (negsuc 0 -ℤ v)) env) (here pc values frame)
  not_runs false t v r l pc end after env first values frame le narrow low_is high_is held s h k next =
      let z : ℤ = wrapped t (negsuc 0 -ℤ v) in
      let one : ℕ → ℕ = put values (r + 2) 65535 in
      let w : ℕ = bit_xor (one r) (one (r + 2)) in
      let at_r : one r ≡ low v = put_other values (r + 2) 65535 r (λ e. omega arith) ∙ held.low_half in
      let is : w ≡ low z = ap (λ u. bit_xor u (one (r + 2))) at_r ∙ ap (bit_xor (low v)) (put_same values (r + 2) 65535) ∙ low_is in
      set_runs codes f rest labels n p types spots base (after z env) (r + 2) 65535 pc values frame s.0
      (bin_runs (after z env) Xor r r (r + 2) (pc + 1) one frame s.1.0
      (at_end codes f rest n (after z env) (pc + 1 + 1) end (put one r w) frame s.1.1
      (next z env (put one r w) frame (record {
        holds = holds_put base p types spots env one frame r w le (holds_put base p types spots env values frame (r + 2) 65535 (omega arith) h);
        keeps = keeps_put base r r w first one (omega arith) (keeps_put base r (r + 2) 65535 first values (omega arith) k);
        is = narrow_at codes f rest labels n p types spots base t z r w one narrow (wrapped_again t (negsuc 0 -ℤ v)) is;
      }))))
  not_runs true t v r l pc end after env first values frame le wide low_is high_is held s h k next =
      let ok = wide_is t wide in
      let z : ℤ = wrapped t (negsuc 0 -ℤ v) in
      let one : ℕ → ℕ = put values (r + 2) 65535 in
      let w : ℕ = bit_xor (one r) (one (r + 2)) in
      let two : ℕ → ℕ = put one r w in
      let m : ℕ = bit_xor (two (r + 1)) (two (r + 2)) in
      let at_r : one r ≡ low v = put_other values (r + 2) 65535 r (λ e. omega arith) ∙ held.low_half in
      let is : w ≡ low z = ap (λ u. bit_xor u (one (r + 2))) at_r ∙ ap (bit_xor (low v)) (put_same values (r + 2) 65535) ∙ low_is in
      let high_v : two (r + 1) ≡ high v = put_other one r w (r + 1) (λ e. omega arith) ∙ put_other values (r + 2) 65535 (r + 1) (λ e. omega arith) ∙ high_of t v values r ok held in
      let ones : two (r + 2) ≡ 65535 = put_other one r w (r + 2) (λ e. omega arith) ∙ put_same values (r + 2) 65535 in
      let em : m ≡ high z = ap (λ u. bit_xor u (two (r + 2))) high_v ∙ ap (bit_xor (high v)) ones ∙ high_is ok in
      set_runs codes f rest labels n p types spots base (after z env) (r + 2) 65535 pc values frame s.0
      (bin_runs (after z env) Xor r r (r + 2) (pc + 1) one frame s.1.0
      (bin_runs (after z env) Xor (r + 1) (r + 1) (r + 2) (pc + 1 + 1) two frame s.1.1.0
      (halves_end t z w m r (pc + 1 + 1 + 1) end after env first one frame le ok (wrapped_again t (negsuc 0 -ℤ v)) is em s.1.1.1
      (holds_put base p types spots env values frame (r + 2) 65535 (omega arith) h) (keeps_put base r (r + 2) 65535 first values (omega arith) k) next)))

  -- ---- a number of 32 bits taken from 0

  pub wide_negated_runs : (t : IntType) (v : ℤ) (r l pc end : ℕ) (after : ℤ → Locals → Behaviour) (env : Locals) (first values frame : ℕ → ℕ) →
      base ≤ r → Is32Bits t → IsHeld t v values r → Stands code pc (unary_code un.Neg true r l) end → Holds p types spots base env values frame → Keeps base r first values →
      Behind (int t) r end first after → Runs codes n (after (wrapped t (pos 0 -ℤ v)) env) (here pc values frame)
  wide_negated_runs t v r l pc end after env first values frame le ok held s h k next =
      let z : ℤ = wrapped t (pos 0 -ℤ v) in
      let one : ℕ → ℕ = put values (r + 2) 0 in
      let c : ℕ = carry Sub (one (r + 2)) (one r) in
      let two : ℕ → ℕ = put one (r + 3) c in
      let w : ℕ = operate Sub (two (r + 2)) (two r) in
      let three : ℕ → ℕ = put two r w in
      let g : ℕ = operate Sub (three (r + 2)) (three (r + 1)) in
      let four : ℕ → ℕ = put three (r + 1) g in
      let m : ℕ = operate Sub (four (r + 1)) (four (r + 3)) in
      let five : ℕ → ℕ = put four (r + 1) m in
      let at_r : one r ≡ low v = put_other values (r + 2) 0 r (λ e. omega arith) ∙ held.low_half in
      let none : one (r + 2) ≡ 0 = put_same values (r + 2) 0 in
      let c_is : c ≡ carry Sub 0 (low v) = ap (λ u. carry Sub u (one r)) none ∙ ap (carry Sub 0) at_r in
      let w_is : w ≡ low z = ap (λ u. operate Sub u (two r)) (put_other one (r + 3) c (r + 2) (λ e. omega arith) ∙ none) ∙ ap (operate Sub 0) (put_other one (r + 3) c r (λ e. omega arith) ∙ at_r) ∙ wide_low_difference t ok (pos 0) v in
      let three_none : three (r + 2) ≡ 0 = put_other two r w (r + 2) (λ e. omega arith) ∙ put_other one (r + 3) c (r + 2) (λ e. omega arith) ∙ none in
      let three_high : three (r + 1) ≡ high v =
      put_other two r w (r + 1) (λ e. omega arith) ∙ put_other one (r + 3) c (r + 1) (λ e. omega arith) ∙ put_other values (r + 2) 0 (r + 1) (λ e. omega arith) ∙ high_of t v values r ok held in
      let g_is : g ≡ operate Sub 0 (high v) = ap (λ u. operate Sub u (three (r + 1))) three_none ∙ ap (operate Sub 0) three_high in
      let four_c : four (r + 3) ≡ carry Sub 0 (low v) = put_other three (r + 1) g (r + 3) (λ e. omega arith) ∙ put_other two r w (r + 3) (λ e. omega arith) ∙ put_same one (r + 3) c ∙ c_is in
      let m_is : m ≡ high z = ap (λ u. operate Sub u (four (r + 3))) (put_same three (r + 1) g ∙ g_is) ∙ ap (operate Sub (operate Sub 0 (high v))) four_c ∙ high_difference t ok (pos 0) v in
      set_runs codes f rest labels n p types spots base (after z env) (r + 2) 0 pc values frame s.0
      (goes codes n (after z env) _ (here (pc + 1 + 1) two frame) (does codes f rest (pc + 1) one frame (Carry Sub (r + 3) (r + 2) r) s.1.0)
      (bin_runs (after z env) Sub r (r + 2) r (pc + 1 + 1) two frame s.1.1.0
      (bin_runs (after z env) Sub (r + 1) (r + 2) (r + 1) (pc + 1 + 1 + 1) three frame s.1.1.1.0
      (bin_runs (after z env) Sub (r + 1) (r + 1) (r + 3) (pc + 1 + 1 + 1 + 1) four frame s.1.1.1.1.0
      (at_end codes f rest n (after z env) (pc + 1 + 1 + 1 + 1 + 1) end five frame s.1.1.1.1.1
      (next z env five frame (record {
        holds = holds_put base p types spots env four frame (r + 1) m (omega arith) (holds_put base p types spots env three frame (r + 1) g (omega arith) (holds_put base p types spots env two frame r w le (holds_put base p types spots env one frame (r + 3) c (omega arith) (holds_put base p types spots env values frame (r + 2) 0 (omega arith) h))));
        keeps = keeps_put base r (r + 1) m first four (omega arith) (keeps_put base r (r + 1) g first three (omega arith) (keeps_put base r r w first two (omega arith) (keeps_put base r (r + 3) c first one (omega arith) (keeps_put base r (r + 2) 0 first values (omega arith) k))));
        is = wide_at t z five r ok (wrapped_again t (pos 0 -ℤ v))
            (put_other four (r + 1) m r (λ e. omega arith) ∙ put_other three (r + 1) g r (λ e. omega arith) ∙ put_same two r w ∙ w_is)
            (put_same four (r + 1) m ∙ m_is);
      })))))))

  -- ---- tests against 0

  -- of both halves in one
  merged : (t : IntType) (v : ℤ) (values : ℕ → ℕ) (r : ℕ) → Is32Bits t → IsHeld t v values r → (tested true values r r == tested true values r (r + 2)) ≡ is_zero v
  merged t v values r ok held =
      let w : ℕ = bit_or (values r) (values (r + 1)) in
      let one : ℕ → ℕ = put values r w in
      let w_is : w ≡ bit_or (low v) (high v) = ap (λ u. bit_or u (values (r + 1))) held.low_half ∙ ap (bit_or (low v)) (high_of t v values r ok held) in
      ap (λ m. m == put one (r + 2) 0 (r + 2)) (put_other one (r + 2) 0 r (λ e. omega arith) ∙ put_same values r w ∙ w_is)
      ∙ ap (λ m. bit_or (low v) (high v) == m) (put_same one (r + 2) 0) ∙ zero_halves t ok v held.number

  pub zero_test_runs : (wide b : Bool) (t : IntType) (v : ℤ) (behaviour : Behaviour) (r l pc mid to : ℕ) (values frame : ℕ → ℕ) →
      is_wide t ≡ wide → IsHeld t v values r → is_zero v ≡ b → Stands code pc (zero_code Eq wide r l) mid → slice_get code to ≡ Some (Label l) →
      (b ≡ true → Runs codes n behaviour (here to (tested wide values r) frame)) → (b ≡ false → Runs codes n behaviour (here mid (tested wide values r) frame)) →
      Runs codes n behaviour (here pc values frame)
  zero_test_runs false b t v behaviour r l pc mid to values frame narrow held is s label gone other =
      zero_runs codes f rest labels n p types spots base b t v behaviour r l pc mid to values frame narrow held is s label gone other
  zero_test_runs true b t v behaviour r l pc mid to values frame wide held is s label gone other =
      let one : ℕ → ℕ = put values r (bit_or (values r) (values (r + 1))) in
      bin_runs behaviour Or r r (r + 1) pc values frame s.0
      (set_runs codes f rest labels n p types spots base behaviour (r + 2) 0 (pc + 1) one frame s.1.0
      (zero_to codes f rest labels n p types spots base b Eq behaviour r l (pc + 1 + 1) mid to (tested true values r) frame (merged t v values r (wide_is t wide) held ∙ is) s.1.1 label gone other))

  pub non_zero_test_runs : (wide b : Bool) (t : IntType) (v : ℤ) (behaviour : Behaviour) (r l pc mid to : ℕ) (values frame : ℕ → ℕ) →
      is_wide t ≡ wide → IsHeld t v values r → not (is_zero v) ≡ b → Stands code pc (zero_code Ne wide r l) mid → slice_get code to ≡ Some (Label l) →
      (b ≡ true → Runs codes n behaviour (here to (tested wide values r) frame)) → (b ≡ false → Runs codes n behaviour (here mid (tested wide values r) frame)) →
      Runs codes n behaviour (here pc values frame)
  non_zero_test_runs false b t v behaviour r l pc mid to values frame narrow held is s label gone other =
      non_zero_runs codes f rest labels n p types spots base b t v behaviour r l pc mid to values frame narrow held is s label gone other
  non_zero_test_runs true b t v behaviour r l pc mid to values frame wide held is s label gone other =
      let one : ℕ → ℕ = put values r (bit_or (values r) (values (r + 1))) in
      bin_runs behaviour Or r r (r + 1) pc values frame s.0
      (set_runs codes f rest labels n p types spots base behaviour (r + 2) 0 (pc + 1) one frame s.1.0
      (zero_to codes f rest labels n p types spots base b Ne behaviour r l (pc + 1 + 1) mid to (tested true values r) frame (ap not (merged t v values r (wide_is t wide) held) ∙ is) s.1.1 label gone other))

  pub zero_truth_runs : (wide : Bool) (t : IntType) (v : ℤ) (r l pc end : ℕ) (after : ℤ → Locals → Behaviour) (env : Locals) (first values frame : ℕ → ℕ) →
      base ≤ r → is_wide t ≡ wide → IsHeld t v values r → Stands code pc (unary_code un.IsZero wide r l) end →
      Holds p types spots base env values frame → Keeps base r first values → Behind (int I16) r end first after →
      Runs codes n (after (truth (is_zero v)) env) (here pc values frame)
  zero_truth_runs false t v r l pc end after env first values frame le narrow held s h k next =
      is_zero_runs codes f rest labels n p types spots base t v r l pc end after env first values frame le narrow held s h k next
  zero_truth_runs true t v r l pc end after env first values frame le wide held s h k next =
      let one : ℕ → ℕ = put values r (bit_or (values r) (values (r + 1))) in
      let a = apart_tested p types spots base r le true first env values frame (h, k) in
      bin_runs (after (truth (is_zero v)) env) Or r r (r + 1) pc values frame s.0
      (set_runs codes f rest labels n p types spots base (after (truth (is_zero v)) env) (r + 2) 0 (pc + 1) one frame s.1.0
      (test_runs codes f rest labels n p types spots base (is_zero v) Eq r (r + 2) r l (pc + 1 + 1) end after env first (tested true values r) frame le
      (merged t v values r (wide_is t wide) held) s.1.1 a.0 a.1 next))

  -- ---- two numbers of 32 bits compared by their differing bits

  pub wide_equal_runs : (b : Bool) (test : Test) (t : IntType) (x y : ℤ) (r l pc end : ℕ) (after : ℤ → Locals → Behaviour) (env : Locals) (first values frame : ℕ → ℕ) →
      base ≤ r → Is32Bits t → holds test (differing x y) 0 ≡ b → IsHeld t x values r → IsHeld t y values (r + 2) → Stands code pc (equal_code test true r l) end →
      Holds p types spots base env values frame → Keeps base r first values → Behind (int I16) r end first after →
      Runs codes n (after (truth b) env) (here pc values frame)
  wide_equal_runs b test t x y r l pc end after env first values frame le ok is hx hy s h k next =
      let d : ℕ = bit_xor (values r) (values (r + 2)) in
      let one : ℕ → ℕ = put values r d in
      let m : ℕ = bit_xor (one (r + 1)) (one (r + 3)) in
      let two : ℕ → ℕ = put one (r + 1) m in
      let w : ℕ = bit_or (two r) (two (r + 1)) in
      let three : ℕ → ℕ = put two r w in
      let four : ℕ → ℕ = put three (r + 2) 0 in
      let three_is : r + 3 ≡ r + 2 + 1 = omega arith in
      let d_is : d ≡ bit_xor (low x) (low y) = ap (λ u. bit_xor u (values (r + 2))) hx.low_half ∙ ap (bit_xor (low x)) hy.low_half in
      let e1 : one (r + 1) ≡ high x = put_other values r d (r + 1) (λ e. omega arith) ∙ high_of t x values r ok hx in
      let e3 : one (r + 3) ≡ high y = put_other values r d (r + 3) (λ e. omega arith) ∙ ap values three_is ∙ high_of t y values (r + 2) ok hy in
      let m_is : m ≡ bit_xor (high x) (high y) = ap (λ u. bit_xor u (one (r + 3))) e1 ∙ ap (bit_xor (high x)) e3 in
      let w_is : w ≡ differing x y =
      ap (λ u. bit_or u (two (r + 1))) (put_other one (r + 1) m r (λ e. omega arith) ∙ put_same values r d ∙ d_is) ∙ ap (bit_or (bit_xor (low x) (low y))) (put_same one (r + 1) m ∙ m_is) in
      let met : holds test (four r) (four (r + 2)) ≡ b =
      ap (λ u. holds test u (four (r + 2))) (put_other three (r + 2) 0 r (λ e. omega arith) ∙ put_same two r w ∙ w_is) ∙ ap (holds test (differing x y)) (put_same three (r + 2) 0) ∙ is in
      bin_runs (after (truth b) env) Xor r r (r + 2) pc values frame s.0
      (bin_runs (after (truth b) env) Xor (r + 1) (r + 1) (r + 3) (pc + 1) one frame s.1.0
      (bin_runs (after (truth b) env) Or r r (r + 1) (pc + 1 + 1) two frame s.1.1.0
      (set_runs codes f rest labels n p types spots base (after (truth b) env) (r + 2) 0 (pc + 1 + 1 + 1) three frame s.1.1.1.0
      (test_runs codes f rest labels n p types spots base b test r (r + 2) r l (pc + 1 + 1 + 1 + 1) end after env first four frame le met s.1.1.1.1
      (holds_put base p types spots env three frame (r + 2) 0 (omega arith) (holds_put base p types spots env two frame r w le (holds_put base p types spots env one frame (r + 1) m (omega arith) (holds_put base p types spots env values frame r d le h))))
      (keeps_put base r (r + 2) 0 first three (omega arith) (keeps_put base r r w first two (omega arith) (keeps_put base r (r + 1) m first one (omega arith) (keeps_put base r r d first values (omega arith) k)))) next))))

  -- ---- the high half of a number that may be negative

  sign_by : (b : Bool) (t from : IntType) (v : ℤ) (r l pc end : ℕ) (after : ℤ → Locals → Behaviour) (env : Locals) (first values frame : ℕ → ℕ) →
      base ≤ r → Is32Bits t → int_lt v (pos 0) ≡ b → high v ≡ sign_half b → holds Le 0 (low v) ≡ not b → IsHeld from v values r → Stands code pc (widen_code true r l) end →
      Holds p types spots base env values frame → Keeps base r first values → Behind (int t) r end first after →
      Runs codes n (after (wrapped t v) env) (here pc values frame)
  sign_by false t from v r l pc end after env first values frame le ok is high_is test_is held s h k next =
      let one : ℕ → ℕ = put values (r + 1) 0 in
      let at_r : one r ≡ low v = put_other values (r + 1) 0 r (λ e. omega arith) ∙ held.low_half in
      let met : holds Le (one (r + 1)) (one r) ≡ true = ap (λ u. holds Le u (one r)) (put_same values (r + 1) 0) ∙ ap (holds Le 0) at_r ∙ test_is in
      set_runs codes f rest labels n p types spots base (after (wrapped t v) env) (r + 1) 0 pc values frame s.0
      (branch_runs codes f rest labels n (after (wrapped t v) env) Le (r + 1) r l (pc + 1) (pc + 1 + 1 + 1) one frame s.1.0 s.1.1.1.0 met
      (label_runs codes f rest labels n p types spots base (after (wrapped t v) env) l (pc + 1 + 1 + 1) one frame s.1.1.1.0
      (at_end codes f rest n (after (wrapped t v) env) (pc + 1 + 1 + 1 + 1) end one frame s.1.1.1.1
      (next (wrapped t v) env one frame (record {
        holds = holds_put base p types spots env values frame (r + 1) 0 (omega arith) h;
        keeps = keeps_put base r (r + 1) 0 first values (omega arith) k;
        is = wide_at t (wrapped t v) one r ok (wrapped_again t v) (at_r ∙ sym (low_wrapped_wide t ok v)) (put_same values (r + 1) 0 ∙ sym high_is ∙ ap (λ m. m / 65536) (sym (rest_wrapped t ok v)));
      })))))
  sign_by true t from v r l pc end after env first values frame le ok is high_is test_is held s h k next =
      let one : ℕ → ℕ = put values (r + 1) 0 in
      let two : ℕ → ℕ = put one (r + 1) 65535 in
      let at_r : one r ≡ low v = put_other values (r + 1) 0 r (λ e. omega arith) ∙ held.low_half in
      let unmet : holds Le (one (r + 1)) (one r) ≡ false = ap (λ u. holds Le u (one r)) (put_same values (r + 1) 0) ∙ ap (holds Le 0) at_r ∙ test_is in
      set_runs codes f rest labels n p types spots base (after (wrapped t v) env) (r + 1) 0 pc values frame s.0
      (stay_runs codes f rest labels n (after (wrapped t v) env) Le (r + 1) r l (pc + 1) one frame s.1.0 unmet
      (set_runs codes f rest labels n p types spots base (after (wrapped t v) env) (r + 1) 65535 (pc + 1 + 1) one frame s.1.1.0
      (label_runs codes f rest labels n p types spots base (after (wrapped t v) env) l (pc + 1 + 1 + 1) two frame s.1.1.1.0
      (at_end codes f rest n (after (wrapped t v) env) (pc + 1 + 1 + 1 + 1) end two frame s.1.1.1.1
      (next (wrapped t v) env two frame (record {
        holds = holds_put base p types spots env one frame (r + 1) 65535 (omega arith) (holds_put base p types spots env values frame (r + 1) 0 (omega arith) h);
        keeps = keeps_put base r (r + 1) 65535 first one (omega arith) (keeps_put base r (r + 1) 0 first values (omega arith) k);
        is = wide_at t (wrapped t v) two r ok (wrapped_again t v) (put_other one (r + 1) 65535 r (λ e. omega arith) ∙ at_r ∙ sym (low_wrapped_wide t ok v))
            (put_same one (r + 1) 65535 ∙ sym high_is ∙ ap (λ m. m / 65536) (sym (rest_wrapped t ok v)));
      }))))))

  pub sign_runs : (t from : IntType) (v : ℤ) (r l pc end : ℕ) (after : ℤ → Locals → Behaviour) (env : Locals) (first values frame : ℕ → ℕ) →
      base ≤ r → Is32Bits t → IsShortSigned from → IsHeld from v values r → Stands code pc (widen_code true r l) end →
      Holds p types spots base env values frame → Keeps base r first values → Behind (int t) r end first after →
      Runs codes n (after (wrapped t v) env) (here pc values frame)
  sign_runs t from v r l pc end after env first values frame le ok short held s h k next =
      sign_by (int_lt v (pos 0)) t from v r l pc end after env first values frame le ok refl (high_of_sign from short v held.number)
      (ap (λ u. not (int_lt u (pos 0))) (signed_word from short v held.number)) held s h k next
