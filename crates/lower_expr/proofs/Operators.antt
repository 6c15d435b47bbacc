-- The code of operators and conversions does what they do.
use Rattle.std.proofs.Common.{◌≡◌, ℕ, ◌+◌, ◌/◌, ◌≤◌, Bool, true, false, List, [], ◌∷◌, ◌++◌, refl, sym, ap, ◌∙◌, subst, arith}
use Rattle.std.specs.Prelude.{ℤ, pos, bit_and, bit_or, bit_xor, not, nat_lt, nat_le, int_lt, ◌==◌, ◌+ℤ◌, ◌-ℤ◌}
use Rattle.std.specs.Ordering.{int_eq}
use Rattle.nm_base.specs.declared.int_type.IntType.{IntType}
use Rattle.nm_base.specs.declared.int_type.IntType.TheVariants.{I8, U8, I16, U16, I32, U32}
use Rattle.nm_base.specs.IntType.{wrapped}
use Rattle.nm_base.specs.Behaviour.{Behaviour}
use Rattle.nesc_core.specs.declared.tree.BinOp.{BinOp}
use Rattle.nesc_core.specs.declared.tree.BinOp.TheVariants as bin
use Rattle.nesc_core.specs.declared.tree.UnOp.TheVariants as un
use Rattle.nesc_core.specs.Plain.{Ty, int, Program}
use Rattle.nesc_core.specs.Typing.{IsPromoted, binary_type}
use Rattle.core_meaning.specs.Numbers.{residue, binary, unary}
use Rattle.core_meaning.specs.Work.{Locals, or_fault}
use Rattle.mid_code.specs.declared.instr.Op.TheVariants.{Add, Sub, And, Or, Xor}
use Rattle.mid_code.specs.declared.instr.Mid.{Mid}
use Rattle.mid_code.specs.declared.instr.Mid.TheVariants.{Set, Bin}
use Rattle.mid_code.specs.declared.instr.Test.TheVariants as test
use Rattle.mid_code.specs.declared.code.MidCode.{MidCode}
use Rattle.mid_code.specs.Words.{operate}
use Rattle.mid_code.specs.Machine.{Activation, fn_of, put}
use Rattle.mid_code.specs.Runs.{IsLabelled, Runs, Stands}
use Rattle.mid_code.specs.Help.{is_wide}
use Rattle.mid_code.proofs.Runs.{goes}
use Rattle.mid_code.proofs.Stands.{does, at_end}
use Rattle.mid_code.proofs.Written.{put_same, put_other}
use Rattle.lower_expr.specs.declared.spot.Spot.{Spot}
use Rattle.lower_expr.specs.Held.{held, is_signed, IsHeld, IsHighHeld, low, high}
use Rattle.lower_expr.specs.Runs.{Keeps}
use Rattle.lower_expr.specs.Locals.{Holds}
use Rattle.lower_expr.specs.Pieces.{binary_code, convert_code, fit_code, high_code, unary_code}
use Rattle.lower_expr.proofs.Values.{keeps_put, holds_put}
use Rattle.lower_expr.proofs.Numbers.{Is32Bits, IsShortUnsigned, negated, low_wrapped_wide, no_high_of, rest_wrapped, high_sum, wide_low_sum, high_difference, wide_low_difference, and_word, or_word, xor_word, low_of_word, byte_low, equal_low, less_low, le_is, number_of_low, low_sum, low_difference, low_wrapped, wrapped_again}
use Rattle.lower_expr.proofs.Halves.{and_halves, equal_halves, not_low, or_halves, wide_not_high, wide_not_low, xor_halves}
use Rattle.lower_expr.proofs.Helped.{left_runs, product_runs, quotient_runs, rest_runs, right_runs}
use Rattle.lower_expr.proofs.Order.{wide_at_most, wide_less, wide_order_runs, wide_signed_at_most, wide_signed_less}
use Rattle.lower_expr.proofs.SignedBytes.{signed_byte_runs}
use Rattle.lower_expr.proofs.Wide.{high_of, not_runs, sign_runs, wide_at, wide_bits_runs, wide_equal_runs, wide_negated_runs}
use Rattle.lower_expr.proofs.Pieces.{Next, at_here, byte_runs, test_runs, narrow_at, narrow_runs, wide_sum_runs, set_runs}

module _ (codes : MidCode) (f : ℕ) (rest : List Activation) (labelled : IsLabelled (fn_of codes f).code) (n : ℕ)
    (p : Program) (types : List Ty) (spots : List Spot) (base : ℕ) where
  abbrev code : List Mid
  code = (fn_of codes f).code

  abbrev here : ℕ → (ℕ → ℕ) → (ℕ → ℕ) → List Activation
  here pc values frame = at_here codes f rest labelled n p types spots base pc values frame

  abbrev Behind : Ty → (r end : ℕ) → (ℕ → ℕ) → (ℤ → Locals → Behaviour) → Type 0
  Behind ty r end old after = Next codes f rest labelled n p types spots base ty r end old after

  -- the count of a shift has a type of its own
  abbrev pub SecondHeld : BinOp → IntType → (second : IntType) → ℤ → (ℕ → ℕ) → ℕ → Type 0
  SecondHeld bin.Shl t second y values at = IsPromoted second × IsHeld second y values at
  SecondHeld bin.Shr t second y values at = IsPromoted second × IsHeld second y values at
  SecondHeld _ t second y values at = IsHeld t y values at

  pub binary_runs : (op : BinOp) (t : IntType) (second : IntType) (x y : ℤ) (r l pc end : ℕ) (after : ℤ → Locals → Behaviour) (env : Locals) (first values frame : ℕ → ℕ) →
      IsPromoted t → base ≤ r → IsHeld t x values r → SecondHeld op t second y values (r + 2) → Stands code pc (binary_code op t second r l) end →
      Holds p types spots base env values frame → Keeps base r first values → Behind (int (binary_type op t)) r end first after →
      Runs codes n (or_fault 3 (binary op t x y) after env) (here pc values frame)
  binary_runs op I8 second x y r l pc end after env first values frame ok le hx hy s h k next = absurd ok
  binary_runs op U8 second x y r l pc end after env first values frame ok le hx hy s h k next = absurd ok
  binary_runs bin.Add I16 second x y r l pc end after env first values frame ok le hx hy s h k next =
      narrow_runs codes f rest labelled n p types spots base Add I16 x y (wrapped I16 (x +ℤ y)) r pc end after env first values frame le refl (wrapped_again I16 (x +ℤ y))
      (sym (low_sum x y) ∙ sym (low_wrapped I16 tt (x +ℤ y))) hx hy s h k next
  binary_runs bin.Add U16 second x y r l pc end after env first values frame ok le hx hy s h k next =
      narrow_runs codes f rest labelled n p types spots base Add U16 x y (wrapped U16 (x +ℤ y)) r pc end after env first values frame le refl (wrapped_again U16 (x +ℤ y))
      (sym (low_sum x y) ∙ sym (low_wrapped U16 tt (x +ℤ y))) hx hy s h k next
  binary_runs bin.Add I32 second x y r l pc end after env first values frame ok le hx hy s h k next =
      wide_sum_runs codes f rest labelled n p types spots base Add I32 x y (wrapped I32 (x +ℤ y)) r pc end after env first values frame le refl (wrapped_again I32 (x +ℤ y)) (wide_low_sum I32 tt x y) (high_sum I32 tt x y) hx hy s h k next
  binary_runs bin.Add U32 second x y r l pc end after env first values frame ok le hx hy s h k next =
      wide_sum_runs codes f rest labelled n p types spots base Add U32 x y (wrapped U32 (x +ℤ y)) r pc end after env first values frame le refl (wrapped_again U32 (x +ℤ y)) (wide_low_sum U32 tt x y) (high_sum U32 tt x y) hx hy s h k next
  binary_runs bin.Sub I16 second x y r l pc end after env first values frame ok le hx hy s h k next =
      narrow_runs codes f rest labelled n p types spots base Sub I16 x y (wrapped I16 (x -ℤ y)) r pc end after env first values frame le refl (wrapped_again I16 (x -ℤ y))
      (sym (low_difference x y) ∙ sym (low_wrapped I16 tt (x -ℤ y))) hx hy s h k next
  binary_runs bin.Sub U16 second x y r l pc end after env first values frame ok le hx hy s h k next =
      narrow_runs codes f rest labelled n p types spots base Sub U16 x y (wrapped U16 (x -ℤ y)) r pc end after env first values frame le refl (wrapped_again U16 (x -ℤ y))
      (sym (low_difference x y) ∙ sym (low_wrapped U16 tt (x -ℤ y))) hx hy s h k next
  binary_runs bin.Sub I32 second x y r l pc end after env first values frame ok le hx hy s h k next =
      wide_sum_runs codes f rest labelled n p types spots base Sub I32 x y (wrapped I32 (x -ℤ y)) r pc end after env first values frame le refl (wrapped_again I32 (x -ℤ y)) (wide_low_difference I32 tt x y) (high_difference I32 tt x y) hx hy s h k next
  binary_runs bin.Sub U32 second x y r l pc end after env first values frame ok le hx hy s h k next =
      wide_sum_runs codes f rest labelled n p types spots base Sub U32 x y (wrapped U32 (x -ℤ y)) r pc end after env first values frame le refl (wrapped_again U32 (x -ℤ y)) (wide_low_difference U32 tt x y) (high_difference U32 tt x y) hx hy s h k next
  binary_runs bin.Eq I16 second x y r l pc end after env first values frame ok le hx hy s h k next =
      test_runs codes f rest labelled n p types spots base (int_eq x y) test.Eq r (r + 2) r l pc end after env first values frame le
      (ap (λ m. m == values (r + 2)) hx.low_half ∙ ap (λ m. low x == m) hy.low_half ∙ equal_low I16 tt x y hx.number hy.number) s h k next
  binary_runs bin.Ne I16 second x y r l pc end after env first values frame ok le hx hy s h k next =
      test_runs codes f rest labelled n p types spots base (not (int_eq x y)) test.Ne r (r + 2) r l pc end after env first values frame le
      (ap not (ap (λ m. m == values (r + 2)) hx.low_half ∙ ap (λ m. low x == m) hy.low_half ∙ equal_low I16 tt x y hx.number hy.number)) s h k next
  binary_runs bin.Eq U16 second x y r l pc end after env first values frame ok le hx hy s h k next =
      test_runs codes f rest labelled n p types spots base (int_eq x y) test.Eq r (r + 2) r l pc end after env first values frame le
      (ap (λ m. m == values (r + 2)) hx.low_half ∙ ap (λ m. low x == m) hy.low_half ∙ equal_low U16 tt x y hx.number hy.number) s h k next
  binary_runs bin.Ne U16 second x y r l pc end after env first values frame ok le hx hy s h k next =
      test_runs codes f rest labelled n p types spots base (not (int_eq x y)) test.Ne r (r + 2) r l pc end after env first values frame le
      (ap not (ap (λ m. m == values (r + 2)) hx.low_half ∙ ap (λ m. low x == m) hy.low_half ∙ equal_low U16 tt x y hx.number hy.number)) s h k next
  binary_runs bin.Lt U16 second x y r l pc end after env first values frame ok le hx hy s h k next =
      test_runs codes f rest labelled n p types spots base (int_lt x y) test.LtU r (r + 2) r l pc end after env first values frame le
      (ap (λ m. nat_lt m (values (r + 2))) hx.low_half ∙ ap (nat_lt (low x)) hy.low_half ∙ less_low x y hx.number hy.number) s h k next
  binary_runs bin.Le U16 second x y r l pc end after env first values frame ok le hx hy s h k next =
      test_runs codes f rest labelled n p types spots base (not (int_lt y x)) test.LeU r (r + 2) r l pc end after env first values frame le
      (ap (λ m. nat_le m (values (r + 2))) hx.low_half ∙ ap (nat_le (low x)) hy.low_half ∙ le_is (low x) (low y) ∙ ap not (less_low y x hy.number hx.number)) s h k next
  binary_runs bin.Lt I16 second x y r l pc end after env first values frame ok le hx hy s h k next =
      test_runs codes f rest labelled n p types spots base (int_lt x y) test.Lt r (r + 2) r l pc end after env first values frame le
      (ap (λ m. int_lt m (wrapped I16 (pos (values (r + 2))))) (ap (λ m. wrapped I16 (pos m)) hx.low_half ∙ number_of_low I16 tt x hx.number) ∙ ap (int_lt x) (ap (λ m. wrapped I16 (pos m)) hy.low_half ∙ number_of_low I16 tt y hy.number)) s h k next
  binary_runs bin.Le I16 second x y r l pc end after env first values frame ok le hx hy s h k next =
      test_runs codes f rest labelled n p types spots base (not (int_lt y x)) test.Le r (r + 2) r l pc end after env first values frame le
      (ap not (ap (λ m. int_lt m (wrapped I16 (pos (values r)))) (ap (λ m. wrapped I16 (pos m)) hy.low_half ∙ number_of_low I16 tt y hy.number) ∙ ap (int_lt y) (ap (λ m. wrapped I16 (pos m)) hx.low_half ∙ number_of_low I16 tt x hx.number))) s h k next
  binary_runs bin.Eq I32 second x y r l pc end after env first values frame ok le hx hy s h k next =
      wide_equal_runs codes f rest labelled n p types spots base (int_eq x y) test.Eq I32 x y r l pc end after env first values frame le tt (equal_halves I32 tt x y hx.number hy.number) hx hy s h k next
  binary_runs bin.Eq U32 second x y r l pc end after env first values frame ok le hx hy s h k next =
      wide_equal_runs codes f rest labelled n p types spots base (int_eq x y) test.Eq U32 x y r l pc end after env first values frame le tt (equal_halves U32 tt x y hx.number hy.number) hx hy s h k next
  binary_runs bin.Ne I32 second x y r l pc end after env first values frame ok le hx hy s h k next =
      wide_equal_runs codes f rest labelled n p types spots base (not (int_eq x y)) test.Ne I32 x y r l pc end after env first values frame le tt (ap not (equal_halves I32 tt x y hx.number hy.number)) hx hy s h k next
  binary_runs bin.Ne U32 second x y r l pc end after env first values frame ok le hx hy s h k next =
      wide_equal_runs codes f rest labelled n p types spots base (not (int_eq x y)) test.Ne U32 x y r l pc end after env first values frame le tt (ap not (equal_halves U32 tt x y hx.number hy.number)) hx hy s h k next
  binary_runs bin.Lt I32 second x y r l pc end after env first values frame ok le hx hy s h k next =
      wide_order_runs codes f rest labelled n p types spots base (int_lt x y) test.Lt test.LtU I32 x y r l pc end after env first values frame le tt (wide_signed_less x y hx.number hy.number) hx hy s h k next
  binary_runs bin.Lt U32 second x y r l pc end after env first values frame ok le hx hy s h k next =
      wide_order_runs codes f rest labelled n p types spots base (int_lt x y) test.LtU test.LtU U32 x y r l pc end after env first values frame le tt (wide_less x y hx.number hy.number) hx hy s h k next
  binary_runs bin.Le I32 second x y r l pc end after env first values frame ok le hx hy s h k next =
      wide_order_runs codes f rest labelled n p types spots base (not (int_lt y x)) test.Lt test.LeU I32 x y r l pc end after env first values frame le tt (wide_signed_at_most x y hx.number hy.number) hx hy s h k next
  binary_runs bin.Le U32 second x y r l pc end after env first values frame ok le hx hy s h k next =
      wide_order_runs codes f rest labelled n p types spots base (not (int_lt y x)) test.LtU test.LeU U32 x y r l pc end after env first values frame le tt (wide_at_most x y hx.number hy.number) hx hy s h k next
  binary_runs bin.Mul t second x y r l pc end after env first values frame ok le hx hy s h k next =
      product_runs codes f rest labelled n p types spots base t x y r pc end after env first values frame le ok hx hy s h k next
  binary_runs bin.Div t second x y r l pc end after env first values frame ok le hx hy s h k next =
      quotient_runs codes f rest labelled n p types spots base t x y r l pc end after env first values frame le ok hx hy s h k next
  binary_runs bin.Rem t second x y r l pc end after env first values frame ok le hx hy s h k next =
      rest_runs codes f rest labelled n p types spots base t x y r l pc end after env first values frame le ok hx hy s h k next
  binary_runs bin.Shl t second x y r l pc end after env first values frame ok le hx hy s h k next =
      left_runs codes f rest labelled n p types spots base t second x y r l pc end after env first values frame le ok hy.0 hx hy.1 s h k next
  binary_runs bin.Shr t second x y r l pc end after env first values frame ok le hx hy s h k next =
      right_runs codes f rest labelled n p types spots base t second x y r l pc end after env first values frame le ok hy.0 hx hy.1 s h k next
  binary_runs bin.And I16 second x y r l pc end after env first values frame ok le hx hy s h k next =
      narrow_runs codes f rest labelled n p types spots base And I16 x y (wrapped I16 (pos (bit_and (low x) (low y)))) r pc end after env first values frame le refl (wrapped_again I16 (pos (bit_and (low x) (low y))))
      (low_of_word I16 tt (bit_and (low x) (low y)) (and_word x y)) hx hy s h k next
  binary_runs bin.And U16 second x y r l pc end after env first values frame ok le hx hy s h k next =
      narrow_runs codes f rest labelled n p types spots base And U16 x y (wrapped U16 (pos (bit_and (low x) (low y)))) r pc end after env first values frame le refl (wrapped_again U16 (pos (bit_and (low x) (low y))))
      (low_of_word U16 tt (bit_and (low x) (low y)) (and_word x y)) hx hy s h k next
  binary_runs bin.And I32 second x y r l pc end after env first values frame ok le hx hy s h k next =
      let is = and_halves I32 tt x y in
      wide_bits_runs codes f rest labelled n p types spots base And I32 x y (wrapped I32 (pos (bit_and (residue 32 x) (residue 32 y)))) r pc end after env first values frame le tt (wrapped_again I32 (pos (bit_and (residue 32 x) (residue 32 y)))) is.0 is.1 hx hy s h k next
  binary_runs bin.And U32 second x y r l pc end after env first values frame ok le hx hy s h k next =
      let is = and_halves U32 tt x y in
      wide_bits_runs codes f rest labelled n p types spots base And U32 x y (wrapped U32 (pos (bit_and (residue 32 x) (residue 32 y)))) r pc end after env first values frame le tt (wrapped_again U32 (pos (bit_and (residue 32 x) (residue 32 y)))) is.0 is.1 hx hy s h k next
  binary_runs bin.Or I16 second x y r l pc end after env first values frame ok le hx hy s h k next =
      narrow_runs codes f rest labelled n p types spots base Or I16 x y (wrapped I16 (pos (bit_or (low x) (low y)))) r pc end after env first values frame le refl (wrapped_again I16 (pos (bit_or (low x) (low y))))
      (low_of_word I16 tt (bit_or (low x) (low y)) (or_word x y)) hx hy s h k next
  binary_runs bin.Or U16 second x y r l pc end after env first values frame ok le hx hy s h k next =
      narrow_runs codes f rest labelled n p types spots base Or U16 x y (wrapped U16 (pos (bit_or (low x) (low y)))) r pc end after env first values frame le refl (wrapped_again U16 (pos (bit_or (low x) (low y))))
      (low_of_word U16 tt (bit_or (low x) (low y)) (or_word x y)) hx hy s h k next
  binary_runs bin.Or I32 second x y r l pc end after env first values frame ok le hx hy s h k next =
      let is = or_halves I32 tt x y in
      wide_bits_runs codes f rest labelled n p types spots base Or I32 x y (wrapped I32 (pos (bit_or (residue 32 x) (residue 32 y)))) r pc end after env first values frame le tt (wrapped_again I32 (pos (bit_or (residue 32 x) (residue 32 y)))) is.0 is.1 hx hy s h k next
  binary_runs bin.Or U32 second x y r l pc end after env first values frame ok le hx hy s h k next =
      let is = or_halves U32 tt x y in
      wide_bits_runs codes f rest labelled n p types spots base Or U32 x y (wrapped U32 (pos (bit_or (residue 32 x) (residue 32 y)))) r pc end after env first values frame le tt (wrapped_again U32 (pos (bit_or (residue 32 x) (residue 32 y)))) is.0 is.1 hx hy s h k next
  binary_runs bin.Xor I16 second x y r l pc end after env first values frame ok le hx hy s h k next =
      narrow_runs codes f rest labelled n p types spots base Xor I16 x y (wrapped I16 (pos (bit_xor (low x) (low y)))) r pc end after env first values frame le refl (wrapped_again I16 (pos (bit_xor (low x) (low y))))
      (low_of_word I16 tt (bit_xor (low x) (low y)) (xor_word x y)) hx hy s h k next
  binary_runs bin.Xor U16 second x y r l pc end after env first values frame ok le hx hy s h k next =
      narrow_runs codes f rest labelled n p types spots base Xor U16 x y (wrapped U16 (pos (bit_xor (low x) (low y)))) r pc end after env first values frame le refl (wrapped_again U16 (pos (bit_xor (low x) (low y))))
      (low_of_word U16 tt (bit_xor (low x) (low y)) (xor_word x y)) hx hy s h k next
  binary_runs bin.Xor I32 second x y r l pc end after env first values frame ok le hx hy s h k next =
      let is = xor_halves I32 tt x y in
      wide_bits_runs codes f rest labelled n p types spots base Xor I32 x y (wrapped I32 (pos (bit_xor (residue 32 x) (residue 32 y)))) r pc end after env first values frame le tt (wrapped_again I32 (pos (bit_xor (residue 32 x) (residue 32 y)))) is.0 is.1 hx hy s h k next
  binary_runs bin.Xor U32 second x y r l pc end after env first values frame ok le hx hy s h k next =
      let is = xor_halves U32 tt x y in
      wide_bits_runs codes f rest labelled n p types spots base Xor U32 x y (wrapped U32 (pos (bit_xor (residue 32 x) (residue 32 y)))) r pc end after env first values frame le tt (wrapped_again U32 (pos (bit_xor (residue 32 x) (residue 32 y)))) is.0 is.1 hx hy s h k next

  pub negated_runs : (t : IntType) (v : ℤ) (r l pc end : ℕ) (after : ℤ → Locals → Behaviour) (env : Locals) (first values frame : ℕ → ℕ) →
      IsPromoted t → base ≤ r → IsHeld t v values r → Stands code pc (unary_code un.Neg (is_wide t) r l) end →
      Holds p types spots base env values frame → Keeps base r first values → Behind (int t) r end first after →
      Runs codes n (after (unary un.Neg t v) env) (here pc values frame)
  negated_runs I16 v r l pc end after env first values frame ok le held s h k next =
      let z : ℤ = wrapped I16 (pos 0 -ℤ v) in
      let one : ℕ → ℕ = put values (r + 2) 0 in
      let w : ℕ = operate Sub (one (r + 2)) (one r) in
      let is : w ≡ low z = ap (λ u. operate Sub u (one r)) (put_same values (r + 2) 0) ∙ ap (operate Sub 0) (put_other values (r + 2) 0 r (λ e. omega arith) ∙ held.low_half) ∙ negated I16 tt v in
      set_runs codes f rest labelled n p types spots base (after z env) (r + 2) 0 pc values frame s.0
      (goes codes n (after z env) _ (here (pc + 1 + 1) (put one r w) frame) (does codes f rest (pc + 1) one frame (Bin Sub r (r + 2) r) s.1.0)
      (at_end codes f rest n (after z env) (pc + 1 + 1) end (put one r w) frame s.1.1
      (next z env (put one r w) frame (record {
        holds = holds_put base p types spots env one frame r w le (holds_put base p types spots env values frame (r + 2) 0 (omega arith) h);
        keeps = keeps_put base r r w first one (omega arith) (keeps_put base r (r + 2) 0 first values (omega arith) k);
        is = narrow_at codes f rest labelled n p types spots base I16 z r w one refl (wrapped_again I16 (pos 0 -ℤ v)) is;
      }))))
  negated_runs U16 v r l pc end after env first values frame ok le held s h k next =
      let z : ℤ = wrapped U16 (pos 0 -ℤ v) in
      let one : ℕ → ℕ = put values (r + 2) 0 in
      let w : ℕ = operate Sub (one (r + 2)) (one r) in
      let is : w ≡ low z = ap (λ u. operate Sub u (one r)) (put_same values (r + 2) 0) ∙ ap (operate Sub 0) (put_other values (r + 2) 0 r (λ e. omega arith) ∙ held.low_half) ∙ negated U16 tt v in
      set_runs codes f rest labelled n p types spots base (after z env) (r + 2) 0 pc values frame s.0
      (goes codes n (after z env) _ (here (pc + 1 + 1) (put one r w) frame) (does codes f rest (pc + 1) one frame (Bin Sub r (r + 2) r) s.1.0)
      (at_end codes f rest n (after z env) (pc + 1 + 1) end (put one r w) frame s.1.1
      (next z env (put one r w) frame (record {
        holds = holds_put base p types spots env one frame r w le (holds_put base p types spots env values frame (r + 2) 0 (omega arith) h);
        keeps = keeps_put base r r w first one (omega arith) (keeps_put base r (r + 2) 0 first values (omega arith) k);
        is = narrow_at codes f rest labelled n p types spots base U16 z r w one refl (wrapped_again U16 (pos 0 -ℤ v)) is;
      }))))
  negated_runs I8 v r l pc end after env first values frame ok le held s h k next = absurd ok
  negated_runs U8 v r l pc end after env first values frame ok le held s h k next = absurd ok
  negated_runs I32 v r l pc end after env first values frame ok le held s h k next =
      wide_negated_runs codes f rest labelled n p types spots base I32 v r l pc end after env first values frame le tt held s h k next
  negated_runs U32 v r l pc end after env first values frame ok le held s h k next =
      wide_negated_runs codes f rest labelled n p types spots base U32 v r l pc end after env first values frame le tt held s h k next

  pub turned_runs : (t : IntType) (v : ℤ) (r l pc end : ℕ) (after : ℤ → Locals → Behaviour) (env : Locals) (first values frame : ℕ → ℕ) →
      IsPromoted t → base ≤ r → IsHeld t v values r → Stands code pc (unary_code un.Not (is_wide t) r l) end →
      Holds p types spots base env values frame → Keeps base r first values → Behind (int t) r end first after →
      Runs codes n (after (unary un.Not t v) env) (here pc values frame)
  turned_runs I16 v r l pc end after env first values frame ok le held s h k next =
      not_runs codes f rest labelled n p types spots base false I16 v r l pc end after env first values frame le refl (not_low I16 tt v) (λ wide. absurd wide) held s h k next
  turned_runs U16 v r l pc end after env first values frame ok le held s h k next =
      not_runs codes f rest labelled n p types spots base false U16 v r l pc end after env first values frame le refl (not_low U16 tt v) (λ wide. absurd wide) held s h k next
  turned_runs I32 v r l pc end after env first values frame ok le held s h k next =
      not_runs codes f rest labelled n p types spots base true I32 v r l pc end after env first values frame le refl (wide_not_low I32 tt v) (λ wide. wide_not_high I32 tt v) held s h k next
  turned_runs U32 v r l pc end after env first values frame ok le held s h k next =
      not_runs codes f rest labelled n p types spots base true U32 v r l pc end after env first values frame le refl (wide_not_low U32 tt v) (λ wide. wide_not_high U32 tt v) held s h k next
  turned_runs I8 v r l pc end after env first values frame ok le held s h k next = absurd ok
  turned_runs U8 v r l pc end after env first values frame ok le held s h k next = absurd ok

  widened_runs : (t from : IntType) (v : ℤ) (r pc end : ℕ) (after : ℤ → Locals → Behaviour) (env : Locals) (first values frame : ℕ → ℕ) →
      is_wide t ≡ true → Is32Bits t → IsShortUnsigned from → base ≤ r → IsHeld from v values r → Stands code pc (Set (r + 1) 0 ∷ []) end →
      Holds p types spots base env values frame → Keeps base r first values → Behind (int t) r end first after →
      Runs codes n (after (wrapped t v) env) (here pc values frame)
  widened_runs t from v r pc end after env first values frame wide ok short le held s h k next =
      let one : ℕ → ℕ = put values (r + 1) 0 in
      let none : high (wrapped t v) ≡ 0 = ap (λ m. m / 65536) (rest_wrapped t ok v) ∙ no_high_of from short v held.number in
      set_runs codes f rest labelled n p types spots base (after (wrapped t v) env) (r + 1) 0 pc values frame s.0
      (at_end codes f rest n (after (wrapped t v) env) (pc + 1) end one frame s.1
      (next (wrapped t v) env one frame (record {
        holds = holds_put base p types spots env values frame (r + 1) 0 (omega arith) h;
        keeps = keeps_put base r (r + 1) 0 first values (omega arith) k;
        is = record {
          number = wrapped_again t v;
          low_half = put_other values (r + 1) 0 r (λ e. omega arith) ∙ held.low_half ∙ sym (low_wrapped_wide t ok v);
          high_half = subst (λ b. IsHighHeld b (wrapped t v) one (r + 1)) (sym wide) (put_same values (r + 1) 0 ∙ sym none);
        };
      })))

  no_high_code : (wide signed : Bool) (r l : ℕ) → high_code wide false signed r l ≡ []
  no_high_code true signed r l = refl
  no_high_code false signed r l = refl

  -- the high half of a number of 32 bits stays
  kept_runs : (t from : IntType) (v : ℤ) (r pc end : ℕ) (after : ℤ → Locals → Behaviour) (env : Locals) (first values frame : ℕ → ℕ) →
      Is32Bits t → Is32Bits from → IsHeld from v values r → pc ≡ end →
      Holds p types spots base env values frame → Keeps base r first values → Behind (int t) r end first after →
      Runs codes n (after (wrapped t v) env) (here pc values frame)
  kept_runs t from v r pc end after env first values frame ok from_ok held e h k next =
      at_end codes f rest n (after (wrapped t v) env) pc end values frame e
      (next (wrapped t v) env values frame (record {
        holds = h;
        keeps = k;
        is = wide_at t (wrapped t v) values r ok (wrapped_again t v) (held.low_half ∙ sym (low_wrapped_wide t ok v)) (high_of from v values r from_ok held ∙ ap (λ m. m / 65536) (sym (rest_wrapped t ok v)));
      }))

  pub converted_runs : (t from : IntType) (v : ℤ) (r l pc end : ℕ) (after : ℤ → Locals → Behaviour) (env : Locals) (first values frame : ℕ → ℕ) →
      base ≤ r → IsHeld from v values r → Stands code pc (convert_code from t r l) end →
      Holds p types spots base env values frame → Keeps base r first values → Behind (int t) r end first after →
      Runs codes n (after (wrapped t v) env) (here pc values frame)
  converted_runs I16 from v r l pc end after env first values frame le held s h k next =
      at_end codes f rest n (after (wrapped I16 v) env) pc end values frame (subst (λ c. Stands code pc c end) (no_high_code (is_wide from) (is_signed from) r l) s)
      (next (wrapped I16 v) env values frame (record { holds = h; keeps = k; is = record { number = wrapped_again I16 v; low_half = held.low_half ∙ sym (low_wrapped I16 tt v); high_half = tt } }))
  converted_runs U16 from v r l pc end after env first values frame le held s h k next =
      at_end codes f rest n (after (wrapped U16 v) env) pc end values frame (subst (λ c. Stands code pc c end) (no_high_code (is_wide from) (is_signed from) r l) s)
      (next (wrapped U16 v) env values frame (record { holds = h; keeps = k; is = record { number = wrapped_again U16 v; low_half = held.low_half ∙ sym (low_wrapped U16 tt v); high_half = tt } }))
  converted_runs U8 from v r l pc end after env first values frame le held s h k next =
      byte_runs codes f rest labelled n p types spots base v (low v) r pc end after env first values frame le held.low_half (byte_low v)
      (subst (λ c. Stands code pc (fit_code U8 r ++ c) end) (no_high_code (is_wide from) (is_signed from) r l) s) h k next
  converted_runs I8 from v r l pc end after env first values frame le held s h k next =
      signed_byte_runs codes f rest labelled n p types spots base v r pc end after env first values frame le held.low_half
      (subst (λ c. Stands code pc (fit_code I8 r ++ c) end) (no_high_code (is_wide from) (is_signed from) r l) s) h k next
  converted_runs I32 U8 v r l pc end after env first values frame le held s h k next = widened_runs I32 U8 v r pc end after env first values frame refl tt tt le held s h k next
  converted_runs I32 U16 v r l pc end after env first values frame le held s h k next = widened_runs I32 U16 v r pc end after env first values frame refl tt tt le held s h k next
  converted_runs I32 I8 v r l pc end after env first values frame le held s h k next = sign_runs codes f rest labelled n p types spots base I32 I8 v r l pc end after env first values frame le tt tt held s h k next
  converted_runs I32 I16 v r l pc end after env first values frame le held s h k next = sign_runs codes f rest labelled n p types spots base I32 I16 v r l pc end after env first values frame le tt tt held s h k next
  converted_runs I32 I32 v r l pc end after env first values frame le held s h k next = kept_runs I32 I32 v r pc end after env first values frame tt tt held s h k next
  converted_runs I32 U32 v r l pc end after env first values frame le held s h k next = kept_runs I32 U32 v r pc end after env first values frame tt tt held s h k next
  converted_runs U32 U8 v r l pc end after env first values frame le held s h k next = widened_runs U32 U8 v r pc end after env first values frame refl tt tt le held s h k next
  converted_runs U32 U16 v r l pc end after env first values frame le held s h k next = widened_runs U32 U16 v r pc end after env first values frame refl tt tt le held s h k next
  converted_runs U32 I8 v r l pc end after env first values frame le held s h k next = sign_runs codes f rest labelled n p types spots base U32 I8 v r l pc end after env first values frame le tt tt held s h k next
  converted_runs U32 I16 v r l pc end after env first values frame le held s h k next = sign_runs codes f rest labelled n p types spots base U32 I16 v r l pc end after env first values frame le tt tt held s h k next
  converted_runs U32 I32 v r l pc end after env first values frame le held s h k next = kept_runs U32 I32 v r pc end after env first values frame tt tt held s h k next
  converted_runs U32 U32 v r l pc end after env first values frame le held s h k next = kept_runs U32 U32 v r pc end after env first values frame tt tt held s h k next
