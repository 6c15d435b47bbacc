-- The code of operations that a helper does, does what the operations do.
use Rattle.std.proofs.Common.{◌≡◌, ℕ, ◌+◌, ◌≤◌, Bool, true, false, List, [], ◌∷◌, ◌++◌, Some, None, map, refl, sym, ap, ◌∙◌, subst, arith}
use Rattle.std.specs.Prelude.{ℤ, not, bit_or, ◌==◌, int_div, int_rem, ◌*ℤ◌, if◌then◌else◌}
use Rattle.nm_base.specs.declared.int_type.IntType.{IntType}
use Rattle.nm_base.specs.IntType.{width, wrapped}
use Rattle.nm_base.specs.Behaviour.{Behaviour, Faults}
use Rattle.nesc_core.specs.Plain.{Ty, int, Program}
use Rattle.nesc_core.specs.Typing.{IsPromoted}
use Rattle.core_meaning.specs.Numbers.{residue, is_zero, shift_left, shift_right, unless_zero}
use Rattle.core_meaning.specs.Work.{Locals, or_fault}
use Rattle.mid_code.specs.declared.help.HelpOp.{HelpOp}
use Rattle.mid_code.specs.declared.help.HelpOp.TheVariants.{Mul, Div, Rem, Shl, Shr}
use Rattle.mid_code.specs.declared.instr.Op.TheVariants.{Or}
use Rattle.mid_code.specs.declared.instr.Test.TheVariants.{Eq, Ne}
use Rattle.mid_code.specs.declared.instr.Mid.{Mid}
use Rattle.mid_code.specs.declared.instr.Mid.TheVariants.{Branch, Fault, Label, Help}
use Rattle.mid_code.specs.declared.code.MidCode.{MidCode}
use Rattle.mid_code.specs.Machine.{Activation, fn_of, help_to, put}
use Rattle.mid_code.specs.Words.{holds}
use Rattle.mid_code.specs.Help.{helped, is_wide, number_of_help, operation}
use Rattle.mid_code.specs.Runs.{IsLabelled, Runs, Stands}
use Rattle.mid_code.proofs.Runs.{goes, stops}
use Rattle.mid_code.proofs.Stands.{does, at_end, branch_runs, stay_runs, split}
use Rattle.mid_code.proofs.Written.{put_same, put_other}
use Rattle.lower_expr.specs.declared.spot.Spot.{Spot}
use Rattle.lower_expr.specs.Held.{IsHeld, IsHighHeld, halves_of, high, low}
use Rattle.lower_expr.specs.Runs.{Keeps}
use Rattle.lower_expr.specs.Locals.{Holds}
use Rattle.lower_expr.specs.Pieces.{count_code, divisor_code, product_code, shift_code, values_at}
use Rattle.lower_expr.proofs.Values.{keeps_put, keeps_on, keeps_refl, holds_put, still}
use Rattle.lower_expr.proofs.Numbers.{wrapped_again, zero_low}
use Rattle.lower_expr.proofs.Halves.{zero_halves}
use Rattle.lower_expr.proofs.Operations.{counted, left_is, left_number, one_given, product_is, quotient_is, rest_is, right_is, right_number, two_given}
use Rattle.lower_expr.proofs.Wide.{bin_runs, high_of, wide_is}
use Rattle.lower_expr.proofs.Pieces.{Next, at_here, label_runs, narrow_at, set_runs}

-- the values of a number that is held are its halves
pub held_halves : (wide : Bool) (v : ℤ) (values : ℕ → ℕ) (r : ℕ) → values r ≡ low v → IsHighHeld wide v values (r + 1) → map values (values_at wide r) ≡ halves_of wide v
held_halves true v values r l h = ap (λ m. m ∷ values (r + 1) ∷ []) l ∙ ap (λ m. low v ∷ m ∷ []) h
held_halves false v values r l h = ap (λ m. m ∷ []) l

two_read : (wide : Bool) (values : ℕ → ℕ) (r s : ℕ) → map values (values_at wide r ++ values_at wide s) ≡ map values (values_at wide r) ++ map values (values_at wide s)
two_read true values r s = refl
two_read false values r s = refl

one_read : (wide : Bool) (values : ℕ → ℕ) (r s : ℕ) → map values (values_at wide r ++ s ∷ []) ≡ map values (values_at wide r) ++ values s ∷ []
one_read true values r s = refl
one_read false values r s = refl

module _ (codes : MidCode) (f : ℕ) (rest : List Activation) (labels : IsLabelled (fn_of codes f).code) (n : ℕ)
    (p : Program) (types : List Ty) (spots : List Spot) (base : ℕ) where
  abbrev code : List Mid
  code = (fn_of codes f).code

  abbrev here : ℕ → (ℕ → ℕ) → (ℕ → ℕ) → List Activation
  here pc values frame = at_here codes f rest labels n p types spots base pc values frame

  abbrev Behind : Ty → (r end : ℕ) → (ℕ → ℕ) → (ℤ → Locals → Behaviour) → Type 0
  Behind ty r end old after = Next codes f rest labels n p types spots base ty r end old after

  -- a number that a helper gives
  given_runs : (wide : Bool) (h : ℕ) (ins : List ℕ) (t : IntType) (z : ℤ) (r pc end : ℕ) (after : ℤ → Locals → Behaviour) (env : Locals) (first values frame : ℕ → ℕ) →
      base ≤ r → is_wide t ≡ wide → wrapped t z ≡ z → helped codes h (map values ins) ≡ Some (halves_of wide z) →
      Stands code pc (Help h ins (values_at wide r) ∷ []) end → Holds p types spots base env values frame → Keeps base r first values →
      Behind (int t) r end first after → Runs codes n (after z env) (here pc values frame)
  given_runs false h ins t z r pc end after env first values frame le narrow number given s held k next =
      goes codes n (after z env) _ (here (pc + 1) (put values r (low z)) frame)
      (does codes f rest pc values frame (Help h ins (r ∷ [])) s.0
      ∙ ap (help_to (record { f = f; at = pc; values = values; frame = frame }) rest (r ∷ [])) given)
      (at_end codes f rest n (after z env) (pc + 1) end (put values r (low z)) frame s.1
      (next z env (put values r (low z)) frame (record {
        holds = holds_put base p types spots env values frame r (low z) le held;
        keeps = keeps_put base r r (low z) first values (omega arith) k;
        is = narrow_at codes f rest labels n p types spots base t z r (low z) values narrow number refl;
      })))
  given_runs true h ins t z r pc end after env first values frame le wide number given s held k next =
      let one : ℕ → ℕ = put values r (low z) in
      let two : ℕ → ℕ = put one (r + 1) (high z) in
      goes codes n (after z env) _ (here (pc + 1) two frame)
      (does codes f rest pc values frame (Help h ins (r ∷ (r + 1) ∷ [])) s.0
      ∙ ap (help_to (record { f = f; at = pc; values = values; frame = frame }) rest (r ∷ (r + 1) ∷ [])) given)
      (at_end codes f rest n (after z env) (pc + 1) end two frame s.1
      (next z env two frame (record {
        holds = holds_put base p types spots env one frame (r + 1) (high z) (omega arith) (holds_put base p types spots env values frame r (low z) le held);
        keeps = keeps_put base r (r + 1) (high z) first one (omega arith) (keeps_put base r r (low z) first values (omega arith) k);
        is = record {
          number = number;
          low_half = put_other one (r + 1) (high z) r (λ e. omega arith) ∙ put_same values r (low z);
          high_half = subst (λ b. IsHighHeld b z two (r + 1)) (sym wide) (put_same one (r + 1) (high z));
        };
      })))

  -- from two numbers of the type
  operated_runs : (o : HelpOp) (t : IntType) (x y z : ℤ) (r pc end : ℕ) (after : ℤ → Locals → Behaviour) (env : Locals) (first values frame : ℕ → ℕ) →
      base ≤ r → IsPromoted t → wrapped t z ≡ z → operation o t (residue (width t) x) (residue (width t) y) ≡ residue (width t) z → IsHeld t x values r → IsHeld t y values (r + 2) →
      Stands code pc (product_code o t r) end → Holds p types spots base env values frame → Keeps base r first values →
      Behind (int t) r end first after → Runs codes n (after z env) (here pc values frame)
  operated_runs o t x y z r pc end after env first values frame le ok number is hx hy s held k next =
      let wide : Bool = is_wide t in
      given_runs wide (number_of_help t o) (values_at wide r ++ values_at wide (r + 2)) t z r pc end after env first values frame le refl number
      (ap (helped codes (number_of_help t o)) (two_read wide values r (r + 2)
      ∙ ap (λ l. l ++ map values (values_at wide (r + 2))) (held_halves wide x values r hx.low_half hx.high_half)
      ∙ ap (λ l. halves_of wide x ++ l) (held_halves wide y values (r + 2) hy.low_half hy.high_half))
      ∙ two_given codes t ok o x y z is) s held k next

  pub product_runs : (t : IntType) (x y : ℤ) (r pc end : ℕ) (after : ℤ → Locals → Behaviour) (env : Locals) (first values frame : ℕ → ℕ) →
      base ≤ r → IsPromoted t → IsHeld t x values r → IsHeld t y values (r + 2) →
      Stands code pc (product_code Mul t r) end → Holds p types spots base env values frame → Keeps base r first values →
      Behind (int t) r end first after → Runs codes n (after (wrapped t (x *ℤ y)) env) (here pc values frame)
  product_runs t x y r pc end after env first values frame le ok hx hy s held k next =
      operated_runs Mul t x y (wrapped t (x *ℤ y)) r pc end after env first values frame le ok (wrapped_again t (x *ℤ y)) (product_is t ok x y) hx hy s held k next

  -- ---- a divisor of 0 is fault 3

  abbrev Divides : ℕ → (ℕ → ℕ) → Locals → (ℕ → ℕ) → (ℕ → ℕ) → Type 0
  Divides r old env values frame = Holds p types spots base env values frame × Keeps base (r + 4) old values

  divisor_by : (b : Bool) (x y l pc mid : ℕ) (z : ℤ) (d : ℤ) (after : ℤ → Locals → Behaviour) (env : Locals) (values frame : ℕ → ℕ) →
      is_zero d ≡ b → holds Ne (values x) (values y) ≡ not b → Stands code pc (Branch Ne x y l ∷ Fault 3 ∷ Label l ∷ []) mid →
      (is_zero d ≡ false → Runs codes n (after z env) (here mid values frame)) →
      Runs codes n (or_fault 3 (unless_zero d z) after env) (here pc values frame)
  divisor_by true x y l pc mid z d after env values frame zero unmet s go =
      subst (λ (b : Bool). Runs codes n (or_fault 3 (if b then None else Some z) after env) (here pc values frame)) (sym zero)
      (stay_runs codes f rest labels n (Faults 3) Ne x y l pc values frame s.0 unmet
      (stops codes n 3 (here (pc + 1) values frame) (does codes f rest (pc + 1) values frame (Fault 3) s.1.0)))
  divisor_by false x y l pc mid z d after env values frame some met s go =
      subst (λ (b : Bool). Runs codes n (or_fault 3 (if b then None else Some z) after env) (here pc values frame)) (sym some)
      (branch_runs codes f rest labels n (after z env) Ne x y l pc (pc + 1 + 1) values frame s.0 s.1.1.0 met
      (label_runs codes f rest labels n p types spots base (after z env) l (pc + 1 + 1) values frame s.1.1.0
      (at_end codes f rest n (after z env) (pc + 1 + 1 + 1) mid values frame s.1.1.1 (go some))))

  divisor_runs : (wide : Bool) (t : IntType) (y z : ℤ) (r l pc mid : ℕ) (after : ℤ → Locals → Behaviour) (env : Locals) (values frame : ℕ → ℕ) →
      base ≤ r → is_wide t ≡ wide → IsHeld t y values (r + 2) → Stands code pc (divisor_code wide r l) mid → Holds p types spots base env values frame →
      ((new : ℕ → ℕ) → Divides r values env new frame → is_zero y ≡ false → Runs codes n (after z env) (here mid new frame)) →
      Runs codes n (or_fault 3 (unless_zero y z) after env) (here pc values frame)
  divisor_runs false t y z r l pc mid after env values frame le narrow hy s held go =
      let one : ℕ → ℕ = put values (r + 4) 0 in
      let met : holds Ne (one (r + 2)) (one (r + 4)) ≡ not (is_zero y) =
      ap (λ u. not (u == one (r + 4))) (put_other values (r + 4) 0 (r + 2) (λ e. omega arith) ∙ hy.low_half) ∙ ap (λ u. not (low y == u)) (put_same values (r + 4) 0) ∙ ap not (zero_low t narrow y hy.number) in
      set_runs codes f rest labels n p types spots base (or_fault 3 (unless_zero y z) after env) (r + 4) 0 pc values frame s.0
      (divisor_by (is_zero y) (r + 2) (r + 4) l (pc + 1) mid z y after env one frame refl met s.1
      (go one (holds_put base p types spots env values frame (r + 4) 0 (omega arith) held, keeps_put base (r + 4) (r + 4) 0 values values (omega arith) (keeps_refl base (r + 4) values))))
  divisor_runs true t y z r l pc mid after env values frame le wide hy s held go =
      let m : ℕ = bit_or (values (r + 2)) (values (r + 3)) in
      let one : ℕ → ℕ = put values (r + 4) m in
      let two : ℕ → ℕ = put one (r + 5) 0 in
      let three_is : r + 3 ≡ r + 2 + 1 = omega arith in
      let high_y : values (r + 3) ≡ high y = ap values three_is ∙ high_of t y values (r + 2) (wide_is t wide) hy in
      let m_is : m ≡ bit_or (low y) (high y) = ap (λ u. bit_or u (values (r + 3))) hy.low_half ∙ ap (bit_or (low y)) high_y in
      let met : holds Ne (two (r + 4)) (two (r + 5)) ≡ not (is_zero y) =
      ap (λ u. not (u == two (r + 5))) (put_other one (r + 5) 0 (r + 4) (λ e. omega arith) ∙ put_same values (r + 4) m ∙ m_is)
      ∙ ap (λ u. not (bit_or (low y) (high y) == u)) (put_same one (r + 5) 0) ∙ ap not (zero_halves t (wide_is t wide) y hy.number) in
      let b : Behaviour = or_fault 3 (unless_zero y z) after env in
      bin_runs codes f rest labels n p types spots base b Or (r + 4) (r + 2) (r + 3) pc values frame s.0
      (set_runs codes f rest labels n p types spots base b (r + 5) 0 (pc + 1) one frame s.1.0
      (divisor_by (is_zero y) (r + 4) (r + 5) l (pc + 1 + 1) mid z y after env two frame refl met s.1.1
      (go two (
        holds_put base p types spots env one frame (r + 5) 0 (omega arith) (holds_put base p types spots env values frame (r + 4) m (omega arith) held),
        keeps_put base (r + 4) (r + 5) 0 values one (omega arith) (keeps_put base (r + 4) (r + 4) m values values (omega arith) (keeps_refl base (r + 4) values)),
      ))))

  divided_runs : (o : HelpOp) (t : IntType) (x y z : ℤ) (r l pc end : ℕ) (after : ℤ → Locals → Behaviour) (env : Locals) (first values frame : ℕ → ℕ) →
      base ≤ r → IsPromoted t → wrapped t z ≡ z → (is_zero y ≡ false → operation o t (residue (width t) x) (residue (width t) y) ≡ residue (width t) z) → IsHeld t x values r → IsHeld t y values (r + 2) →
      Stands code pc (divisor_code (is_wide t) r l ++ product_code o t r) end → Holds p types spots base env values frame → Keeps base r first values →
      Behind (int t) r end first after → Runs codes n (or_fault 3 (unless_zero y z) after env) (here pc values frame)
  divided_runs o t x y z r l pc end after env first values frame le ok number is hx hy s held k next =
      let s1 = split code pc end (divisor_code (is_wide t) r l) (product_code o t r) s in
      divisor_runs (is_wide t) t y z r l pc s1.0 after env values frame le refl hy s1.1 held
      (λ new d some. operated_runs o t x y z r s1.0 end after env first new frame le ok number (is some)
      (still base t x r (r + 4) values new le (omega arith) d.1 hx) (still base t y (r + 2) (r + 4) values new (omega arith) (omega arith) d.1 hy) s1.2 d.0
      (keeps_on base r (r + 4) first values new (omega arith) k d.1) next)

  pub quotient_runs : (t : IntType) (x y : ℤ) (r l pc end : ℕ) (after : ℤ → Locals → Behaviour) (env : Locals) (first values frame : ℕ → ℕ) →
      base ≤ r → IsPromoted t → IsHeld t x values r → IsHeld t y values (r + 2) →
      Stands code pc (divisor_code (is_wide t) r l ++ product_code Div t r) end → Holds p types spots base env values frame → Keeps base r first values →
      Behind (int t) r end first after → Runs codes n (or_fault 3 (unless_zero y (wrapped t (int_div x y))) after env) (here pc values frame)
  quotient_runs t x y r l pc end after env first values frame le ok hx hy s held k next =
      divided_runs Div t x y (wrapped t (int_div x y)) r l pc end after env first values frame le ok (wrapped_again t (int_div x y)) (quotient_is t ok x y hx.number hy.number) hx hy s held k next

  pub rest_runs : (t : IntType) (x y : ℤ) (r l pc end : ℕ) (after : ℤ → Locals → Behaviour) (env : Locals) (first values frame : ℕ → ℕ) →
      base ≤ r → IsPromoted t → IsHeld t x values r → IsHeld t y values (r + 2) →
      Stands code pc (divisor_code (is_wide t) r l ++ product_code Rem t r) end → Holds p types spots base env values frame → Keeps base r first values →
      Behind (int t) r end first after → Runs codes n (or_fault 3 (unless_zero y (wrapped t (int_rem x y))) after env) (here pc values frame)
  rest_runs t x y r l pc end after env first values frame le ok hx hy s held k next =
      divided_runs Rem t x y (wrapped t (int_rem x y)) r l pc end after env first values frame le ok (wrapped_again t (int_rem x y)) (rest_is t ok x y hx.number hy.number) hx hy s held k next

  -- ---- shifts

  -- the value of a count, and of 32 where it has a high half
  many_by : (b : Bool) (y : ℤ) (r l pc mid : ℕ) (behaviour : Behaviour) (env : Locals) (values frame : ℕ → ℕ) →
      base ≤ r → (high y == 0) ≡ b → values (r + 3) ≡ high y → values (r + 2) ≡ low y → Stands code pc (count_code true r l) mid → Holds p types spots base env values frame →
      ((new : ℕ → ℕ) → Holds p types spots base env new frame → Keeps base (r + 2) values new → new (r + 2) ≡ (if b then low y else 32) → Runs codes n behaviour (here mid new frame)) →
      Runs codes n behaviour (here pc values frame)
  many_by true y r l pc mid behaviour env values frame le e high_y low_y s held go =
      let one : ℕ → ℕ = put values (r + 4) 0 in
      let met : holds Eq (one (r + 3)) (one (r + 4)) ≡ true =
      ap (λ u. u == one (r + 4)) (put_other values (r + 4) 0 (r + 3) (λ e. omega arith) ∙ high_y) ∙ ap (λ u. high y == u) (put_same values (r + 4) 0) ∙ e in
      set_runs codes f rest labels n p types spots base behaviour (r + 4) 0 pc values frame s.0
      (branch_runs codes f rest labels n behaviour Eq (r + 3) (r + 4) l (pc + 1) (pc + 1 + 1 + 1) one frame s.1.0 s.1.1.1.0 met
      (label_runs codes f rest labels n p types spots base behaviour l (pc + 1 + 1 + 1) one frame s.1.1.1.0
      (at_end codes f rest n behaviour (pc + 1 + 1 + 1 + 1) mid one frame s.1.1.1.1
      (go one (holds_put base p types spots env values frame (r + 4) 0 (omega arith) held) (keeps_put base (r + 2) (r + 4) 0 values values (omega arith) (keeps_refl base (r + 2) values))
      (put_other values (r + 4) 0 (r + 2) (λ e. omega arith) ∙ low_y)))))
  many_by false y r l pc mid behaviour env values frame le e high_y low_y s held go =
      let one : ℕ → ℕ = put values (r + 4) 0 in
      let two : ℕ → ℕ = put one (r + 2) 32 in
      let unmet : holds Eq (one (r + 3)) (one (r + 4)) ≡ false =
      ap (λ u. u == one (r + 4)) (put_other values (r + 4) 0 (r + 3) (λ e. omega arith) ∙ high_y) ∙ ap (λ u. high y == u) (put_same values (r + 4) 0) ∙ e in
      set_runs codes f rest labels n p types spots base behaviour (r + 4) 0 pc values frame s.0
      (stay_runs codes f rest labels n behaviour Eq (r + 3) (r + 4) l (pc + 1) one frame s.1.0 unmet
      (set_runs codes f rest labels n p types spots base behaviour (r + 2) 32 (pc + 1 + 1) one frame s.1.1.0
      (label_runs codes f rest labels n p types spots base behaviour l (pc + 1 + 1 + 1) two frame s.1.1.1.0
      (at_end codes f rest n behaviour (pc + 1 + 1 + 1 + 1) mid two frame s.1.1.1.1
      (go two (holds_put base p types spots env one frame (r + 2) 32 (omega arith) (holds_put base p types spots env values frame (r + 4) 0 (omega arith) held))
      (keeps_put base (r + 2) (r + 2) 32 values one (omega arith) (keeps_put base (r + 2) (r + 4) 0 values values (omega arith) (keeps_refl base (r + 2) values)))
      (put_same one (r + 2) 32))))))

  count_runs : (wide : Bool) (c : IntType) (y : ℤ) (r l pc mid : ℕ) (behaviour : Behaviour) (env : Locals) (values frame : ℕ → ℕ) →
      base ≤ r → is_wide c ≡ wide → IsHeld c y values (r + 2) → Stands code pc (count_code wide r l) mid → Holds p types spots base env values frame →
      ((new : ℕ → ℕ) → Holds p types spots base env new frame → Keeps base (r + 2) values new → new (r + 2) ≡ counted wide y → Runs codes n behaviour (here mid new frame)) →
      Runs codes n behaviour (here pc values frame)
  count_runs false c y r l pc mid behaviour env values frame le narrow hy s held go =
      at_end codes f rest n behaviour pc mid values frame s (go values held (keeps_refl base (r + 2) values) hy.low_half)
  count_runs true c y r l pc mid behaviour env values frame le wide hy s held go =
      let three_is : r + 3 ≡ r + 2 + 1 = omega arith in
      many_by (high y == 0) y r l pc mid behaviour env values frame le refl (ap values three_is ∙ high_of c y values (r + 2) (wide_is c wide) hy) hy.low_half s held go

  shifted_runs : (o : HelpOp) (t c : IntType) (x y z : ℤ) (r l pc end : ℕ) (after : ℤ → Locals → Behaviour) (env : Locals) (first values frame : ℕ → ℕ) →
      base ≤ r → IsPromoted t → wrapped t z ≡ z → operation o t (residue (width t) x) (counted (is_wide c) y) ≡ residue (width t) z → IsHeld t x values r → IsHeld c y values (r + 2) →
      Stands code pc (shift_code o t c r l) end → Holds p types spots base env values frame → Keeps base r first values →
      Behind (int t) r end first after → Runs codes n (after z env) (here pc values frame)
  shifted_runs o t c x y z r l pc end after env first values frame le ok number is hx hy s held k next =
      let wide : Bool = is_wide t in
      let s1 = split code pc end (count_code (is_wide c) r l) (Help (number_of_help t o) (values_at wide r ++ (r + 2) ∷ []) (values_at wide r) ∷ []) s in
      count_runs (is_wide c) c y r l pc s1.0 (after z env) env values frame le refl hy s1.1 held
      (λ new held1 k1 count.
      let hx1 = still base t x r (r + 2) values new le (omega arith) k1 hx in
      given_runs wide (number_of_help t o) (values_at wide r ++ (r + 2) ∷ []) t z r s1.0 end after env first new frame le refl number
      (ap (helped codes (number_of_help t o)) (one_read wide new r (r + 2)
      ∙ ap (λ l. l ++ new (r + 2) ∷ []) (held_halves wide x new r hx1.low_half hx1.high_half)
      ∙ ap (λ m. halves_of wide x ++ m ∷ []) count)
      ∙ one_given codes t ok o x (counted (is_wide c) y) z is) s1.2 held1 (keeps_on base r (r + 2) first values new (omega arith) k k1) next)

  pub left_runs : (t c : IntType) (x y : ℤ) (r l pc end : ℕ) (after : ℤ → Locals → Behaviour) (env : Locals) (first values frame : ℕ → ℕ) →
      base ≤ r → IsPromoted t → IsPromoted c → IsHeld t x values r → IsHeld c y values (r + 2) →
      Stands code pc (shift_code Shl t c r l) end → Holds p types spots base env values frame → Keeps base r first values →
      Behind (int t) r end first after → Runs codes n (after (shift_left t x y) env) (here pc values frame)
  left_runs t c x y r l pc end after env first values frame le ok okc hx hy s held k next =
      shifted_runs Shl t c x y (shift_left t x y) r l pc end after env first values frame le ok (left_number t ok x y) (left_is t ok c okc x y hy.number) hx hy s held k next

  pub right_runs : (t c : IntType) (x y : ℤ) (r l pc end : ℕ) (after : ℤ → Locals → Behaviour) (env : Locals) (first values frame : ℕ → ℕ) →
      base ≤ r → IsPromoted t → IsPromoted c → IsHeld t x values r → IsHeld c y values (r + 2) →
      Stands code pc (shift_code Shr t c r l) end → Holds p types spots base env values frame → Keeps base r first values →
      Behind (int t) r end first after → Runs codes n (after (shift_right t x y) env) (here pc values frame)
  right_runs t c x y r l pc end after env first values frame le ok okc hx hy s held k next =
      shifted_runs Shr t c x y (shift_right t x y) r l pc end after env first values frame le ok (right_number t x y hx.number) (right_is t ok c okc x y hx.number hy.number) hx hy s held k next
