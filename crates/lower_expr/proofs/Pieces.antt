-- The code of each operation does what the operation does.
use Rattle.std.proofs.Common.{◌≡◌, ◌≢◌, ℕ, ◌+◌, ◌%◌, ◌≤◌, Bool, true, false, List, [], ◌∷◌, Some, refl, sym, ap, ◌∙◌, subst, arith}
use Rattle.std.specs.Prelude.{ℤ, pos, slice_get, bit_and, not, ◌==◌}
use Rattle.std.proofs.lemmas.Nat.{and_mask}
use Rattle.nm_base.specs.declared.int_type.IntType.{IntType}
use Rattle.nm_base.specs.declared.int_type.IntType.TheVariants.{I8, U8, I16, U16, I32, U32}
use Rattle.nm_base.specs.IntType.{wrapped}
use Rattle.nm_base.specs.Behaviour.{Behaviour}
use Rattle.nesc_core.specs.Plain.{Ty, int, Program}
use Rattle.core_meaning.specs.Numbers.{truth, is_zero}
use Rattle.core_meaning.specs.Work.{Locals}
use Rattle.mid_code.specs.declared.instr.Op.{Op}
use Rattle.mid_code.specs.declared.instr.Op.TheVariants.{And}
use Rattle.mid_code.specs.declared.instr.Test.{Test}
use Rattle.mid_code.specs.declared.instr.Test.TheVariants.{Eq, Ne}
use Rattle.mid_code.specs.declared.instr.Mid.{Mid}
use Rattle.mid_code.specs.declared.instr.Mid.TheVariants.{Set, Bin, Carry, Label, Jump, Branch}
use Rattle.mid_code.specs.declared.code.MidCode.{MidCode}
use Rattle.mid_code.specs.Machine.{Activation, fn_of, put}
use Rattle.mid_code.specs.Words.{operate, carry, holds}
use Rattle.mid_code.specs.Runs.{IsLabelled, Runs, Stands}
use Rattle.mid_code.specs.Help.{is_wide}
use Rattle.mid_code.proofs.Runs.{goes}
use Rattle.mid_code.proofs.Stands.{here, does, at_end, branch_runs, jump_runs, stay_runs}
use Rattle.mid_code.proofs.Written.{put_same, put_other}
use Rattle.lower_expr.specs.declared.spot.Spot.{Spot}
use Rattle.lower_expr.specs.Held.{IsHeld, IsHighHeld, low, high}
use Rattle.lower_expr.specs.Runs.{After, Keeps}
use Rattle.lower_expr.specs.Locals.{Holds}
use Rattle.lower_expr.specs.Pieces.{const_code, fit_code, sum_code, truth_code}
use Rattle.lower_expr.proofs.Values.{keeps_refl, keeps_put, holds_put}
use Rattle.lower_expr.proofs.Numbers.{wrapped_again, zero_low}

-- in function f over other calls, with locals of these types at these spots
module _ (codes : MidCode) (f : ℕ) (rest : List Activation) (labels : IsLabelled (fn_of codes f).code) (n : ℕ)
    (p : Program) (types : List Ty) (spots : List Spot) (base : ℕ) where
  abbrev code : List Mid
  code = (fn_of codes f).code

  abbrev pub at_here : ℕ → (ℕ → ℕ) → (ℕ → ℕ) → List Activation
  at_here pc values frame = here codes f rest pc values frame

  abbrev pub Stood : Ty → (r : ℕ) → (ℕ → ℕ) → ℤ → Locals → (ℕ → ℕ) → (ℕ → ℕ) → Type 0
  Stood ty r old v env values frame = After p types spots base ty r old v env values frame

  abbrev pub Next : Ty → (r end : ℕ) → (ℕ → ℕ) → (ℤ → Locals → Behaviour) → Type 0
  Next ty r end old after = (v : ℤ) (env : Locals) (values frame : ℕ → ℕ) → After p types spots base ty r old v env values frame → Runs codes n (after v env) (at_here end values frame)

  -- one value is written
  pub set_runs : (b : Behaviour) (v x pc : ℕ) (values frame : ℕ → ℕ) → slice_get code pc ≡ Some (Set v x) → Runs codes n b (at_here (pc + 1) (put values v x) frame) → Runs codes n b (at_here pc values frame)
  set_runs b v x pc values frame at h = goes codes n b _ _ (does codes f rest pc values frame (Set v x) at) h

  -- a number of 16 bits that was written last
  pub narrow_at : (t : IntType) (v : ℤ) (r x : ℕ) (values : ℕ → ℕ) → is_wide t ≡ false → wrapped t v ≡ v → x ≡ low v → IsHeld t v (put values r x) r
  narrow_at t v r x values narrow number e = record {
    number = number;
    low_half = put_same values r x ∙ e;
    high_half = subst (λ b. IsHighHeld b v (put values r x) (r + 1)) (sym narrow) tt;
  }

  narrow_const : (t : IntType) (v : ℤ) (r pc end : ℕ) (after : ℤ → Locals → Behaviour) (env : Locals) (values frame : ℕ → ℕ) →
      base ≤ r → is_wide t ≡ false → wrapped t v ≡ v → Stands code pc (Set r (low v) ∷ []) end → Holds p types spots base env values frame →
      Next (int t) r end values after → Runs codes n (after v env) (at_here pc values frame)
  narrow_const t v r pc end after env values frame le narrow number s h next =
      set_runs (after v env) r (low v) pc values frame s.0
      (at_end codes f rest n (after v env) (pc + 1) end (put values r (low v)) frame s.1
      (next v env (put values r (low v)) frame (record {
        holds = holds_put base p types spots env values frame r (low v) le h;
        keeps = keeps_put base r r (low v) values values (omega arith) (keeps_refl base r values);
        is = narrow_at t v r (low v) values narrow number refl;
      })))

  wide_const : (t : IntType) (v : ℤ) (r pc end : ℕ) (after : ℤ → Locals → Behaviour) (env : Locals) (values frame : ℕ → ℕ) →
      base ≤ r → is_wide t ≡ true → wrapped t v ≡ v → Stands code pc (Set r (low v) ∷ Set (r + 1) (high v) ∷ []) end → Holds p types spots base env values frame →
      Next (int t) r end values after → Runs codes n (after v env) (at_here pc values frame)
  wide_const t v r pc end after env values frame le wide number s h next =
      let one : ℕ → ℕ = put values r (low v) in
      let two : ℕ → ℕ = put one (r + 1) (high v) in
      set_runs (after v env) r (low v) pc values frame s.0
      (set_runs (after v env) (r + 1) (high v) (pc + 1) one frame s.1.0
      (at_end codes f rest n (after v env) (pc + 1 + 1) end two frame s.1.1
      (next v env two frame (record {
        holds = holds_put base p types spots env one frame (r + 1) (high v) (omega arith) (holds_put base p types spots env values frame r (low v) le h);
        keeps = keeps_put base r (r + 1) (high v) values one (omega arith) (keeps_put base r r (low v) values values (omega arith) (keeps_refl base r values));
        is = record {
          number = number;
          low_half = put_other one (r + 1) (high v) r (λ e. omega arith) ∙ put_same values r (low v);
          high_half = subst (λ b. IsHighHeld b v two (r + 1)) (sym wide) (put_same one (r + 1) (high v));
        };
      }))))

  pub const_runs : (t : IntType) (v : ℤ) (r pc end : ℕ) (after : ℤ → Locals → Behaviour) (env : Locals) (values frame : ℕ → ℕ) →
      base ≤ r → wrapped t v ≡ v → Stands code pc (const_code t v r) end → Holds p types spots base env values frame →
      Next (int t) r end values after → Runs codes n (after v env) (at_here pc values frame)
  const_runs I8 v r pc end after env values frame le number s h next = narrow_const I8 v r pc end after env values frame le refl number s h next
  const_runs U8 v r pc end after env values frame le number s h next = narrow_const U8 v r pc end after env values frame le refl number s h next
  const_runs I16 v r pc end after env values frame le number s h next = narrow_const I16 v r pc end after env values frame le refl number s h next
  const_runs U16 v r pc end after env values frame le number s h next = narrow_const U16 v r pc end after env values frame le refl number s h next
  const_runs I32 v r pc end after env values frame le number s h next = wide_const I32 v r pc end after env values frame le refl number s h next
  const_runs U32 v r pc end after env values frame le number s h next = wide_const U32 v r pc end after env values frame le refl number s h next

  -- ---- two numbers of 16 bits

  pub narrow_runs : (op : Op) (t : IntType) (x y z : ℤ) (r pc end : ℕ) (after : ℤ → Locals → Behaviour) (env : Locals) (first values frame : ℕ → ℕ) →
      base ≤ r → is_wide t ≡ false → wrapped t z ≡ z → operate op (low x) (low y) ≡ low z → IsHeld t x values r → IsHeld t y values (r + 2) →
      Stands code pc (Bin op r r (r + 2) ∷ []) end → Holds p types spots base env values frame → Keeps base r first values →
      Next (int t) r end first after → Runs codes n (after z env) (at_here pc values frame)
  narrow_runs op t x y z r pc end after env first values frame le narrow number e hx hy s h k next =
      let w : ℕ = operate op (values r) (values (r + 2)) in
      let is : w ≡ low z = ap (λ u. operate op u (values (r + 2))) hx.low_half ∙ ap (operate op (low x)) hy.low_half ∙ e in
      goes codes n (after z env) _ _ (does codes f rest pc values frame (Bin op r r (r + 2)) s.0)
      (at_end codes f rest n (after z env) (pc + 1) end (put values r w) frame s.1
      (next z env (put values r w) frame (record {
        holds = holds_put base p types spots env values frame r w le h;
        keeps = keeps_put base r r w first values (omega arith) k;
        is = narrow_at t z r w values narrow number is;
      })))

  -- ---- truth values

  pub label_runs : (b : Behaviour) (l pc : ℕ) (values frame : ℕ → ℕ) → slice_get code pc ≡ Some (Label l) → Runs codes n b (at_here (pc + 1) values frame) → Runs codes n b (at_here pc values frame)
  label_runs b l pc values frame at h = goes codes n b _ _ (does codes f rest pc values frame (Label l) at) h

  -- 1 where the test holds, else 0
  pub test_runs : (b : Bool) (test : Test) (x y r l pc end : ℕ) (after : ℤ → Locals → Behaviour) (env : Locals) (first values frame : ℕ → ℕ) →
      base ≤ r → holds test (values x) (values y) ≡ b → Stands code pc (Branch test x y l ∷ truth_code r l) end →
      Holds p types spots base env values frame → Keeps base r first values → Next (int I16) r end first after →
      Runs codes n (after (truth b) env) (at_here pc values frame)
  test_runs true test x y r l pc end after env first values frame le met s h k next =
      branch_runs codes f rest labels n (after (pos 1) env) test x y l pc (pc + 1 + 1 + 1) values frame s.0 s.1.1.1.0 met
      (label_runs (after (pos 1) env) l (pc + 1 + 1 + 1) values frame s.1.1.1.0
      (set_runs (after (pos 1) env) r 1 (pc + 1 + 1 + 1 + 1) values frame s.1.1.1.1.0
      (label_runs (after (pos 1) env) (l + 1) (pc + 1 + 1 + 1 + 1 + 1) (put values r 1) frame s.1.1.1.1.1.0
      (at_end codes f rest n (after (pos 1) env) (pc + 1 + 1 + 1 + 1 + 1 + 1) end (put values r 1) frame s.1.1.1.1.1.1
      (next (pos 1) env (put values r 1) frame (record {
        holds = holds_put base p types spots env values frame r 1 le h;
        keeps = keeps_put base r r 1 first values (omega arith) k;
        is = narrow_at I16 (pos 1) r 1 values refl refl refl;
      }))))))
  test_runs false test x y r l pc end after env first values frame le unmet s h k next =
      stay_runs codes f rest labels n (after (pos 0) env) test x y l pc values frame s.0 unmet
      (set_runs (after (pos 0) env) r 0 (pc + 1) values frame s.1.0
      (jump_runs codes f rest labels n (after (pos 0) env) (l + 1) (pc + 1 + 1) (pc + 1 + 1 + 1 + 1 + 1) (put values r 0) frame s.1.1.0 s.1.1.1.1.1.0
      (label_runs (after (pos 0) env) (l + 1) (pc + 1 + 1 + 1 + 1 + 1) (put values r 0) frame s.1.1.1.1.1.0
      (at_end codes f rest n (after (pos 0) env) (pc + 1 + 1 + 1 + 1 + 1 + 1) end (put values r 0) frame s.1.1.1.1.1.1
      (next (pos 0) env (put values r 0) frame (record {
        holds = holds_put base p types spots env values frame r 0 le h;
        keeps = keeps_put base r r 0 first values (omega arith) k;
        is = narrow_at I16 (pos 0) r 0 values refl refl refl;
      }))))))

  pub zero_to : (b : Bool) (test : Test) (behaviour : Behaviour) (r l pc mid to : ℕ) (values frame : ℕ → ℕ) →
      holds test (values r) (values (r + 2)) ≡ b → Stands code pc (Branch test r (r + 2) l ∷ []) mid → slice_get code to ≡ Some (Label l) →
      (b ≡ true → Runs codes n behaviour (at_here to values frame)) → (b ≡ false → Runs codes n behaviour (at_here mid values frame)) →
      Runs codes n behaviour (at_here pc values frame)
  zero_to true test behaviour r l pc mid to values frame met s label gone other = branch_runs codes f rest labels n behaviour test r (r + 2) l pc to values frame s.0 label met (gone refl)
  zero_to false test behaviour r l pc mid to values frame met s label gone other =
      stay_runs codes f rest labels n behaviour test r (r + 2) l pc values frame s.0 met (at_end codes f rest n behaviour (pc + 1) mid values frame s.1 (other refl))

  -- a number of at most 16 bits compared with 0
  pub zero_runs : (b : Bool) (t : IntType) (v : ℤ) (behaviour : Behaviour) (r l pc mid to : ℕ) (values frame : ℕ → ℕ) →
      is_wide t ≡ false → IsHeld t v values r → is_zero v ≡ b → Stands code pc (Set (r + 2) 0 ∷ Branch Eq r (r + 2) l ∷ []) mid → slice_get code to ≡ Some (Label l) →
      (b ≡ true → Runs codes n behaviour (at_here to (put values (r + 2) 0) frame)) →
      (b ≡ false → Runs codes n behaviour (at_here mid (put values (r + 2) 0) frame)) →
      Runs codes n behaviour (at_here pc values frame)
  zero_runs b t v behaviour r l pc mid to values frame narrow held is s label gone other =
      let one : ℕ → ℕ = put values (r + 2) 0 in
      let at_r : one r ≡ low v = put_other values (r + 2) 0 r (λ e. omega arith) ∙ held.low_half in
      let met : holds Eq (one r) (one (r + 2)) ≡ b =
      ap (λ m. m == one (r + 2)) at_r ∙ ap (λ m. low v == m) (put_same values (r + 2) 0) ∙ zero_low t narrow v held.number ∙ is in
      set_runs behaviour (r + 2) 0 pc values frame s.0 (zero_to b Eq behaviour r l (pc + 1) mid to one frame met s.1 label gone other)

  pub non_zero_runs : (b : Bool) (t : IntType) (v : ℤ) (behaviour : Behaviour) (r l pc mid to : ℕ) (values frame : ℕ → ℕ) →
      is_wide t ≡ false → IsHeld t v values r → not (is_zero v) ≡ b → Stands code pc (Set (r + 2) 0 ∷ Branch Ne r (r + 2) l ∷ []) mid → slice_get code to ≡ Some (Label l) →
      (b ≡ true → Runs codes n behaviour (at_here to (put values (r + 2) 0) frame)) →
      (b ≡ false → Runs codes n behaviour (at_here mid (put values (r + 2) 0) frame)) →
      Runs codes n behaviour (at_here pc values frame)
  non_zero_runs b t v behaviour r l pc mid to values frame narrow held is s label gone other =
      let one : ℕ → ℕ = put values (r + 2) 0 in
      let at_r : one r ≡ low v = put_other values (r + 2) 0 r (λ e. omega arith) ∙ held.low_half in
      let met : holds Ne (one r) (one (r + 2)) ≡ b =
      ap (λ m. not (m == one (r + 2))) at_r ∙ ap (λ m. not (low v == m)) (put_same values (r + 2) 0) ∙ ap not (zero_low t narrow v held.number) ∙ is in
      set_runs behaviour (r + 2) 0 pc values frame s.0 (zero_to b Ne behaviour r l (pc + 1) mid to one frame met s.1 label gone other)

  -- the truth of a test against 0
  pub is_zero_runs : (t : IntType) (v : ℤ) (r l pc end : ℕ) (after : ℤ → Locals → Behaviour) (env : Locals) (first values frame : ℕ → ℕ) →
      base ≤ r → is_wide t ≡ false → IsHeld t v values r → Stands code pc (Set (r + 2) 0 ∷ Branch Eq r (r + 2) l ∷ truth_code r l) end →
      Holds p types spots base env values frame → Keeps base r first values → Next (int I16) r end first after →
      Runs codes n (after (truth (is_zero v)) env) (at_here pc values frame)
  is_zero_runs t v r l pc end after env first values frame le narrow held s h k next =
      let one : ℕ → ℕ = put values (r + 2) 0 in
      let at_r : one r ≡ low v = put_other values (r + 2) 0 r (λ e. omega arith) ∙ held.low_half in
      let met : holds Eq (one r) (one (r + 2)) ≡ is_zero v =
      ap (λ m. m == one (r + 2)) at_r ∙ ap (λ m. low v == m) (put_same values (r + 2) 0) ∙ zero_low t narrow v held.number in
      set_runs (after (truth (is_zero v)) env) (r + 2) 0 pc values frame s.0
      (test_runs (is_zero v) Eq r (r + 2) r l (pc + 1) end after env first one frame le met s.1
      (holds_put base p types spots env values frame (r + 2) 0 (omega arith) h) (keeps_put base r (r + 2) 0 first values (omega arith) k) next)

  -- the low byte alone
  pub byte_runs : (v : ℤ) (x r pc end : ℕ) (after : ℤ → Locals → Behaviour) (env : Locals) (first values frame : ℕ → ℕ) →
      base ≤ r → values r ≡ x → x % 256 ≡ low (wrapped U8 v) → Stands code pc (fit_code U8 r) end →
      Holds p types spots base env values frame → Keeps base r first values → Next (int U8) r end first after →
      Runs codes n (after (wrapped U8 v) env) (at_here pc values frame)
  byte_runs v x r pc end after env first values frame le is e s h k next =
      let one : ℕ → ℕ = put values (r + 1) 255 in
      let w : ℕ = bit_and (one r) (one (r + 1)) in
      let byte : w ≡ low (wrapped U8 v) =
      ap (λ m. bit_and m (one (r + 1))) (put_other values (r + 1) 255 r (λ e. omega arith) ∙ is) ∙ ap (bit_and x) (put_same values (r + 1) 255) ∙ and_mask x 8 ∙ e in
      set_runs (after (wrapped U8 v) env) (r + 1) 255 pc values frame s.0
      (goes codes n (after (wrapped U8 v) env) _ (at_here (pc + 1 + 1) (put one r w) frame) (does codes f rest (pc + 1) one frame (Bin And r r (r + 1)) s.1.0)
      (at_end codes f rest n (after (wrapped U8 v) env) (pc + 1 + 1) end (put one r w) frame s.1.1
      (next (wrapped U8 v) env (put one r w) frame (record {
        holds = holds_put base p types spots env one frame r w le (holds_put base p types spots env values frame (r + 1) 255 (omega arith) h);
        keeps = keeps_put base r r w first one (omega arith) (keeps_put base r (r + 1) 255 first values (omega arith) k);
        is = narrow_at U8 (wrapped U8 v) r w one refl (wrapped_again U8 v) byte;
      }))))

  -- the ends of a logical operator, whose labels are l and l + 1
  pub last_runs : (x l pc end r : ℕ) (v : ℤ) (after : ℤ → Locals → Behaviour) (env : Locals) (first values frame : ℕ → ℕ) →
      base ≤ r → x ≡ low v → wrapped I16 v ≡ v → Stands code pc (Label l ∷ Set r x ∷ Label (l + 1) ∷ []) end →
      Holds p types spots base env values frame → Keeps base r first values → Next (int I16) r end first after →
      Runs codes n (after v env) (at_here pc values frame)
  last_runs x l pc end r v after env first values frame le is number s h k next =
      label_runs (after v env) l pc values frame s.0
      (set_runs (after v env) r x (pc + 1) values frame s.1.0
      (label_runs (after v env) (l + 1) (pc + 1 + 1) (put values r x) frame s.1.1.0
      (at_end codes f rest n (after v env) (pc + 1 + 1 + 1) end (put values r x) frame s.1.1.1
      (next v env (put values r x) frame (record {
        holds = holds_put base p types spots env values frame r x le h;
        keeps = keeps_put base r r x first values (omega arith) k;
        is = narrow_at I16 v r x values refl number is;
      })))))

  pub first_runs : (x y l pc end r : ℕ) (v : ℤ) (after : ℤ → Locals → Behaviour) (env : Locals) (first values frame : ℕ → ℕ) →
      base ≤ r → x ≡ low v → wrapped I16 v ≡ v → Stands code pc (Set r x ∷ Jump (l + 1) ∷ Label l ∷ Set r y ∷ Label (l + 1) ∷ []) end →
      Holds p types spots base env values frame → Keeps base r first values → Next (int I16) r end first after →
      Runs codes n (after v env) (at_here pc values frame)
  first_runs x y l pc end r v after env first values frame le is number s h k next =
      set_runs (after v env) r x pc values frame s.0
      (jump_runs codes f rest labels n (after v env) (l + 1) (pc + 1) (pc + 1 + 1 + 1 + 1) (put values r x) frame s.1.0 s.1.1.1.1.0
      (label_runs (after v env) (l + 1) (pc + 1 + 1 + 1 + 1) (put values r x) frame s.1.1.1.1.0
      (at_end codes f rest n (after v env) (pc + 1 + 1 + 1 + 1 + 1) end (put values r x) frame s.1.1.1.1.1
      (next v env (put values r x) frame (record {
        holds = holds_put base p types spots env values frame r x le h;
        keeps = keeps_put base r r x first values (omega arith) k;
        is = narrow_at I16 v r x values refl number is;
      })))))

  -- ---- a sum or a difference of 32 bits

  pub wide_sum_runs : (op : Op) (t : IntType) (x y z : ℤ) (r pc end : ℕ) (after : ℤ → Locals → Behaviour) (env : Locals) (first values frame : ℕ → ℕ) →
      base ≤ r → is_wide t ≡ true → wrapped t z ≡ z → operate op (low x) (low y) ≡ low z → operate op (operate op (high x) (high y)) (carry op (low x) (low y)) ≡ high z → IsHeld t x values r → IsHeld t y values (r + 2) →
      Stands code pc (sum_code op true r) end → Holds p types spots base env values frame → Keeps base r first values →
      Next (int t) r end first after → Runs codes n (after z env) (at_here pc values frame)
  wide_sum_runs op t x y z r pc end after env first values frame le wide number low_is high_is hx hy s h k next =
      let high_x : values (r + 1) ≡ high x = subst (λ b. IsHighHeld b x values (r + 1)) wide hx.high_half in
      let high_y2 : values (r + 2 + 1) ≡ high y = subst (λ b. IsHighHeld b y values (r + 2 + 1)) wide hy.high_half in
      let three_is : r + 3 ≡ r + 2 + 1 = omega arith in
      let high_y : values (r + 3) ≡ high y = ap values three_is ∙ high_y2 in
      let carried : ℕ = carry op (values r) (values (r + 2)) in
      let one : ℕ → ℕ = put values (r + 4) carried in
      let l : ℕ = operate op (one r) (one (r + 2)) in
      let two : ℕ → ℕ = put one r l in
      let m : ℕ = operate op (two (r + 1)) (two (r + 3)) in
      let three : ℕ → ℕ = put two (r + 1) m in
      let w : ℕ = operate op (three (r + 1)) (three (r + 4)) in
      let four : ℕ → ℕ = put three (r + 1) w in
      let same : (i : ℕ) → i ≢ r + 4 → one i ≡ values i = λ i ne. put_other values (r + 4) carried i ne in
      let el : l ≡ low z =
      ap (λ u. operate op u (one (r + 2))) (same r (λ e. omega arith) ∙ hx.low_half) ∙ ap (operate op (low x)) (same (r + 2) (λ e. omega arith) ∙ hy.low_half) ∙ low_is in
      let e1 : two (r + 1) ≡ high x = put_other one r l (r + 1) (λ e. omega arith) ∙ same (r + 1) (λ e. omega arith) ∙ high_x in
      let e3 : two (r + 3) ≡ high y = put_other one r l (r + 3) (λ e. omega arith) ∙ same (r + 3) (λ e. omega arith) ∙ high_y in
      let em : three (r + 1) ≡ operate op (high x) (high y) = put_same two (r + 1) m ∙ ap (λ u. operate op u (two (r + 3))) e1 ∙ ap (operate op (high x)) e3 in
      let ec : three (r + 4) ≡ carry op (low x) (low y) =
      put_other two (r + 1) m (r + 4) (λ e. omega arith) ∙ put_other one r l (r + 4) (λ e. omega arith) ∙ put_same values (r + 4) carried
      ∙ ap (λ u. carry op u (values (r + 2))) hx.low_half ∙ ap (carry op (low x)) hy.low_half in
      let ew : w ≡ high z = ap (λ u. operate op u (three (r + 4))) em ∙ ap (operate op (operate op (high x) (high y))) ec ∙ high_is in
      goes codes n (after z env) _ (at_here (pc + 1) one frame) (does codes f rest pc values frame (Carry op (r + 4) r (r + 2)) s.0)
      (goes codes n (after z env) _ (at_here (pc + 1 + 1) two frame) (does codes f rest (pc + 1) one frame (Bin op r r (r + 2)) s.1.0)
      (goes codes n (after z env) _ (at_here (pc + 1 + 1 + 1) three frame) (does codes f rest (pc + 1 + 1) two frame (Bin op (r + 1) (r + 1) (r + 3)) s.1.1.0)
      (goes codes n (after z env) _ (at_here (pc + 1 + 1 + 1 + 1) four frame) (does codes f rest (pc + 1 + 1 + 1) three frame (Bin op (r + 1) (r + 1) (r + 4)) s.1.1.1.0)
      (at_end codes f rest n (after z env) (pc + 1 + 1 + 1 + 1) end four frame s.1.1.1.1
      (next z env four frame (record {
        holds = holds_put base p types spots env three frame (r + 1) w (omega arith) (holds_put base p types spots env two frame (r + 1) m (omega arith) (holds_put base p types spots env one frame r l le (holds_put base p types spots env values frame (r + 4) carried (omega arith) h)));
        keeps = keeps_put base r (r + 1) w first three (omega arith) (keeps_put base r (r + 1) m first two (omega arith) (keeps_put base r r l first one (omega arith) (keeps_put base r (r + 4) carried first values (omega arith) k)));
        is = record {
          number = number;
          low_half = put_other three (r + 1) w r (λ e. omega arith) ∙ put_other two (r + 1) m r (λ e. omega arith) ∙ put_same one r l ∙ el;
          high_half = subst (λ b. IsHighHeld b z four (r + 1)) (sym wide) (put_same three (r + 1) w ∙ ew);
        };
      }))))))
