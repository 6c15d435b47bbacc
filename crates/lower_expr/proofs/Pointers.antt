-- The code that moves a pointer, and that counts what lies between two pointers, does what the operators do.
use Rattle.std.proofs.Common.{◌≡◌, ℕ, zero, suc, ◌+◌, ◌*◌, ◌/◌, ◌%◌, ◌<◌, ◌≤◌, Bool, true, false, List, [], ◌∷◌, length, Some, refl, sym, ap, ◌∙◌, subst, arith}
use Rattle.std.specs.Prelude.{ℤ, pos, negsuc, neg_ℤ, int_div, ◌==◌, if◌then◌else◌, ◌+ℤ◌, ◌-ℤ◌, ◌*ℤ◌}
use Rattle.std.proofs.lemmas.Int.{ints}
use Rattle.std.proofs.lemmas.Bool.{eqb-true}
use Rattle.std.proofs.lemmas.Bool.Decides.{nat_tests}
use Rattle.std.proofs.Math.Nat.{div-le_self}
use Rattle.nm_base.specs.declared.int_type.IntType.{IntType}
use Rattle.nm_base.specs.declared.int_type.IntType.TheVariants.{I8, U8, I16, U16, I32, U32}
use Rattle.nm_base.specs.IntType.{wrapped}
use Rattle.nm_base.specs.Behaviour.{Behaviour}
use Rattle.nesc_core.specs.Plain.{Ty, void, int, pointer, array, struct, Field, Program}
use Rattle.nesc_core.specs.Size.{layout_of, struct_at, IsSmall}
use Rattle.nesc_core.specs.Typing.{IsStepped}
use Rattle.core_meaning.specs.Numbers.{residue, is_zero}
use Rattle.core_meaning.specs.Work.{Locals}
use Rattle.mid_code.specs.declared.help.HelpOp.TheVariants.{Div}
use Rattle.mid_code.specs.declared.instr.Op.TheVariants.{Add, Sub}
use Rattle.mid_code.specs.declared.instr.Mid.{Mid}
use Rattle.mid_code.specs.declared.instr.Mid.TheVariants.{Set, Bin, Help}
use Rattle.mid_code.specs.declared.code.MidCode.{MidCode}
use Rattle.mid_code.specs.Machine.{Activation, fn_of, help_to, put}
use Rattle.mid_code.specs.Words.{operate}
use Rattle.mid_code.specs.Help.{helped, number_of_help}
use Rattle.mid_code.specs.Runs.{IsLabelled, Runs, Stands}
use Rattle.mid_code.proofs.Runs.{goes}
use Rattle.mid_code.proofs.Stands.{does, at_end, split}
use Rattle.mid_code.proofs.Written.{put_same, put_other}
use Rattle.lower_expr.specs.declared.spot.Spot.{Spot}
use Rattle.lower_expr.specs.Held.{IsHeld, low}
use Rattle.lower_expr.specs.Runs.{Keeps}
use Rattle.lower_expr.specs.Locals.{Holds, IsResult}
use Rattle.lower_expr.specs.Pieces.{distance_code, offset_code, scaled_code}
use Rattle.lower_expr.proofs.Values.{keeps_put, keeps_on, holds_put}
use Rattle.lower_expr.proofs.Numbers.{in_range, low_difference, low_small, low_sum, low_wrapped, range_of, wrapped_again, zero_low}
use Rattle.lower_expr.proofs.Products.{low_scaled}
use Rattle.lower_expr.proofs.Operations.{quotient_is, two_given}
use Rattle.lower_expr.proofs.Elements.{scaled_runs}
use Rattle.lower_expr.proofs.Wide.{bin_runs}
use Rattle.lower_expr.proofs.Pieces.{at_here, narrow_at, set_runs}

-- ---- what a pointer points to takes at most 32,767 bytes

sized_small : (structs : List (List Field)) (t : Ty) → IsSmall (struct_at structs (length structs)) t → (layout_of structs t).size ≤ 32767
sized_small structs void h = omega arith
sized_small structs (int I8) h = omega arith
sized_small structs (int U8) h = omega arith
sized_small structs (int I16) h = omega arith
sized_small structs (int U16) h = omega arith
sized_small structs (int I32) h = omega arith
sized_small structs (int U32) h = omega arith
sized_small structs (pointer t) h = omega arith
sized_small structs (array t n) h = h.1
sized_small structs (struct k) h = h

pub step_small : (structs : List (List Field)) (size : ℕ) (ty : Ty) → IsStepped structs size ty → (0 < size) × (size ≤ 32767)
step_small structs size void h = absurd h
step_small structs size (int t) h = absurd h
step_small structs size (pointer t) h =
    let is = h.1 in
    let some = h.0.1 in
    let few = sized_small structs t h.0.0.small in
    (omega (arith, is, some), omega (arith, is, few))
step_small structs size (array t m) h = absurd h
step_small structs size (struct k) h = absurd h

pub stepped_held : (structs : List (List Field)) (size : ℕ) (ty : Ty) (v : ℤ) (values : ℕ → ℕ) (r : ℕ) → IsStepped structs size ty → IsResult ty v values r → IsHeld U16 v values r
stepped_held structs size void v values r h held = absurd h
stepped_held structs size (int t) v values r h held = absurd h
stepped_held structs size (pointer t) v values r h held = held
stepped_held structs size (array t m) v values r h held = absurd h
stepped_held structs size (struct k) v values r h held = absurd h

pub stepped_result : (structs : List (List Field)) (size : ℕ) (ty : Ty) (v : ℤ) (values : ℕ → ℕ) (r : ℕ) → IsStepped structs size ty → IsHeld U16 v values r → IsResult ty v values r
stepped_result structs size void v values r h held = absurd h
stepped_result structs size (int t) v values r h held = absurd h
stepped_result structs size (pointer t) v values r h held = held
stepped_result structs size (array t m) v values r h held = absurd h
stepped_result structs size (struct k) v values r h held = absurd h

-- ---- numbers

moved_low : (a c : ℤ) (size : ℕ) → (low a + (low c * size) % 65536) % 65536 ≡ low (wrapped U16 (a +ℤ c *ℤ pos size))
moved_low a c size = ap (λ m. (low a + m) % 65536) (sym (low_scaled c size)) ∙ sym (low_sum a (c *ℤ pos size)) ∙ sym (low_wrapped U16 tt (a +ℤ c *ℤ pos size))

pos_number : (size : ℕ) → size ≤ 32767 → wrapped I16 (pos size) ≡ pos size
pos_number size few = in_range I16 (pos size) (omega (arith, ints)) (omega (arith, ints, few))

none_zero : (size : ℕ) → 0 < size → size ≤ 32767 → is_zero (pos size) ≡ false
none_zero size some few =
    let same : size % 65536 ≡ size = omega (arith, few) in
    let other : (low (pos size) == 0) ≡ false = ap (λ m. m == 0) same ∙ (let q : (size == 0) ≡ false = grind (arith, nat_tests) in q) in
    sym (zero_low I16 refl (pos size) (pos_number size few)) ∙ other

low_again : (size : ℕ) → size ≤ 32767 → low (pos size) ≡ size % 65536
low_again size few = refl

-- a quotient by a size is a number where the dividend is one
quotient_number : (z : ℤ) (size : ℕ) → wrapped I16 z ≡ z → wrapped I16 (int_div z (pos size)) ≡ int_div z (pos size)
quotient_number (pos a) size e =
    let h = (range_of I16 (pos a) e).1 in
    let fewer = div-le_self a size in
    in_range I16 (pos (a / size)) (omega (arith, ints)) (omega (arith, ints, h, fewer))
quotient_number (negsuc a) size e =
    let h = (range_of I16 (negsuc a) e).0 in
    let fewer = div-le_self (suc a) size in
    negative_number (suc a / size) (omega (arith, ints, h, fewer))
  where
    negative_number : (m : ℕ) → m ≤ 32768 → wrapped I16 (neg_ℤ (pos m)) ≡ neg_ℤ (pos m)
    negative_number zero le = refl
    negative_number (suc m) le = in_range I16 (negsuc m) (omega (arith, ints, le)) (omega (arith, ints))

by_one : (z : ℤ) → int_div z (pos 1) ≡ z
by_one (pos a) = ap pos (omega arith)
by_one (negsuc a) = ap (λ m. neg_ℤ (pos m)) (let h : suc a / 1 ≡ suc a = omega arith in h)

module _ (codes : MidCode) (f : ℕ) (rest : List Activation) (labels : IsLabelled (fn_of codes f).code) (n : ℕ)
    (p : Program) (types : List Ty) (spots : List Spot) (base : ℕ) where
  abbrev code : List Mid
  code = (fn_of codes f).code

  abbrev here : ℕ → (ℕ → ℕ) → (ℕ → ℕ) → List Activation
  here pc values frame = at_here codes f rest labels n p types spots base pc values frame

  -- what goes on with a number of one word at r
  abbrev pub WordBehind : IntType → ℤ → (r end : ℕ) → (ℕ → ℕ) → Locals → Behaviour → Type 0
  WordBehind t z r end first env b = (values frame : ℕ → ℕ) → Holds p types spots base env values frame → Keeps base r first values → IsHeld t z values r → Runs codes n b (here end values frame)

  pub offset_runs : (a c : ℤ) (t : IntType) (size r pc end : ℕ) (b : Behaviour) (env : Locals) (first values frame : ℕ → ℕ) →
      base ≤ r → IsHeld U16 a values r → IsHeld t c values (r + 2) → Stands code pc (offset_code size r) end → Holds p types spots base env values frame → Keeps base r first values →
      WordBehind U16 (wrapped U16 (a +ℤ c *ℤ pos size)) r end first env b → Runs codes n b (here pc values frame)
  offset_runs a c t size r pc end b env first values frame le ha hc s h keeps next =
      let z : ℤ = wrapped U16 (a +ℤ c *ℤ pos size) in
      let s1 = split code pc end (scaled_code size (r + 2)) (Bin Add r r (r + 2) ∷ []) s in
      let few = low_small c in
      let at_c = hc.low_half in
      scaled_runs codes f rest labels n p types spots base size (r + 2) pc s1.0 b env values frame (omega arith) (omega (arith, at_c, few)) s1.1 h
      (λ one h1 k1 scaled.
      let x : ℕ = operate Add (one r) (one (r + 2)) in
      let is : x ≡ low z =
      ap (λ u. operate Add u (one (r + 2))) (k1.at r le (omega arith) ∙ ha.low_half) ∙ ap (operate Add (low a)) (scaled ∙ ap (λ u. (u * size) % 65536) at_c) ∙ moved_low a c size in
      bin_runs codes f rest labels n p types spots base b Add r r (r + 2) s1.0 one frame s1.2.0
      (at_end codes f rest n b (s1.0 + 1) end (put one r x) frame s1.2.1
      (next (put one r x) frame (holds_put base p types spots env one frame r x le h1)
      (keeps_put base r r x first one (omega arith) (keeps_on base r (r + 2) first values one (omega arith) keeps k1))
      (narrow_at codes f rest labels n p types spots base U16 z r x one refl (wrapped_again U16 (a +ℤ c *ℤ pos size)) is))))

  distance_by : (one : Bool) (z : ℤ) (size r pc end : ℕ) (b : Behaviour) (env : Locals) (first values frame : ℕ → ℕ) →
      base ≤ r → (size == 1) ≡ one → 0 < size → size ≤ 32767 → IsHeld I16 z values r →
      Stands code pc (if one then [] else Set (r + 2) (size % 65536) ∷ Help (number_of_help I16 Div) (r ∷ (r + 2) ∷ []) (r ∷ []) ∷ []) end → Holds p types spots base env values frame → Keeps base r first values →
      WordBehind I16 (int_div z (pos size)) r end first env b → Runs codes n b (here pc values frame)
  distance_by true z size r pc end b env first values frame le e some few held s h keeps next =
      let same : z ≡ int_div z (pos size) = sym (by_one z) ∙ ap (λ m. int_div z (pos m)) (sym (eqb-true size 1 e)) in
      at_end codes f rest n b pc end values frame s (next values frame h keeps (subst (λ u. IsHeld I16 u values r) same held))
  distance_by false z size r pc end b env first values frame le e some few held s h keeps next =
      let q : ℤ = int_div z (pos size) in
      let number = quotient_number z size held.number in
      let one : ℕ → ℕ = put values (r + 2) (size % 65536) in
      let given : helped codes (number_of_help I16 Div) (one r ∷ one (r + 2) ∷ []) ≡ Some (low q ∷ []) =
      ap (λ u. helped codes (number_of_help I16 Div) (u ∷ one (r + 2) ∷ [])) (put_other values (r + 2) (size % 65536) r (λ e. omega arith) ∙ held.low_half)
      ∙ ap (λ u. helped codes (number_of_help I16 Div) (low z ∷ u ∷ [])) (put_same values (r + 2) (size % 65536) ∙ sym (low_again size few))
      ∙ two_given codes I16 tt Div z (pos size) q (quotient_is I16 tt z (pos size) held.number (pos_number size few) (none_zero size some few) ∙ ap (residue 16) number) in
      set_runs codes f rest labels n p types spots base b (r + 2) (size % 65536) pc values frame s.0
      (goes codes n b _ (here (pc + 1 + 1) (put one r (low q)) frame)
      (does codes f rest (pc + 1) one frame (Help (number_of_help I16 Div) (r ∷ (r + 2) ∷ []) (r ∷ [])) s.1.0 ∙ ap (help_to (record { f = f; at = pc + 1; values = one; frame = frame }) rest (r ∷ [])) given)
      (at_end codes f rest n b (pc + 1 + 1) end (put one r (low q)) frame s.1.1
      (next (put one r (low q)) frame (holds_put base p types spots env one frame r (low q) le (holds_put base p types spots env values frame (r + 2) (size % 65536) (omega arith) h))
      (keeps_put base r r (low q) first one (omega arith) (keeps_put base r (r + 2) (size % 65536) first values (omega arith) keeps))
      (narrow_at codes f rest labels n p types spots base I16 q r (low q) one refl number refl))))

  pub distance_runs : (x y : ℤ) (size r pc end : ℕ) (b : Behaviour) (env : Locals) (first values frame : ℕ → ℕ) →
      base ≤ r → 0 < size → size ≤ 32767 → IsHeld U16 x values r → IsHeld U16 y values (r + 2) → Stands code pc (distance_code size r) end → Holds p types spots base env values frame → Keeps base r first values →
      WordBehind I16 (int_div (wrapped I16 (x -ℤ y)) (pos size)) r end first env b → Runs codes n b (here pc values frame)
  distance_runs x y size r pc end b env first values frame le some few hx hy s h keeps next =
      let z : ℤ = wrapped I16 (x -ℤ y) in
      let w : ℕ = operate Sub (values r) (values (r + 2)) in
      let is : w ≡ low z =
      ap (λ u. operate Sub u (values (r + 2))) hx.low_half ∙ ap (operate Sub (low x)) hy.low_half ∙ sym (low_difference x y) ∙ sym (low_wrapped I16 tt (x -ℤ y)) in
      bin_runs codes f rest labels n p types spots base b Sub r r (r + 2) pc values frame s.0
      (distance_by (size == 1) z size r (pc + 1) end b env first (put values r w) frame le refl some few
      (narrow_at codes f rest labels n p types spots base I16 z r w values refl (wrapped_again I16 (x -ℤ y)) is) s.1
      (holds_put base p types spots env values frame r w le h) (keeps_put base r r w first values (omega arith) keeps) next)
