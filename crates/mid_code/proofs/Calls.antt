-- The innermost call stands last in a list of calls, and first in a state of the machine.
use Rattle.std.proofs.Common.{◌≡◌, ◌≢◌, ℕ, zero, suc, ◌+◌, ◌^◌, ◌<◌, ◌≤◌, Bool, true, false, List, [], ◌∷◌, ◌++◌, length, Option, Some, None, All, take, replicate, refl, sym, ap, ◌∙◌, subst, arith}
use Rattle.std.specs.Prelude.{slice_get, slice_index, slice_index_or, slice_set}
use Rattle.std.proofs.lemmas.List.Elements.{All-get_or}
use Rattle.mid_code.specs.declared.instr.Mid.{Mid}
use Rattle.mid_code.specs.declared.code.MidFn.{MidFn}
use Rattle.mid_code.specs.declared.code.MidCode.{MidCode}
use Rattle.mid_code.specs.declared.state.MidCall.{MidCall}
use Rattle.mid_code.specs.Form.{AreBelow, IsMidCode, IsMidFn, NamesOwn, EndsElsewhere, goes_elsewhere}
use Rattle.mid_code.specs.Machine.{Activation, fn_of, no_fn}
use Rattle.mid_code.specs.State.{activation_of, calls_over}

zero_at : (n i : ℕ) → slice_index (replicate n 0) i ≡ 0
zero_at zero i = refl
zero_at (suc n) zero = refl
zero_at (suc n) (suc i) = zero_at n i

pub zeros : (n : ℕ) → slice_index (replicate n 0) ≡ (λ (i : ℕ). 0)
zeros n = λ j. λ i. zero_at n i j

not_empty : (code : List Mid) → EndsElsewhere code → 0 < length code
not_empty [] h = absurd h
not_empty (i ∷ is) h = omega arith

-- an instruction that does not go elsewhere has one behind it
pub behind : (code : List Mid) (at : ℕ) (i : Mid) → EndsElsewhere code → slice_get code at ≡ Some i → goes_elsewhere i ≡ false → at + 1 < length code
behind [] at i ends is on = absurd ends
behind (j ∷ []) zero i ends is on =
    let e : j ≡ i = cc in
    let t : true ≡ false = sym ends ∙ ap goes_elsewhere e ∙ on in
    absurd (cc)
behind (j ∷ []) (suc at) i ends is on = absurd (cc)
behind (j ∷ k ∷ rest) zero i ends is on = omega arith
behind (j ∷ k ∷ rest) (suc at) i ends is on = let r = behind (k ∷ rest) at i ends is on in omega (arith, r)

module _ (c : MidCode) (form : IsMidCode c) (f : ℕ) (lt : f < length c.fns) where
  pub own_form : IsMidFn (fn_of c f)
  own_form = All-get_or IsMidFn c.fns f no_fn lt form.fns

  pub own_params : AreBelow (fn_of c f).values (fn_of c f).params
  own_params = own_form.params

  pub own_end : EndsElsewhere (fn_of c f).code
  own_end = All-get_or (λ fn. EndsElsewhere fn.code) c.fns f no_fn lt form.ends

  pub own_room : length (fn_of c f).code < 2 ^ 32
  own_room = All-get_or (λ fn. length fn.code < 2 ^ 32) c.fns f no_fn lt form.room

  pub some_code : 0 < length (fn_of c f).code
  some_code = not_empty (fn_of c f).code own_end

pub made : (g : ℕ) (values frame : List ℕ) (vs fs : ℕ → ℕ) → slice_index values ≡ vs → slice_index frame ≡ fs → activation_of (record { f = g; at = 0; values = values; frame = frame }) ≡ record { f = g; at = 0; values = vs; frame = fs }
made g values frame vs fs e h = ap (λ (z : ℕ → ℕ). record { f = g; at = 0; values = z; frame = slice_index frame }) e ∙ ap (λ (z : ℕ → ℕ). record { f = g; at = 0; values = vs; frame = z }) h

-- ---- the last call of a list

pub over_last : (xs : List MidCall) (m : MidCall) (under : List Activation) → calls_over (xs ++ m ∷ []) under ≡ activation_of m ∷ calls_over xs under
over_last [] m under = refl
over_last (x ∷ xs) m under = over_last xs m (activation_of x ∷ under)

at_last : (xs : List MidCall) (t : ℕ) (d : MidCall) → t + 1 ≡ length xs → xs ≡ take t xs ++ slice_index_or xs t d ∷ []
at_last [] t d e = absurd (omega (arith, e))
at_last (x ∷ []) zero d e = refl
at_last (x ∷ y ∷ xs) zero d e = absurd (omega (arith, e))
at_last (x ∷ xs) (suc t) d e = ap (λ l. x ∷ l) (at_last xs t d (omega (arith, e)))

set_last : (xs : List MidCall) (t : ℕ) (m : MidCall) → t + 1 ≡ length xs → slice_set xs t m ≡ take t xs ++ m ∷ []
set_last [] t m e = absurd (omega (arith, e))
set_last (x ∷ []) zero m e = refl
set_last (x ∷ y ∷ xs) zero m e = absurd (omega (arith, e))
set_last (x ∷ xs) (suc t) m e = ap (λ l. x ∷ l) (set_last xs t m (omega (arith, e)))

-- the innermost call and the others
pub innermost : (xs : List MidCall) (t : ℕ) (d : MidCall) → t + 1 ≡ length xs → calls_over xs [] ≡ activation_of (slice_index_or xs t d) ∷ calls_over (take t xs) []
innermost xs t d e = ap (λ l. calls_over l []) (at_last xs t d e) ∙ over_last (take t xs) (slice_index_or xs t d) []

pub replaced : (xs : List MidCall) (t : ℕ) (m : MidCall) → t + 1 ≡ length xs → calls_over (slice_set xs t m) [] ≡ activation_of m ∷ calls_over (take t xs) []
replaced xs t m e = ap (λ l. calls_over l []) (set_last xs t m e) ∙ over_last (take t xs) m []
