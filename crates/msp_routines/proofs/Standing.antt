-- Behind the functions of a program the routine of each helper is at the place that selected code calls.
use Rattle.std.proofs.Common.{◌≡◌, Some, ℕ, ◌+◌, ◌-◌, ◌<◌, ◌≤◌, true, false, cond, List, length, get_or, sym, ap, ◌∙◌, subst, arith}
use mathlib.Core.Logic.{inl, inr}
use Rattle.std.specs.Prelude.{nat_lt, slice_get, slice_index_or}
use Rattle.std.proofs.lemmas.Bool.Decides.{nat_tests}
use Rattle.std.proofs.lemmas.Option.{slice_get-get_or}
use Rattle.nm_base.specs.declared.action.Action.{Action}
use Rattle.msp_isa.specs.declared.code.CodeFn.{CodeFn}
use Rattle.msp_isa.specs.Stands.{IsLaid, items_of, no_code}
use Rattle.msp430_cpu.specs.Cpu.{even}
use Rattle.mid_code.specs.declared.code.MidCode.{MidCode}
use Rattle.mid_code.specs.Help.{first_check}
use Rattle.msp_select.specs.Routine.{IsRoutine}
use Rattle.msp_runtime.specs.Code.{routine_items, weight}
use Rattle.msp_runtime.specs.Emitted.{code_fn}
use Rattle.msp_runtime.specs.Laws.{IsUnmarked}
use Rattle.msp_runtime.specs.Routines.{code_at}
use Rattle.msp_runtime.proofs.Numbers.{routines_are_routines}
use Rattle.msp_checks.specs.Checks.{check_fn, check_items}
use Rattle.msp_checks.specs.Written.{AreOfWords}
use Rattle.msp_checks.proofs.Laid.{checks_are_routines}
use Rattle.msp_routines.specs.Laws.{RoutinesStand}
use Rattle.msp_routines.specs.Routines.{check_bound, with_routines}
use Rattle.msp_routines.proofs.Places.{check_place, code_long, no_check, operation_place}

abbrev operation_code : ℕ → CodeFn
operation_code h = code_fn (code_at h)

module _ (c : MidCode) (image : ℕ → ℕ) (data_end : ℕ) (marks : ℕ → List Action) (entries : ℕ → ℕ) (functions behind : List CodeFn) (laid : IsLaid image (with_routines functions c.checks behind) entries) (f : ℕ) (ok : AreOfWords c.checks) (objects : 0x1100 ≤ data_end)
    (unmarked : IsUnmarked marks (laid.places f) (length (items_of (with_routines functions c.checks behind) f))) (is_even : even (entries f) ≡ entries f) (small : entries f < 0x10000) where
  abbrev code : List CodeFn
  code = with_routines functions c.checks behind

  operation_stands : (h : ℕ) → h < 48 → f ≡ length functions + h → IsRoutine c image data_end marks h (entries f) (weight (code_at h) + 2)
  operation_stands h lt e =
      let many = code_long operation_code c.checks check_fn functions behind in
      let at : items_of code f ≡ routine_items (code_at h) =
      ap (λ n. (slice_index_or code n no_code).items) e ∙ ap (λ (g : CodeFn). g.items) (operation_place operation_code c.checks check_fn functions behind h lt) in
      routines_are_routines c image data_end marks entries code laid f h lt objects (omega (arith, e, lt, many)) at unmarked is_even small

  check_stands : (k : ℕ) → k < length c.checks → f ≡ length functions + (48 + k) → IsRoutine c image data_end marks (first_check + k) (entries f) (check_bound (slice_get c.checks k))
  check_stands k lt e =
      let many = code_long operation_code c.checks check_fn functions behind in
      let check = get_or c.checks k no_check in
      let is : slice_get c.checks k ≡ Some check = slice_get-get_or c.checks k no_check lt in
      let at : items_of code f ≡ check_items check =
      ap (λ n. (slice_index_or code n no_code).items) e ∙ ap (λ (g : CodeFn). g.items) (check_place operation_code c.checks check_fn functions behind k no_check lt) in
      subst (λ o. IsRoutine c image data_end marks (first_check + k) (entries f) (check_bound o)) (sym is)
      (checks_are_routines c k check image data_end marks entries code laid f is (ok k no_check lt) objects (omega (arith, e, lt, many)) at unmarked is_even small)

pub routines_stand : RoutinesStand
routines_stand c image data_end marks entries functions behind laid h f (inl lt) at ok objects unmarked is_even small =
    let below : nat_lt h first_check ≡ true = grind (arith, nat_tests) in
    let place : f ≡ length functions + h = at ∙ ap (λ b. cond b (length functions + h) (length functions + 48 + (h - first_check))) below in
    subst (λ b. IsRoutine c image data_end marks h (entries f) (cond b (weight (code_at h) + 2) (check_bound (slice_get c.checks (h - first_check))))) (sym below)
    (operation_stands c image data_end marks entries functions behind laid f ok objects unmarked is_even small h lt place)
routines_stand c image data_end marks entries functions behind laid h f (inr le) at ok objects unmarked is_even small =
    let low = le.0 in let high = le.1 in
    let above : nat_lt h first_check ≡ false = grind (arith, nat_tests) in
    let k = h - first_check in
    let back : first_check + k ≡ h = omega (arith, low) in
    let place : f ≡ length functions + (48 + k) = at ∙ ap (λ b. cond b (length functions + h) (length functions + 48 + (h - first_check))) above ∙ omega arith in
    subst (λ b. IsRoutine c image data_end marks h (entries f) (cond b (weight (code_at h) + 2) (check_bound (slice_get c.checks (h - first_check))))) (sym above)
    (subst (λ n. IsRoutine c image data_end marks n (entries f) (check_bound (slice_get c.checks k))) back
    (check_stands c image data_end marks entries functions behind laid f ok objects unmarked is_even small k (omega (arith, low, high)) place))
