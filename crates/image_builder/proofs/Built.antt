-- What layout gives of a program's code is what is promised of its image.
use Rattle.std.proofs.Common.{◌≡◌, ℕ, ◌+◌, ◌<◌, List, length, Result, Ok, Err, IfOk, IfErr, ap, sym, subst, ◌∙◌, arith}
use Rattle.std.specs.List.{range_with_len}
use Rattle.nm_base.specs.declared.fault.Fault.{Fault}
use Rattle.nesc_core.specs.Plain.{Program}
use Rattle.msp_isa.specs.declared.code.CodeFn.{CodeFn}
use Rattle.msp_isa.specs.declared.image.Image.{Image}
use Rattle.lower_stmt.specs.Bodies.{lowered}
use Rattle.msp_layout.specs.Laid.{FitsRam, HasCause, IsGoodCode, IsPlaced}
use Rattle.program_image.specs.Order.{lines_of, reset_place}
use Rattle.image_code.specs.Code.{IsCountable, code_of, data_bytes}
use Rattle.image_code.specs.Laws.{CanBeChecked, CodeCanBeLaid, IsCompilable, LaidCodeRuns, RunsProgram}
use Rattle.image_builder.proofs.Lists.{both_ok, of_err, of_same}
use Rattle.image_builder.proofs.Many.{code_many}

module _ (p : Program) (h : IsCompilable p) (can : CanBeChecked (lowered p).checks) (code : List CodeFn) (lines : List ℕ) (reset ram : ℕ) (is_code : code ≡ code_of p) (is_lines : lines ≡ range_with_len (reset + 1) 8) (last : reset + 9 ≡ length code) (is_ram : ram ≡ data_bytes p) where
  place : reset ≡ reset_place p
  place = let many = (code_many p h can).0 in let e = ap length is_code in omega (arith, many, e, last)

  named : lines ≡ lines_of p
  named = is_lines ∙ ap (λ r. range_with_len (r + 1) 8) place

  same : (X : List CodeFn → List ℕ → ℕ → Type 0) → X code lines reset → X (code_of p) (lines_of p) (reset_place p)
  same X x = of_same X code (code_of p) lines (lines_of p) reset (reset_place p) is_code named place x

  pub can_be_laid : CodeCanBeLaid → IsCountable code → IsGoodCode code lines reset
  can_be_laid law few =
      of_same IsGoodCode (code_of p) code (lines_of p) lines (reset_place p) reset (sym is_code) (sym named) (sym place)
      (law p h (subst IsCountable is_code few) can)

  pub image_runs : LaidCodeRuns → IsCountable code → (r : Result Image Fault) → IfOk r (λ i. IsPlaced code lines reset i.code.items i.vectors) → IfOk r (λ i. FitsRam code lines reset ram i.stack) → IfOk r (λ i. RunsProgram p i.code.items i.vectors i.stack)
  image_runs law few r placed fits =
      both_ok (λ i. IsPlaced code lines reset i.code.items i.vectors) (λ i. FitsRam code lines reset ram i.stack) (λ i. RunsProgram p i.code.items i.vectors i.stack) r placed fits
      (λ i a b. law p i.code.items i.vectors i.stack h (subst IsCountable is_code few) can (same (λ f l s. IsPlaced f l s i.code.items i.vectors) a)
      (subst (λ n. FitsRam (code_of p) (lines_of p) (reset_place p) n i.stack) is_ram (same (λ f l s. FitsRam f l s ram i.stack) b)))

  pub image_fits : (r : Result Image Fault) → IfOk r (λ i. i.ram ≡ ram) → IfOk r (λ i. FitsRam code lines reset ram i.stack) → IfOk r (λ i. FitsRam (code_of p) (lines_of p) (reset_place p) i.ram i.stack)
  image_fits r bytes fits =
      both_ok (λ i. i.ram ≡ ram) (λ i. FitsRam code lines reset ram i.stack) (λ i. FitsRam (code_of p) (lines_of p) (reset_place p) i.ram i.stack) r bytes fits
      (λ i a b. subst (λ n. FitsRam (code_of p) (lines_of p) (reset_place p) n i.stack) (sym a) (same (λ f l s. FitsRam f l s ram i.stack) b))

  pub fault_is_due : (r : Result Image Fault) → IfErr r (λ e. HasCause code lines reset ram e) → IfErr r (λ e. HasCause (code_of p) (lines_of p) (reset_place p) (data_bytes p) e)
  fault_is_due r cause =
      of_err (λ e. HasCause code lines reset ram e) (λ e. HasCause (code_of p) (lines_of p) (reset_place p) (data_bytes p) e) r cause
      (λ e a. subst (λ n. HasCause (code_of p) (lines_of p) (reset_place p) n e) is_ram (same (λ f l s. HasCause f l s ram e) a))
