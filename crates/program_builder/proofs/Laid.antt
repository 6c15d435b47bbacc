-- What layout gives of the code of a program with tasks is what is promised of its image.
use Rattle.std.proofs.Common.{◌≡◌, ℕ, ◌+◌, ◌*◌, List, length, Result, IfOk, IfErr, ap, sym, subst, ◌∙◌}
use Rattle.std.specs.List.{range_with_len}
use Rattle.nm_base.specs.declared.fault.Fault.{Fault}
use Rattle.nesc_core.specs.Plain.{Program}
use Rattle.msp_isa.specs.declared.code.CodeFn.{CodeFn}
use Rattle.msp_isa.specs.declared.image.Image.{Image}
use Rattle.msp_layout.specs.Bytes.{HasBytes}
use Rattle.msp_layout.specs.Laid.{FitsRam, HasCause, IsGoodCode, IsPlaced}
use Rattle.image_code.specs.Code.{IsCountable}
use Rattle.image_code.specs.Laws.{RunsProgram}
use Rattle.task_image.specs.Order.{lines_of, loop_place}
use Rattle.task_code.specs.Code.{code_of, data_bytes}
use Rattle.task_code.specs.Laws.{CodeCanBeLaid, LaidCodeRuns}
use Rattle.image_builder.proofs.Lists.{both_ok, of_err, of_same}
use Rattle.program_builder.specs.Parts.{ArePartsOf}

module _ (p : Program) (items code : List CodeFn) (lines : List ℕ) (reset ram : ℕ) (h : ArePartsOf p items reset ram) (seen : code ≡ items) (is_lines : lines ≡ range_with_len (reset + 1) 8) where
  is_code : code ≡ code_of p
  is_code = seen ∙ h.parts.is_code

  place : reset ≡ loop_place p
  place = h.parts.place

  is_ram : ram ≡ data_bytes p
  is_ram = h.parts.is_ram

  named : lines ≡ lines_of p
  named = is_lines ∙ ap (λ r. range_with_len (r + 1) 8) place

  few : IsCountable (code_of p)
  few = subst IsCountable h.parts.is_code h.parts.few

  same : (X : List CodeFn → List ℕ → ℕ → Type 0) → X code lines reset → X (code_of p) (lines_of p) (loop_place p)
  same X x = of_same X code (code_of p) lines (lines_of p) reset (loop_place p) is_code named place x

  pub can_be_laid : CodeCanBeLaid → IsGoodCode code lines reset
  can_be_laid law =
      of_same IsGoodCode (code_of p) code (lines_of p) lines (loop_place p) reset (sym is_code) (sym named) (sym place)
      (law p h.compilable few h.parts.can)

  module _ (r : Result Image Fault) where
    pub image_runs : LaidCodeRuns → IfOk r (λ i. IsPlaced code lines reset i.code.items i.vectors) → IfOk r (λ i. FitsRam code lines reset ram i.stack) → IfOk r (λ i. RunsProgram p i.code.items i.vectors i.stack)
    image_runs law placed fits =
        both_ok (λ i. IsPlaced code lines reset i.code.items i.vectors) (λ i. FitsRam code lines reset ram i.stack) (λ i. RunsProgram p i.code.items i.vectors i.stack) r placed fits
        (λ i a b. law p i.code.items i.vectors i.stack h.compilable few h.parts.can (same (λ f l s. IsPlaced f l s i.code.items i.vectors) a)
        (subst (λ n. FitsRam (code_of p) (lines_of p) (loop_place p) n i.stack) is_ram (same (λ f l s. FitsRam f l s ram i.stack) b)))

    pub image_bytes : IfOk r (λ i. IsPlaced code lines reset i.code.items i.vectors) → IfOk r (λ i. HasBytes (code_of p) (2 * length i.code.items))
    image_bytes placed =
        both_ok (λ i. IsPlaced code lines reset i.code.items i.vectors) (λ i. IsPlaced code lines reset i.code.items i.vectors) (λ i. HasBytes (code_of p) (2 * length i.code.items)) r placed placed
        (λ i a b. subst (λ f. HasBytes f (2 * length i.code.items)) is_code a.bytes)

    pub image_data : IfOk r (λ i. i.ram ≡ ram) → IfOk r (λ i. i.ram ≡ data_bytes p)
    image_data bytes = subst (λ n. IfOk r (λ i. i.ram ≡ n)) is_ram bytes

    pub image_fits : IfOk r (λ i. i.ram ≡ ram) → IfOk r (λ i. FitsRam code lines reset ram i.stack) → IfOk r (λ i. FitsRam (code_of p) (lines_of p) (loop_place p) i.ram i.stack)
    image_fits bytes fits =
        both_ok (λ i. i.ram ≡ ram) (λ i. FitsRam code lines reset ram i.stack) (λ i. FitsRam (code_of p) (lines_of p) (loop_place p) i.ram i.stack) r bytes fits
        (λ i a b. subst (λ n. FitsRam (code_of p) (lines_of p) (loop_place p) n i.stack) (sym a) (same (λ f l s. FitsRam f l s ram i.stack) b))

    pub fault_is_due : IfErr r (λ e. HasCause code lines reset ram e) → IfErr r (λ e. HasCause (code_of p) (lines_of p) (loop_place p) (data_bytes p) e)
    fault_is_due cause =
        of_err (λ e. HasCause code lines reset ram e) (λ e. HasCause (code_of p) (lines_of p) (loop_place p) (data_bytes p) e) r cause
        (λ e a. subst (λ n. HasCause (code_of p) (lines_of p) (loop_place p) n e) is_ram (same (λ f l s. HasCause f l s ram e) a))
