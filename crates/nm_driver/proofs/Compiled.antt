-- What is promised of the image of a program.
use Rattle.std.proofs.Common.{◌≡◌, ◌*◌, ℕ, List, inr, [], length, refl, subst, ◌∙◌, Option, Some, Result, Ok, Err, IfOk, IfErr, arith}
use Rattle.nm_base.specs.declared.fault.Fault.{Fault}
use Rattle.nm_base.specs.declared.fault.Fault.TheVariants as fault
use Rattle.nm_base.specs.declared.limit.Room.TheVariants.{Code, Ram}
use Rattle.nesc_preproc.specs.Sources.{Known}
use Rattle.nesc_core.specs.Plain.{Program}
use Rattle.nesc_core.specs.View.{program_of}
use Rattle.nesc_programs.specs.declared.application.Application.{Application}
use Rattle.msp_isa.specs.declared.image.Image.{Image}
use Rattle.msp_isa.specs.Image.{IsImage}
use Rattle.msp_layout.specs.Bytes.{HasBytes}
use Rattle.msp_layout.specs.Laid.{FitsRam}
use Rattle.image_code.specs.Laws.{CanBeChecked, RunsProgram}
use Rattle.program_builder.specs.Built.{CodeIsWithinWeight, IsCause, IsCompilable, MemoryIsWithinWeights, StackIsWithinWeight, code_of, data_bytes, lines_of, middle_of, reset_place}
use Rattle.compilable_programs.specs.Laws.{LaidImagesHaveRoom}
use Rattle.nm_words.specs.declared.mode.Mode.{Mode}
use Rattle.nm_driver.specs.declared.answer.Stop.{Stop}
use Rattle.nm_driver.specs.Lines.{answer_line}
use Rattle.nm_driver.specs.NamedFiles.{status_of}
use Rattle.nm_driver.specs.Applications.{Builds, CanBeBuilt, IsAccepted, IsUnbuilt, IsWithinWeights}
use Rattle.nm_driver.specs.MeetsProgram.{MeetsProgram}
use Rattle.nm_driver.specs.Prepared.{IfSays, IsNoMemory, SaysOfProgram, SaysUnbuilt, fault_detail, fault_file, line_of}
use Rattle.nm_driver.proofs.Causes.{if_says, if_says_three}

module _ (p : Program) where
  pub can_be_built : LaidImagesHaveRoom → (r : Result Image Fault) → IfOk r (λ i. IsImage i.code.items i.vectors) → IfOk r (λ i. HasBytes (code_of p) (2 * length i.code.items)) → IfOk r (λ i. i.ram ≡ data_bytes p)
      → IfOk r (λ i. FitsRam (code_of p) (lines_of p) (reset_place p) i.ram i.stack) → IfOk r (λ i. CanBeBuilt p)
  can_be_built law (Err e) image bytes is fits = tt
  can_be_built law (Ok i) image bytes is fits = record {
    has_room = λ room need. law (code_of p) (lines_of p) (reset_place p) (data_bytes p) i.stack i.code.items i.vectors image bytes
        (subst (λ n. FitsRam (code_of p) (lines_of p) (reset_place p) n i.stack) is fits) room need;
  }

-- ---- weights

failed : Fault → Result Image Fault
failed e = Err e

failed_alike : (e f : Fault) → failed e ≡ failed f → e ≡ f
unfolding failed
failed_alike e f is = cc

module _ (p : Program) (code : CodeIsWithinWeight) where
  meets_of : StackIsWithinWeight → (r : Result Image Fault) → ((r ≡ Err fault.NoMemory → ⊥) → IsCompilable p) → ((r ≡ Err fault.NoMemory → ⊥) → CanBeChecked (middle_of p).checks)
      → IfOk r (λ i. IsImage i.code.items i.vectors) → IfOk r (λ i. RunsProgram p i.code.items i.vectors i.stack) → IfOk r (λ i. HasBytes (code_of p) (2 * length i.code.items)) → IfOk r (λ i. i.ram ≡ data_bytes p)
      → IfOk r (λ i. FitsRam (code_of p) (lines_of p) (reset_place p) i.ram i.stack) → IfOk r (λ i. MeetsProgram p i.code.items i.vectors i.ram i.stack)
  meets_of stack (Err e) can checked image runs bytes is fits = tt
  meets_of stack (Ok i) can checked image runs bytes is fits = record {
    allowed = λ b rows n board given. (runs b rows n board given).0;
    bounded = λ b rows n board given. (runs b rows n board given).1;
    image = image;
    bytes = is;
    fits = fits.fits;
    code_weighs = code p (2 * length i.code.items) (can (λ e. absurd (cc))) bytes;
    stack_weighs = λ weight of. stack p i.stack weight (can (λ e. absurd (cc))) (checked (λ e. absurd (cc))) fits.is_stack of;
  }

  within : MemoryIsWithinWeights → (e : Fault) → ((e ≡ fault.NoMemory → ⊥) → IsCompilable p) → ((e ≡ fault.NoMemory → ⊥) → CanBeChecked (middle_of p).checks) → IsCause p e → IsWithinWeights p e
  within memory (fault.TooLarge Code need) can checked cause =
      let few = code p cause.bytes (can (λ e. absurd (cc))) cause.has in let tells = cause.tells in omega (arith, few, tells)
  within memory (fault.TooLarge Ram need) can checked cause = λ weight is. memory p weight need (can (λ e. absurd (cc))) (checked (λ e. absurd (cc))) is cause
  within memory (fault.Refused r) can checked cause = tt
  within memory (fault.Missing name) can checked cause = tt
  within memory fault.ReadFault can checked cause = tt
  within memory (fault.Limit l) can checked cause = tt
  within memory fault.NoMemory can checked cause = tt

  unbuilt_of : MemoryIsWithinWeights → (r : Result Image Fault) → ((r ≡ Err fault.NoMemory → ⊥) → IsCompilable p) → ((r ≡ Err fault.NoMemory → ⊥) → CanBeChecked (middle_of p).checks)
      → IfErr r (λ e. IsCause p e) → IfErr r (λ e. IsUnbuilt p e)
  unfolding failed
  unbuilt_of memory (Ok i) can checked cause = tt
  unbuilt_of memory (Err e) can checked cause = (
    cause,
    within memory e (λ other. can (λ is. other (failed_alike e fault.NoMemory is))) (λ other. checked (λ is. other (failed_alike e fault.NoMemory is))) cause,
  )

module _ (p : Program) (r : Result Image Fault) (can : (r ≡ Err fault.NoMemory → ⊥) → IsCompilable p) (checked : (r ≡ Err fault.NoMemory → ⊥) → CanBeChecked (middle_of p).checks) where
  pub meets : CodeIsWithinWeight → StackIsWithinWeight → IfOk r (λ i. IsImage i.code.items i.vectors) → IfOk r (λ i. RunsProgram p i.code.items i.vectors i.stack) → IfOk r (λ i. HasBytes (code_of p) (2 * length i.code.items))
      → IfOk r (λ i. i.ram ≡ data_bytes p) → IfOk r (λ i. FitsRam (code_of p) (lines_of p) (reset_place p) i.ram i.stack) → IfOk r (λ i. MeetsProgram p i.code.items i.vectors i.ram i.stack)
  meets code stack image runs bytes is fits = meets_of p code stack r can checked image runs bytes is fits

  -- what is too large passes no weight
  pub is_unbuilt : CodeIsWithinWeight → MemoryIsWithinWeights → IfErr r (λ e. IsCause p e) → IfErr r (λ e. IsUnbuilt p e)
  is_unbuilt code memory cause = unbuilt_of p code memory r can checked cause

-- ---- answers

-- the fault of an image stands in no text
unplaced : (p : Program) (app : List ℕ) (known : Option Known) (e : Fault) → IsCause p e → answer_line [] [] (status_of e) ≡ answer_line (fault_file known app e) (fault_detail (Some p) e) (status_of e)
unplaced p app known (fault.TooLarge room need) cause = refl
unplaced p app known fault.NoMemory cause = refl
unplaced p app known (fault.Refused r) cause = absurd cause
unplaced p app known (fault.Missing name) cause = absurd cause
unplaced p app known fault.ReadFault cause = absurd cause
unplaced p app known (fault.Limit l) cause = absurd cause

-- the answer to it
pub says_unbuilt : (e : Fault) (s : Stop) → IfSays s (λ a. a.status ≡ status_of e) → IfSays s (λ a. line_of a ≡ answer_line [] [] (status_of e)) → IfSays s (λ a. IsNoMemory e → ⊥)
    → IfSays s (SaysUnbuilt e)
says_unbuilt e s is line found =
    if_says_three {P = λ a. a.status ≡ status_of e} {Q = λ a. line_of a ≡ answer_line [] [] (status_of e)} {R = λ a. IsNoMemory e → ⊥}
    {S = SaysUnbuilt e} s
    (λ a i l f p app known cause. record { found = f; is_status = i; is_line = l ∙ unplaced p app known e cause }) is line found

-- why an application has no image
pub says_of_image : (a : Application) (e : Fault) (s : Stop) → IsAccepted (program_of a.program) → IsUnbuilt (program_of a.program) e
    → IfSays s (SaysUnbuilt e) → IfSays s (λ answer. (app : List ℕ) (mode : Mode) → Builds mode → SaysOfProgram mode app a answer)
says_of_image a e s accepted unbuilt says =
    if_says {P = SaysUnbuilt e} {Q = λ answer. (app : List ℕ) (mode : Mode) → Builds mode → SaysOfProgram mode app a answer} s
    (λ answer h app mode builds. record {
      cause = e;
      says = h (program_of a.program) app a.reading unbuilt.0;
      refused = inr (inr (builds, accepted, unbuilt));
    }) says
