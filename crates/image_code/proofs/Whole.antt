-- The laws of the code of programs, with the routines that stand in it.
use Rattle.std.proofs.Common.{◌≡◌, ◌⊎◌, ℕ, zero, suc, ◌+◌, ◌-◌, ◌<◌, ◌≤◌, List, [], ◌∷◌, ◌++◌, length, map, Some, refl, sym, ap, ◌∙◌, arith, length-append}
use mathlib.Core.Logic.{inl, inr}
use Rattle.std.specs.Prelude.{slice_get, slice_index_or}
use Rattle.std.specs.List.{range_with_len}
use Rattle.std.proofs.lemmas.Bool.{cases_lt}
use Rattle.std.proofs.lemmas.Option.{get_or_from_slice_get, slice_get_within}
use Rattle.std.proofs.lemmas.List.{get_or-append-add, get_or_append_left, get_or-map, length-map}
use Rattle.std.proofs.lemmas.List.FromFn.{get_or-map-range_with_len, length-map-range_with_len}
use Rattle.msp_isa.specs.declared.code.CodeFn.{CodeFn}
use Rattle.msp_isa.specs.Stands.{items_of, no_code}
use Rattle.mid_code.specs.declared.code.Check.{Check}
use Rattle.lower_stmt.specs.Bodies.{lowered}
use Rattle.msp_layout.specs.Depth.{calls_of, frame_of}
use Rattle.msp_runtime.specs.Routines.{code_at}
use Rattle.msp_runtime.specs.Emitted.{code_fn}
use Rattle.msp_checks.specs.Checks.{check_fn}
use Rattle.msp_checks.specs.Written.{AreOfWords, HaveFewRuns}
use Rattle.msp_routines.specs.Routines.{routine_fns}
use Rattle.msp_routines.proofs.Good.{routines_can_be_laid_out}
use Rattle.program_image.specs.Runs.{ProgramImagesRun}
use Rattle.image_code.specs.Laws.{CodeCanBeLaid, LaidCodeRuns}
use Rattle.image_code.proofs.Good.{AreRoutines, good_code}
use Rattle.image_code.proofs.Running.{code_runs}

-- whatever they are
module _ (f : ℕ → CodeFn) (g : Check → CodeFn) (checks : List Check) where
  abbrev both : List CodeFn
  both = map f (range_with_len 0 48) ++ map g checks

  many : length both ≡ 48 + length checks
  many = let a = length-append (map f (range_with_len 0 48)) (map g checks) in let b = length-map-range_with_len f 0 48 in let c = length-map checks g in omega (arith, a, b, c)

  first : (h : ℕ) → h < 48 → slice_index_or both h no_code ≡ f h
  first h lt =
      get_or_append_left (map f (range_with_len 0 48)) (map g checks) no_code h (let b = length-map-range_with_len f 0 48 in omega (arith, b, lt))
      ∙ get_or-map-range_with_len f 0 48 h h no_code lt (omega arith)

  second : (k : ℕ) (check : Check) → slice_get checks k ≡ Some check → slice_index_or both (48 + k) no_code ≡ g check
  second k check e =
      ap (λ n. slice_index_or both (n + k) no_code) (sym (length-map-range_with_len f 0 48))
      ∙ get_or-append-add (map f (range_with_len 0 48)) (map g checks) k no_code
      ∙ get_or-map g checks k check no_code (slice_get_within checks k check e)
      ∙ ap g (get_or_from_slice_get checks k check check e)

  behind : (k : ℕ) → slice_index_or both (48 + k) no_code ≡ slice_index_or (map g checks) k no_code
  behind k =
      ap (λ n. slice_index_or both (n + k) no_code) (sym (length-map-range_with_len f 0 48))
      ∙ get_or-append-add (map f (range_with_len 0 48)) (map g checks) k no_code

calls_none : (checks : List Check) (k : ℕ) → calls_of (map check_fn checks) k ≡ []
calls_none [] k = refl
calls_none (c ∷ checks) zero = refl
calls_none (c ∷ checks) (suc k) = calls_none checks k

frames_same : (checks : List Check) (k : ℕ) → k < length checks → frame_of (map check_fn checks) k ≡ 58
frames_same [] k lt = absurd (omega (arith, lt))
frames_same (c ∷ checks) zero lt = refl
frames_same (c ∷ checks) (suc k) lt = frames_same checks k (omega (arith, lt))

pub are_routines : (checks : List Check) → HaveFewRuns checks → AreOfWords checks → AreRoutines checks (routine_fns checks)
are_routines checks few of_words = record {
  many = many (λ h. code_fn (code_at h)) check_fn checks;
  operations = λ h lt. ap (λ (x : CodeFn). x.items) (first (λ h. code_fn (code_at h)) check_fn checks h lt);
  of_checks = λ k check e. ap (λ (x : CodeFn). x.items) (second (λ h. code_fn (code_at h)) check_fn checks k check e);
  frames = λ h lt. frames h lt (cases_lt h 48);
  none = λ h. none h (cases_lt h 48);
  good = λ fns h lt. routines_can_be_laid_out checks fns h few of_words lt;
}
  where
    frames : (h : ℕ) → h < length (routine_fns checks) → (h < 48) ⊎ (48 ≤ h) → frame_of (routine_fns checks) h ≡ 58
    frames h lt (inl few) = ap (λ (x : CodeFn). x.frame) (first (λ h. code_fn (code_at h)) check_fn checks h few)
    frames h lt (inr more) =
        let m = many (λ h. code_fn (code_at h)) check_fn checks in
        let at : h ≡ 48 + (h - 48) = omega (arith, more) in
        ap (frame_of (routine_fns checks)) at
        ∙ ap (λ (x : CodeFn). x.frame) (behind (λ h. code_fn (code_at h)) check_fn checks (h - 48))
        ∙ frames_same checks (h - 48) (omega (arith, lt, m, more))

    none : (h : ℕ) → (h < 48) ⊎ (48 ≤ h) → calls_of (routine_fns checks) h ≡ []
    none h (inl few) = ap (λ (x : CodeFn). x.calls) (first (λ h. code_fn (code_at h)) check_fn checks h few)
    none h (inr more) =
        let at : h ≡ 48 + (h - 48) = omega (arith, more) in
        ap (calls_of (routine_fns checks)) at
        ∙ ap (λ (x : CodeFn). x.calls) (behind (λ h. code_fn (code_at h)) check_fn checks (h - 48))
        ∙ calls_none checks (h - 48)

pub code_can_be_laid : CodeCanBeLaid
code_can_be_laid p h few can = good_code p h.well h.ranked h.short (routine_fns (lowered p).checks) (are_routines (lowered p).checks can.few can.words) few

pub laid_code_runs : ProgramImagesRun → LaidCodeRuns
laid_code_runs images_run p words vectors stack h few can placed fits = λ b rows n word word_rows.
    code_runs p h (routine_fns (lowered p).checks) (are_routines (lowered p).checks can.few can.words) words vectors stack placed fits few can.words images_run b rows n word word_rows
