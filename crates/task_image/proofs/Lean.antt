-- The bound of instructions of lean programs is one that an image keeps to.
use Rattle.std.proofs.Common.{◌≡◌, ℕ, ◌+◌, ◌*◌, ◌≤◌, List, [], ◌∷◌, length, map, refl, sym, subst, arith}
use Rattle.nm_base.specs.declared.action.Action.{Action}
use Rattle.nm_base.specs.Behaviour.{Trace}
use Rattle.nesc_core.specs.Plain.{Program}
use Rattle.nesc_core.specs.Weights.{pace_of_program}
use Rattle.task_queue.specs.Kernel.{kernel}
use Rattle.msp_isa.specs.declared.code.CodeFn.{CodeFn}
use Rattle.lower_stmt.specs.Bodies.{lowered}
use Rattle.lower_pace.specs.Pace.{heaviest_of, longest_of, own_of}
use Rattle.lower_pace.specs.Silent.{silent_size}
use Rattle.lean_pace.specs.Lean.{IsLean}
use Rattle.lean_pace.specs.Pace.{KernelIsLean, KernelKeepsPace, LeanCodeKeepsPace, LeanIsMeasured, gap_of, longest_gap}
use Rattle.open_law.specs.Body.{IsOpenFunction, StartsOpen, StartsShut}
use Rattle.open_law.specs.Open.{IsGated, IsShut}
use Rattle.msp_select.specs.Laid.{start_of}
use Rattle.msp_select.specs.Sound.{body_of}
use Rattle.loop_runs.specs.Steps.{most}
use Rattle.kernel_contract.specs.Bytes.{queue_of}
use Rattle.task_runs.specs.Law.{needed}
use Rattle.program_image.specs.Image.{homes_of, marks_of}
use Rattle.program_image.specs.Runs.{IsSelectedRoot}
use Rattle.task_image.specs.Image.{sizes_of}
use Rattle.task_image.specs.Lean.{IsLeanBuiltOf, LeanImagesRun, limits_of}
use Rattle.task_image.specs.Runs.{IsTaskBuiltOf, TaskImagesRun}
use Rattle.task_image.proofs.Wider.{function_wider}

pub record LeanLaws : Type 0 where
  pub keeps : LeanCodeKeepsPace
  pub measured : LeanIsMeasured
  pub kernel_lean : KernelIsLean
  pub pace : KernelKeepsPace

open_wider : (image : ℕ → ℕ) (data_end : ℕ) (marks : ℕ → List Action) (gives : ℕ) (act : List ℕ → ℕ → Trace) (entry depth bound bound' : ℕ) → bound ≤ bound' →
    IsOpenFunction image data_end marks gives act entry depth bound → IsOpenFunction image data_end marks gives act entry depth bound'
open_wider image data_end marks gives act entry depth bound bound' le law = (
  function_wider image data_end marks IsGated gives act entry depth depth bound bound' StartsOpen (omega arith) le law.0,
  function_wider image data_end marks (λ code o. IsShut o) gives act entry depth depth bound bound' StartsShut (omega arith) le law.1,
)

-- ---- numbers

map_long : (g : ℕ → ℕ) (xs : List ℕ) → length (map g xs) ≡ length xs
map_long g [] = refl
map_long g (x ∷ xs) = let h = map_long g xs in omega (arith, h)

ten_moves : (p : Program) → most (queue_of p) + 1 ≡ 10
ten_moves p = omega arith

-- ten moves of the kernel alone, one of the program and a turn of the loop
eleven : (long tasks n moves pace : ℕ) → n ≡ tasks → moves ≡ 10 → 11 * (long + 68 + (3 * tasks + 20)) + (3 * tasks + 20) + 1 ≤ pace →
    (long + 28 + 40 + (3 * n + 20)) * moves + (long + 28 + 40 + (3 * n + 20)) + (3 * n + 20) + 1 ≤ pace
eleven long tasks n moves pace same ten le =
    subst (λ k. (long + 28 + 40 + (3 * n + 20)) * k + (long + 28 + 40 + (3 * n + 20)) + (3 * n + 20) + 1 ≤ pace) (sym ten) (omega (arith, same, le))

module _ (laws : LeanLaws) (p : Program) (base_depth handler_depth : ℕ) (deep : ℕ → ℕ) (image : ℕ → ℕ) (data_end none : ℕ) (code : List CodeFn) (entries : ℕ → ℕ) (built : IsLeanBuiltOf p base_depth handler_depth deep image data_end none code entries) where
  abbrev K : Program
  K = (kernel p).program

  lean : IsLean K
  lean = laws.kernel_lean p built.lean

  paced : (f gives : ℕ) → IsSelectedRoot K deep image data_end entries built.laid.places f gives → IsOpenFunction image data_end (marks_of K built.laid.places) gives (body_of (lowered K) f) (entries f) (deep f) (longest_gap K)
  paced f gives s =
      let k = laws.keeps K built.kernel_well lean deep (silent_size (lowered K) (λ i. 1) (heaviest_of K)) (heaviest_of K) (longest_of K) f gives data_end image (marks_of K built.laid.places) entries
      (λ g at. built.laid.places g (start_of (lowered K) (homes_of K) (own_of K) g at)) s.selected s.help in
      open_wider image data_end (marks_of K built.laid.places) gives (body_of (lowered K) f) (entries f) (deep f) (gap_of K f) (longest_gap K) k.1 k.0

  fits_pace : needed (queue_of p) (sizes_of p (limits_of p base_depth handler_depth) data_end none entries) ≤ pace_of_program p
  fits_pace = eleven (longest_gap K) (length p.tasks) (length (map entries p.tasks)) (most (queue_of p) + 1) (pace_of_program p) (map_long entries p.tasks) (ten_moves p) (laws.pace p built.fits.tasks)

  pub as_task_image : IsTaskBuiltOf p (limits_of p base_depth handler_depth) deep image data_end none code entries
  as_task_image = record {
    well = built.well;
    ranked = built.ranked;
    fits = built.fits;
    kernel_well = built.kernel_well;
    short = built.short;
    measured = laws.measured K lean;
    laid = built.laid;
    order = built.order;
    stands = built.stands;
    paced = record { longest = λ f. longest_gap K; laws = paced; within = λ f called. omega arith };
    some = omega arith;
    pace = fits_pace;
  }

pub lean_images_run : TaskImagesRun → LeanLaws → LeanImagesRun
lean_images_run run laws p base_depth handler_depth deep image data_end none code entries b rows n built words word_rows =
    run p (limits_of p base_depth handler_depth) deep image data_end none code entries b rows n (as_task_image laws p base_depth handler_depth deep image data_end none code entries built) words word_rows
