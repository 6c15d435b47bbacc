-- The mote with the image of a program's kernel does what the program does.
use Rattle.std.proofs.Common.{◌≡◌, ℕ, ◌-◌, ◌<◌, ◌≤◌, List, length, Some, refl, sym, subst, arith}
use Rattle.std.specs.Prelude.{slice_get}
use Rattle.nm_base.specs.declared.action.Action.{Action}
use Rattle.nm_base.specs.declared.int_type.IntType.TheVariants.{U8}
use Rattle.nm_base.specs.Behaviour.{performed, play}
use Rattle.nesc_core.specs.Plain.{Body, Program, int}
use Rattle.nesc_core.specs.Calls.{HasNoCycle}
use Rattle.nesc_core.specs.Weights.{pace_of_program}
use Rattle.nesc_core.specs.WellFormed.{BeginsContext, boots, is_task}
use Rattle.core_meaning.specs.Act.{root}
use Rattle.core_meaning.specs.SourceOf.{handler_in}
use Rattle.task_queue.specs.Kernel.{kernel, pop_body}
use Rattle.task_queue.proofs.Bodies.{pop_is}
use Rattle.kernel_laws.specs.Laws.{KernelHasNoCycle}
use Rattle.msp_isa.specs.declared.code.CodeFn.{CodeFn}
use Rattle.msp430_cpu.specs.Cpu.{even}
use Rattle.lower_expr.specs.Code.{taken_at}
use Rattle.lower_stmt.specs.Bodies.{lowered}
use Rattle.lower_stmt.specs.Correct.{EachRootBehaves, IsTold, target}
use Rattle.lower_stmt.specs.Correct as correct
use Rattle.postless_code.specs.Laws.{KernelsPostNothing}
use Rattle.open_law.specs.Body.{IsBodyLaw, IsFunctionLaw, IsOpenBody, IsOpenFunction, StartsOpen, StartsShut}
use Rattle.open_law.specs.Laws.{FunctionsAreBodies}
use Rattle.open_law.specs.Open.{IsGated, IsShut}
use Rattle.open_law.proofs.Wider.{body_wider, wider_is_met}
use Rattle.loop_runs.specs.Bodies.{Bodies, source}
use Rattle.loop_runs.specs.Kernel.{IsKernel}
use Rattle.loop_runs.proofs.Whole.{gives_byte}
use Rattle.kernel_contract.specs.Bytes.{queue_of}
use Rattle.kernel_contract.specs.Law.{EachKernelKeeps, bodies_of}
use Rattle.preempt_bodies.specs.Laid.{IsLaidLine}
use Rattle.preempt_tasks.specs.Bodies.{IsTask, Sizes}
use Rattle.preempt_tasks.specs.Bodies as tasks
use Rattle.preempt_tasks.specs.Laid.{IsLaidLoop, LaidLoopsAreBuilt}
use Rattle.task_runs.specs.Law.{LoopsRunAsSource}
use Rattle.program_image.specs.Bodies.{BehaviourKeepsFunctions}
use Rattle.program_image.specs.Image.{marks_of}
use Rattle.program_image.specs.Runs.{IsLoweredImage, IsSelectedRoot, LinesAreLaid, LoweredCodeIsSelected}
use Rattle.program_image.proofs.Roots.{handler_begins, root_body}
use Rattle.task_image.specs.Image.{IsTaskProgramImage, Limits, sizes_of}
use Rattle.task_image.specs.Runs.{IsTaskBuiltOf, TaskImagesRun, begins, takes}
use Rattle.task_image.proofs.Tasks.{none_at, task_at}
use Rattle.task_image.proofs.Wider.{function_wider}

-- what the crates below promise
pub record Laws : Type 0 where
  pub kernels : EachKernelKeeps
  pub ranks : KernelHasNoCycle
  pub postless : KernelsPostNothing
  pub selected : LoweredCodeIsSelected
  pub behaves : EachRootBehaves
  pub keeps : BehaviourKeepsFunctions
  pub bodies : FunctionsAreBodies
  pub lines : LinesAreLaid
  pub loops : LaidLoopsAreBuilt
  pub runs : LoopsRunAsSource

-- `pop` gives one value
one_value : length (taken_at (int U8) 0) ≡ 1
one_value = omega arith

module _ (laws : Laws) (p : Program) (z : Limits) (deep : ℕ → ℕ) (image : ℕ → ℕ) (data_end none : ℕ) (code : List CodeFn) (entries : ℕ → ℕ) (built : IsTaskBuiltOf p z deep image data_end none code entries) where
  abbrev K : Program
  K = (kernel p).program

  abbrev pop : ℕ
  pop = (kernel p).pop

  abbrev all : Bodies
  all = bodies_of K

  abbrev marks : ℕ → List Action
  marks = marks_of K built.laid.places

  abbrev sizes : Sizes
  sizes = sizes_of p z data_end none entries

  abbrev h : IsTaskProgramImage p z deep image data_end none code entries
  h = built.stands

  abbrev longest : ℕ → ℕ
  longest = built.paced.longest

  ranked : HasNoCycle K
  ranked = laws.ranks p built.ranked

  kept : IsKernel (bodies_of p) all pop (queue_of p)
  kept = laws.kernels p built.well built.ranked built.fits

  abbrev low : IsLoweredImage K deep image data_end code entries
  low = record {
    well = built.kernel_well;
    ranked = ranked;
    short = built.short;
    measured = built.measured;
    postless = laws.postless p;
    laid = built.laid;
    order = built.order;
    stands = h.lowered_code;
  }

  -- ---- functions

  selected : (f : ℕ) (b : Body) → slice_get K.bodies f ≡ Some b → b.params ≡ 0 → IsSelectedRoot K deep image data_end entries built.laid.places f (length (taken_at b.result 0))
  selected f b is none = laws.selected K deep image data_end code entries low f b is none

  even_start : (f : ℕ) (b : Body) → slice_get K.bodies f ≡ Some b → b.params ≡ 0 → even (entries f) ≡ entries f
  even_start f b is none = let s = selected f b is none in s.selected.standing.even_entry f s.selected.is

  low_start : (f : ℕ) (b : Body) → slice_get K.bodies f ≡ Some b → b.params ≡ 0 → entries f < 0x10000
  low_start f b is none = let s = selected f b is none in s.selected.standing.small_entry f s.selected.is

  -- each does what its body does
  function_law : (f : ℕ) (b : Body) → slice_get K.bodies f ≡ Some b → b.params ≡ 0 → IsTold b.result → IsOpenFunction image data_end marks (length (taken_at b.result 0)) (correct.source K f) (entries f) (deep f) (longest f)
  function_law f b is none told =
      let gives : ℕ = length (taken_at b.result 0) in
      laws.keeps image data_end marks gives (correct.source K f) (target (lowered K) f) (entries f) (deep f) (longest f)
      (laws.behaves K ranked built.kernel_well f b is none told) (built.paced.laws f gives (selected f b is none))

  context_law : (f : ℕ) → BeginsContext K f → IsOpenBody image data_end marks (λ answers n. performed (root K f n) answers) (entries f) (deep f) (longest f)
  context_law f context =
      let r = root_body K built.kernel_well f context in
      laws.bodies image data_end marks (length (taken_at r.body.result 0)) (correct.source K f) (entries f) (deep f) (longest f) (function_law f r.body r.is r.params (subst IsTold (sym r.result) tt))

  -- ---- what the loop calls

  base_law : (f : ℕ) → BeginsContext K f → deep f ≤ z.base_depth → IsBodyLaw image data_end marks IsGated (λ answers n. performed (root K f n) answers) (entries f) z.base_depth z.instructions StartsOpen
  base_law f context le =
      let w = built.paced.within f (begins context) in
      body_wider image data_end marks IsGated (λ answers n. performed (root K f n) answers) (entries f) (deep f) z.base_depth (longest f) z.instructions StartsOpen le (omega (arith, w)) (context_law f context).0

  pop_law : IsFunctionLaw image data_end marks (λ c o. IsShut o) 1 (λ answers n. play (root K pop n) answers) (entries pop) z.base_depth z.instructions StartsShut
  pop_law =
      let w = built.paced.within pop (takes refl) in
      let law = (function_law pop (pop_body (length p.objects)) (pop_is p) refl tt).1 in
      function_wider image data_end marks (λ c o. IsShut o) 1 (λ answers n. play (root K pop n) answers) (entries pop) (deep pop) z.base_depth (longest pop) z.instructions StartsShut h.pop_depth (omega (arith, w))
      (subst (λ gives. IsFunctionLaw image data_end marks (λ c o. IsShut o) gives (correct.source K pop) (entries pop) (deep pop) (longest pop) StartsShut) one_value law)

  task : (k : ℕ) → k < length sizes.tasks → IsTask all image marks sizes k
  task k lt =
      let t = task_at entries p.tasks k lt in
      let context : BeginsContext K t.f = is_task k t.is in
      let r = root_body K built.kernel_well t.f context in
      record {
        body = t.f;
        is = t.is;
        even_start = subst (λ a. even a ≡ a) (sym t.start) (even_start t.f r.body r.is r.params);
        low_start = subst (λ a. a < 0x10000) (sym t.start) (low_start t.f r.body r.is r.params);
        law = subst (λ a. IsBodyLaw image data_end marks IsGated (λ answers n. performed (root K t.f n) answers) a z.base_depth z.instructions StartsOpen) (sym t.start) (base_law t.f context (h.task_depths k t.f t.is));
      }

  -- ---- lines

  handler_law : (v f : ℕ) → handler_in K.handlers v ≡ Some f → IsOpenBody image data_end marks (λ answers n. performed (root K f n) answers) (entries f) (deep f) (z.instructions - 28)
  handler_law v f e =
      let context = handler_begins K v f e in
      let w = built.paced.within f (begins context) in
      wider_is_met image data_end marks (λ answers n. performed (root K f n) answers) (entries f) (deep f) (deep f) (longest f) (z.instructions - 28) (omega arith) (omega (arith, w)) (context_law f context)

  line : (v : ℕ) → v < 8 → IsLaidLine (source all) image marks (tasks.sizes_of sizes) code entries built.laid.places v
  line v few =
      laws.lines K deep image data_end code entries low (source all) (λ w. refl) (entries p.boot) z.base_depth z.handler_depth z.instructions h.least_depth built.some h.handlers handler_law v (h.lines v few)

  -- ---- the image

  laid_loop : IsLaidLoop all pop image marks sizes code entries built.laid.places
  laid_loop =
      let first : BeginsContext K p.boot = boots refl in
      let r = root_body K built.kernel_well p.boot first in
      let taker = pop_body (length p.objects) in
      let some = built.some in
      record {
        low_end = h.lowered_code.low_end;
        even_end = h.even_end;
        room = h.room;
        some = omega (arith, some);
        reset = h.reset;
        boot = p.boot;
        taker = pop;
        none = none;
        tasks = p.tasks;
        is = h.reset_is;
        items = h.reset_items;
        vector = h.vector;
        is_none = h.none_is;
        none_items = h.none_items;
        boot_at = refl;
        taker_at = refl;
        none_at = refl;
        tasks_at = refl;
        even_boot = even_start p.boot r.body r.is r.params;
        low_boot = low_start p.boot r.body r.is r.params;
        boots = base_law p.boot first h.boot_depth;
        even_pop = even_start pop taker (pop_is p) refl;
        low_pop = low_start pop taker (pop_is p) refl;
        pops = pop_law;
        gives = λ b moves k run. gives_byte (bodies_of p) all pop (queue_of p) kept b moves k run;
        bodies = task;
        no_task = λ k le. none_at entries p.tasks k le;
        not_boot = kept.not_boot;
        not_task = kept.not_task;
        lines = line;
      }

pub task_images_run : Laws → TaskImagesRun
task_images_run laws p z deep image data_end none code entries b rows n built words word_rows =
    let marks : ℕ → List Action = marks_of (kernel p).program built.laid.places in
    let sizes : Sizes = sizes_of p z data_end none entries in
    let all : Bodies = bodies_of (kernel p).program in
    laws.runs (bodies_of p) all (kernel p).pop (queue_of p) image marks sizes (pace_of_program p) b rows n words word_rows (laws.kernels p built.well built.ranked built.fits)
    (laws.loops all (kernel p).pop image marks sizes code entries built.laid (laid_loop laws p z deep image data_end none code entries built)) built.pace
