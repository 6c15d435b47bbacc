-- The mote with a program's image does what the program does.
use Rattle.std.proofs.Common.{◌≡◌, ℕ, ◌+◌, ◌-◌, ◌/◌, ◌<◌, ◌≤◌, List, length, Some, refl, sym, subst, arith}
use Rattle.nm_base.specs.declared.action.Action.{Action}
use Rattle.nesc_core.specs.Plain.{Program}
use Rattle.nesc_core.specs.Weights.{pace_of_program}
use Rattle.nesc_core.specs.WellFormed.{BeginsContext, boots}
use Rattle.core_meaning.specs.Source.{Source}
use Rattle.core_meaning.specs.SourceOf.{handler_in, source_of}
use Rattle.msp_isa.specs.declared.code.CodeFn.{CodeFn}
use Rattle.lower_expr.specs.Code.{taken_at}
use Rattle.lower_stmt.specs.Bodies.{lowered}
use Rattle.lower_stmt.specs.Correct.{IsTold, source, target}
use Rattle.lower_stmt.proofs.Behaving.{roots_behave}
use Rattle.lower_stmt.proofs.Labels.{are_labelled}
use Rattle.lower_keeps.specs.Laws.{PostsNameTasks}
use Rattle.lower_pace.specs.Pace.{between_actions, heaviest_of, longest_of, own_of}
use Rattle.lower_pace.specs.Silent.{silent_size}
use Rattle.lower_pace.proofs.Weighed.{code_keeps_pace}
use Rattle.open_law.specs.Body.{IsOpenBody, acts}
use Rattle.open_law.proofs.Law.{functions_are_bodies}
use Rattle.open_law.proofs.Wider.{wider_is_met}
use Rattle.msp_select.specs.Laid.{start_of}
use Rattle.msp_select.specs.Sound.{body_of}
use Rattle.preempt_bodies.specs.Bodies.{Sizes}
use Rattle.preempt_bodies.specs.Laid.{IsLaidLine, IsLaidOut}
use Rattle.preempt_bodies.proofs.Laid.{laid_images_are_built}
use Rattle.preempt_bodies.proofs.Whole.{runs_as_source}
use Rattle.program_image.specs.Image.{IsProgramImage, homes_of, marks_of, sizes_of}
use Rattle.program_image.specs.Runs.{IsBuiltOf, IsLoweredImage, ProgramImagesRun, RootsMeetTheirLaws}
use Rattle.program_image.proofs.Behaving.{behaviour_keeps_laws}
use Rattle.program_image.proofs.Kept.{IsKept, KeptLaws, posts_nothing}
use Rattle.program_image.proofs.Lines.{laid_line}
use Rattle.program_image.proofs.Places.{even_function, small_function}
use Rattle.program_image.proofs.Roots.{handler_begins, root_body, root_there}
use Rattle.program_image.proofs.Selected.{is_selected, kept_of}

-- ---- functions that begin a context

module _ (p : Program) (deep : ℕ → ℕ) (image : ℕ → ℕ) (data_end : ℕ) (code : List CodeFn) (entries : ℕ → ℕ) (built : IsLoweredImage p deep image data_end code entries) (kept : IsKept p data_end) where
  abbrev of_image : ℕ → List Action
  of_image = marks_of p built.laid.places

  -- selected code, with the room that it leaves
  pub selected_law : (root : ℕ) → BeginsContext p root → IsOpenBody image data_end of_image (acts (target (lowered p) root)) (entries root) (deep root) (between_actions p root) × (between_actions p root + 400000 ≤ pace_of_program p / 2)
  selected_law root context =
      let r = root_body p built.well root context in
      let s = is_selected p deep image data_end code entries built kept root r.body r.is r.params in
      let few = s.help in
      let gives : ℕ = length (taken_at r.body.result 0) in
      let k = code_keeps_pace p built.well built.measured deep (silent_size (lowered p) (λ i. 1) (heaviest_of p)) (heaviest_of p) (longest_of p) root gives data_end image of_image entries (λ f at. built.laid.places f (start_of (lowered p) (homes_of p) (own_of p) f at)) s.selected (omega (arith, few)) in
      (functions_are_bodies image data_end of_image gives (body_of (lowered p) root) (entries root) (deep root) (between_actions p root) k.0, k.1)

  -- and the body that it was lowered from
  pub root_law : (root : ℕ) → BeginsContext p root → IsOpenBody image data_end of_image ((source_of p).act root) (entries root) (deep root) (between_actions p root)
  root_law root context =
      let r = root_body p built.well root context in
      behaviour_keeps_laws image data_end of_image (source p root) (target (lowered p) root) (entries root) (deep root) (between_actions p root)
      (roots_behave p built.ranked built.well (are_labelled p) root r.body r.is r.params (subst IsTold (sym r.result) tt)) (selected_law root context).0

-- ---- the image

abbrev lowered_of : PostsNameTasks → (p : Program) (deep : ℕ → ℕ) (image : ℕ → ℕ) (data_end handler_depth : ℕ) (code : List CodeFn) (entries : ℕ → ℕ) → IsBuiltOf p deep image data_end handler_depth code entries → IsLoweredImage p deep image data_end code entries
lowered_of posts p deep image data_end handler_depth code entries built = record {
  well = built.well;
  ranked = built.ranked;
  short = built.short;
  measured = built.measured;
  postless = posts_nothing posts p built.well built.no_tasks;
  laid = built.laid;
  order = built.order;
  stands = built.stands.lowered_code;
}

-- half of the pace, which leaves room for the code around bodies
half_and_more : (between pace : ℕ) → between + 400000 ≤ pace / 2 → pace / 2 + 3 ≤ pace
half_and_more between pace le = omega (arith, le)

within : (between half : ℕ) → between + 400000 ≤ half → between ≤ half - 28
within between half le = omega (arith, le)

all_within : (between half : ℕ) → between + 400000 ≤ half → between ≤ half
all_within between half le = omega (arith, le)

some : (between half : ℕ) → between + 400000 ≤ half → 29 ≤ half
some between half le = omega (arith, le)

one : (half : ℕ) → 29 ≤ half → 1 ≤ half
one half le = omega (arith, le)

module _ (p : Program) (deep : ℕ → ℕ) (image : ℕ → ℕ) (data_end handler_depth : ℕ) (code : List CodeFn) (entries : ℕ → ℕ) (built : IsLoweredImage p deep image data_end code entries) (kept : IsKept p data_end)
    (h : IsProgramImage p deep image data_end handler_depth code entries) where
  abbrev P : Source
  P = source_of p

  abbrev z : Sizes
  z = sizes_of p deep data_end handler_depth entries

  abbrev marks : ℕ → List Action
  marks = marks_of p built.laid.places

  abbrev half : ℕ
  half = pace_of_program p / 2

  room_of : (root : ℕ) → BeginsContext p root → between_actions p root + 400000 ≤ half
  room_of root context = (selected_law p deep image data_end code entries built kept root context).1

  handler_law : (v f : ℕ) → handler_in p.handlers v ≡ Some f → IsOpenBody image data_end marks (P.act f) (entries f) (deep f) (half - 28)
  handler_law v f e =
      let context = handler_begins p v f e in
      wider_is_met image data_end marks (P.act f) (entries f) (deep f) (deep f) (between_actions p f) (half - 28) (omega arith) (within (between_actions p f) half (room_of f context))
      (root_law p deep image data_end code entries built kept f context)

  large : 29 ≤ half
  large = some (between_actions p p.boot) half (room_of p.boot (boots refl))

  line : (v : ℕ) → v < 8 → IsLaidLine P image marks z code entries built.laid.places v
  line v few =
      laid_line p deep image data_end code entries built P (λ w. refl) (entries p.boot) (deep p.boot) handler_depth half h.least_depth large h.handlers handler_law v (h.lines v few)

  pub laid_out : IsLaidOut P image marks z code entries built.laid.places
  laid_out =
      let there = root_there p p.boot (root_body p built.well p.boot (boots refl)) in
      record {
        low_end = h.lowered_code.low_end;
        even_end = h.even_end;
        room = h.room;
        some = one half large;
        reset = h.reset;
        boot = p.boot;
        is = h.reset_is;
        items = h.reset_items;
        vector = h.vector;
        boot_at = refl;
        even_boot = even_function p deep image data_end code entries built p.boot there;
        low_boot = small_function p deep image data_end code entries built p.boot there;
        body = (wider_is_met image data_end marks (P.act p.boot) (entries p.boot) (deep p.boot) (deep p.boot) (between_actions p p.boot) half (omega arith)
            (all_within (between_actions p p.boot) half (room_of p.boot (boots refl))) (root_law p deep image data_end code entries built kept p.boot (boots refl))).0;
        lines = line;
      }

  pub enough : half + 3 ≤ pace_of_program p
  enough = half_and_more (between_actions p p.boot) (pace_of_program p) (room_of p.boot (boots refl))

pub roots_meet_their_laws : KeptLaws → RootsMeetTheirLaws
roots_meet_their_laws laws p deep image data_end code entries built root context =
    root_law p deep image data_end code entries built (kept_of laws p deep image data_end code entries built) root context

pub program_images_run : KeptLaws → PostsNameTasks → ProgramImagesRun
program_images_run laws posts p deep image data_end handler_depth code entries b rows n built words word_rows =
    let low = lowered_of posts p deep image data_end handler_depth code entries built in
    let kept = kept_of laws p deep image data_end code entries low in
    runs_as_source (source_of p) image (marks_of p built.laid.places) (sizes_of p deep data_end handler_depth entries) b rows (pace_of_program p) n words word_rows
    (laid_images_are_built (source_of p) image (marks_of p built.laid.places) (sizes_of p deep data_end handler_depth entries) code entries built.laid (laid_out p deep image data_end handler_depth code entries low kept built.stands))
    (enough p deep image data_end handler_depth code entries low kept built.stands)
