-- What is promised of a program's image (own).
use Rattle.std.specs.Prelude.{◌≡◌, ℕ, ◌+◌, ◌-◌, ◌*◌, ◌≤◌, List, [], length, Some, slice_get}
use Rattle.nm_base.specs.declared.memory_map.TheConstants.{RAM_END}
use Rattle.mote_devices.specs.declared.state.BoardState.{BoardState}
use Rattle.mote_devices.specs.WordBoards.{AreWordRows, IsWordBoard, IsWordGiven}
use Rattle.mote_devices.specs.declared.shown.Due.{Due}
use Rattle.nesc_core.specs.Plain.{Body, Program}
use Rattle.nesc_core.specs.Calls.{HasNoCycle}
use Rattle.nesc_core.specs.Derefs.{ranges_of}
use Rattle.nesc_core.specs.Weights.{pace_of_program}
use Rattle.nesc_core.specs.WellFormed.{BeginsContext, IsWellFormed}
use Rattle.core_meaning.specs.Source.{Source}
use Rattle.core_meaning.specs.SourceOf.{handler_in, source_of}
use Rattle.msp_isa.specs.declared.code.CodeFn.{CodeFn}
use Rattle.msp_isa.specs.Stands.{IsLaid}
use Rattle.msp_layout.specs.Order.{AreInOrder}
use Rattle.mote_bus.specs.Mote.{mote}
use Rattle.lower_expr.specs.Code.{taken_at}
use Rattle.lower_stmt.specs.Bodies.{lowered}
use Rattle.lower_form.specs.Short.{IsShort}
use Rattle.lower_pace.specs.Pace.{IsMeasured, between_actions, heaviest_of, longest_of, own_of}
use Rattle.lower_pace.specs.Silent.{silent_size}
use Rattle.open_law.specs.Body.{IsOpenBody}
use Rattle.msp_select.specs.Laid.{start_of}
use Rattle.msp_select.specs.Sound.{IsSelected}
use Rattle.preempt_core.specs.Allowed.{Allowed}
use Rattle.preempt_bodies.specs.Bodies.{stack_of}
use Rattle.preempt_bodies.specs.Laid.{IsLaidLine}
use Rattle.postless_code.specs.Laws.{PostsNothing}
use Rattle.program_image.specs.Image.{HasFunctions, IsLine, IsProgramImage, homes_of, marks_of, sizes_of}

-- the code of a well-formed program without cycles of calls and without posts, which is short and measured, laid out among other code
pub record IsLoweredImage (p : Program) (deep : ℕ → ℕ) (image : ℕ → ℕ) (data_end : ℕ) (code : List CodeFn) (entries : ℕ → ℕ) : Type 0 where
  pub well : IsWellFormed p
  pub ranked : HasNoCycle p
  pub short : IsShort p
  pub measured : IsMeasured p
  pub postless : PostsNothing p
  pub laid : IsLaid image code entries
  pub order : AreInOrder code laid.places
  pub stands : HasFunctions p deep data_end code

-- such a program without tasks, and its image
pub record IsBuiltOf (p : Program) (deep : ℕ → ℕ) (image : ℕ → ℕ) (data_end handler_depth : ℕ) (code : List CodeFn) (entries : ℕ → ℕ) : Type 0 where
  pub well : IsWellFormed p
  pub ranked : HasNoCycle p
  pub short : IsShort p
  pub measured : IsMeasured p
  pub no_tasks : p.tasks ≡ []
  pub laid : IsLaid image code entries
  pub order : AreInOrder code laid.places
  pub stands : IsProgramImage p deep image data_end handler_depth code entries

-- the instructions of a routine
abbrev pub routine_bound : Program → ℕ
routine_bound p = 608 + 8 * ranges_of p

-- a function meets selection's premises, with such routines
pub record IsSelectedRoot (p : Program) (deep : ℕ → ℕ) (image : ℕ → ℕ) (data_end : ℕ) (entries : ℕ → ℕ) (places : ℕ → ℕ → ℕ) (root : ℕ) (gives : ℕ) : Type 0 where
  pub selected : IsSelected (lowered p) (homes_of p) (own_of p) deep (silent_size (lowered p) (λ i. 1) (heaviest_of p)) (heaviest_of p) (longest_of p) root gives data_end image (marks_of p places) entries
      (λ f at. places f (start_of (lowered p) (homes_of p) (own_of p) f at))
  pub help : selected.most_help ≤ routine_bound p

-- the functions of bodies without parameters do, which give as many values as their results have
abbrev pub LoweredCodeIsSelected : Type 0
LoweredCodeIsSelected =
    (p : Program) (deep : ℕ → ℕ) (image : ℕ → ℕ) (data_end : ℕ) (code : List CodeFn) (entries : ℕ → ℕ) (image_of : IsLoweredImage p deep image data_end code entries) →
    (root : ℕ) (b : Body) → slice_get p.bodies root ≡ Some b → b.params ≡ 0 → IsSelectedRoot p deep image data_end entries image_of.laid.places root (length (taken_at b.result 0))

-- their code meets the open law of what the bodies do in the source
abbrev pub RootsMeetTheirLaws : Type 0
RootsMeetTheirLaws =
    (p : Program) (deep : ℕ → ℕ) (image : ℕ → ℕ) (data_end : ℕ) (code : List CodeFn) (entries : ℕ → ℕ) (image_of : IsLoweredImage p deep image data_end code entries) →
    (root : ℕ) → BeginsContext p root → IsOpenBody image data_end (marks_of p image_of.laid.places) ((source_of p).act root) (entries root) (deep root) (between_actions p root)

-- where the functions of handlers meet the laws of what bodies of P do, with 28 instructions and 26 bytes to spare, so does the code of each line
abbrev pub LinesAreLaid : Type 0
LinesAreLaid =
    (p : Program) (deep : ℕ → ℕ) (image : ℕ → ℕ) (data_end : ℕ) (code : List CodeFn) (entries : ℕ → ℕ) (built : IsLoweredImage p deep image data_end code entries) →
    (P : Source) → ((v : ℕ) → P.handler v ≡ handler_in p.handlers v) → (boot boot_depth handler_depth bound : ℕ) → 26 ≤ handler_depth → 29 ≤ bound →
    ((v f : ℕ) → handler_in p.handlers v ≡ Some f → 26 + deep f ≤ handler_depth) →
    ((v f : ℕ) → handler_in p.handlers v ≡ Some f → IsOpenBody image data_end (marks_of p built.laid.places) (P.act f) (entries f) (deep f) (bound - 28)) →
    (v : ℕ) → IsLine p image code entries v →
    IsLaidLine P image (marks_of p built.laid.places) (record { data_end = data_end; boot = boot; boot_depth = boot_depth; handler_depth = handler_depth; bound = bound }) code entries built.laid.places v

-- On every board and every schedule of words, after every number of slots, the mote did what the program does, at its pace; and its
-- stack stays within the sum of the depths
abbrev pub ProgramImagesRun : Type 0
ProgramImagesRun =
    (p : Program) (deep : ℕ → ℕ) (image : ℕ → ℕ) (data_end handler_depth : ℕ) (code : List CodeFn) (entries : ℕ → ℕ) (b : BoardState) (rows : List Due) (n : ℕ) →
    IsBuiltOf p deep image data_end handler_depth code entries → IsWordBoard b → AreWordRows IsWordGiven rows →
    Allowed (source_of p) (pace_of_program p) b (mote image b rows) n × (RAM_END ≤ (mote image b rows n).least + stack_of (sizes_of p deep data_end handler_depth entries))
