-- What stands in a program's image, in order: the functions of its bodies, the routines of 48 operations and of its checks, and behind
-- them the code of reset and of the lines (own).
use Rattle.std.specs.Prelude.{◌≡◌, ℕ, ◌+◌, ◌*◌, ◌/◌, ◌<◌, ◌≤◌, List, length, Some, slice_get}
use Rattle.nm_base.specs.declared.memory_map.TheConstants.{RAM_END, RAM_START, VECTORS}
use Rattle.nm_base.specs.declared.action.Action.{Action}
use Rattle.nesc_core.specs.Plain.{Program}
use Rattle.nesc_core.specs.Weights.{objects_end, pace_of_program}
use Rattle.core_meaning.specs.SourceOf.{handler_in}
use Rattle.msp_isa.specs.declared.code.CodeFn.{CodeFn}
use Rattle.msp_isa.specs.Stands.{items_of, word_in}
use Rattle.msp430_cpu.specs.Cpu.{even}
use Rattle.mid_code.specs.declared.code.Check.{Check}
use Rattle.mid_code.specs.Machine.{fn_of}
use Rattle.lower_stmt.specs.Bodies.{lowered}
use Rattle.lower_pace.specs.Pace.{own_of}
use Rattle.open_law.specs.Homes.{Home}
use Rattle.code_pieces.specs.Pieces.{handler_of, reset_of}
use Rattle.msp_select.specs.Frames.{frame_home}
use Rattle.msp_select.specs.Laid.{parts}
use Rattle.msp_select.specs.Select.{items_of as items_of_parts}
use Rattle.msp_select.specs.Sound.{IsDeep}
use Rattle.msp_runtime.specs.Code.{routine_items}
use Rattle.msp_runtime.specs.Routines.{code_at}
use Rattle.msp_checks.specs.Checks.{check_items}
use Rattle.msp_checks.specs.Written.{AreOfWords}
use Rattle.preempt_bodies.specs.Bodies.{Sizes, stack_of}
use Rattle.compiled_image.specs.Table.{table_of}

-- all values lie on the stack
abbrev pub homes_of : Program → ℕ → ℕ → Home
homes_of p f = frame_home (fn_of (lowered p) f)

-- the silent actions of functions at these places
abbrev pub marks_of : Program → (places : ℕ → ℕ → ℕ) → ℕ → List Action
marks_of p places = table_of (lowered p) (homes_of p) (own_of p) places

abbrev pub functions_of : Program → ℕ
functions_of p = length (lowered p).fns

-- actions come in half of the program's pace
abbrev pub sizes_of : Program → (deep : ℕ → ℕ) → (data_end handler_depth : ℕ) → (entries : ℕ → ℕ) → Sizes
sizes_of p deep data_end handler_depth entries = record { data_end = data_end; boot = entries p.boot; boot_depth = deep p.boot; handler_depth = handler_depth; bound = pace_of_program p / 2 }

-- line v has a function of its own, behind those of bodies, which calls its handler
pub record IsLine (p : Program) (image : ℕ → ℕ) (code : List CodeFn) (entries : ℕ → ℕ) (v : ℕ) : Type 0 where
  pub f : ℕ
  pub is : f < length code
  pub behind : functions_of p ≤ f
  pub items : items_of code f ≡ (handler_of (handler_in p.handlers v)).items
  pub vector : word_in image (VECTORS + 2 * v) ≡ entries f

-- the functions of bodies and the routines stand in order, and no function's stack is deeper than `deep` says
pub record HasFunctions (p : Program) (deep : ℕ → ℕ) (data_end : ℕ) (code : List CodeFn) : Type 0 where
  pub functions : (f : ℕ) → f < functions_of p → items_of code f ≡ items_of_parts (parts (lowered p) (homes_of p) (own_of p) f)
  pub operations : (h : ℕ) → h < 48 → items_of code (functions_of p + h) ≡ routine_items (code_at h)
  pub checks : (k : ℕ) (check : Check) → slice_get (lowered p).checks k ≡ Some check → items_of code (functions_of p + (48 + k)) ≡ check_items check
  pub of_words : AreOfWords (lowered p).checks
  pub many : functions_of p + (48 + length (lowered p).checks) ≤ length code
  pub depths : (f : ℕ) → f < functions_of p → IsDeep (lowered p) (homes_of p) (own_of p) deep f
  pub low_end : RAM_START ≤ data_end
  pub objects : objects_end p ≤ data_end

-- and no stack of a line is deeper than `handler_depth`
pub record IsProgramImage (p : Program) (deep : ℕ → ℕ) (image : ℕ → ℕ) (data_end handler_depth : ℕ) (code : List CodeFn) (entries : ℕ → ℕ) : Type 0 where
  pub lowered_code : HasFunctions p deep data_end code
  pub least_depth : 26 ≤ handler_depth
  pub handlers : (v f : ℕ) → handler_in p.handlers v ≡ Some f → 26 + deep f ≤ handler_depth
  pub even_end : even data_end ≡ data_end
  pub room : data_end + stack_of (sizes_of p deep data_end handler_depth entries) ≤ RAM_END
  pub reset : ℕ
  pub reset_is : reset < length code
  pub reset_items : items_of code reset ≡ (reset_of p.boot).items
  pub vector : word_in image 0xFFFE ≡ entries reset
  pub lines : (v : ℕ) → v < 8 → IsLine p image code entries v
