-- The code of a program's image in its order, and what else is asked of where it stands (own).
use Rattle.std.specs.Prelude.{◌≡◌, ℕ, ◌+◌, ◌<◌, ◌≤◌, List, ◌∷◌, ◌++◌, length, map, replicate, Some, slice_get}
use Rattle.std.specs.List.{range_with_len}
use Rattle.nm_base.specs.declared.memory_map.TheConstants.{RAM_END, RAM_START}
use Rattle.nesc_core.specs.Plain.{Program}
use Rattle.nesc_core.specs.Weights.{objects_end}
use Rattle.core_meaning.specs.SourceOf.{handler_in}
use Rattle.msp_isa.specs.declared.code.CodeFn.{CodeFn}
use Rattle.msp_isa.specs.Image.{image_map}
use Rattle.msp_isa.specs.Stands.{items_of}
use Rattle.msp430_cpu.specs.Cpu.{even}
use Rattle.mid_code.specs.declared.code.Check.{Check}
use Rattle.lower_stmt.specs.Bodies.{lowered}
use Rattle.lower_pace.specs.Pace.{own_of}
use Rattle.code_pieces.specs.Pieces.{handler_of, reset_of}
use Rattle.msp_select.specs.Laid.{parts}
use Rattle.msp_select.specs.Select.{items_of as items_of_parts}
use Rattle.msp_select.specs.Sound.{IsDeep}
use Rattle.msp_runtime.specs.Code.{routine_items}
use Rattle.msp_runtime.specs.Routines.{code_at}
use Rattle.msp_checks.specs.Checks.{check_items}
use Rattle.msp_checks.specs.Written.{AreOfWords}
use Rattle.preempt_bodies.specs.Bodies.{stack_of}
use Rattle.program_image.specs.Image.{IsProgramImage, functions_of, homes_of, sizes_of}

abbrev pub line_of : Program → ℕ → CodeFn
line_of p v = handler_of (handler_in p.handlers v)

-- reset, and the lines 0 to 7
abbrev pub pieces_of : Program → List CodeFn
pieces_of p = reset_of p.boot ∷ map (line_of p) (range_with_len 0 8)

-- functions of bodies, routines of operations and of checks, and the pieces
abbrev pub image_code : Program → (functions routines : List CodeFn) → List CodeFn
image_code p functions routines = functions ++ (routines ++ pieces_of p)

-- the place of reset; behind it stand the lines
abbrev pub reset_place : Program → ℕ
reset_place p = functions_of p + (48 + length (lowered p).checks)

abbrev pub lines_of : Program → List ℕ
lines_of p = range_with_len (reset_place p + 1) 8

-- functions with the items that selection gives, and routines of 48 operations and of the checks of the lowered program
pub record AreFunctions (p : Program) (deep : ℕ → ℕ) (data_end : ℕ) (functions routines : List CodeFn) : Type 0 where
  pub many : length functions ≡ functions_of p
  pub items : (f : ℕ) → f < functions_of p → items_of functions f ≡ items_of_parts (parts (lowered p) (homes_of p) (own_of p) f)
  pub many_routines : length routines ≡ 48 + length (lowered p).checks
  pub operations : (h : ℕ) → h < 48 → items_of routines h ≡ routine_items (code_at h)
  pub checks : (k : ℕ) (check : Check) → slice_get (lowered p).checks k ≡ Some check → items_of routines (48 + k) ≡ check_items check
  pub of_words : AreOfWords (lowered p).checks
  pub depths : (f : ℕ) → f < functions_of p → IsDeep (lowered p) (homes_of p) (own_of p) deep f
  pub low_end : RAM_START ≤ data_end
  pub objects : objects_end p ≤ data_end

-- the same with vectors that lead to the lines, all others to reset
pub record IsOrdered (p : Program) (deep : ℕ → ℕ) (words vectors : List ℕ) (data_end handler_depth : ℕ) (functions routines : List CodeFn) (entries : ℕ → ℕ) : Type 0 where
  pub many : length functions ≡ functions_of p
  pub items : (f : ℕ) → f < functions_of p → items_of functions f ≡ items_of_parts (parts (lowered p) (homes_of p) (own_of p) f)
  pub many_routines : length routines ≡ 48 + length (lowered p).checks
  pub operations : (h : ℕ) → h < 48 → items_of routines h ≡ routine_items (code_at h)
  pub checks : (k : ℕ) (check : Check) → slice_get (lowered p).checks k ≡ Some check → items_of routines (48 + k) ≡ check_items check
  pub of_words : AreOfWords (lowered p).checks
  pub depths : (f : ℕ) → f < functions_of p → IsDeep (lowered p) (homes_of p) (own_of p) deep f
  pub least_depth : 26 ≤ handler_depth
  pub handlers : (v f : ℕ) → handler_in p.handlers v ≡ Some f → 26 + deep f ≤ handler_depth
  pub low_end : RAM_START ≤ data_end
  pub objects : objects_end p ≤ data_end
  pub even_end : even data_end ≡ data_end
  pub room : data_end + stack_of (sizes_of p deep data_end handler_depth entries) ≤ RAM_END
  pub leads : vectors ≡ map entries (lines_of p) ++ replicate 8 (entries (reset_place p))

abbrev pub OrderedCodeStands : Type 0
OrderedCodeStands =
    (p : Program) (deep : ℕ → ℕ) (words vectors : List ℕ) (data_end handler_depth : ℕ) (functions routines : List CodeFn) (entries : ℕ → ℕ) →
    IsOrdered p deep words vectors data_end handler_depth functions routines entries → IsProgramImage p deep (image_map words vectors) data_end handler_depth (image_code p functions routines) entries
