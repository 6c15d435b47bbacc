-- The code of the image of a program with tasks in its order, and what else is asked of where it stands (own).
use Rattle.std.specs.Prelude.{◌≡◌, ℕ, ◌+◌, ◌≤◌, List, [], ◌∷◌, ◌++◌, map, replicate, Some, slice_get}
use Rattle.std.specs.List.{range_with_len}
use Rattle.nm_base.specs.declared.memory_map.TheConstants.{RAM_END}
use Rattle.nesc_core.specs.Plain.{Program}
use Rattle.core_meaning.specs.SourceOf.{handler_in}
use Rattle.task_queue.specs.Kernel.{kernel}
use Rattle.msp_isa.specs.declared.code.CodeFn.{CodeFn}
use Rattle.msp_isa.specs.declared.code.Item.TheVariants as item
use Rattle.msp_isa.specs.Image.{image_map}
use Rattle.msp430_cpu.specs.Cpu.{even}
use Rattle.code_pieces.specs.Pieces.{whole}
use Rattle.preempt_tasks.specs.Bodies.{ret, stack_of}
use Rattle.task_pieces.specs.Loop.{loop_of}
use Rattle.program_image.specs.Order.{AreFunctions, line_of, reset_place}
use Rattle.task_image.specs.Image.{IsTaskProgramImage, Limits, sizes_of}

-- a function that is a lone RET
abbrev pub lone : CodeFn
lone = whole 0 [] (item.Is ret ∷ [])

-- its place behind the routines, and that of reset; behind reset stand the lines
abbrev pub lone_place : Program → ℕ
lone_place p = reset_place (kernel p).program

abbrev pub loop_place : Program → ℕ
loop_place p = lone_place p + 1

abbrev pub lines_of : Program → List ℕ
lines_of p = range_with_len (loop_place p + 1) 8

-- a lone RET, the loop of tasks, and the lines 0 to 7
abbrev pub pieces_of : Program → List CodeFn
pieces_of p = lone ∷ loop_of p.boot (kernel p).pop (lone_place p) p.tasks ∷ map (line_of (kernel p).program) (range_with_len 0 8)

-- functions of the kernel's bodies, routines of operations and of its checks, and the pieces
abbrev pub task_image_code : Program → (functions routines : List CodeFn) → List CodeFn
task_image_code p functions routines = functions ++ (routines ++ pieces_of p)

-- functions and routines of the kernel's program, and vectors that lead to the lines, all others to reset
pub record IsOrdered (p : Program) (z : Limits) (deep : ℕ → ℕ) (words vectors : List ℕ) (data_end : ℕ) (functions routines : List CodeFn) (entries : ℕ → ℕ) : Type 0 where
  pub lowered_code : AreFunctions (kernel p).program deep data_end functions routines
  pub boot_depth : deep p.boot ≤ z.base_depth
  pub pop_depth : deep (kernel p).pop ≤ z.base_depth
  pub task_depths : (k f : ℕ) → slice_get p.tasks k ≡ Some f → deep f ≤ z.base_depth
  pub least_depth : 26 ≤ z.handler_depth
  pub handlers : (v f : ℕ) → handler_in p.handlers v ≡ Some f → 26 + deep f ≤ z.handler_depth
  pub even_end : even data_end ≡ data_end
  pub room : data_end + stack_of (sizes_of p z data_end (lone_place p) entries) ≤ RAM_END
  pub leads : vectors ≡ map entries (lines_of p) ++ replicate 8 (entries (loop_place p))

abbrev pub TaskCodeStands : Type 0
TaskCodeStands =
    (p : Program) (z : Limits) (deep : ℕ → ℕ) (words vectors : List ℕ) (data_end : ℕ) (functions routines : List CodeFn) (entries : ℕ → ℕ) →
    IsOrdered p z deep words vectors data_end functions routines entries →
    IsTaskProgramImage p z deep (image_map words vectors) data_end (lone_place p) (task_image_code p functions routines) entries
