-- What stands in the image of a program with tasks: the code of its kernel's program, and behind it the loop of tasks, a lone RET, and the code of the lines (own).
use Rattle.std.specs.Prelude.{◌≡◌, ℕ, ◌+◌, ◌<◌, ◌≤◌, List, [], ◌∷◌, length, map, Some, slice_get}
use Rattle.nm_base.specs.declared.memory_map.TheConstants.{RAM_END}
use Rattle.nesc_core.specs.Plain.{Program}
use Rattle.core_meaning.specs.SourceOf.{handler_in}
use Rattle.msp_isa.specs.declared.code.CodeFn.{CodeFn}
use Rattle.msp_isa.specs.declared.code.Item.TheVariants as item
use Rattle.msp_isa.specs.Stands.{items_of, word_in}
use Rattle.msp430_cpu.specs.Cpu.{even}
use Rattle.task_queue.specs.Kernel.{kernel}
use Rattle.preempt_tasks.specs.Bodies.{Sizes, ret, stack_of}
use Rattle.preempt_tasks.specs.Laid.{loop_items}
use Rattle.program_image.specs.Image.{HasFunctions, IsLine}

-- the depths of the stack below what the loop calls and below a line, and the instructions between two actions
pub record Limits : Type 0 where
  pub base_depth : ℕ
  pub handler_depth : ℕ
  pub instructions : ℕ

-- `none` is the function that is a lone RET
abbrev pub sizes_of : Program → Limits → (data_end none : ℕ) → (entries : ℕ → ℕ) → Sizes
sizes_of p z data_end none entries = record {
  data_end = data_end;
  boot = entries p.boot;
  pop = entries (kernel p).pop;
  none = entries none;
  tasks = map entries p.tasks;
  base_depth = z.base_depth;
  handler_depth = z.handler_depth;
  bound = z.instructions;
}

-- no function's stack is deeper than `deep` says, and so none of those that the loop calls and of those of a line than the bounds say
pub record IsTaskProgramImage (p : Program) (z : Limits) (deep : ℕ → ℕ) (image : ℕ → ℕ) (data_end none : ℕ) (code : List CodeFn) (entries : ℕ → ℕ) : Type 0 where
  pub lowered_code : HasFunctions (kernel p).program deep data_end code
  pub boot_depth : deep p.boot ≤ z.base_depth
  pub pop_depth : deep (kernel p).pop ≤ z.base_depth
  pub task_depths : (k f : ℕ) → slice_get p.tasks k ≡ Some f → deep f ≤ z.base_depth
  pub least_depth : 26 ≤ z.handler_depth
  pub handlers : (v f : ℕ) → handler_in p.handlers v ≡ Some f → 26 + deep f ≤ z.handler_depth
  pub even_end : even data_end ≡ data_end
  pub room : data_end + stack_of (sizes_of p z data_end none entries) ≤ RAM_END
  pub none_is : none < length code
  pub none_items : items_of code none ≡ item.Is ret ∷ []
  pub reset : ℕ
  pub reset_is : reset < length code
  pub reset_items : items_of code reset ≡ loop_items p.boot (kernel p).pop none p.tasks
  pub vector : word_in image 0xFFFE ≡ entries reset
  pub lines : (v : ℕ) → v < 8 → IsLine (kernel p).program image code entries v
