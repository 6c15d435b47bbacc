-- The code of the loop of tasks and of the lines, laid out among the functions of a program (own).
use Rattle.std.specs.Prelude.{◌≡◌, ◌≢◌, ℕ, suc, pos, negsuc, ◌+◌, ◌<◌, ◌≤◌, false, List, [], ◌∷◌, ◌++◌, length, map, Some, None}
use Rattle.nm_base.specs.declared.memory_map.TheConstants.{RAM_END, RAM_START}
use Rattle.nm_base.specs.declared.action.Action.{Action}
use Rattle.nm_base.specs.Behaviour.{performed, play}
use Rattle.mote_devices.specs.declared.state.BoardState.{BoardState}
use Rattle.msp_isa.specs.declared.code.CodeFn.{CodeFn}
use Rattle.msp_isa.specs.declared.code.Item.{Item}
use Rattle.msp_isa.specs.declared.code.Item.TheVariants as item
use Rattle.msp_isa.specs.declared.instr.Cond.TheVariants.{Jmp, Jne}
use Rattle.msp_isa.specs.declared.instr.Instr.TheVariants.{Two, One, Jump}
use Rattle.msp_isa.specs.declared.instr.Op1.TheVariants.{Call}
use Rattle.msp_isa.specs.declared.instr.Op2.TheVariants.{Mov}
use Rattle.msp_isa.specs.declared.instr.Operand.TheVariants.{Reg, Immediate}
use Rattle.msp_isa.specs.Stands.{word_in, IsLaid, items_of}
use Rattle.msp430_cpu.specs.Cpu.{even}
use Rattle.open_law.specs.Open.{IsGated, IsShut}
use Rattle.open_law.specs.Body.{IsBodyLaw, IsFunctionLaw, StartsOpen, StartsShut}
use Rattle.code_pieces.specs.Pieces.{nop, open_gate}
use Rattle.preempt_bodies.specs.Laid.{IsLaidLine}
use Rattle.loop_runs.specs.Bodies.{Bodies, source}
use Rattle.loop_runs.specs.Loop.{LoopMove, Pops, IsLoopRun}
use Rattle.preempt_tasks.specs.Bodies.{Sizes, IsTask, IsTaskImage, close_gate, compare, fall_asleep, ret, sizes_of, stack_of}

-- for each task, by its function, three items
abbrev pub choice_items : ℕ → List ℕ → List Item
choice_items k [] = []
choice_items k (task ∷ more) = item.Is (compare k) ∷ item.Is (Jump Jne (pos 2)) ∷ item.AddrOf task 13 ∷ choice_items (suc k) more

-- the items of the function at reset: the boot function, `pop`, a function that is a lone RET, and the tasks' functions
abbrev pub loop_items : (boot pop none : ℕ) → List ℕ → List Item
loop_items boot pop none tasks =
    item.Is (Two Mov false (Immediate RAM_END) (Reg 1)) ∷ item.Is open_gate ∷ item.CallFn boot
    ∷ item.Label 0 ∷ item.Is close_gate ∷ item.Is nop ∷ item.CallFn pop
    ∷ item.Is (compare 255) ∷ item.Is (Jump Jne (pos 3)) ∷ item.Is fall_asleep ∷ item.Is (Jump Jmp (negsuc 9))
    ∷ item.AddrOf none 13
    ∷ (choice_items 0 tasks ++ (item.Is open_gate ∷ item.Is (One Call false (Reg 13)) ∷ item.Jump Jmp 0 ∷ []))

-- they are laid out, and what they call meets the law
pub record IsLaidLoop (K : Bodies) (pop : ℕ) (image : ℕ → ℕ) (marks : ℕ → List Action) (z : Sizes) (code : List CodeFn) (entries : ℕ → ℕ) (places : ℕ → ℕ → ℕ) : Type 0 where
  pub low_end : RAM_START ≤ z.data_end
  pub even_end : even z.data_end ≡ z.data_end
  pub room : z.data_end + stack_of z ≤ RAM_END
  pub some : 1 ≤ z.bound
  pub reset : ℕ
  pub boot : ℕ
  pub taker : ℕ
  pub none : ℕ
  pub tasks : List ℕ
  pub is : reset < length code
  pub items : items_of code reset ≡ loop_items boot taker none tasks
  pub vector : word_in image 0xFFFE ≡ entries reset
  pub is_none : none < length code
  pub none_items : items_of code none ≡ item.Is ret ∷ []
  pub boot_at : entries boot ≡ z.boot
  pub taker_at : entries taker ≡ z.pop
  pub none_at : entries none ≡ z.none
  pub tasks_at : map entries tasks ≡ z.tasks
  pub even_boot : even z.boot ≡ z.boot
  pub low_boot : z.boot < 0x10000
  pub boots : IsBodyLaw image z.data_end marks IsGated (λ answers n. performed (K.does K.boot n) answers) z.boot z.base_depth z.bound StartsOpen
  pub even_pop : even z.pop ≡ z.pop
  pub low_pop : z.pop < 0x10000
  pub pops : IsFunctionLaw image z.data_end marks (λ c o. IsShut o) 1 (λ answers n. play (K.does pop n) answers) z.pop z.base_depth z.bound StartsShut
  pub gives : (b : BoardState) (moves : List LoopMove) (k : ℕ) → IsLoopRun K pop b (moves ++ Pops k ∷ []) → k ≤ 255
  pub bodies : (k : ℕ) → k < length z.tasks → IsTask K image marks z k
  pub no_task : (k : ℕ) → length z.tasks ≤ k → K.task k ≡ None
  pub not_boot : K.boot ≢ pop
  pub not_task : (k : ℕ) → K.task k ≢ Some pop
  pub lines : (v : ℕ) → v < 8 → IsLaidLine (source K) image marks (sizes_of z) code entries places v

-- such an image has the loop of tasks
abbrev pub LaidLoopsAreBuilt : Type 0
LaidLoopsAreBuilt =
    (K : Bodies) (pop : ℕ) (image : ℕ → ℕ) (marks : ℕ → List Action) (z : Sizes) (code : List CodeFn) (entries : ℕ → ℕ) (laid : IsLaid image code entries) →
    IsLaidLoop K pop image marks z code entries laid.places → IsTaskImage K pop image marks z
