-- An image with the loop of tasks: bodies that meet the open law, and round them the code that starts one task after another and sleeps where there is none (own; after TEP 106: the scheduler takes one task after another).
use Rattle.std.specs.Prelude.{[], ◌∷◌, ◌++◌, ◌≡◌, ◌≢◌, ℕ, suc, pos, negsuc, ◌+◌, ◌*◌, ◌<◌, ◌≤◌, false, Bool, List, length, slice_index, Some, None}
use Rattle.nm_base.specs.declared.memory_map.TheConstants.{RAM_END, RAM_START}
use Rattle.nm_base.specs.declared.action.Action.{Action}
use Rattle.nm_base.specs.Behaviour.{performed, play}
use Rattle.mote_devices.specs.declared.state.BoardState.{BoardState}
use Rattle.msp_isa.specs.declared.code.Item.TheVariants as item
use Rattle.msp_isa.specs.declared.instr.Cond.TheVariants.{Jmp, Jne}
use Rattle.msp_isa.specs.declared.instr.Instr.{Instr}
use Rattle.msp_isa.specs.declared.instr.Instr.TheVariants.{Two, One, Jump}
use Rattle.msp_isa.specs.declared.instr.Op1.TheVariants.{Call}
use Rattle.msp_isa.specs.declared.instr.Op2.TheVariants.{Bic, Bis, Cmp, Mov}
use Rattle.msp_isa.specs.declared.instr.Operand.TheVariants.{Reg, Immediate, Constant, Increment}
use Rattle.msp_isa.specs.Stands.{word_in, instructions, IsAt, AreAt}
use Rattle.msp430_cpu.specs.Cpu.{even}
use Rattle.open_law.specs.Open.{IsGated, IsShut}
use Rattle.open_law.specs.Body.{IsBodyLaw, IsFunctionLaw, StartsOpen, StartsShut}
use Rattle.code_pieces.specs.Pieces.{nop, open_gate}
use Rattle.preempt_bodies.specs.Bodies.{IsVector, call}
use Rattle.preempt_bodies.specs.Bodies as bodies
use Rattle.loop_runs.specs.Bodies.{Bodies, source}
use Rattle.loop_runs.specs.Loop.{LoopMove, Pops, IsLoopRun}

-- the numbers of an image: the end of the data; the addresses of the boot body, of the function that takes a task, of a lone RET and of each task's body, by the
-- task's place; the deepest stack of these, and of a handler's code; and the instructions between two actions
pub record Sizes : Type 0 where
  pub data_end : ℕ
  pub boot : ℕ
  pub pop : ℕ
  pub none : ℕ
  pub tasks : List ℕ
  pub base_depth : ℕ
  pub handler_depth : ℕ
  pub bound : ℕ

-- those of the handlers' code alone
abbrev pub sizes_of : Sizes → bodies.Sizes
sizes_of z = record { data_end = z.data_end; boot = z.boot; boot_depth = z.base_depth; handler_depth = z.handler_depth; bound = z.bound }

-- the bytes of the stack: a body's return address and frames, an acceptance, and a handler's code
abbrev pub stack_of : Sizes → ℕ
stack_of z = 2 + z.base_depth + 4 + z.handler_depth

-- ---- the code

abbrev pub close_gate : Instr
close_gate = Two Bic false (Constant 8) (Reg 2)

-- what is to be started is in R12, as `pop` gives it; its address comes to R13
abbrev pub compare : ℕ → Instr
compare k = Two Cmp false (Immediate k) (Reg 12)

abbrev pub take : ℕ → Instr
take address = Two Mov false (Immediate address) (Reg 13)

abbrev pub fall_asleep : Instr
fall_asleep = Two Bis false (Immediate 0x18) (Reg 2)

abbrev pub ret : Instr
ret = Two Mov false (Increment 1) (Reg 0)

-- each task's address is taken where its place was given
abbrev pub choices : ℕ → List ℕ → List Instr
choices k [] = []
choices k (address ∷ more) = compare k ∷ Jump Jne (pos 2) ∷ take address ∷ choices (suc k) more

-- the jump back to the loop, in the short or in the longer form
abbrev pub back_to_loop : (start : ℕ) → Bool → (tasks : ℕ) → List Instr
back_to_loop start long tasks = instructions (λ f. f) long (start + (38 + 10 * tasks)) (start + 10) (item.Jump Jmp 0)

-- From reset on: SP is set, GIE is set, the boot body is called. Then, in a loop: with the gate closed `pop` gives the place of a task, or 255, where the
-- processor sleeps until a handler has run; the task there is called with the gate open, or a lone RET where there is none at this place
abbrev pub loop_code : (start : ℕ) → Bool → Sizes → List Instr
loop_code start long z =
    Two Mov false (Immediate RAM_END) (Reg 1) ∷ open_gate ∷ call z.boot
    ∷ close_gate ∷ nop ∷ call z.pop
    ∷ compare 255 ∷ Jump Jne (pos 3) ∷ fall_asleep ∷ Jump Jmp (negsuc 9)
    ∷ take z.none
    ∷ (choices 0 z.tasks ++ (open_gate ∷ One Call false (Reg 13) ∷ back_to_loop start long (length z.tasks)))

-- ---- the image

-- the task at a place has a body, whose code meets the law
pub record IsTask (K : Bodies) (image : ℕ → ℕ) (marks : ℕ → List Action) (z : Sizes) (k : ℕ) : Type 0 where
  pub body : ℕ
  pub is : K.task k ≡ Some body
  pub even_start : even (slice_index z.tasks k) ≡ slice_index z.tasks k
  pub low_start : slice_index z.tasks k < 0x10000
  pub law : IsBodyLaw image z.data_end marks IsGated (λ answers n. performed (K.does body n) answers) (slice_index z.tasks k) z.base_depth z.bound StartsOpen

-- the image of a program with tasks, whose function `pop` takes one
pub record IsTaskImage (K : Bodies) (pop : ℕ) (image : ℕ → ℕ) (marks : ℕ → List Action) (z : Sizes) : Type 0 where
  pub low_end : RAM_START ≤ z.data_end
  pub even_end : even z.data_end ≡ z.data_end
  pub room : z.data_end + stack_of z ≤ RAM_END
  pub some : 1 ≤ z.bound
  pub reset_at : ℕ
  pub reset_end : ℕ
  pub long : Bool
  pub vector : word_in image 0xFFFE ≡ reset_at
  pub reset : AreAt image reset_at (loop_code reset_at long z) reset_end
  pub even_boot : even z.boot ≡ z.boot
  pub low_boot : z.boot < 0x10000
  pub boots : IsBodyLaw image z.data_end marks IsGated (λ answers n. performed (K.does K.boot n) answers) z.boot z.base_depth z.bound StartsOpen
  pub even_pop : even z.pop ≡ z.pop
  pub low_pop : z.pop < 0x10000
  pub pops : IsFunctionLaw image z.data_end marks (λ code o. IsShut o) 1 (λ answers n. play (K.does pop n) answers) z.pop z.base_depth z.bound StartsShut
  -- in no loop run `pop` gives more than a byte
  pub gives : (b : BoardState) (moves : List LoopMove) (k : ℕ) → IsLoopRun K pop b (moves ++ Pops k ∷ []) → k ≤ 255
  pub tasks : (k : ℕ) → k < length z.tasks → IsTask K image marks z k
  pub no_task : (k : ℕ) → length z.tasks ≤ k → K.task k ≡ None
  pub lone : IsAt image z.none ret
  pub not_boot : K.boot ≢ pop
  pub not_task : (k : ℕ) → K.task k ≢ Some pop
  pub handlers : (v : ℕ) → v < 8 → IsVector (source K) image marks (sizes_of z) v
