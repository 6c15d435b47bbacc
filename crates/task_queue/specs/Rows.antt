-- Worked examples: a kernel of three tasks, whose bytes were gone through by hand (own).
use Rattle.std.specs.Prelude.{◌≡◌, ℕ, ℤ, pos, ◌-◌, false, List, [], ◌∷◌, slice_index, slice_set, Option, Some, None, slice_get, ◌+◌}
use Rattle.nm_base.specs.declared.action.Action.{Action}
use Rattle.nm_base.specs.declared.action.Action.TheVariants.{Load, Store, Begin, End, Tick}
use Rattle.nm_base.specs.declared.int_type.IntType.TheVariants.{U8, U16}
use Rattle.nm_base.specs.Behaviour.{Behaviour, Returns, Does, Asks, Faults, Cut, performed}
use Rattle.nesc_core.specs.Plain.{void, int, no_stmts, eval, block, atomic, post, Body, Program}
use Rattle.nesc_core.specs.Weights.{frame_weight, objects_end}
use Rattle.core_meaning.specs.Numbers.{residue}
use Rattle.core_meaning.specs.Act.{calls_of, root}
use Rattle.core_meaning.specs.Rows.{function, variable}
use Rattle.task_queue.specs.Kernel.{Kernel, kernel}

-- boot { atomic post 1; } and the tasks; boot is body 0, task k is body k + 1, and body 4 posts task 0
abbrev pub three : Program
three = record {
  structs = [];
  objects = variable (int U16) 0x1100 false ∷ variable (int U8) 0x1102 false ∷ [];
  bodies = function [] void (atomic (eval (post 1)) ∷ []) ∷ function [] void [] ∷ function [] void [] ∷ function [] void [] ∷ function [] void (eval (post 0) ∷ []) ∷ [];
  tasks = 1 ∷ 2 ∷ 3 ∷ [];
  handlers = [];
  boot = 0;
  warnings = [];
}

-- a program without tasks
abbrev pub taskless : Program
taskless = record {
  structs = [];
  objects = [];
  bodies = function [] void (atomic (block no_stmts) ∷ []) ∷ [];
  tasks = [];
  handlers = [];
  boot = 0;
  warnings = [];
}

-- the bytes from an address on, when these were there, and the value that is given back
abbrev pub played : (address : ℕ) → Behaviour → List ℕ → List ℕ × ℕ
played address (Returns v) = λ bytes. (bytes, v)
played address (Does (Store x wide v) rest) = λ bytes. played address rest (slice_set bytes (x - address) v)
played address (Does a rest) = λ bytes. played address rest bytes
played address (Asks a rest) = λ bytes. played address (rest (slice_index bytes (address_in a - address))) bytes
  where
    address_in : Action → ℕ
    address_in (Load x wide) = x
    address_in _ = 0
played address (Faults code) = λ bytes. ([], code)
played address Cut = λ bytes. ([], 256)

abbrev pub called : Kernel → ℕ → List ℤ → List ℕ → List ℕ × ℕ
called k f arguments bytes = played 0x1104 (calls_of k.program 3 9 f arguments (λ v. Returns (residue 32 v))) bytes

abbrev pub queued : ℕ → List ℕ → List ℕ × ℕ
queued task = called (kernel three) (kernel three).queue (pos task ∷ [])

abbrev pub popped : List ℕ → List ℕ × ℕ
popped = called (kernel three) (kernel three).pop []

abbrev pub actions_of_three : ℕ → List ℕ → List Action
actions_of_three f answers = (performed (root (kernel three).program f 9) answers).actions

abbrev pub weight_of : Program → Option Body → ℕ
weight_of p None = 0
weight_of p (Some b) = frame_weight p b

abbrev pub frame_of : Program → ℕ → ℕ
frame_of p f = weight_of p (slice_get p.bodies f)

pub record WorkedRows : Type 0 where
  pub numbers_row : ((kernel three).queue ≡ 5) × ((kernel three).pop ≡ 6)
  -- the list is empty at first
  pub to_empty : queued 1 (0 ∷ 0 ∷ 0 ∷ 0 ∷ 0 ∷ []) ≡ (2 ∷ 2 ∷ 0 ∷ 0 ∷ 0 ∷ [], 0)
  -- the only one, the first, one in the middle and the last wait already
  pub twice : queued 1 (2 ∷ 2 ∷ 0 ∷ 0 ∷ 0 ∷ []) ≡ (2 ∷ 2 ∷ 0 ∷ 0 ∷ 0 ∷ [], 5)
  pub second : queued 0 (2 ∷ 2 ∷ 0 ∷ 0 ∷ 0 ∷ []) ≡ (2 ∷ 1 ∷ 0 ∷ 1 ∷ 0 ∷ [], 0)
  pub third : queued 2 (2 ∷ 1 ∷ 0 ∷ 1 ∷ 0 ∷ []) ≡ (2 ∷ 3 ∷ 3 ∷ 1 ∷ 0 ∷ [], 0)
  pub first_waits : queued 1 (2 ∷ 3 ∷ 3 ∷ 1 ∷ 0 ∷ []) ≡ (2 ∷ 3 ∷ 3 ∷ 1 ∷ 0 ∷ [], 5)
  pub middle_waits : queued 0 (2 ∷ 3 ∷ 3 ∷ 1 ∷ 0 ∷ []) ≡ (2 ∷ 3 ∷ 3 ∷ 1 ∷ 0 ∷ [], 5)
  pub last_waits : queued 2 (2 ∷ 3 ∷ 3 ∷ 1 ∷ 0 ∷ []) ≡ (2 ∷ 3 ∷ 3 ∷ 1 ∷ 0 ∷ [], 5)
  -- taken in the same order
  pub first_taken : popped (2 ∷ 3 ∷ 3 ∷ 1 ∷ 0 ∷ []) ≡ (1 ∷ 3 ∷ 3 ∷ 0 ∷ 0 ∷ [], 1)
  pub second_taken : popped (1 ∷ 3 ∷ 3 ∷ 0 ∷ 0 ∷ []) ≡ (3 ∷ 3 ∷ 0 ∷ 0 ∷ 0 ∷ [], 0)
  pub last_taken : popped (3 ∷ 3 ∷ 0 ∷ 0 ∷ 0 ∷ []) ≡ (0 ∷ 0 ∷ 0 ∷ 0 ∷ 0 ∷ [], 2)
  pub none_taken : popped (0 ∷ 0 ∷ 0 ∷ 0 ∷ 0 ∷ []) ≡ (0 ∷ 0 ∷ 0 ∷ 0 ∷ 0 ∷ [], 255)
  -- the boot function does what it did: a post, whose answer is not looked at
  pub boots : played 0x1104 (root (kernel three).program 0 1) (0 ∷ 0 ∷ 0 ∷ 0 ∷ 0 ∷ []) ≡ (2 ∷ 2 ∷ 0 ∷ 0 ∷ 0 ∷ [], 0)
  -- a post is one atomic statement of at most four accesses, with the ticks of a call around it
  pub posted : actions_of_three 4 (0 ∷ 0 ∷ []) ≡ Tick ∷ Begin ∷ Load 0x1105 false ∷ Load 0x1106 false ∷ Store 0x1104 false 1 ∷ Store 0x1105 false 1 ∷ End ∷ Tick ∷ []
  pub posted_again : actions_of_three 4 (1 ∷ 0 ∷ []) ≡ Tick ∷ Begin ∷ Load 0x1105 false ∷ Load 0x1106 false ∷ End ∷ Tick ∷ []
  -- without tasks the list stays empty
  pub taskless_boots : played 0x1100 (root (kernel taskless).program 0 1) (0 ∷ 0 ∷ []) ≡ (0 ∷ 0 ∷ [], 0)
  -- what frames and data take
  pub queue_frame : frame_of (kernel three).program 5 ≡ 86
  pub pop_frame : frame_of (kernel three).program 6 ≡ 82
  pub boot_frame : frame_of (kernel three).program 0 ≡ frame_of three 0 + 4
  pub data_end : objects_end (kernel three).program ≡ 0x1109
