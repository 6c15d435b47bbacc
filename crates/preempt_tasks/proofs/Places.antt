-- Where a mote with the loop of tasks is between two slots, and where its loop run is then.
use Rattle.std.proofs.Common.{◌≡◌, ◌≢◌, ◌+◌, ◌-◌, ◌*◌, ◌<◌, ◌≤◌, ◌==◌, ℕ, Bool, true, false, cond, nat_lt, List, [], ◌∷◌, ◌++◌, length, Option, Some, None}
use Rattle.std.specs.Prelude.{⊤, replicate, slice_index, IsNone}
use Rattle.nm_base.specs.Lists.{bit}
use Rattle.nm_base.specs.declared.action.Action.{Action}
use Rattle.nm_base.specs.Behaviour.{Performed, Trace, performed, play}
use Rattle.mote_devices.specs.Board.{line_of}
use Rattle.mote_devices.specs.Outside.{Outside}
use Rattle.mote_devices.specs.WordBoards.{IsWordBoard}
use Rattle.core_meaning.specs.Source.{Source, act_of}
use Rattle.run_meaning.specs.State.{State, Context, is_inside}
use Rattle.msp_isa.specs.Stands.{word_in}
use Rattle.msp430_cpu.specs.declared.cpu.Stepped.{Stepped}
use Rattle.msp430_cpu.specs.Cpu.{Cpu, reset, even, gie, cpuoff}
use Rattle.msp430_cpu.specs.Exec.{Joined, exec}
use Rattle.msp430_cpu.specs.Memory.{Memory}
use Rattle.msp430_cpu.specs.Slots.{counts, is_idle, is_stopped, is_illegal}
use Rattle.preempt_core.specs.Law.{Bounds}
use Rattle.open_law.specs.Open.{Moment, Open, Code, IsOpenCode, IsGated, IsShut, is_within, open_all, open_start, settled}
use Rattle.open_law.specs.Body.{code_below, HasGiven, HasReturned}
use Rattle.preempt_bodies.specs.Bodies.{HasResumed, resumed_by}
use Rattle.preempt_bodies.proofs.Acting.{context_of}
use Rattle.preempt_bodies.proofs.Carry.{ops, IsCommon}
use Rattle.preempt_bodies.proofs.Running.{IsRunning}
use Rattle.preempt_bodies.proofs.Places.{effects_at, no_bounds}
use Rattle.loop_runs.specs.Bodies.{Bodies, source}
use Rattle.loop_runs.specs.Loop.{LoopState, LoopMove, Pops, IsNotPop, AreLegalLoop, after_loop_all, shown_by_loop}
use Rattle.preempt_tasks.specs.Bodies.{Sizes, IsTaskImage, stack_of}
use Rattle.preempt_tasks.specs.Steps.{cost, loop_moves, marks_of, turns_of, IsSourceBody, WaitsThrough, StaysOut, IsPromptSlot}
use Rattle.preempt_tasks.proofs.Instructions.{loop_cpu, called_cpu}

-- the image, and the program that it was made of
pub record Setting : Type 0 where
  pub K : Bodies
  pub pop : ℕ
  pub image : ℕ → ℕ
  pub marks : ℕ → List Action
  pub z : Sizes
  pub built : IsTaskImage K pop image marks z

-- a body that the loop has called: the processor at its start but for SP, and memory then; the boot body goes back to the loop, a task to the jump there
pub record Called : Type 0 where
  pub body : ℕ
  pub entry : ℕ
  pub sr : ℕ
  pub others : List ℕ
  pub gate : Bool
  pub ram : ℕ → ℕ
  pub boots : Bool

abbrev pub start_of : Called → Cpu
start_of x = called_cpu x.entry x.sr x.others x.gate

-- what the base's code is at. Behind what `pop` gave it is shown; `i` counts the tasks that it was compared with
pub data Base : Type 0 where
  Starting : Base
  Opening : Base
  Calling : Base
  InBody : (x : Called) (before since : List Moment) → Base
  InPop : (x : Called) (before since : List Moment) → Base
  AtLoop : Base
  AtPause : (gate : Bool) → Base
  AtPop : Base
  AtTest : (k : ℕ) → Base
  AtChoice : (k : ℕ) → Base
  AtSleep : Base
  Asleep : Base
  AtWake : Base
  AtNone : (k : ℕ) → Base
  AtCompare : (k i : ℕ) → Base
  AtSkip : (k i : ℕ) → Base
  AtTake : (k i : ℕ) → Base
  AtStart : (k : ℕ) → Base
  AtReturn : Base
  AtBack : Base

-- the instructions with the gate closed, outside of atomic statements: where GIE is set one, and where an atomic statement is about to begin or is open more
abbrev pub closed_at : Bool → Bool → Bool → ℕ
closed_at within gate gie = cond gate 0 (cond within 2 (cond gie 1 2))

-- a base that a handler goes back to
abbrev pub IsSuspended : Base → Type 0
IsSuspended (InBody x before since) = ⊤
IsSuspended AtLoop = ⊤
IsSuspended (AtPause gate) = gate ≡ false
IsSuspended AtWake = ⊤
IsSuspended AtReturn = ⊤
IsSuspended AtBack = ⊤
IsSuspended _ = ⊥

abbrev pub gave_at : Base → Option ℕ
gave_at (AtTest k) = Some k
gave_at (AtChoice k) = Some k
gave_at AtSleep = Some 255
gave_at Asleep = Some 255
gave_at (AtNone k) = Some k
gave_at (AtCompare k i) = Some k
gave_at (AtSkip k i) = Some k
gave_at (AtTake k i) = Some k
gave_at (AtStart k) = Some k
gave_at _ = None

-- the processor in the loop, at this address
pub record IsThere (at : ℕ) (gate gie off : Bool) (c : Cpu) : Type 0 where
  pub sr : ℕ
  pub others : List ℕ
  pub cpu : c ≡ loop_cpu at sr others gate
  pub small : sr < 0x10000
  pub twelve : length others ≡ 12
  pub regs : (i : ℕ) → slice_index others i < 0x10000
  pub gie_is : bit sr 3 ≡ gie
  pub off_is : bit sr 4 ≡ off

-- behind `pop` with the gate closed: R12 holds what it gave
pub record IsRear (at : ℕ) (gie : Bool) (k most : ℕ) (Status : ℕ → Type 0) (Registers : List ℕ → Type 0) (c : Cpu) : Type 0 where
  pub there : IsThere at false gie false c
  pub given : slice_index there.others 8 ≡ k
  pub low : k ≤ most
  pub status : Status there.sr
  pub registers : Registers there.others

-- the code of reset, with nothing on the stack
pub record IsReset (c c' : Cpu) (memory : ℕ → ℕ) : Type 0 where
  pub cpu : c ≡ c'
  pub ram : memory ≡ (λ a. 0)

module _ (S : Setting) where
  abbrev pub program : Source
  program = source S.K

  abbrev pub origin : ℕ
  origin = S.built.reset_at

  pub has_room : S.z.data_end + (2 + S.z.base_depth + 4 + S.z.handler_depth) ≤ 0x3900
  has_room = S.built.room

  pub has_data : 0x1100 ≤ S.z.data_end
  has_data = S.built.low_end

  -- how many tasks there are
  abbrev pub count : ℕ
  count = length S.z.tasks

  abbrev pub base_code : Code
  base_code = code_below S.image S.z.data_end S.marks 0x3900

  abbrev pub base_low : ℕ
  base_low = 0x38FE - S.z.base_depth

  abbrev pub trace_of : Called → List ℕ → ℕ → Trace
  trace_of x answers turns = play (S.K.does x.body turns) answers

  abbrev pub act_at : Called → List ℕ → ℕ → Performed
  act_at x answers turns = performed (S.K.does x.body turns) answers

  abbrev pub body_at : Called → List Moment → Open
  body_at x moments = open_all base_code moments (open_start (start_of x) x.ram)

  -- the law of the boot body and of tasks, and that of `pop`
  abbrev pub BodyLaw : Called → Type 0
  BodyLaw x = IsOpenCode (act_at x) base_code base_low S.z.bound (IsGated base_code) (HasReturned (act_at x) (start_of x) x.ram) (start_of x) x.ram

  abbrev pub PopLaw : Called → Type 0
  PopLaw x = IsOpenCode (act_at x) base_code base_low S.z.bound IsShut (HasGiven 1 (trace_of x) (start_of x) x.ram) (start_of x) x.ram

  abbrev pub BodyRuns : (x : Called) → BodyLaw x → List Moment → List Moment → Type 0
  BodyRuns x law before since = IsRunning (act_at x) base_code base_low S.z.bound (IsGated base_code) (HasReturned (act_at x) (start_of x) x.ram) (start_of x) x.ram law before since

  abbrev pub PopRuns : (x : Called) → PopLaw x → List Moment → List Moment → Type 0
  PopRuns x law before since = IsRunning (act_at x) base_code base_low S.z.bound IsShut (HasGiven 1 (trace_of x) (start_of x) x.ram) (start_of x) x.ram law before since

  -- where a body goes back to
  abbrev pub behind_call : Bool → ℕ
  behind_call boots = cond boots (origin + 10) (origin + (38 + 10 * count))

  pub record IsBody (x : Called) (before since : List Moment) (c : Cpu) (ram : ℕ → ℕ) : Type 0 where
    pub law : BodyLaw x
    pub runs : BodyRuns x law before since
    pub interrupted : Bool
    pub cpu : c ≡ settled interrupted (body_at x (before ++ since)).cpu
    pub stack : (a : ℕ) → c.sp ≤ a → a < 0x3900 → ram a ≡ (body_at x (before ++ since)).ram a
    pub goes_back : even (word_in x.ram 0x38FE) ≡ behind_call x.boots
    pub opened : x.gate ≡ true
    pub gie_there : bit x.sr 3 ≡ true
    pub not_pop : Some x.body ≢ Some S.pop

  pub record IsPop (x : Called) (before since : List Moment) (c : Cpu) (ram : ℕ → ℕ) : Type 0 where
    pub law : PopLaw x
    pub runs : PopRuns x law before since
    pub cpu : c ≡ (body_at x (before ++ since)).cpu
    pub stack : (a : ℕ) → c.sp ≤ a → a < 0x3900 → ram a ≡ (body_at x (before ++ since)).ram a
    pub goes_back : even (word_in x.ram 0x38FE) ≡ origin + 18
    pub closed : x.gate ≡ false
    pub gie_there : bit x.sr 3 ≡ false
    pub is_pop : x.body ≡ S.pop

  -- a lone RET in place of a task
  pub record IsReturn (c : Cpu) (ram : ℕ → ℕ) : Type 0 where
    pub sr : ℕ
    pub others : List ℕ
    pub cpu : c ≡ called_cpu S.z.none sr others true
    pub small : sr < 0x10000
    pub twelve : length others ≡ 12
    pub regs : (i : ℕ) → slice_index others i < 0x10000
    pub gie_is : bit sr 3 ≡ true
    pub off_is : bit sr 4 ≡ false
    pub goes_back : even (word_in ram 0x38FE) ≡ origin + (38 + 10 * count)

  -- what R13 holds behind i compares
  abbrev pub chosen : ℕ → ℕ → ℕ
  chosen k i = cond (nat_lt k i) (slice_index S.z.tasks k) S.z.none

  abbrev pub HasChosen : ℕ → ℕ → List ℕ → Type 0
  HasChosen k i others = (i ≤ count) × (slice_index others 9 ≡ chosen k i)

  abbrev pub IsBase : Base → Cpu → (ℕ → ℕ) → Type 0
  IsBase Starting c ram = IsReset c (reset origin) ram
  IsBase Opening c ram = IsReset c (loop_cpu (origin + 4) 0 (replicate 12 0) false) ram
  IsBase Calling c ram = IsReset c (loop_cpu (origin + 6) 8 (replicate 12 0) false) ram
  IsBase (InBody x before since) c ram = IsBody x before since c ram
  IsBase (InPop x before since) c ram = IsPop x before since c ram
  IsBase AtLoop c ram = IsThere (origin + 10) true true false c
  IsBase (AtPause gate) c ram = IsThere (origin + 12) gate false false c
  IsBase AtPop c ram = IsThere (origin + 14) false false false c
  IsBase (AtTest k) c ram = IsRear (origin + 18) false k 255 (λ sr. ⊤) (λ others. ⊤) c
  IsBase (AtChoice k) c ram = IsRear (origin + 22) false k 255 (λ sr. bit sr 1 ≡ (k == 255)) (λ others. ⊤) c
  IsBase AtSleep c ram = IsThere (origin + 24) false false false c
  IsBase Asleep c ram = IsThere (origin + 28) false true true c
  IsBase AtWake c ram = IsThere (origin + 28) true true false c
  IsBase (AtNone k) c ram = IsRear (origin + 30) false k 254 (λ sr. ⊤) (λ others. ⊤) c
  IsBase (AtCompare k i) c ram = IsRear (origin + (34 + 10 * i)) false k 254 (λ sr. ⊤) (HasChosen k i) c
  IsBase (AtSkip k i) c ram = IsRear (origin + (34 + 10 * i) + 4) false k 254 (λ sr. (i < count) × (bit sr 1 ≡ (k == i))) (HasChosen k i) c
  IsBase (AtTake k i) c ram = IsRear (origin + (34 + 10 * i) + 6) false k 254 (λ sr. (i < count) × (k ≡ i)) (HasChosen k i) c
  IsBase (AtStart k) c ram = IsRear (origin + (36 + 10 * count)) true k 254 (λ sr. ⊤) (HasChosen k count) c
  IsBase AtReturn c ram = IsReturn c ram
  IsBase AtBack c ram = IsThere (origin + (38 + 10 * count)) true true false c

  abbrev pub booting : Option Context
  booting = Some (context_of (Some S.K.boot) [])

  abbrev pub base_context : Base → Option Context
  base_context Starting = booting
  base_context Opening = booting
  base_context Calling = booting
  base_context (InBody x before since) = Some (context_of (Some x.body) (body_at x (before ++ since)).done)
  base_context (InPop x before since) = Some (context_of (Some x.body) (body_at x (before ++ since)).done)
  base_context _ = None

  -- with the gate closed, so many instructions in front of the task or of sleep
  abbrev pub rear : ℕ → Bounds
  rear left = record { left = left; effects = 0; closed = left }

  -- with the gate open
  abbrev pub ahead : ℕ → Bounds
  ahead left = record { left = left; effects = 0; closed = 0 }

  abbrev pub base_bounds : Base → Cpu → Bounds
  base_bounds Starting c = record { left = S.z.bound + 3; effects = 0; closed = 3 }
  base_bounds Opening c = record { left = S.z.bound + 2; effects = 0; closed = 2 }
  base_bounds Calling c = record { left = S.z.bound + 1; effects = 0; closed = 1 }
  base_bounds (InBody x before since) c = record { left = S.z.bound - length since; effects = effects_at (is_within (body_at x (before ++ since)).done) c.gate (gie c); closed = closed_at (is_within (body_at x (before ++ since)).done) c.gate (gie c) }
  base_bounds (InPop x before since) c = record { left = S.z.bound - length since; effects = 0; closed = 1 }
  base_bounds AtLoop c = ahead 3
  base_bounds (AtPause gate) c = record { left = 2; effects = 0; closed = cond gate 0 3 }
  base_bounds AtPop c = record { left = 1; effects = 0; closed = 2 }
  base_bounds (AtTest k) c = rear (3 * count + 5)
  base_bounds (AtChoice k) c = rear (3 * count + 4)
  base_bounds AtSleep c = rear 1
  base_bounds Asleep c = ahead 0
  base_bounds AtWake c = ahead 4
  base_bounds (AtNone k) c = rear (3 * count + 3)
  base_bounds (AtCompare k i) c = rear (3 * (count - i) + 2)
  base_bounds (AtSkip k i) c = rear (3 * (count - i) + 1)
  base_bounds (AtTake k i) c = rear (3 * (count - i))
  base_bounds (AtStart k) c = rear 1
  base_bounds AtReturn c = ahead 5
  base_bounds AtBack c = ahead 4

  abbrev pub Common : State → Memory Outside → Type 0
  Common r m = IsCommon IsWordBoard S.image S.z.data_end r m

  -- from here on `pop` gives no more than a byte
  abbrev pub Fits : LoopState → Type 0
  Fits s = (moves : List LoopMove) (k : ℕ) → AreLegalLoop S.K S.pop s (moves ++ Pops k ∷ []) → k ≤ 255

  -- the base's code runs
  pub record AtBase (s : LoopState) (j : Joined (Memory Outside)) (q : Bounds) : Type 0 where
    pub base : Base
    pub is : IsBase base j.cpu j.bus.ram
    pub context : s.run.base ≡ base_context base
    pub gave : s.gave ≡ gave_at base
    pub no_handler : s.run.handler ≡ None
    pub common : Common s.run j.bus
    pub bounds : q ≡ base_bounds base j.cpu

  abbrev pub handler_code : Cpu → Code
  handler_code c = code_below S.image S.z.data_end S.marks (c.sp + 4)

  abbrev pub HandlerLaw : ℕ → Cpu → (ℕ → ℕ) → Type 0
  HandlerLaw v c ram = IsOpenCode (act_of program (program.handler v)) (handler_code c) (c.sp - S.z.handler_depth) S.z.bound IsShut (HasResumed (act_of program (program.handler v)) c ram) c ram

  abbrev pub handler_at : Cpu → (ℕ → ℕ) → List Moment → Open
  handler_at c ram moments = open_all (handler_code c) moments (open_start c ram)

  -- a handler's code runs, over a base that will go on
  pub record AtHandler (s : LoopState) (j : Joined (Memory Outside)) (q : Bounds) : Type 0 where
    pub v : ℕ
    pub c : Cpu
    pub ram : ℕ → ℕ
    pub before : List Moment
    pub since : List Moment
    pub law : HandlerLaw v c ram
    pub runs : IsRunning (act_of program (program.handler v)) (handler_code c) (c.sp - S.z.handler_depth) S.z.bound IsShut (HasResumed (act_of program (program.handler v)) c ram) c ram law before since
    pub cpu : j.cpu ≡ (handler_at c ram (before ++ since)).cpu
    pub stack : (a : ℕ) → j.cpu.sp ≤ a → a < c.sp + 4 → j.bus.ram a ≡ (handler_at c ram (before ++ since)).ram a
    pub base : Base
    pub waits : IsSuspended base
    pub is : IsBase base (resumed_by c ram) j.bus.ram
    pub base_room : S.z.data_end + S.z.handler_depth ≤ c.sp
    pub deep : 0x3900 ≤ (c.sp - S.z.handler_depth) + stack_of S.z
    pub base_context_is : s.run.base ≡ base_context base
    pub gave : s.gave ≡ None
    pub not_pop : IsNotPop S.K S.pop s.run.base
    pub handler : s.run.handler ≡ Some (context_of (program.handler v) (handler_at c ram (before ++ since)).done)
    pub common : Common s.run j.bus
    pub bounds : q ≡ record { left = S.z.bound - length since; effects = 0; closed = 0 }

  pub data At (s : LoopState) (j : Joined (Memory Outside)) (q : Bounds) : Type 0 where
    OnBase : AtBase s j q → At s j q
    OnHandler : AtHandler s j q → At s j q

  -- one step of the mote, as loop moves
  pub record Outcome (s : LoopState) (j : Joined (Memory Outside)) (q : Bounds) : Type 0 where
    pub moves : List LoopMove
    pub next : Joined (Memory Outside)
    pub stepped : Stepped
    pub later : Bounds
    pub exec_is : exec ops j ≡ record { after = next; stepped = stepped }
    pub legal : AreLegalLoop S.K S.pop s moves
    pub shown : next.bus.ports.shown ≡ j.bus.ports.shown ++ shown_by_loop S.K S.pop s moves
    pub single : loop_moves moves ≤ 1
    pub goes : is_stopped stepped ≡ false → At (after_loop_all S.K S.pop s moves) next later
    pub halts : is_stopped stepped ≡ true → (is_illegal stepped ≡ false) × (cpuoff next.cpu ≡ false) × (later ≡ no_bounds)
    pub idle : is_idle stepped ≡ true → line_of (after_loop_all S.K S.pop s moves).run.board ≡ None
    pub deep : 0x3900 ≤ next.cpu.sp + stack_of S.z
    pub spent : counts stepped + later.left ≤ q.left + cost S.z moves
    pub few : IsNotPop S.K S.pop s.run.base → IsPromptSlot S.K S.pop s moves q.effects later.effects
    pub prompt : IsNotPop S.K S.pop s.run.base → (v : ℕ) → WaitsThrough S.K S.pop v s moves → StaysOut S.K S.pop s moves → counts stepped + later.closed ≤ q.closed
    pub no_line : (v : ℕ) → WaitsThrough S.K S.pop v s moves → q.closed ≡ 0 → ⊥
    pub marks : marks_of moves ≤ 1
    pub turns : 1 ≤ turns_of moves → later.closed ≡ 0
    pub soon : IsSourceBody S.pop s.run.base → IsNone s.run.handler → q.closed ≡ 1 → later.closed ≡ 0
    pub settles : IsSourceBody S.pop s.run.base → IsNone s.run.handler → 1 ≤ cost S.z moves → is_inside (after_loop_all S.K S.pop s moves).run.base ≡ false → later.closed ≤ 1
    pub apart : (IsNotPop S.K S.pop s.run.base → ⊥) → (later.effects ≡ 0) × (turns_of moves ≡ 0)
