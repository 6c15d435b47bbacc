-- Where a mote with built bodies is between two slots, and where its run is then.
use Rattle.std.proofs.Common.{◌≡◌, ℕ, suc, zero, ◌+◌, ◌-◌, ◌*◌, ◌/◌, ◌%◌, ◌<◌, ◌≤◌, ◌==◌, Bool, true, false, cond, List, [], ◌++◌, length, Option, Some, None, refl, ap, ◌∙◌, arith}
use Rattle.std.specs.Prelude.{replicate, slice_index}
use Rattle.nm_base.specs.declared.action.Action.{Action}
use Rattle.mote_devices.specs.declared.state.BoardState.{BoardState}
use Rattle.mote_devices.specs.declared.shown.Given.{Given}
use Rattle.mote_devices.specs.Board.{line_of}
use Rattle.mote_devices.specs.Outside.{Outside}
use Rattle.core_meaning.specs.Source.{Source, act_of}
use Rattle.run_meaning.specs.declared.Move.{Move}
use Rattle.run_meaning.specs.State.{State, Context}
use Rattle.run_meaning.specs.Runs.{AreLegal, after_all, shown_by}
use Rattle.run_meaning.specs.Steps.{Waits, StaysOutside}
use Rattle.msp_isa.specs.Stands.{word_in}
use Rattle.msp430_cpu.specs.declared.cpu.Stepped.{Stepped}
use Rattle.msp430_cpu.specs.Cpu.{Cpu, reset, even, gie, cpuoff}
use Rattle.msp430_cpu.specs.Exec.{Joined, exec}
use Rattle.msp430_cpu.specs.Memory.{Memory, with_word_at}
use Rattle.msp430_cpu.specs.Slots.{counts, is_idle, is_stopped, is_illegal}
use Rattle.preempt_core.specs.Law.{Bounds, IsPrompt}
use Rattle.open_law.specs.Open.{Moment, Open, Code, HoldsWords, IsOpenCode, IsGated, IsShut, is_within, open_all, open_start, settled}
use Rattle.preempt_bodies.specs.Boards.{AnswersWords}
use Rattle.open_law.specs.Body.{code_below, HasReturned}
use Rattle.preempt_bodies.specs.Bodies.{Sizes, HasResumed, resumed_by, stack_of}
use Rattle.preempt_bodies.proofs.Words.{IsSpelled}
use Rattle.preempt_bodies.proofs.Acting.{context_of}
use Rattle.preempt_bodies.proofs.Carry.{ops, IsCommon}
use Rattle.preempt_bodies.proofs.Running.{IsRunning}

-- the base effects that a waiting line may still see
abbrev pub effects_at : Bool → Bool → Bool → ℕ
effects_at within gate gie = cond within 3 (cond gate 0 (cond gie 1 3))

-- what the base's code is at
pub data Base : Type 0 where
  Starting : Base
  Opening : Base
  Calling : Base
  InBody : (before since : List Moment) → Base
  AtLoop : Base
  Asleep : Base
  AtJump : Base

-- a base that a handler goes back to
abbrev pub IsSuspended : Base → Type 0
IsSuspended (InBody before since) = Unit {0}
IsSuspended AtLoop = Unit {0}
IsSuspended AtJump = Unit {0}
IsSuspended _ = ⊥

abbrev pub no_bounds : Bounds
no_bounds = record { left = 0; effects = 0; closed = 0 }

module _ (P : Source) (image : ℕ → ℕ) (marks : ℕ → List Action) (z : Sizes) (built : IsSpelled P image marks z) (Sound : BoardState → Type 0) (IsWord : Given → Type 0) (sound : AnswersWords Sound IsWord) (pace : ℕ) (wide : z.bound + 3 ≤ pace) where
  abbrev pub boot_code : Code
  boot_code = code_below image z.data_end marks 0x3900

  -- where the boot body begins
  abbrev pub boot_cpu : Cpu
  boot_cpu = record { pc = z.boot; sp = 0x38FE; sr = 8; others = replicate 12 0; gate = true }

  abbrev pub boot_ram : ℕ → ℕ
  boot_ram = with_word_at (λ a. 0) 0x38FE (built.reset_at + 10)

  abbrev pub boot_low : ℕ
  boot_low = 0x38FE - z.boot_depth

  abbrev pub BootLaw : Type 0
  BootLaw = IsOpenCode (P.act P.boot) boot_code boot_low z.bound (IsGated boot_code) (HasReturned (P.act P.boot) boot_cpu boot_ram) boot_cpu boot_ram

  abbrev pub boot_at : List Moment → Open
  boot_at moments = open_all boot_code moments (open_start boot_cpu boot_ram)

  small_boot : (a : ℕ) → boot_ram a < 0x100
  small_boot a = by_tests (a == 0x38FF) (a == 0x38FE)
    where
      by_tests : (s t : Bool) → cond s ((built.reset_at + 10) / 256 % 256) (cond t ((built.reset_at + 10) % 256) 0) < 0x100
      by_tests true t = omega arith
      by_tests false true = omega arith
      by_tests false false = omega arith

  -- the boot body goes back to the loop
  pub boot_back : even (word_in boot_ram 0x38FE) ≡ built.reset_at + 10
  boot_back =
      let h = built.high_reset in
      let e = built.even_reset in
      let word : (built.reset_at + 10) % 256 + 256 * ((built.reset_at + 10) / 256 % 256) ≡ built.reset_at + 10 = omega (arith, h) in
      ap even word ∙ omega (arith, e)

  zero_at : (n i : ℕ) → slice_index (replicate n 0) i ≡ 0
  zero_at zero i = refl
  zero_at (suc n) zero = refl
  zero_at (suc n) (suc i) = zero_at n i

  all_small : (i : ℕ) → slice_index (replicate 12 0) i < 0x10000
  all_small i = let e = zero_at 12 i in omega (arith, e)

  pub boot_law : BootLaw
  boot_law =
      let words : HoldsWords boot_cpu = record { pc = built.low_boot; even_pc = built.even_boot; even_sp = refl; sr = omega arith; twelve = refl; others = all_small } in
      let r = built.room in
      built.body boot_cpu boot_ram refl (refl, refl) refl words (omega (arith, r)) (omega arith) small_boot

  abbrev pub BootRuns : List Moment → List Moment → Type 0
  BootRuns before since = IsRunning (P.act P.boot) boot_code boot_low z.bound (IsGated boot_code) (HasReturned (P.act P.boot) boot_cpu boot_ram) boot_cpu boot_ram boot_law before since

  pub record IsBody (before since : List Moment) (c : Cpu) (ram : ℕ → ℕ) : Type 0 where
    pub interrupted : Bool
    pub runs : BootRuns before since
    pub cpu : c ≡ settled interrupted (boot_at (before ++ since)).cpu
    pub stack : (a : ℕ) → c.sp ≤ a → a < 0x3900 → ram a ≡ (boot_at (before ++ since)).ram a

  -- the code of reset, with nothing on the stack
  pub record IsReset (c c' : Cpu) (memory : ℕ → ℕ) : Type 0 where
    pub cpu : c ≡ c'
    pub ram : memory ≡ (λ a. 0)

  pub record IsLoop (c : Cpu) (address : ℕ) (asleep : Bool) : Type 0 where
    pub pc : c.pc ≡ address
    pub sp : c.sp ≡ 0x3900
    pub off : cpuoff c ≡ asleep
    pub words : HoldsWords c

  -- and where it has opened the gate
  pub record IsLoopOpen (c : Cpu) (asleep : Bool) : Type 0 where
    pub loop : IsLoop c (built.reset_at + 14) asleep
    pub opened : gie c ≡ true
    pub gate : asleep ≡ false → c.gate ≡ true

  abbrev pub IsBase : Base → Cpu → (ℕ → ℕ) → Type 0
  IsBase Starting c ram = IsReset c (reset built.reset_at) ram
  IsBase Opening c ram = IsReset c (record { pc = built.reset_at + 4; sp = 0x3900; sr = 0; others = replicate 12 0; gate = false }) ram
  IsBase Calling c ram = IsReset c (record { pc = built.reset_at + 6; sp = 0x3900; sr = 8; others = replicate 12 0; gate = false }) ram
  IsBase (InBody before since) c ram = IsBody before since c ram
  IsBase AtLoop c ram = IsLoop c (built.reset_at + 10) false
  IsBase Asleep c ram = IsLoopOpen c true
  IsBase AtJump c ram = IsLoopOpen c false

  abbrev pub booting : Option Context
  booting = Some (context_of (Some P.boot) [])

  abbrev pub base_context : Base → Option Context
  base_context Starting = booting
  base_context Opening = booting
  base_context Calling = booting
  base_context (InBody before since) = Some (context_of (Some P.boot) (boot_at (before ++ since)).done)
  base_context AtLoop = None
  base_context Asleep = None
  base_context AtJump = None

  abbrev pub base_bounds : Base → Cpu → Bounds
  base_bounds Starting c = record { left = z.bound + 3; effects = 0; closed = 3 }
  base_bounds Opening c = record { left = z.bound + 2; effects = 0; closed = 2 }
  base_bounds Calling c = record { left = z.bound + 1; effects = 0; closed = 1 }
  base_bounds (InBody before since) c = record { left = z.bound - length since; effects = effects_at (is_within (boot_at (before ++ since)).done) c.gate (gie c); closed = cond c.gate 0 1 }
  base_bounds AtLoop c = record { left = 1; effects = 0; closed = cond c.gate 0 1 }
  base_bounds Asleep c = no_bounds
  base_bounds AtJump c = record { left = 2; effects = 0; closed = 0 }

  abbrev pub Common : State → Memory Outside → Type 0
  Common r m = IsCommon Sound image z.data_end r m

  -- the base's code runs
  pub record AtBase (r : State) (j : Joined (Memory Outside)) (q : Bounds) : Type 0 where
    pub base : Base
    pub is : IsBase base j.cpu j.bus.ram
    pub context : r.base ≡ base_context base
    pub no_handler : r.handler ≡ None
    pub common : Common r j.bus
    pub bounds : q ≡ base_bounds base j.cpu

  abbrev pub HandlerLaw : ℕ → Cpu → (ℕ → ℕ) → Type 0
  HandlerLaw v c ram = IsOpenCode (act_of P (P.handler v)) (code_below image z.data_end marks (c.sp + 4)) (c.sp - z.handler_depth) z.bound IsShut (HasResumed (act_of P (P.handler v)) c ram) c ram

  abbrev pub handler_at : Cpu → (ℕ → ℕ) → List Moment → Open
  handler_at c ram moments = open_all (code_below image z.data_end marks (c.sp + 4)) moments (open_start c ram)

  -- a handler's code runs, over a base that will go on
  pub record AtHandler (r : State) (j : Joined (Memory Outside)) (q : Bounds) : Type 0 where
    pub v : ℕ
    pub c : Cpu
    pub ram : ℕ → ℕ
    pub before : List Moment
    pub since : List Moment
    pub law : HandlerLaw v c ram
    pub runs : IsRunning (act_of P (P.handler v)) (code_below image z.data_end marks (c.sp + 4)) (c.sp - z.handler_depth) z.bound IsShut (HasResumed (act_of P (P.handler v)) c ram) c ram law before since
    pub cpu : j.cpu ≡ (handler_at c ram (before ++ since)).cpu
    pub stack : (a : ℕ) → j.cpu.sp ≤ a → a < c.sp + 4 → j.bus.ram a ≡ (handler_at c ram (before ++ since)).ram a
    pub base : Base
    pub waits : IsSuspended base
    pub is : IsBase base (resumed_by c ram) j.bus.ram
    pub base_room : z.data_end + z.handler_depth ≤ c.sp
    pub deep : 0x3900 ≤ (c.sp - z.handler_depth) + stack_of z
    pub base_context_is : r.base ≡ base_context base
    pub handler : r.handler ≡ Some (context_of (P.handler v) (handler_at c ram (before ++ since)).done)
    pub common : Common r j.bus
    pub bounds : q ≡ record { left = z.bound - length since; effects = 0; closed = 0 }

  pub data At (r : State) (j : Joined (Memory Outside)) (q : Bounds) : Type 0 where
    OnBase : AtBase r j q → At r j q
    OnHandler : AtHandler r j q → At r j q

  -- one step of the mote, as moves
  pub record Outcome (r : State) (j : Joined (Memory Outside)) (q : Bounds) : Type 0 where
    pub acts : List Move
    pub next : Joined (Memory Outside)
    pub stepped : Stepped
    pub later : Bounds
    pub exec_is : exec ops j ≡ record { after = next; stepped = stepped }
    pub legal : AreLegal P r acts
    pub shown : next.bus.ports.shown ≡ j.bus.ports.shown ++ shown_by P r acts
    pub goes : is_stopped stepped ≡ false → At (after_all P r acts) next later
    pub halts : is_stopped stepped ≡ true → (is_illegal stepped ≡ false) × (cpuoff next.cpu ≡ false) × (later ≡ no_bounds)
    pub idle : is_idle stepped ≡ true → line_of (after_all P r acts).board ≡ None
    pub deep : 0x3900 ≤ next.cpu.sp + stack_of z
    pub quiet : acts ≡ [] → counts stepped + later.left ≤ q.left
    pub paid : 1 ≤ length acts → counts stepped + later.left ≤ pace
    pub few : IsPrompt P r acts q.effects later.effects
    pub prompt : (v : ℕ) → Waits P v r acts → StaysOutside P r acts → counts stepped + later.closed ≤ q.closed
