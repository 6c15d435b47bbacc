-- A mote with the loop of tasks, slot after slot, and the loop run that it follows.
use Rattle.std.proofs.Common.{◌≡◌, ◌≢◌, ℕ, suc, ◌+◌, ◌-◌, ◌*◌, ◌≤◌, Bool, true, false, cond, List, [], ◌∷◌, ◌++◌, Some, None, refl, sym, ap, subst, ◌∙◌, arith, append_assoc, append-nil}
use Rattle.std.specs.Prelude.{min, IsNone}
use Rattle.std.proofs.Math.Nat.{le-min}
use Rattle.mote_devices.specs.declared.state.BoardState.{BoardState}
use Rattle.mote_devices.specs.WordBoards.{AreWordRows, IsWordBoard, IsWordGiven}
use Rattle.mote_devices.specs.declared.shown.Due.{Due}
use Rattle.mote_devices.specs.Board.{line_of, with_closed_mask}
use Rattle.mote_devices.specs.Outside.{Outside, board_ports}
use Rattle.run_meaning.specs.State.{is_inside}
use Rattle.run_meaning.specs.Runs.{shown_by}
use Rattle.msp430_cpu.specs.declared.cpu.Stepped.{Stepped}
use Rattle.msp430_cpu.specs.declared.cpu.Stepped.TheVariants.{Ran, Idle, Entered, Stopped}
use Rattle.msp430_cpu.specs.Cpu.{Cpu, reset, cpuoff, gie, even}
use Rattle.msp430_cpu.specs.Exec.{Joined, exec}
use Rattle.msp430_cpu.specs.Memory.{Memory}
use Rattle.msp430_cpu.specs.Slots.{Running, counted, counts, is_stopped, is_idle, is_illegal, told_of, in_ports}
use Rattle.mote_bus.specs.Mote.{Result, mote, mote_after, due_at, result_of}
use Rattle.preempt_core.specs.Law.{Bounds}
use Rattle.preempt_core.proofs.Arrivals.{arrivals, board_due}
use Rattle.open_law.specs.Open.{IsShut, is_within}
use Rattle.open_law.specs.Body.{HasGiven}
use Rattle.preempt_bodies.proofs.WordBoards.{answers_words}
use Rattle.preempt_bodies.proofs.Words.{StandsAt}
use Rattle.preempt_bodies.proofs.Given.{on_board, arrived, legal_arrivals, outside_after, due_is, arrivals_count, words_due}
use Rattle.preempt_bodies.proofs.Carry.{ops, stands, IsCommon}
use Rattle.preempt_bodies.proofs.Running.{between_at, not_back}
use Rattle.preempt_bodies.proofs.BodyStep.{counts_one, effects_low}
use Rattle.preempt_bodies.proofs.Places.{no_bounds}
use Rattle.loop_runs.specs.Loop.{LoopState, LoopMove, Pops, IsFree, AreLegalLoop, after_loop_all, loop_start, shown_by_loop}
use Rattle.loop_runs.specs.Steps.{IsAside}
use Rattle.preempt_tasks.specs.Bodies.{stack_of}
use Rattle.preempt_tasks.specs.Steps.{gap, turn, effects_of, WaitsThrough, StaysOut, IsLoopSlot, AreLowIn, KeepsPace}
use Rattle.preempt_tasks.specs.Law.{RunsAsLoop}
use Rattle.preempt_tasks.proofs.Instructions.{even_at}
use Rattle.preempt_tasks.proofs.Plain.{plains, arrivals_own, arrivals_are, cost-append, cost_arrivals, marks-append, turns-append, marks_arrivals, turns_arrivals, loop_moves-append, loop_moves-plains, with_run, after_loop-append, shown_loop-append, legal_loop-append, effects-append, waits_back, out_back, after_plains, legal_plains, shown_plains, effects_plains}
use Rattle.preempt_tasks.proofs.Places.{Setting, start_of, closed_at, Base, Starting, Opening, Calling, InBody, InPop, AtLoop, AtPause, AtPop, AtTest, AtChoice, AtSleep, Asleep, AtWake, AtNone, AtCompare, AtSkip, AtTake, AtStart, AtReturn, AtBack, IsThere, gave_at, origin, count, program, trace_of, act_at, base_code, base_low, body_at, IsBase, base_context, base_bounds, Fits, At, OnBase, OnHandler, Outcome}
use Rattle.preempt_tasks.proofs.HandlerStep.{base_awake, handler_awake}
use Rattle.preempt_tasks.proofs.LoopStep.{T}
use Rattle.preempt_tasks.proofs.BaseStep.{step_at}
use Rattle.preempt_tasks.proofs.Follow.{loop_of, deep_at}

not_so : false ≡ true → ⊥
not_so h = cc

-- the ports are told of no step but an illegal one
untold : (x : Stepped) (j : Joined (Memory Outside)) → is_illegal x ≡ false → told_of board_ports x j ≡ j
untold x j h = ap (λ t. cond t (in_ports board_ports.illegal j) j) h

not_illegal : (x : Stepped) → is_stopped x ≡ false → is_illegal x ≡ false
not_illegal Ran h = refl
not_illegal Idle h = refl
not_illegal (Entered v) h = refl
not_illegal (Stopped code) h = absurd (not_so (sym h))

not_idle : (x : Stepped) → is_stopped x ≡ true → is_idle x ≡ false
not_idle Ran h = refl
not_idle Idle h = absurd (not_so h)
not_idle (Entered v) h = refl
not_idle (Stopped code) h = refl

small_gate : (t : Bool) (n : ℕ) → cond {A = ℕ} t 0 n ≤ n
small_gate true n = omega arith
small_gate false n = omega arith

small_closed : (x g k : Bool) → closed_at x g k ≤ 2
small_closed x true k = omega arith
small_closed true false k = omega arith
small_closed false false true = omega arith
small_closed false false false = omega arith

some_none : (k : ℕ) → Some k ≡ None → ⊥
some_none k e = cc

module _ (S : Setting) where
  -- ---- the numbers are low
  record IsLow (base : Base) (c : Cpu) : Type 0 where
    left : gave_at base ≡ None → (base_bounds S base c).left ≤ gap S.z
    rear : gave_at base ≢ None → (base_bounds S base c).left ≤ turn S.z
    effects : (base_bounds S base c).effects ≤ 3
    closed : (base_bounds S base c).closed ≤ turn S.z

  low_base : (base : Base) (c : Cpu) → IsLow base c
  low_base Starting c = record { left = λ e. omega arith; rear = λ n. absurd (n refl); effects = omega arith; closed = omega arith }
  low_base Opening c = record { left = λ e. omega arith; rear = λ n. absurd (n refl); effects = omega arith; closed = omega arith }
  low_base Calling c = record { left = λ e. omega arith; rear = λ n. absurd (n refl); effects = omega arith; closed = omega arith }
  low_base (InBody x before since) c = record {
    left = λ e. omega arith;
    rear = λ n. absurd (n refl);
    effects = effects_low (is_within (body_at S x (before ++ since)).done) c.gate (gie c);
    closed = let g = small_closed (is_within (body_at S x (before ++ since)).done) c.gate (gie c) in omega (arith, g);
  }
  low_base (InPop x before since) c = record { left = λ e. omega arith; rear = λ n. absurd (n refl); effects = omega arith; closed = omega arith }
  low_base AtLoop c = record { left = λ e. omega arith; rear = λ n. absurd (n refl); effects = omega arith; closed = omega arith }
  low_base (AtPause gate) c = record { left = λ e. omega arith; rear = λ n. absurd (n refl); effects = omega arith; closed = let g = small_gate gate 3 in omega (arith, g) }
  low_base AtPop c = record { left = λ e. omega arith; rear = λ n. absurd (n refl); effects = omega arith; closed = omega arith }
  low_base (AtTest k) c = record { left = λ e. absurd (some_none k e); rear = λ n. omega arith; effects = omega arith; closed = omega arith }
  low_base (AtChoice k) c = record { left = λ e. absurd (some_none k e); rear = λ n. omega arith; effects = omega arith; closed = omega arith }
  low_base AtSleep c = record { left = λ e. omega arith; rear = λ n. omega arith; effects = omega arith; closed = omega arith }
  low_base Asleep c = record { left = λ e. omega arith; rear = λ n. omega arith; effects = omega arith; closed = omega arith }
  low_base AtWake c = record { left = λ e. omega arith; rear = λ n. absurd (n refl); effects = omega arith; closed = omega arith }
  low_base (AtNone k) c = record { left = λ e. absurd (some_none k e); rear = λ n. omega arith; effects = omega arith; closed = omega arith }
  low_base (AtCompare k i) c = record { left = λ e. absurd (some_none k e); rear = λ n. omega arith; effects = omega arith; closed = omega arith }
  low_base (AtSkip k i) c = record { left = λ e. absurd (some_none k e); rear = λ n. omega arith; effects = omega arith; closed = omega arith }
  low_base (AtTake k i) c = record { left = λ e. absurd (some_none k e); rear = λ n. omega arith; effects = omega arith; closed = omega arith }
  low_base (AtStart k) c = record { left = λ e. absurd (some_none k e); rear = λ n. omega arith; effects = omega arith; closed = omega arith }
  low_base AtReturn c = record { left = λ e. omega arith; rear = λ n. absurd (n refl); effects = omega arith; closed = omega arith }
  low_base AtBack c = record { left = λ e. omega arith; rear = λ n. absurd (n refl); effects = omega arith; closed = omega arith }

  -- no effect is left where no body of the source runs
  aside_base : (base : Base) (c : Cpu) (ram : ℕ → ℕ) → IsBase S base c ram → IsAside S.pop (base_context S base) → (base_bounds S base c).effects ≡ 0
  aside_base Starting c ram h e = refl
  aside_base Opening c ram h e = refl
  aside_base Calling c ram h e = refl
  aside_base (InBody x before since) c ram h e = absurd (h.not_pop e)
  aside_base (InPop x before since) c ram h e = refl
  aside_base AtLoop c ram h e = refl
  aside_base (AtPause gate) c ram h e = refl
  aside_base AtPop c ram h e = refl
  aside_base (AtTest k) c ram h e = refl
  aside_base (AtChoice k) c ram h e = refl
  aside_base AtSleep c ram h e = refl
  aside_base Asleep c ram h e = refl
  aside_base AtWake c ram h e = refl
  aside_base (AtNone k) c ram h e = refl
  aside_base (AtCompare k i) c ram h e = refl
  aside_base (AtSkip k i) c ram h e = refl
  aside_base (AtTake k i) c ram h e = refl
  aside_base (AtStart k) c ram h e = refl
  aside_base AtReturn c ram h e = refl
  aside_base AtBack c ram h e = refl

  low_at : (s : LoopState) (j : Joined (Memory Outside)) (q : Bounds) → At S s j q → AreLowIn S.K S.pop S.z s q
  low_at s j q (OnBase a) =
      let l = low_base a.base j.cpu in
      subst (AreLowIn S.K S.pop S.z s) (sym a.bounds) (record { left = λ e. l.left (sym a.gave ∙ e); rear = λ n. l.rear (λ e. n (a.gave ∙ e)); effects = l.effects; aside = λ e. aside_base a.base j.cpu j.bus.ram a.is (subst (IsAside S.pop) a.context e); closed = l.closed })
  low_at s j q (OnHandler a) = subst (AreLowIn S.K S.pop S.z s) (sym a.bounds) (record { left = λ e. omega arith; rear = λ n. absurd (n a.gave); effects = omega arith; aside = λ e. refl; closed = omega arith })

  -- ---- it is off in one place alone
  record IsResting (s : LoopState) (q : Bounds) : Type 0 where
    free : IsFree s
    empty : s.gave ≡ Some 255
    none : q.left ≡ 0

  awake_there : (at : ℕ) (g gie : Bool) (c : Cpu) → IsThere at g gie false c → cpuoff c ≡ false
  awake_there at g gie c h = ap cpuoff h.cpu ∙ h.off_is

  rest_base : (base : Base) (s : LoopState) (j : Joined (Memory Outside)) → IsBase S base j.cpu j.bus.ram → s.run.base ≡ base_context S base → s.gave ≡ gave_at base → s.run.handler ≡ None → IsCommon IsWordBoard S.image S.z.data_end s.run j.bus → cpuoff j.cpu ≡ true → IsResting s (base_bounds S base j.cpu)
  rest_base Starting s j h context gave none common off = absurd (not_so (sym (ap cpuoff h.cpu) ∙ off))
  rest_base Opening s j h context gave none common off = absurd (not_so (sym (ap cpuoff h.cpu) ∙ off))
  rest_base Calling s j h context gave none common off = absurd (not_so (sym (ap cpuoff h.cpu) ∙ off))
  rest_base (InBody x before since) s j h context gave none common off = absurd (not_so (sym (base_awake S (InBody x before since) j.cpu j.bus.ram tt h) ∙ off))
  rest_base (InPop x before since) s j h context gave none common off =
      absurd (not_so (sym (ap cpuoff h.cpu ∙ (between_at (act_at S x) (base_code S) (base_low S) S.z.bound IsShut (HasGiven 1 (trace_of S x) (start_of x) x.ram) (start_of x) x.ram h.law before since h.runs).awake (not_back 0x3900 (body_at S x (before ++ since)) h.runs.going).0) ∙ off))
  rest_base AtLoop s j h context gave none common off = absurd (not_so (sym (awake_there (origin S + 10) true true j.cpu h) ∙ off))
  rest_base (AtPause gate) s j h context gave none common off = absurd (not_so (sym (awake_there (origin S + 12) gate false j.cpu h) ∙ off))
  rest_base AtPop s j h context gave none common off = absurd (not_so (sym (awake_there (origin S + 14) false false j.cpu h) ∙ off))
  rest_base (AtTest k) s j h context gave none common off = absurd (not_so (sym (awake_there (origin S + 18) false false j.cpu h.there) ∙ off))
  rest_base (AtChoice k) s j h context gave none common off = absurd (not_so (sym (awake_there (origin S + 22) false false j.cpu h.there) ∙ off))
  rest_base AtSleep s j h context gave none common off = absurd (not_so (sym (awake_there (origin S + 24) false false j.cpu h) ∙ off))
  rest_base Asleep s j h context gave none common off = record {
    free = record { going = common.going; no_base = subst IsNone (sym context) refl; no_handler = subst IsNone (sym none) refl };
    empty = gave;
    none = refl;
  }
  rest_base AtWake s j h context gave none common off = absurd (not_so (sym (awake_there (origin S + 28) true true j.cpu h) ∙ off))
  rest_base (AtNone k) s j h context gave none common off = absurd (not_so (sym (awake_there (origin S + 30) false false j.cpu h.there) ∙ off))
  rest_base (AtCompare k i) s j h context gave none common off = absurd (not_so (sym (awake_there (origin S + (34 + 10 * i)) false false j.cpu h.there) ∙ off))
  rest_base (AtSkip k i) s j h context gave none common off = absurd (not_so (sym (awake_there (origin S + (34 + 10 * i) + 4) false false j.cpu h.there) ∙ off))
  rest_base (AtTake k i) s j h context gave none common off = absurd (not_so (sym (awake_there (origin S + (34 + 10 * i) + 6) false false j.cpu h.there) ∙ off))
  rest_base (AtStart k) s j h context gave none common off = absurd (not_so (sym (awake_there (origin S + (36 + 10 * count S)) false true j.cpu h.there) ∙ off))
  rest_base AtReturn s j h context gave none common off = absurd (not_so (sym (ap cpuoff h.cpu ∙ h.off_is) ∙ off))
  rest_base AtBack s j h context gave none common off = absurd (not_so (sym (awake_there (origin S + (38 + 10 * count S)) true true j.cpu h) ∙ off))

  rest_at : (s : LoopState) (j : Joined (Memory Outside)) (q : Bounds) → At S s j q → cpuoff j.cpu ≡ true → IsResting s q
  rest_at s j q (OnBase a) off = subst (IsResting s) (sym a.bounds) (rest_base a.base s j a.is a.context a.gave a.no_handler a.common off)
  rest_at s j q (OnHandler a) off = absurd (not_so (sym (handler_awake S s j q a) ∙ off))

  run_goes : (s : LoopState) (j : Joined (Memory Outside)) (q : Bounds) → At S s j q → s.run.stopped ≡ false
  run_goes s j q (OnBase a) = a.common.going
  run_goes s j q (OnHandler a) = a.common.going

  -- what comes behind a legal move fits where it fitted before
  fit_after : (s t : LoopState) (front : List LoopMove) → AreLegalLoop S.K S.pop s front → after_loop_all S.K S.pop s front ≡ t → Fits S s → Fits S t
  fit_after s t front legal e fit moves k l =
      fit (front ++ moves) k
      (subst (AreLegalLoop S.K S.pop s) (sym (append_assoc front moves (Pops k ∷ [])))
      (legal_loop-append S.K S.pop s front (moves ++ Pops k ∷ []) legal (subst (λ (x : LoopState). AreLegalLoop S.K S.pop x (moves ++ Pops k ∷ [])) (sym e) l)))

  module _ (b : BoardState) (rows : List Due) (first_sound : IsWordBoard (with_closed_mask b)) (word_rows : AreWordRows IsWordGiven rows) where
    abbrev M : ℕ → Running Outside
    M n = mote_after S.image b rows n

    abbrev m : ℕ → Result
    m n = mote S.image b rows n

    -- after n slots: the mote goes on, or it has stopped
    pub record Goes (n : ℕ) (s : LoopState) (q : Bounds) : Type 0 where
      pub going : (M n).stopped ≡ false
      pub there : At S s (M n).joined q
      pub idle : (M n).idle ≡ true → line_of s.run.board ≡ None

    pub record Halts (n : ℕ) (q : Bounds) : Type 0 where
      pub stopped : (M n).stopped ≡ true
      pub awake : cpuoff (M n).joined.cpu ≡ false
      pub no_idle : (M n).idle ≡ false
      pub none : q ≡ no_bounds

    pub data Stage (n : ℕ) (s : LoopState) (q : Bounds) : Type 0 where
      IsGoing : Goes n s q → Stage n s q
      IsHalted : Halts n q → Stage n s q

    pub record Rel (n : ℕ) (s : LoopState) (q : Bounds) : Type 0 where
      pub deep : 0x3900 ≤ (M n).least + stack_of S.z
      pub stage : Stage n s q
      pub fits : Fits S s

    abbrev Goal : ℕ → LoopState → Bounds → Type 0
    Goal n s q = (moves : List LoopMove) × (q' : Bounds) × Rel (suc n) (after_loop_all S.K S.pop s moves) q' × IsLoopSlot S.K S.pop S.z s moves (m n) (m (suc n)) q q'

    -- a mote that has stopped stays so
    halted_step : (n : ℕ) (s : LoopState) (q : Bounds) → 0x3900 ≤ (M n).least + stack_of S.z → Fits S s → Halts n q → Goal n s q
    halted_step n s q deep fit h =
        let same : M (suc n) ≡ M n = ap (λ t. cond t (M n) (counted board_ports (M n) (exec ops (in_ports (due_at rows n) (M n).joined)))) h.stopped in
        let shown : (m (suc n)).shown ≡ (m n).shown = ap (λ (x : Running Outside). (result_of x).shown) same in
        let ran : (m (suc n)).ran ≡ (m n).ran = ap (λ (x : Running Outside). (result_of x).ran) same in (
          [],
          no_bounds,
          record {
            deep = subst (λ (x : Running Outside). 0x3900 ≤ x.least + stack_of S.z) (sym same) deep;
            stage = IsHalted (record {
              stopped = ap (λ (x : Running Outside). x.stopped) same ∙ h.stopped;
              awake = ap (λ (x : Running Outside). cpuoff x.joined.cpu) same ∙ h.awake;
              no_idle = ap (λ (x : Running Outside). x.idle) same ∙ h.no_idle;
              none = refl;
            });
            fits = fit;
          },
          record {
            legal = tt;
            shown = shown ∙ sym (append-nil (m n).shown);
            single = omega arith;
            one = omega (arith, ran);
            spent = omega (arith, ran);
            few = λ a. record { low = omega arith; counted = omega arith; falls = λ v w. omega arith };
            prompt = λ a v w o. omega (arith, ran);
            no_line = λ v w z. (ran, refl);
            marks = omega arith;
            turns = λ t. refl;
            soon = λ b n c. refl;
            settles = λ b n c i. omega arith;
            apart = λ p. (refl, refl);
          },
        )

    -- what arrives leaves the place
    arrives : (n : ℕ) (s : LoopState) (j : Joined (Memory Outside)) (q : Bounds) → At S s j q → At S (with_run S.K S.pop s (on_board s.run (board_due rows n s.run.board))) (record { cpu = j.cpu; bus = record { ram = j.bus.ram; code = j.bus.code; ports = outside_after (program S) rows n s.run j.bus.ports } }) q
    arrives n s j q (OnBase a) = OnBase (record {
      base = a.base;
      is = a.is;
      context = a.context;
      gave = a.gave;
      no_handler = a.no_handler;
      common = record { code = a.common.code; board = ap (board_due rows n) a.common.board; store = a.common.store; words = words_due IsWordBoard IsWordGiven answers_words rows n j.bus.ports.board word_rows a.common.words; bytes = a.common.bytes; no_task = a.common.no_task; going = a.common.going; runs = a.common.runs };
      bounds = a.bounds;
    })
    arrives n s j q (OnHandler a) = OnHandler (record {
      v = a.v;
      c = a.c;
      ram = a.ram;
      before = a.before;
      since = a.since;
      law = a.law;
      runs = a.runs;
      cpu = a.cpu;
      stack = a.stack;
      base = a.base;
      waits = a.waits;
      is = a.is;
      base_room = a.base_room;
      deep = a.deep;
      base_context_is = a.base_context_is;
      gave = a.gave;
      not_pop = a.not_pop;
      handler = a.handler;
      common = record { code = a.common.code; board = ap (board_due rows n) a.common.board; store = a.common.store; words = words_due IsWordBoard IsWordGiven answers_words rows n j.bus.ports.board word_rows a.common.words; bytes = a.common.bytes; no_task = a.common.no_task; going = a.common.going; runs = a.common.runs };
      bounds = a.bounds;
    })

    step_going : (n : ℕ) (s : LoopState) (q : Bounds) → 0x3900 ≤ (M n).least + stack_of S.z → Fits S s → Goes n s q → Goal n s q
    step_going n s q deep fit h =
        let arr = arrivals rows n in
        let j = (M n).joined in
        let s1 = with_run S.K S.pop s (on_board s.run (board_due rows n s.run.board)) in
        let j1 : Joined (Memory Outside) = record { cpu = j.cpu; bus = record { ram = j.bus.ram; code = j.bus.code; ports = outside_after (program S) rows n s.run j.bus.ports } } in
        let came : after_loop_all S.K S.pop s (plains arr) ≡ s1 = after_plains S.K S.pop arr (arrivals_own rows n) s ∙ ap (with_run S.K S.pop s) (arrived (program S) rows n s.run) in
        let first = legal_plains S.K S.pop arr (arrivals_own rows n) s (legal_arrivals (program S) rows n s.run (run_goes s j q h.there)) in
        let A = step_at S s1 j1 q (fit_after s s1 (plains arr) first came fit) (arrives n s j q h.there) in
        let due : in_ports (due_at rows n) j ≡ j1 = ap (λ o. record { cpu = j.cpu; bus = record { ram = j.bus.ram; code = j.bus.code; ports = o } }) (due_is (program S) rows n s.run j.bus.ports) in
        let went : M (suc n) ≡ counted board_ports (M n) (record { after = A.next; stepped = A.stepped }) =
        ap (λ t. cond t (M n) (counted board_ports (M n) (exec ops (in_ports (due_at rows n) j)))) h.going
        ∙ ap (λ (x : Joined (Memory Outside)). counted board_ports (M n) (exec ops x)) due
        ∙ ap (counted board_ports (M n)) A.exec_is in
        finish n s q deep fit h A went came
      where
        finish : (n : ℕ) (s : LoopState) (q : Bounds) → 0x3900 ≤ (M n).least + stack_of S.z → Fits S s → Goes n s q →
            (A : Outcome S (with_run S.K S.pop s (on_board s.run (board_due rows n s.run.board))) (record { cpu = (M n).joined.cpu; bus = record { ram = (M n).joined.bus.ram; code = (M n).joined.bus.code; ports = outside_after (program S) rows n s.run (M n).joined.bus.ports } }) q) →
            M (suc n) ≡ counted board_ports (M n) (record { after = A.next; stepped = A.stepped }) →
            after_loop_all S.K S.pop s (plains (arrivals rows n)) ≡ with_run S.K S.pop s (on_board s.run (board_due rows n s.run.board)) → Goal n s q
        finish n s q deep fit h A went came =
            let arr = arrivals rows n in
            let own = arrivals_own rows n in
            let s1 = with_run S.K S.pop s (on_board s.run (board_due rows n s.run.board)) in
            let legal_joined : is_illegal A.stepped ≡ false = never_illegal (is_stopped A.stepped) refl in
            let later_joined : (M (suc n)).joined ≡ A.next = ap (λ (x : Running Outside). x.joined) went ∙ untold A.stepped A.next legal_joined in
            let later : after_loop_all S.K S.pop s (plains arr ++ A.moves) ≡ after_loop_all S.K S.pop s1 A.moves = after_loop-append S.K S.pop s (plains arr) A.moves ∙ ap (λ (t : LoopState). after_loop_all S.K S.pop t A.moves) came in
            let ran : (m (suc n)).ran ≡ (m n).ran + counts A.stepped = ap (λ (x : Running Outside). x.ran) went in
            let none : effects_of S.K S.pop s (plains arr) ≡ 0 = effects_plains S.K S.pop arr own s ∙ arrivals_count (program S) rows n s.run in
            let rest : effects_of S.K S.pop (after_loop_all S.K S.pop s (plains arr)) A.moves ≡ effects_of S.K S.pop s1 A.moves = ap (λ (t : LoopState). effects_of S.K S.pop t A.moves) came in
            let both = effects-append S.K S.pop s (plains arr) A.moves in
            let w : effects_of S.K S.pop s (plains arr ++ A.moves) ≡ effects_of S.K S.pop s1 A.moves = omega (arith, none, rest, both) in
            let costs = cost-append S.z (plains arr) A.moves in
            let spent = A.spent in
            let legal : AreLegalLoop S.K S.pop s (plains arr ++ A.moves) = legal_loop-append S.K S.pop s (plains arr) A.moves (legal_plains S.K S.pop arr own s (legal_arrivals (program S) rows n s.run (run_goes s (M n).joined q h.there))) (subst (λ (t : LoopState). AreLegalLoop S.K S.pop t A.moves) (sym came) A.legal) in
            let are = arrivals_are rows n in
            let no_cost = cost_arrivals S.z arr are in
            let marks = marks-append (plains arr) A.moves in
            let no_marks = marks_arrivals arr are in
            let marked = A.marks in
            let turned = turns-append (plains arr) A.moves in
            let no_turns = turns_arrivals arr are in
            let singles = loop_moves-append (plains arr) A.moves in
            let none_single = loop_moves-plains arr in
            let single = A.single in
            let one = counts_one A.stepped in
            let waits : (v : ℕ) → WaitsThrough S.K S.pop v s (plains arr ++ A.moves) → WaitsThrough S.K S.pop v s1 A.moves = λ v k. subst (λ (t : LoopState). WaitsThrough S.K S.pop v t A.moves) came (waits_back S.K S.pop v s (plains arr) A.moves k) in
            let outs : StaysOut S.K S.pop s (plains arr ++ A.moves) → StaysOut S.K S.pop s1 A.moves = λ k. subst (λ (t : LoopState). StaysOut S.K S.pop t A.moves) came (out_back S.K S.pop s (plains arr) A.moves k) in (
              plains arr ++ A.moves,
              A.later,
              record {
                deep = subst (λ k. 0x3900 ≤ k + stack_of S.z) (sym (ap (λ (x : Running Outside). x.least) went)) (least_deep (M n).least A.next.cpu.sp deep A.deep);
                stage = by_stop (is_stopped A.stepped) refl later_joined later;
                fits = fit_after s (after_loop_all S.K S.pop s (plains arr ++ A.moves)) (plains arr ++ A.moves) legal refl fit;
              },
              record {
                legal = legal;
                shown =
                    ap (λ (x : Joined (Memory Outside)). x.bus.ports.shown) later_joined
                    ∙ A.shown
                    ∙ append_assoc (M n).joined.bus.ports.shown (shown_by (program S) s.run arr) (shown_by_loop S.K S.pop s1 A.moves)
                    ∙ ap (λ l. (m n).shown ++ (l ++ shown_by_loop S.K S.pop s1 A.moves)) (sym (shown_plains S.K S.pop arr own s))
                    ∙ ap (λ (t : LoopState). (m n).shown ++ (shown_by_loop S.K S.pop s (plains arr) ++ shown_by_loop S.K S.pop t A.moves)) (sym came)
                    ∙ ap (λ l. (m n).shown ++ l) (sym (shown_loop-append S.K S.pop s (plains arr) A.moves));
                single = omega (arith, singles, none_single, single);
                one = omega (arith, ran, one);
                spent = omega (arith, ran, spent, costs);
                few = λ a.
                    let p = A.few a in
                    let l = p.low in
                    let c = p.counted in
                    record { low = omega (arith, w, l); counted = omega (arith, w, c); falls = λ v k. let f = p.falls v (waits v k) in omega (arith, w, f) };
                prompt = λ a v k o. let l = A.prompt a v (waits v k) (outs o) in omega (arith, ran, l);
                no_line = λ v k z. absurd (A.no_line v (waits v k) z);
                marks = omega (arith, marks, no_marks, marked);
                turns = λ t. A.turns (omega (arith, turned, no_turns, t));
                soon = λ o n c. A.soon o n c;
                settles = λ o n c i. A.settles o n (omega (arith, costs, no_cost, c)) (sym (ap (λ (t : LoopState). is_inside t.run.base) later) ∙ i);
                apart = λ p. let a = A.apart p in let e = a.1 in (a.0, omega (arith, turned, no_turns, e));
              },
            )
          where
            never_illegal : (t : Bool) → is_stopped A.stepped ≡ t → is_illegal A.stepped ≡ false
            never_illegal true e = (A.halts e).0
            never_illegal false e = not_illegal A.stepped e

            least_deep : (a c : ℕ) → 0x3900 ≤ a + stack_of S.z → 0x3900 ≤ c + stack_of S.z → 0x3900 ≤ min a c + stack_of S.z
            least_deep a c x y = let l : 0x3900 - stack_of S.z ≤ min a c = le-min (omega (arith, x)) (omega (arith, y)) in omega (arith, l)

            by_stop : (t : Bool) → is_stopped A.stepped ≡ t → (M (suc n)).joined ≡ A.next → after_loop_all S.K S.pop s (plains (arrivals rows n) ++ A.moves) ≡ after_loop_all S.K S.pop (with_run S.K S.pop s (on_board s.run (board_due rows n s.run.board))) A.moves → Stage (suc n) (after_loop_all S.K S.pop s (plains (arrivals rows n) ++ A.moves)) A.later
            by_stop true e joined later = IsHalted (record {
              stopped = ap (λ (x : Running Outside). x.stopped) went ∙ e;
              awake = ap (λ (x : Joined (Memory Outside)). cpuoff x.cpu) joined ∙ (A.halts e).1;
              no_idle = ap (λ (x : Running Outside). x.idle) went ∙ not_idle A.stepped e;
              none = (A.halts e).2;
            })
            by_stop false e joined later = IsGoing (record {
              going = ap (λ (x : Running Outside). x.stopped) went ∙ e;
              there = subst (λ (x : LoopState). At S x (M (suc n)).joined A.later) (sym later) (subst (λ x. At S (after_loop_all S.K S.pop (with_run S.K S.pop s (on_board s.run (board_due rows n s.run.board))) A.moves) x A.later) (sym joined) (A.goes e));
              idle = λ i. ap (λ (x : LoopState). line_of x.run.board) later ∙ A.idle (sym (ap (λ (x : Running Outside). x.idle) went) ∙ i);
            })

    step : (n : ℕ) (s : LoopState) (q : Bounds) → Rel n s q → Goal n s q
    step n s q rel = by_stage rel.stage
      where
        by_stage : Stage n s q → Goal n s q
        by_stage (IsGoing h) = step_going n s q rel.deep rel.fits h
        by_stage (IsHalted h) = halted_step n s q rel.deep rel.fits h

    low_stage : (n : ℕ) (s : LoopState) (q : Bounds) → Stage n s q → AreLowIn S.K S.pop S.z s q
    low_stage n s q (IsGoing h) = low_at s (M n).joined q h.there
    low_stage n s q (IsHalted h) = subst (AreLowIn S.K S.pop S.z s) (sym h.none) (record { left = λ e. omega arith; rear = λ n. omega arith; effects = omega arith; aside = λ e. refl; closed = omega arith })

    rest_stage : (n : ℕ) (s : LoopState) (q : Bounds) → Stage n s q → (m n).off ≡ true → IsResting s q
    rest_stage n s q (IsGoing h) off = rest_at s (M n).joined q h.there off
    rest_stage n s q (IsHalted h) off = absurd (not_so (sym h.awake ∙ off))

    wake_stage : (n : ℕ) (s : LoopState) (q : Bounds) → Stage n s q → (m n).idle ≡ true → line_of s.run.board ≡ None
    wake_stage n s q (IsGoing h) idle = h.idle idle
    wake_stage n s q (IsHalted h) idle = absurd (not_so (sym h.no_idle ∙ idle))

    abbrev first_bounds : Bounds
    first_bounds = base_bounds S Starting (reset (origin S))

    vector : StandsAt S.image 0xFFFE (origin S)
    vector = record { low = omega arith; high = omega arith; is_even = refl; word = S.built.vector }

    pub starts : Rel 0 (loop_start S.K S.pop b) first_bounds
    starts = record {
      deep = omega arith;
      stage = IsGoing (record {
        going = refl;
        there = OnBase (record {
          base = Starting;
          is = record { cpu = ap (λ x. reset (even x)) (stands vector (M 0).joined.bus refl) ∙ ap reset (even_at (origin S) (T S).sets_stack.even); ram = refl };
          context = refl;
          gave = refl;
          no_handler = refl;
          common = record { code = refl; board = refl; store = λ a d. refl; words = first_sound; bytes = λ a. omega arith; no_task = refl; going = refl; runs = refl };
          bounds = refl;
        });
        idle = λ h. absurd (not_so h);
      });
      fits = λ moves k l. S.built.gives b moves k l;
    }

    -- the relation is kept, with its numbers
    pub keeps_pace : KeepsPace S.K S.pop S.z b m Rel
    keeps_pace = record {
      none = refl;
      from = first_bounds;
      first = starts;
      low = λ n s q rel. low_stage n s q rel.stage;
      rest = λ n s q rel off. let r = rest_stage n s q rel.stage off in (r.free, r.empty, r.none);
      wake = λ n s q rel idle. wake_stage n s q rel.stage idle;
      deep = λ n s q rel. rel.deep;
      step = step;
    }

pub runs_as_loop : RunsAsLoop
runs_as_loop K pop image marks z b rows n words word_rows built =
    let S : Setting = record { K = K; pop = pop; image = image; marks = marks; z = z; built = built } in
    let first : IsWordBoard (with_closed_mask b) = record { mask = omega arith; slots = words.slots; eight = words.eight } in (
      loop_of K pop z b (mote image b rows) (Rel S b rows first word_rows) (keeps_pace S b rows first word_rows) n,
      deep_at K pop z b (mote image b rows) (Rel S b rows first word_rows) (keeps_pace S b rows first word_rows) n,
    )
