-- A mote with built bodies, slot after slot, and the run that it follows.
use Rattle.std.proofs.Common.{◌≡◌, ℕ, zero, suc, ◌+◌, ◌-◌, ◌*◌, ◌≤◌, Bool, true, false, cond, List, [], ◌∷◌, ◌++◌, length, None, refl, sym, ap, subst, ◌∙◌, arith, append_assoc, append-nil, length-append}
use Rattle.std.specs.Prelude.{min, IsNone}
use Rattle.std.proofs.Math.Nat.{le-min}
use Rattle.nm_base.specs.declared.action.Action.{Action}
use Rattle.mote_devices.specs.declared.state.BoardState.{BoardState}
use Rattle.mote_devices.specs.WordBoards.{AreWordRows, IsWordBoard, IsWordGiven}
use Rattle.mote_devices.specs.declared.shown.Due.{Due}
use Rattle.mote_devices.specs.declared.shown.Given.{Given}
use Rattle.mote_devices.specs.Board.{line_of, with_closed_mask}
use Rattle.mote_devices.specs.Outside.{Outside, board_ports}
use Rattle.core_meaning.specs.Source.{Source}
use Rattle.run_meaning.specs.declared.Move.{Move}
use Rattle.run_meaning.specs.State.{State, start}
use Rattle.run_meaning.specs.Runs.{AreLegal, after_all, shown_by}
use Rattle.run_meaning.specs.Steps.{Waits, StaysOutside}
use Rattle.msp430_cpu.specs.declared.cpu.Stepped.{Stepped}
use Rattle.msp430_cpu.specs.declared.cpu.Stepped.TheVariants.{Ran, Idle, Entered, Stopped}
use Rattle.msp430_cpu.specs.Cpu.{Cpu, reset, cpuoff, gie, even}
use Rattle.msp430_cpu.specs.Exec.{Joined, exec}
use Rattle.msp430_cpu.specs.Memory.{Memory}
use Rattle.msp430_cpu.specs.Slots.{Running, counted, counts, is_stopped, is_idle, is_illegal, told_of, in_ports}
use Rattle.mote_bus.specs.Mote.{Result, mote, mote_after, due_at, result_of}
use Rattle.preempt_core.specs.Allowed.{Allowed, AtRest}
use Rattle.preempt_core.specs.Law.{Bounds, AreLow, IsSlot, Simulates, waiting_effects}
use Rattle.preempt_core.proofs.Arrivals.{arrivals, board_due}
use Rattle.preempt_core.proofs.Follow.{after_all-append, shown_by-append, legal-append}
use Rattle.preempt_core.proofs.Simulate.{simulated, waits_back}
use Rattle.preempt_bodies.proofs.Stretches.{outside_back}
use Rattle.preempt_core.proofs.Waiting.{waiting-append}
use Rattle.open_law.specs.Open.{is_within}
use Rattle.preempt_bodies.specs.Boards.{AnswersWords}
use Rattle.preempt_bodies.specs.Bodies.{Sizes, stack_of}
use Rattle.preempt_bodies.proofs.Words.{IsSpelled, RunsOn, spelled}
use Rattle.preempt_bodies.specs.Runs.{RunsAsSource}
use Rattle.preempt_bodies.proofs.WordBoards.{answers_words}
use Rattle.preempt_bodies.proofs.Given.{on_board, arrived, legal_arrivals, outside_after, due_is, arrivals_count, words_due}
use Rattle.preempt_bodies.proofs.Carry.{ops, stands, IsCommon}
use Rattle.preempt_bodies.proofs.BodyStep.{effects_low}
use Rattle.preempt_bodies.proofs.BaseStep.{step_at}
use Rattle.preempt_bodies.proofs.Places.{Base, Starting, Opening, Calling, InBody, AtLoop, Asleep, AtJump, IsBase, At, OnBase, OnHandler, Outcome, no_bounds, base_bounds, base_context, boot_at}
use Rattle.preempt_bodies.proofs.HandlerStep.{base_awake, handler_awake}

not_so : false ≡ true → ⊥
not_so h = cc

-- the ports are told of no step but an illegal one
untold : (x : Stepped) (j : Joined (Memory Outside)) → is_illegal x ≡ false → told_of board_ports x j ≡ j
untold x j h = ap (λ t. cond t (in_ports board_ports.illegal j) j) h

not_illegal : (x : Stepped) → is_stopped x ≡ false → is_illegal x ≡ false
not_illegal Ran h = refl
not_illegal Idle h = refl
not_illegal (Entered v) h = refl
not_illegal (Stopped code) h = absurd (not_so (sym h))

not_idle : (x : Stepped) → is_stopped x ≡ true → is_idle x ≡ false
not_idle Ran h = refl
not_idle Idle h = absurd (not_so h)
not_idle (Entered v) h = refl
not_idle (Stopped code) h = refl

module _ (P : Source) (image : ℕ → ℕ) (marks : ℕ → List Action) (z : Sizes) (built : IsSpelled P image marks z) (Sound : BoardState → Type 0) (IsWord : Given → Type 0) (sound : AnswersWords Sound IsWord) (pace : ℕ) (wide : z.bound + 3 ≤ pace)
    (b : BoardState) (rows : List Due) (first_sound : Sound (with_closed_mask b)) (word_rows : AreWordRows IsWord rows) where
  abbrev M : ℕ → Running Outside
  M s = mote_after image b rows s

  abbrev m : ℕ → Result
  m s = mote image b rows s

  abbrev AtAll : State → Joined (Memory Outside) → Bounds → Type 0
  AtAll r j q = At P image marks z built Sound IsWord sound pace wide r j q

  -- after s slots: the mote goes on, or it has stopped
  pub record Goes (s : ℕ) (r : State) (q : Bounds) : Type 0 where
    pub going : (M s).stopped ≡ false
    pub there : AtAll r (M s).joined q
    pub idle : (M s).idle ≡ true → line_of r.board ≡ None

  pub record Halts (s : ℕ) (q : Bounds) : Type 0 where
    pub stopped : (M s).stopped ≡ true
    pub awake : cpuoff (M s).joined.cpu ≡ false
    pub no_idle : (M s).idle ≡ false
    pub none : q ≡ no_bounds

  pub data Stage (s : ℕ) (r : State) (q : Bounds) : Type 0 where
    IsGoing : Goes s r q → Stage s r q
    IsHalted : Halts s q → Stage s r q

  pub record Rel (s : ℕ) (r : State) (q : Bounds) : Type 0 where
    pub deep : 0x3900 ≤ (M s).least + stack_of z
    pub stage : Stage s r q

  abbrev Goal : ℕ → State → Bounds → Type 0
  Goal s r q = (ms : List Move) × (q' : Bounds) × Rel (suc s) (after_all P r ms) q' × IsSlot P pace r ms (m s) (m (suc s)) q q'

  -- a mote that has stopped stays so
  halted_step : (s : ℕ) (r : State) (q : Bounds) → 0x3900 ≤ (M s).least + stack_of z → Halts s q → Goal s r q
  halted_step s r q deep h =
      let same : M (suc s) ≡ M s = ap (λ t. cond t (M s) (counted board_ports (M s) (exec ops (in_ports (due_at rows s) (M s).joined)))) h.stopped in
      let shown : (m (suc s)).shown ≡ (m s).shown = ap (λ (x : Running Outside). (result_of x).shown) same in
      let ran : (m (suc s)).ran ≡ (m s).ran = ap (λ (x : Running Outside). (result_of x).ran) same in
      let left = ap (λ (k : Bounds). k.left) h.none in (
        [],
        no_bounds,
        record {
          deep = subst (λ (x : Running Outside). 0x3900 ≤ x.least + stack_of z) (sym same) deep;
          stage = IsHalted (record {
            stopped = ap (λ (x : Running Outside). x.stopped) same ∙ h.stopped;
            awake = ap (λ (x : Running Outside). cpuoff x.joined.cpu) same ∙ h.awake;
            no_idle = ap (λ (x : Running Outside). x.idle) same ∙ h.no_idle;
            none = refl;
          });
        },
        record {
          legal = tt;
          shown = shown ∙ sym (append-nil (m s).shown);
          spent = omega (arith, ran);
          few = record { low = omega arith; counted = omega arith; falls = λ v w. omega arith };
          prompt = λ v w o. omega (arith, ran);
        },
      )

  -- what arrives leaves the place
  arrives : (s : ℕ) (r : State) (j : Joined (Memory Outside)) (q : Bounds) → AtAll r j q → AtAll (on_board r (board_due rows s r.board)) (record { cpu = j.cpu; bus = record { ram = j.bus.ram; code = j.bus.code; ports = outside_after P rows s r j.bus.ports } }) q
  arrives s r j q (OnBase a) = OnBase (record {
    base = a.base;
    is = a.is;
    context = a.context;
    no_handler = a.no_handler;
    common = record { code = a.common.code; board = ap (board_due rows s) a.common.board; store = a.common.store; words = words_due Sound IsWord sound rows s j.bus.ports.board word_rows a.common.words; bytes = a.common.bytes; no_task = a.common.no_task; going = a.common.going; runs = a.common.runs };
    bounds = a.bounds;
  })
  arrives s r j q (OnHandler a) = OnHandler (record {
    v = a.v;
    c = a.c;
    ram = a.ram;
    before = a.before;
    since = a.since;
    law = a.law;
    runs = a.runs;
    cpu = a.cpu;
    stack = a.stack;
    base = a.base;
    waits = a.waits;
    is = a.is;
    base_room = a.base_room;
    deep = a.deep;
    base_context_is = a.base_context_is;
    handler = a.handler;
    common = record { code = a.common.code; board = ap (board_due rows s) a.common.board; store = a.common.store; words = words_due Sound IsWord sound rows s j.bus.ports.board word_rows a.common.words; bytes = a.common.bytes; no_task = a.common.no_task; going = a.common.going; runs = a.common.runs };
    bounds = a.bounds;
  })

  run_goes : (r : State) (j : Joined (Memory Outside)) (q : Bounds) → AtAll r j q → r.stopped ≡ false
  run_goes r j q (OnBase a) = a.common.going
  run_goes r j q (OnHandler a) = a.common.going

  -- the moves of a slot are paid for
  spent_by : (n c l l0 : ℕ) → (n ≡ 0 → c + l ≤ l0) → (1 ≤ n → c + l ≤ pace) → (k : ℕ) → c + l ≤ l0 + pace * (k + n)
  spent_by zero c l l0 none some k = let h = none refl in omega (arith, h)
  spent_by (suc n) c l l0 none some k = let h = some (omega arith) in let e : pace * (k + suc n) ≡ pace * (k + n) + pace = omega arith in omega (arith, h, e)

  empty_of : (l : List Move) → length l ≡ 0 → l ≡ []
  empty_of [] e = refl
  empty_of (x ∷ l) e = absurd (omega (arith, e))

  step_going : (s : ℕ) (r : State) (q : Bounds) → 0x3900 ≤ (M s).least + stack_of z → Goes s r q → Goal s r q
  step_going s r q deep h =
      let arr = arrivals rows s in
      let j = (M s).joined in
      let r1 = on_board r (board_due rows s r.board) in
      let j1 : Joined (Memory Outside) = record { cpu = j.cpu; bus = record { ram = j.bus.ram; code = j.bus.code; ports = outside_after P rows s r j.bus.ports } } in
      let A = step_at P image marks z built Sound IsWord sound pace wide r1 j1 q (arrives s r j q h.there) in
      let came : after_all P r arr ≡ r1 = arrived P rows s r in
      let due : in_ports (due_at rows s) j ≡ j1 = ap (λ o. record { cpu = j.cpu; bus = record { ram = j.bus.ram; code = j.bus.code; ports = o } }) (due_is P rows s r j.bus.ports) in
      let went : M (suc s) ≡ counted board_ports (M s) (record { after = A.next; stepped = A.stepped }) =
      ap (λ t. cond t (M s) (counted board_ports (M s) (exec ops (in_ports (due_at rows s) j)))) h.going
      ∙ ap (λ (x : Joined (Memory Outside)). counted board_ports (M s) (exec ops x)) due
      ∙ ap (counted board_ports (M s)) A.exec_is in
      finish s r q deep h A went came
    where
      finish : (s : ℕ) (r : State) (q : Bounds) → 0x3900 ≤ (M s).least + stack_of z → Goes s r q →
          (A : Outcome P image marks z built Sound IsWord sound pace wide (on_board r (board_due rows s r.board)) (record { cpu = (M s).joined.cpu; bus = record { ram = (M s).joined.bus.ram; code = (M s).joined.bus.code; ports = outside_after P rows s r (M s).joined.bus.ports } }) q) →
          M (suc s) ≡ counted board_ports (M s) (record { after = A.next; stepped = A.stepped }) →
          after_all P r (arrivals rows s) ≡ on_board r (board_due rows s r.board) → Goal s r q
      finish s r q deep h A went came =
          let arr = arrivals rows s in
          let r1 = on_board r (board_due rows s r.board) in
          let legal_joined : is_illegal A.stepped ≡ false = never_illegal (is_stopped A.stepped) refl in
          let later_joined : (M (suc s)).joined ≡ A.next = ap (λ (x : Running Outside). x.joined) went ∙ untold A.stepped A.next legal_joined in
          let later : after_all P r (arr ++ A.acts) ≡ after_all P r1 A.acts = after_all-append P r arr A.acts ∙ ap (λ t. after_all P t A.acts) came in
          let ran : (m (suc s)).ran ≡ (m s).ran + counts A.stepped = ap (λ (x : Running Outside). x.ran) went in
          let w : waiting_effects P r (arr ++ A.acts) ≡ waiting_effects P r1 A.acts =
          waiting-append P r arr A.acts ∙ ap (λ n. n + waiting_effects P (after_all P r arr) A.acts) (arrivals_count P rows s r) ∙ ap (λ t. 0 + waiting_effects P t A.acts) came ∙ omega arith in
          let spent = spent_by (length A.acts) (counts A.stepped) A.later.left q.left (λ e. A.quiet (empty_of A.acts e)) A.paid (length arr) in
          let lengths : pace * length (arr ++ A.acts) ≡ pace * (length arr + length A.acts) = ap (λ n. pace * n) (length-append arr A.acts) in
          let f = A.few in (
            arr ++ A.acts,
            A.later,
            record {
              deep = subst (λ n. 0x3900 ≤ n + stack_of z) (sym (ap (λ (x : Running Outside). x.least) went)) (least_deep (M s).least A.next.cpu.sp deep A.deep);
              stage = by_stop (is_stopped A.stepped) refl later_joined later;
            },
            record {
              legal = legal-append P r arr A.acts (legal_arrivals P rows s r (run_goes r (M s).joined q h.there)) (subst (λ t. AreLegal P t A.acts) (sym came) A.legal);
              shown =
                  ap (λ (x : Joined (Memory Outside)). x.bus.ports.shown) later_joined
                  ∙ A.shown
                  ∙ append_assoc (M s).joined.bus.ports.shown (shown_by P r arr) (shown_by P r1 A.acts)
                  ∙ ap (λ t. (m s).shown ++ (shown_by P r arr ++ shown_by P t A.acts)) (sym came)
                  ∙ ap (λ l. (m s).shown ++ l) (sym (shown_by-append P r arr A.acts));
              spent = omega (arith, ran, spent, lengths);
              few = record {
                low = let l = f.low in omega (arith, w, l);
                counted = let l = f.counted in omega (arith, w, l);
                falls = λ v waits. let l = f.falls v (subst (λ t. Waits P v t A.acts) came (waits_back P v r arr A.acts waits)) in omega (arith, w, l);
              };
              prompt = λ v waits outside. let l = A.prompt v (subst (λ t. Waits P v t A.acts) came (waits_back P v r arr A.acts waits)) (subst (λ t. StaysOutside P t A.acts) came (outside_back P r arr A.acts outside)) in omega (arith, ran, l);
            },
          )
        where
          never_illegal : (t : Bool) → is_stopped A.stepped ≡ t → is_illegal A.stepped ≡ false
          never_illegal true e = (A.halts e).0
          never_illegal false e = not_illegal A.stepped e

          least_deep : (a c : ℕ) → 0x3900 ≤ a + stack_of z → 0x3900 ≤ c + stack_of z → 0x3900 ≤ min a c + stack_of z
          least_deep a c x y = let l : 0x3900 - stack_of z ≤ min a c = le-min (omega (arith, x)) (omega (arith, y)) in omega (arith, l)

          by_stop : (t : Bool) → is_stopped A.stepped ≡ t → (M (suc s)).joined ≡ A.next → after_all P r (arrivals rows s ++ A.acts) ≡ after_all P (on_board r (board_due rows s r.board)) A.acts → Stage (suc s) (after_all P r (arrivals rows s ++ A.acts)) A.later
          by_stop true e joined later = IsHalted (record {
            stopped = ap (λ (x : Running Outside). x.stopped) went ∙ e;
            awake = ap (λ (x : Joined (Memory Outside)). cpuoff x.cpu) joined ∙ (A.halts e).1;
            no_idle = ap (λ (x : Running Outside). x.idle) went ∙ not_idle A.stepped e;
            none = (A.halts e).2;
          })
          by_stop false e joined later = IsGoing (record {
            going = ap (λ (x : Running Outside). x.stopped) went ∙ e;
            there = subst (λ x. AtAll x (M (suc s)).joined A.later) (sym later) (subst (λ x. AtAll (after_all P (on_board r (board_due rows s r.board)) A.acts) x A.later) (sym joined) (A.goes e));
            idle = λ i. ap (λ (x : State). line_of x.board) later ∙ A.idle (sym (ap (λ (x : Running Outside). x.idle) went) ∙ i);
          })

  step : (s : ℕ) (r : State) (q : Bounds) → Rel s r q → Goal s r q
  step s r q rel = by_stage rel.stage
    where
      by_stage : Stage s r q → Goal s r q
      by_stage (IsGoing h) = step_going s r q rel.deep h
      by_stage (IsHalted h) = halted_step s r q rel.deep h

  small_gate : (t : Bool) → cond {A = ℕ} t 0 1 ≤ 1
  small_gate true = omega arith
  small_gate false = omega arith

  low_base : (base : Base) (c : Cpu) → AreLow pace (base_bounds P image marks z built Sound IsWord sound pace wide base c)
  low_base Starting c = record { left = omega (arith, wide); effects = omega arith; closed = omega (arith, wide) }
  low_base Opening c = record { left = omega (arith, wide); effects = omega arith; closed = omega (arith, wide) }
  low_base Calling c = record { left = omega (arith, wide); effects = omega arith; closed = omega (arith, wide) }
  low_base (InBody before since) c =
      let g = small_gate c.gate in
      let e = effects_low (is_within (boot_at P image marks z built Sound IsWord sound pace wide (before ++ since)).done) c.gate (gie c) in
      record { left = omega (arith, wide); effects = omega (arith, e); closed = omega (arith, wide, g) }
  low_base AtLoop c = let g = small_gate c.gate in record { left = omega (arith, wide); effects = omega arith; closed = omega (arith, wide, g) }
  low_base Asleep c = record { left = omega arith; effects = omega arith; closed = omega arith }
  low_base AtJump c = record { left = omega (arith, wide); effects = omega arith; closed = omega arith }

  low_at : (r : State) (j : Joined (Memory Outside)) (q : Bounds) → AtAll r j q → AreLow pace q
  low_at r j q (OnBase a) = subst (AreLow pace) (sym a.bounds) (low_base a.base j.cpu)
  low_at r j q (OnHandler a) = subst (AreLow pace) (sym a.bounds) (record { left = omega (arith, wide); effects = omega arith; closed = omega arith })

  low_stage : (s : ℕ) (r : State) (q : Bounds) → Stage s r q → AreLow pace q
  low_stage s r q (IsGoing h) = low_at r (M s).joined q h.there
  low_stage s r q (IsHalted h) = subst (AreLow pace) (sym h.none) (record { left = omega arith; effects = omega arith; closed = omega arith })

  rest_base : (base : Base) (r : State) (j : Joined (Memory Outside)) → IsBase P image marks z built Sound IsWord sound pace wide base j.cpu j.bus.ram → r.base ≡ base_context P image marks z built Sound IsWord sound pace wide base → r.handler ≡ None → IsCommon Sound image z.data_end r j.bus → cpuoff j.cpu ≡ true → AtRest r
  rest_base Starting r j h context none common off = absurd (not_so (sym (ap cpuoff h.cpu) ∙ off))
  rest_base Opening r j h context none common off = absurd (not_so (sym (ap cpuoff h.cpu) ∙ off))
  rest_base Calling r j h context none common off = absurd (not_so (sym (ap cpuoff h.cpu) ∙ off))
  rest_base (InBody before since) r j h context none common off = absurd (not_so (sym (base_awake P image marks z built Sound IsWord sound pace wide (InBody before since) j.cpu j.bus.ram tt h) ∙ off))
  rest_base AtLoop r j h context none common off = absurd (not_so (sym h.off ∙ off))
  rest_base Asleep r j h context none common off = record { no_task = common.no_task; no_base = subst IsNone (sym context) refl; no_handler = subst IsNone (sym none) refl }
  rest_base AtJump r j h context none common off = absurd (not_so (sym h.loop.off ∙ off))

  rest_at : (r : State) (j : Joined (Memory Outside)) (q : Bounds) → AtAll r j q → cpuoff j.cpu ≡ true → AtRest r
  rest_at r j q (OnBase a) off = rest_base a.base r j a.is a.context a.no_handler a.common off
  rest_at r j q (OnHandler a) off = absurd (not_so (sym (handler_awake P image marks z built Sound IsWord sound pace wide r j q a) ∙ off))

  rest_stage : (s : ℕ) (r : State) (q : Bounds) → Stage s r q → (m s).off ≡ true → AtRest r
  rest_stage s r q (IsGoing h) off = rest_at r (M s).joined q h.there off
  rest_stage s r q (IsHalted h) off = absurd (not_so (sym h.awake ∙ off))

  wake_stage : (s : ℕ) (r : State) (q : Bounds) → Stage s r q → (m s).idle ≡ true → line_of r.board ≡ None
  wake_stage s r q (IsGoing h) idle = h.idle idle
  wake_stage s r q (IsHalted h) idle = absurd (not_so (sym h.no_idle ∙ idle))

  abbrev first_bounds : Bounds
  first_bounds = base_bounds P image marks z built Sound IsWord sound pace wide Starting (reset built.reset_at)

  pub starts : Rel 0 (start P b) first_bounds
  starts = record {
    deep = omega arith;
    stage = IsGoing (record {
      going = refl;
      there = OnBase (record {
        base = Starting;
        is = record { cpu = ap (λ x. reset (even x)) (stands built.vector (M 0).joined.bus refl) ∙ ap reset built.even_reset; ram = refl };
        context = refl;
        no_handler = refl;
        common = record { code = refl; board = refl; store = λ a d. refl; words = first_sound; bytes = λ a. omega arith; no_task = refl; going = refl; runs = refl };
        bounds = refl;
      });
      idle = λ h. absurd (not_so h);
    });
  }

  pub simulates : Simulates P pace b m Rel
  simulates = record {
    none = refl;
    from = first_bounds;
    first = starts;
    low = λ s r q rel. low_stage s r q rel.stage;
    rest = λ s r q rel off. rest_stage s r q rel.stage off;
    wake = λ s r q rel idle. wake_stage s r q rel.stage idle;
    step = step;
  }

  record Kept (s : ℕ) : Type 0 where
    state : State
    bounds : Bounds
    related : Rel s state bounds

  keep : (s : ℕ) → Kept s → Kept (suc s)
  keep s kept = let t = step s kept.state kept.bounds kept.related in record { state = after_all P kept.state t.0; bounds = t.1; related = t.2 }

  kept : (s : ℕ) → Kept s
  kept zero = record { state = start P b; bounds = first_bounds; related = starts }
  kept (suc s) = keep s (kept s)

  pub runs_so : (n : ℕ) → Allowed P pace b m n × (0x3900 ≤ (m n).least + stack_of z)
  runs_so n = (simulated P pace b m Rel simulates n, (kept n).related.deep)

runs_on : (Sound : BoardState → Type 0) (IsWord : Given → Type 0) → RunsOn Sound IsWord
runs_on Sound IsWord P image marks z b rows pace n sound first words built wide = runs_so P image marks z built Sound IsWord sound pace wide b rows first words n

pub runs_as_source : RunsAsSource
runs_as_source P image marks z b rows pace n words word_rows built wide =
    runs_on IsWordBoard IsWordGiven P image marks z b rows pace n answers_words (record { mask = omega arith; slots = words.slots; eight = words.eight }) word_rows (spelled P image marks z built) wide
