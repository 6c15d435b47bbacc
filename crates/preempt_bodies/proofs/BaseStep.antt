-- One step of the base: the code of reset, the boot body, the loop that sleeps.
use Rattle.std.proofs.Common.{◌≡◌, ℕ, negsuc, ◌+◌, ◌-◌, ◌*◌, ◌/◌, ◌%◌, ◌^◌, ◌<◌, ◌≤◌, ◌==◌, Bool, true, false, ◌&&◌, cond, List, [], ◌++◌, Option, Some, None, refl, sym, ap, subst, ◌∙◌, arith, append-nil}
use Rattle.std.proofs.lemmas.Bool.Decides.{nat_tests}
use Rattle.std.proofs.lemmas.Nat.{or_of_16}
use Rattle.std.proofs.lemmas.Nat.Bits.{bit_at_or}
use Rattle.std.specs.Prelude.{is_some, replicate, bit_or, max}
use Rattle.nm_base.specs.Lists.{bit}
use Rattle.nm_base.specs.declared.action.Action.{Action}
use Rattle.mote_devices.specs.declared.state.BoardState.{BoardState}
use Rattle.mote_devices.specs.declared.shown.Given.{Given}
use Rattle.mote_devices.specs.Board.{line_of}
use Rattle.mote_devices.specs.Outside.{Outside}
use Rattle.core_meaning.specs.Source.{Source}
use Rattle.run_meaning.specs.State.{State, is_inside}
use Rattle.run_meaning.specs.Steps.{Waits}
use Rattle.msp_isa.specs.declared.instr.Op2.TheVariants as op2
use Rattle.msp_isa.specs.declared.instr.Op1.TheVariants as op1
use Rattle.msp_isa.specs.declared.instr.Cond.TheVariants.{Jmp}
use Rattle.msp_isa.specs.declared.instr.Operand.TheVariants.{Reg, Immediate, Constant}
use Rattle.msp_isa.specs.declared.instr.Instr.TheVariants.{Two, One, Jump}
use Rattle.msp_isa.specs.Decode.{decode}
use Rattle.msp430_cpu.specs.declared.cpu.Stepped.TheVariants.{Ran, Idle}
use Rattle.msp430_cpu.specs.Cpu.{Cpu, reset, even, gie, cpuoff, is_open, wrap16}
use Rattle.msp430_cpu.specs.Exec.{Joined, exec, run_or_idle, run_decoded, words_at, stepped_of}
use Rattle.msp430_cpu.specs.Memory.{Memory, word_at, with_word_at, with_ram}
use Rattle.preempt_core.specs.Law.{Bounds}
use Rattle.preempt_core.proofs.Instruction.{goes_on, stays_closed, runs_on}
use Rattle.preempt_core.proofs.Waiting.{waits_line}
use Rattle.open_law.specs.Open.{Moment, Open, HoldsWords, is_within, is_over, settled, open_start}
use Rattle.preempt_bodies.specs.Boards.{AnswersWords}
use Rattle.preempt_bodies.specs.Bodies.{Sizes, awake_sr, stack_of}
use Rattle.preempt_bodies.proofs.Words.{IsSpelled}
use Rattle.preempt_bodies.proofs.Carry.{ops, stands, IsCommon}
use Rattle.preempt_bodies.proofs.Running.{between_at, not_back}
use Rattle.preempt_bodies.proofs.BodyStep.{body_step}
use Rattle.preempt_bodies.proofs.HandlerStep.{handler_step}
use Rattle.preempt_bodies.proofs.Enter.{CanEnter, enter_step, resumed, byte_below, small_word}
use Rattle.preempt_bodies.proofs.Logged.{data_high}
use Rattle.preempt_bodies.proofs.Places.{Base, Starting, Opening, Calling, InBody, AtLoop, Asleep, AtJump, IsBase, IsBody, IsReset, IsLoop, IsLoopOpen, IsSuspended, base_bounds, base_context, boot_at, boot_law, boot_cpu, boot_ram, booting, AtBase, At, OnBase, OnHandler, Outcome, no_bounds}

not_so : false ≡ true → ⊥
not_so h = cc

-- SR without CPUOFF
pub awake_off : (sr : ℕ) → bit (awake_sr sr) 4 ≡ false
awake_off sr = by_test (bit sr 4) refl
  where
    by_test : (t : Bool) → bit sr 4 ≡ t → bit (cond t (sr - 16) sr) 4 ≡ false
    by_test false e = e
    by_test true e = let h : sr / 16 % 2 ≡ 1 = grind (arith, nat_tests) in let k : (sr - 16) / 16 % 2 ≡ 0 = omega (arith, h) in grind (arith, nat_tests)

pub awake_gie : (sr : ℕ) → bit (awake_sr sr) 3 ≡ bit sr 3
awake_gie sr = by_test (bit sr 4) refl
  where
    by_test : (t : Bool) → bit sr 4 ≡ t → bit (cond t (sr - 16) sr) 3 ≡ bit sr 3
    by_test false e = refl
    by_test true e = let h : sr / 16 % 2 ≡ 1 = grind (arith, nat_tests) in let k : (sr - 16) / 8 % 2 ≡ sr / 8 % 2 = omega (arith, h) in ap (λ n. n == 1) k

pub awake_low : (sr : ℕ) → sr < 0x10000 → awake_sr sr < 0x10000
awake_low sr h = by_test (bit sr 4)
  where
    by_test : (t : Bool) → cond t (sr - 16) sr < 0x10000
    by_test true = omega (arith, h)
    by_test false = h

-- SR with GIE and CPUOFF
or_bit : (sr k : ℕ) → 0x18 / 2 ^ k % 2 ≡ 1 → bit (bit_or sr 0x18) k ≡ true
or_bit sr k h =
    let e : bit_or sr 0x18 / 2 ^ k % 2 ≡ max (sr / 2 ^ k % 2) (0x18 / 2 ^ k % 2) = bit_at_or sr 0x18 k in
    let f : bit_or sr 0x18 / 2 ^ k % 2 ≡ 1 = e ∙ ap (max (sr / 2 ^ k % 2)) h ∙ at_most (sr / 2 ^ k % 2) (omega arith) in
    grind (arith, nat_tests)
  where
    at_most : (n : ℕ) → n < 2 → max n 1 ≡ 1
    at_most n l = omega (arith, l)

resumed_words : (c : Cpu) → HoldsWords c → HoldsWords (resumed c)
resumed_words c w = record { pc = w.pc; even_pc = w.even_pc; even_sp = w.even_sp; sr = awake_low c.sr w.sr; twelve = w.twelve; others = w.others }

module _ (P : Source) (image : ℕ → ℕ) (marks : ℕ → List Action) (z : Sizes) (built : IsSpelled P image marks z) (Sound : BoardState → Type 0) (IsWord : Given → Type 0) (sound : AnswersWords Sound IsWord) (pace : ℕ) (wide : z.bound + 3 ≤ pace) where
  abbrev Common : State → Memory Outside → Type 0
  Common r m = IsCommon Sound image z.data_end r m

  abbrev Enters : State → Joined (Memory Outside) → Type 0
  Enters r j = CanEnter P image marks z built Sound IsWord sound pace wide r j

  abbrev Result : State → Joined (Memory Outside) → Bounds → Type 0
  Result r j q = Outcome P image marks z built Sound IsWord sound pace wide r j q

  abbrev BaseIs : Base → Cpu → (ℕ → ℕ) → Type 0
  BaseIs = IsBase P image marks z built Sound IsWord sound pace wide

  abbrev bounds_at : Base → Cpu → Bounds
  bounds_at = base_bounds P image marks z built Sound IsWord sound pace wide

  -- the loop can be interrupted
  loop_enters : (r : State) (j : Joined (Memory Outside)) (base : Base) → HoldsWords j.cpu → j.cpu.sp ≡ 0x3900 → IsSuspended base → BaseIs base (resumed j.cpu) j.bus.ram → r.base ≡ None → base_context P image marks z built Sound IsWord sound pace wide base ≡ None → r.handler ≡ None → Common r j.bus → Enters r j
  loop_enters r j base words sp waits is none there no_handler common =
      let room = built.room in
      record {
        words = words;
        room = omega (arith, room, sp);
        high = omega (arith, sp);
        deep = omega (arith, room, sp);
        outside = ap is_inside none;
        base = base;
        waits = waits;
        is = is;
        context = none ∙ sym there;
        no_handler = no_handler;
        common = common;
      }

  -- the boot body can be interrupted where the gate is open
  body_enters : (before since : List Moment) (r : State) (j : Joined (Memory Outside)) → IsBody P image marks z built Sound IsWord sound pace wide before since j.cpu j.bus.ram → r.base ≡ base_context P image marks z built Sound IsWord sound pace wide (InBody before since) → r.handler ≡ None → Common r j.bus → j.cpu.gate ≡ true → Enters r j
  body_enters before since r j h context none common gate =
      let o : Open = boot_at P image marks z built Sound IsWord sound pace wide (before ++ since) in
      let btw = between_at _ _ _ z.bound _ _ _ _ (boot_law P image marks z built Sound IsWord sound pace wide) before since h.runs in
      let room = built.room in
      let low = btw.low in
      let high = btw.high in
      let sp : j.cpu.sp ≡ o.cpu.sp = ap (λ (c : Cpu). c.sp) h.cpu in
      let open_there : o.cpu.gate ≡ true = was_open h.interrupted o.cpu.gate (gie o.cpu) (sym (ap (λ (c : Cpu). c.gate) h.cpu) ∙ gate) in
      let on : cpuoff o.cpu ≡ false = btw.awake (not_back 0x3900 o h.runs.going).0 in
      let sr : awake_sr o.cpu.sr ≡ o.cpu.sr = ap (λ t. cond t (o.cpu.sr - 16) o.cpu.sr) on in
      let w = btw.words in
      let back : resumed j.cpu ≡ settled true o.cpu =
      ap resumed h.cpu
      ∙ ap (λ x. record { pc = o.cpu.pc; sp = o.cpu.sp; sr = x; others = o.cpu.others; gate = bit x 3 }) sr
      ∙ ap (λ t. record { pc = o.cpu.pc; sp = o.cpu.sp; sr = o.cpu.sr; others = o.cpu.others; gate = t && gie o.cpu }) (sym open_there) in
      record {
        words = subst HoldsWords (sym h.cpu) (record { pc = w.pc; even_pc = w.even_pc; even_sp = w.even_sp; sr = w.sr; twelve = w.twelve; others = w.others });
        room = omega (arith, room, low, sp);
        high = omega (arith, high, sp);
        deep = omega (arith, room, low, sp);
        outside = ap is_inside context ∙ not_within (is_within o.done) o.cpu.gate (λ e. (btw.gate h.runs.going).shut e) open_there;
        base = InBody before since;
        waits = tt;
        is = record { interrupted = true; runs = h.runs; cpu = back; stack = h.stack };
        context = context;
        no_handler = none;
        common = common;
      }
    where
      was_open : (i g k : Bool) → cond i (g && k) g ≡ true → g ≡ true
      was_open true true k e = refl
      was_open true false k e = absurd (not_so e)
      was_open false g k e = e

      not_within : (x g : Bool) → (x ≡ true → g ≡ false) → g ≡ true → x ≡ false
      not_within true g shut e = absurd (not_so (sym (shut refl) ∙ e))
      not_within false g shut e = refl

  -- a step that is no move of the run
  silent_step : (r : State) (j j' : Joined (Memory Outside)) (q : Bounds) (base : Base) → exec ops j ≡ record { after = j'; stepped = Ran } → j'.bus.ports ≡ j.bus.ports → BaseIs base j'.cpu j'.bus.ram →
      r.base ≡ base_context P image marks z built Sound IsWord sound pace wide base → r.handler ≡ None → Common r j'.bus → 0x3900 ≤ j'.cpu.sp + stack_of z →
      1 + (bounds_at base j'.cpu).left ≤ q.left → (bounds_at base j'.cpu).effects ≡ 0 → ((v : ℕ) → Waits P v r [] → 1 + (bounds_at base j'.cpu).closed ≤ q.closed) → Result r j q
  silent_step r j j' q base exec_is ports is context none common deep left effects closed = record {
    acts = [];
    next = j';
    stepped = Ran;
    later = bounds_at base j'.cpu;
    exec_is = exec_is;
    legal = tt;
    shown = ap (λ (o : Outside). o.shown) ports ∙ sym (append-nil j.bus.ports.shown);
    goes = λ n. OnBase (record { base = base; is = is; context = context; no_handler = none; common = common; bounds = refl });
    halts = λ n. absurd (not_so n);
    idle = λ n. absurd (not_so n);
    deep = deep;
    quiet = λ n. left;
    paid = λ n. let h : 1 ≤ 0 = n in absurd (omega (arith, h));
    few = record { low = omega (arith, effects); counted = omega arith; falls = λ v h. omega (arith, effects) };
    prompt = λ v h s. closed v h;
  }

  -- BIS #GIE + CPUOFF, SR
  abbrev asleep_cpu : Cpu → Cpu
  asleep_cpu c = record { pc = wrap16 (wrap16 (wrap16 (c.pc + 2) + 2) + 0); sp = c.sp; sr = bit_or (c.sr % 0x10000) 0x18; others = c.others; gate = gie c }

  loop_step : (r : State) (j : Joined (Memory Outside)) → IsLoop P image marks z built Sound IsWord sound pace wide j.cpu (built.reset_at + 10) false → r.base ≡ None → r.handler ≡ None → Common r j.bus → exec ops j ≡ run_or_idle ops j → (j.cpu.gate ≡ true → line_of r.board ≡ None) → Result r j (bounds_at AtLoop j.cpu)
  loop_step r j h none no_handler common go open_none =
      let f0 : word_at j.bus j.cpu.pc ≡ 0xD032 = ap (word_at j.bus) h.pc ∙ stands built.sleeps j.bus common.code in
      let hi = built.high_reset in
      let at = h.pc in
      let e1 : wrap16 (j.cpu.pc + 2) ≡ built.reset_at + 12 = omega (arith, at, hi) in
      let e2 : wrap16 (j.cpu.pc + 4) ≡ built.reset_at + 14 = omega (arith, at, hi) in
      let f1 : word_at j.bus (wrap16 (j.cpu.pc + 2)) ≡ 0x0018 = ap (word_at j.bus) e1 ∙ stands built.bits j.bus common.code in
      let f2 : word_at j.bus (wrap16 (j.cpu.pc + 4)) ≡ 0x3FFD = ap (word_at j.bus) e2 ∙ stands built.loops j.bus common.code in
      let s : exec ops j ≡ record { after = record { cpu = asleep_cpu j.cpu; bus = j.bus }; stepped = stepped_of ops j.bus.ports.stopped } = runs_on ops j 0xD032 0x0018 0x3FFD (Two op2.Bis false (Immediate 0x0018) (Reg 2)) 2 go h.off f0 f1 f2 refl in
      let w = h.words in
      let pc : wrap16 (wrap16 (wrap16 (j.cpu.pc + 2) + 2) + 0) ≡ built.reset_at + 14 = omega (arith, at, hi) in
      let even_there : even (built.reset_at + 14) ≡ built.reset_at + 14 = let e = built.even_reset in omega (arith, e) in
      let sr : j.cpu.sr % 0x10000 < 0x10000 = omega arith in
      let sp = h.sp in
      silent_step r j (record { cpu = asleep_cpu j.cpu; bus = j.bus }) (bounds_at AtLoop j.cpu) Asleep
      (s ∙ ap (λ o. record { after = record { cpu = asleep_cpu j.cpu; bus = j.bus }; stepped = stepped_of ops o }) common.runs) refl
      (record {
        loop = record {
          pc = pc;
          sp = sp;
          off = or_bit (j.cpu.sr % 0x10000) 4 refl;
          words = record { pc = omega arith; even_pc = ap even pc ∙ even_there ∙ sym pc; even_sp = w.even_sp; sr = or_of_16 (j.cpu.sr % 0x10000) 0x18 sr (omega arith); twelve = w.twelve; others = w.others };
        };
        opened = or_bit (j.cpu.sr % 0x10000) 3 refl;
        gate = λ e. absurd (not_so (sym e));
      })
      none no_handler common (omega (arith, sp)) (omega arith) refl
      (λ v waits. shut_there v waits j.cpu.gate refl)
    where
      shut_there : (v : ℕ) → Waits P v r [] → (t : Bool) → j.cpu.gate ≡ t → 1 ≤ cond {A = ℕ} j.cpu.gate 0 1
      shut_there v waits true e = absurd (not_so (sym (ap is_some (open_none e)) ∙ waits_line P v r [] waits))
      shut_there v waits false e = let c : cond {A = ℕ} j.cpu.gate 0 1 ≡ 1 = ap (λ t. cond {A = ℕ} t 0 1) e in omega (arith, c)

  -- JMP back to it
  jump_step : (r : State) (j : Joined (Memory Outside)) → IsLoopOpen P image marks z built Sound IsWord sound pace wide j.cpu false → r.base ≡ None → r.handler ≡ None → Common r j.bus → line_of r.board ≡ None → exec ops j ≡ run_or_idle ops j → Result r j (bounds_at AtJump j.cpu)
  jump_step r j h none no_handler common no_line go =
      let f0 : word_at j.bus j.cpu.pc ≡ 0x3FFD = ap (word_at j.bus) h.loop.pc ∙ stands built.loops j.bus common.code in
      let c' : Cpu = record { pc = wrap16 (wrap16 (j.cpu.pc + 2) + 0x10000 - 2 * (2 + 1)); sp = j.cpu.sp; sr = j.cpu.sr; others = j.cpu.others; gate = gie j.cpu } in
      let s : exec ops j ≡ record { after = record { cpu = c'; bus = j.bus }; stepped = stepped_of ops j.bus.ports.stopped } = runs_on ops j 0x3FFD (word_at j.bus (wrap16 (j.cpu.pc + 2))) (word_at j.bus (wrap16 (j.cpu.pc + 4))) (Jump Jmp (negsuc 2)) 1 go h.loop.off f0 refl refl refl in
      let w = h.loop.words in
      let at = h.loop.pc in
      let hi = built.high_reset in
      let pc : c'.pc ≡ built.reset_at + 10 = omega (arith, at, hi) in
      let even_there : even (built.reset_at + 10) ≡ built.reset_at + 10 = let e = built.even_reset in omega (arith, e) in
      let sp = h.loop.sp in
      silent_step r j (record { cpu = c'; bus = j.bus }) (bounds_at AtJump j.cpu) AtLoop
      (s ∙ ap (λ o. record { after = record { cpu = c'; bus = j.bus }; stepped = stepped_of ops o }) common.runs) refl
      (record { pc = pc; sp = sp; off = h.loop.off; words = record { pc = omega arith; even_pc = ap even pc ∙ even_there ∙ sym pc; even_sp = w.even_sp; sr = w.sr; twelve = w.twelve; others = w.others } })
      none no_handler common (omega (arith, sp)) (omega arith) refl
      (λ v waits. absurd (not_so (sym (ap is_some no_line) ∙ waits_line P v r [] waits)))

  -- asleep, and no line
  idle_step : (r : State) (j : Joined (Memory Outside)) → IsLoopOpen P image marks z built Sound IsWord sound pace wide j.cpu true → r.base ≡ None → r.handler ≡ None → Common r j.bus → line_of r.board ≡ None → exec ops j ≡ run_or_idle ops j → Result r j (bounds_at Asleep j.cpu)
  idle_step r j h none no_handler common no_line go = record {
    acts = [];
    next = j;
    stepped = Idle;
    later = no_bounds;
    exec_is = go ∙ still;
    legal = tt;
    shown = sym (append-nil j.bus.ports.shown);
    goes = λ n. OnBase (record { base = Asleep; is = h; context = none; no_handler = no_handler; common = common; bounds = refl });
    halts = λ n. absurd (not_so n);
    idle = λ n. no_line;
    deep = let sp = h.loop.sp in omega (arith, sp);
    quiet = λ n. omega arith;
    paid = λ n. let k : 1 ≤ 0 = n in absurd (omega (arith, k));
    few = record { low = omega arith; counted = omega arith; falls = λ v k. omega arith };
    prompt = λ v k s. omega arith;
  }
    where
      asleep : (t : Bool) → cpuoff j.cpu ≡ t → t ≡ true → run_or_idle ops j ≡ record { after = j; stepped = Idle }
      asleep t e f = ap (λ (s : Bool). cond s (record { after = j; stepped = Idle }) (run_decoded ops j (decode (words_at ops j)))) (e ∙ f)

      still : run_or_idle ops j ≡ record { after = j; stepped = Idle }
      still = asleep (cpuoff j.cpu) refl h.loop.off

  -- the code of reset
  abbrev zeros : List ℕ
  zeros = replicate 12 0

  at_cpu : (j : Joined (Memory Outside)) (c : Cpu) → j.cpu ≡ c → exec ops j ≡ exec ops (record { cpu = c; bus = j.bus })
  at_cpu j c e = ap (λ k. exec ops (record { cpu = k; bus = j.bus })) e

  first_step : (r : State) (j : Joined (Memory Outside)) → IsReset P image marks z built Sound IsWord sound pace wide j.cpu (reset built.reset_at) j.bus.ram → r.base ≡ booting P image marks z built Sound IsWord sound pace wide → r.handler ≡ None → Common r j.bus → Result r j (bounds_at Starting j.cpu)
  first_step r j h context none common =
      let j0 : Joined (Memory Outside) = record { cpu = reset built.reset_at; bus = j.bus } in
      let hi = built.high_reset in
      let there : ℕ → Cpu = λ pc. record { pc = pc; sp = 0x3900; sr = 0; others = zeros; gate = false } in
      let e1 : wrap16 (built.reset_at + 2) ≡ built.reset_at + 2 = omega (arith, hi) in
      let e2 : wrap16 (built.reset_at + 4) ≡ built.reset_at + 4 = omega (arith, hi) in
      let pc : wrap16 (wrap16 (wrap16 (built.reset_at + 2) + 2) + 0) ≡ built.reset_at + 4 = omega (arith, hi) in
      let s : exec ops j0 ≡ record { after = record { cpu = there (wrap16 (wrap16 (wrap16 (built.reset_at + 2) + 2) + 0)); bus = j.bus }; stepped = stepped_of ops j.bus.ports.stopped } = runs_on ops j0 0x4031 0x3900 0xD232 (Two op2.Mov false (Immediate 0x3900) (Reg 1)) 2 (stays_closed ops j0 refl) refl (stands built.sets_sp j.bus common.code) (ap (word_at j.bus) e1 ∙ stands built.top j.bus common.code) (ap (word_at j.bus) e2 ∙ stands built.opens j.bus common.code) refl in
      silent_step r j (record { cpu = there (built.reset_at + 4); bus = j.bus }) (bounds_at Starting j.cpu) Opening
      (at_cpu j (reset built.reset_at) h.cpu ∙ s ∙ ap (λ n. record { after = record { cpu = there n; bus = j.bus }; stepped = stepped_of ops j.bus.ports.stopped }) pc ∙ ap (λ o. record { after = record { cpu = there (built.reset_at + 4); bus = j.bus }; stepped = stepped_of ops o }) common.runs) refl
      (record { cpu = refl; ram = h.ram }) context none common (omega arith) (omega arith) refl (λ v w. omega arith)

  second_step : (r : State) (j : Joined (Memory Outside)) → IsReset P image marks z built Sound IsWord sound pace wide j.cpu (record { pc = built.reset_at + 4; sp = 0x3900; sr = 0; others = zeros; gate = false }) j.bus.ram → r.base ≡ booting P image marks z built Sound IsWord sound pace wide → r.handler ≡ None → Common r j.bus → Result r j (bounds_at Opening j.cpu)
  second_step r j h context none common =
      let c : Cpu = record { pc = built.reset_at + 4; sp = 0x3900; sr = 0; others = zeros; gate = false } in
      let j0 : Joined (Memory Outside) = record { cpu = c; bus = j.bus } in
      let hi = built.high_reset in
      let there : ℕ → Cpu = λ pc. record { pc = pc; sp = 0x3900; sr = 8; others = zeros; gate = false } in
      let e1 : wrap16 (built.reset_at + 4 + 2) ≡ built.reset_at + 6 = omega (arith, hi) in
      let e2 : wrap16 (built.reset_at + 4 + 4) ≡ built.reset_at + 8 = omega (arith, hi) in
      let pc : wrap16 (wrap16 (wrap16 (built.reset_at + 4 + 2) + 0) + 0) ≡ built.reset_at + 6 = omega (arith, hi) in
      let s : exec ops j0 ≡ record { after = record { cpu = there (wrap16 (wrap16 (wrap16 (built.reset_at + 4 + 2) + 0) + 0)); bus = j.bus }; stepped = stepped_of ops j.bus.ports.stopped } = runs_on ops j0 0xD232 0x12B0 z.boot (Two op2.Bis false (Constant 8) (Reg 2)) 1 (stays_closed ops j0 refl) refl (stands built.opens j.bus common.code) (ap (word_at j.bus) e1 ∙ stands built.calls j.bus common.code) (ap (word_at j.bus) e2 ∙ stands built.boot_at j.bus common.code) refl in
      silent_step r j (record { cpu = there (built.reset_at + 6); bus = j.bus }) (bounds_at Opening j.cpu) Calling
      (at_cpu j c h.cpu ∙ s ∙ ap (λ n. record { after = record { cpu = there n; bus = j.bus }; stepped = stepped_of ops j.bus.ports.stopped }) pc ∙ ap (λ o. record { after = record { cpu = there (built.reset_at + 6); bus = j.bus }; stepped = stepped_of ops o }) common.runs) refl
      (record { cpu = refl; ram = h.ram }) context none common (omega arith) (omega arith) refl (λ v w. omega arith)

  third_step : (r : State) (j : Joined (Memory Outside)) → IsReset P image marks z built Sound IsWord sound pace wide j.cpu (record { pc = built.reset_at + 6; sp = 0x3900; sr = 8; others = zeros; gate = false }) j.bus.ram → r.base ≡ booting P image marks z built Sound IsWord sound pace wide → r.handler ≡ None → Common r j.bus → Result r j (bounds_at Calling j.cpu)
  third_step r j h context none common =
      let c : Cpu = record { pc = built.reset_at + 6; sp = 0x3900; sr = 8; others = zeros; gate = false } in
      let hi = built.high_reset in
      let j0 : Joined (Memory Outside) = record { cpu = c; bus = j.bus } in
      let low = built.low_boot in
      let eb = built.even_boot in
      let bus_with : ℕ → Memory Outside = λ back. with_ram j.bus (with_word_at j.bus.ram 0x38FE back) in
      let bus' : Memory Outside = bus_with (built.reset_at + 10) in
      let e1 : wrap16 (built.reset_at + 6 + 2) ≡ built.reset_at + 8 = omega (arith, hi) in
      let e2 : wrap16 (built.reset_at + 6 + 4) ≡ built.reset_at + 10 = omega (arith, hi) in
      let back : wrap16 (wrap16 (built.reset_at + 6 + 2) + 2) ≡ built.reset_at + 10 = omega (arith, hi) in
      let s : exec ops j0 ≡ record { after = record { cpu = record { pc = even (z.boot % 0x10000); sp = 0x38FE; sr = 8; others = zeros; gate = true }; bus = bus_with (wrap16 (wrap16 (built.reset_at + 6 + 2) + 2)) }; stepped = stepped_of ops j.bus.ports.stopped } = runs_on ops j0 0x12B0 z.boot 0xD032 (One op1.Call false (Immediate z.boot)) 2 (stays_closed ops j0 refl) refl (stands built.calls j.bus common.code) (ap (word_at j.bus) e1 ∙ stands built.boot_at j.bus common.code) (ap (word_at j.bus) e2 ∙ stands built.sleeps j.bus common.code) refl in
      let pc : even (z.boot % 0x10000) ≡ z.boot = ap even (omega (arith, low)) ∙ eb in
      let b : Cpu = boot_cpu P image marks z built Sound IsWord sound pace wide in
      let law = boot_law P image marks z built Sound IsWord sound pace wide in
      let not_over : is_over 0x3900 (open_start b (boot_ram P image marks z built Sound IsWord sound pace wide)) ≡ false = refl in
      let room = built.room in
      let low_data = built.low_end in
      let ram_is : bus'.ram ≡ boot_ram P image marks z built Sound IsWord sound pace wide = ap (λ f. with_word_at f 0x38FE (built.reset_at + 10)) h.ram in
      silent_step r j (record { cpu = b; bus = bus' }) (bounds_at Calling j.cpu) (InBody [] [])
      (at_cpu j c h.cpu ∙ s ∙ ap (λ n. record { after = record { cpu = record { pc = even (z.boot % 0x10000); sp = 0x38FE; sr = 8; others = zeros; gate = true }; bus = bus_with n }; stepped = stepped_of ops j.bus.ports.stopped }) back ∙ ap (λ x. record { after = record { cpu = record { pc = x; sp = 0x38FE; sr = 8; others = zeros; gate = true }; bus = bus' }; stepped = stepped_of ops j.bus.ports.stopped }) pc ∙ ap (λ o. record { after = record { cpu = b; bus = bus' }; stepped = stepped_of ops o }) common.runs) refl
      (record { interrupted = false; runs = record { before_ok = tt; since_ok = tt; going = not_over; quiet = refl; few = built.some }; cpu = refl; stack = λ a le lt. ap (λ (f : ℕ → ℕ). f a) ram_is })
      context none
      (record {
        code = common.code;
        board = common.board;
        store = λ a d. common.store a d ∙ sym (byte_below j.bus.ram 0x38FE (built.reset_at + 10) a (let k = data_high z.data_end built.even_end (omega (arith, room)) a d in omega (arith, k, room)));
        words = common.words;
        bytes = small_word j.bus.ram 0x38FE (built.reset_at + 10) common.bytes;
        no_task = common.no_task;
        going = common.going;
        runs = common.runs;
      })
      (omega (arith, room)) (omega arith) refl (λ v w. omega arith)

  -- the step at each place of the base
  on_line : (r : State) (j : Joined (Memory Outside)) (q : Bounds) → r.handler ≡ None → Common r j.bus → is_open j.cpu ≡ true → Enters r j → (line_of r.board ≡ None → exec ops j ≡ run_or_idle ops j → Result r j q) → Result r j q
  on_line r j q none common gate can on_none = by_line (line_of r.board) refl
    where
      by_line : (o : Option ℕ) → line_of r.board ≡ o → Result r j q
      by_line None e = on_none e (goes_on ops j (ap line_of common.board ∙ e))
      by_line (Some v) e = enter_step P image marks z built Sound IsWord sound pace wide r j q v can gate e

  open_is_gate : (j : Joined (Memory Outside)) (t : Bool) → cpuoff j.cpu ≡ false → j.cpu.gate ≡ t → is_open j.cpu ≡ t
  open_is_gate j t on gate = ap (λ s. cond s (gie j.cpu) j.cpu.gate) on ∙ gate

  choose : (base : Base) (r : State) (j : Joined (Memory Outside)) → BaseIs base j.cpu j.bus.ram → r.base ≡ base_context P image marks z built Sound IsWord sound pace wide base → r.handler ≡ None → Common r j.bus → Result r j (bounds_at base j.cpu)
  choose Starting r j h context none common = first_step r j h context none common
  choose Opening r j h context none common = second_step r j h context none common
  choose Calling r j h context none common = third_step r j h context none common
  choose (InBody before since) r j h context none common = by_gate j.cpu.gate refl
    where
      on : cpuoff j.cpu ≡ false
      on = ap cpuoff h.cpu ∙ (between_at _ _ _ z.bound _ _ _ _ (boot_law P image marks z built Sound IsWord sound pace wide) before since h.runs).awake (not_back 0x3900 (boot_at P image marks z built Sound IsWord sound pace wide (before ++ since)) h.runs.going).0

      by_gate : (t : Bool) → j.cpu.gate ≡ t → Result r j (bounds_at (InBody before since) j.cpu)
      by_gate true e = on_line r j (bounds_at (InBody before since) j.cpu) none common (open_is_gate j true on e) (body_enters before since r j h context none common e) (λ no_line go. body_step P image marks z built Sound IsWord sound pace wide before since r j h context none common go (λ k. no_line))
      by_gate false e = body_step P image marks z built Sound IsWord sound pace wide before since r j h context none common (stays_closed ops j (open_is_gate j false on e)) (λ k. absurd (not_so (sym e ∙ k)))
  choose AtLoop r j h context none common = by_gate j.cpu.gate refl
    where
      can : Enters r j
      can = loop_enters r j AtLoop h.words h.sp tt (record { pc = h.pc; sp = h.sp; off = awake_off j.cpu.sr; words = resumed_words j.cpu h.words }) context refl none common

      by_gate : (t : Bool) → j.cpu.gate ≡ t → Result r j (bounds_at AtLoop j.cpu)
      by_gate true e = on_line r j (bounds_at AtLoop j.cpu) none common (open_is_gate j true h.off e) can (λ no_line go. loop_step r j h context none common go (λ k. no_line))
      by_gate false e = loop_step r j h context none common (stays_closed ops j (open_is_gate j false h.off e)) (λ k. absurd (not_so (sym e ∙ k)))
  choose Asleep r j h context none common =
      let sr = awake_gie j.cpu.sr ∙ h.opened in
      on_line r j (bounds_at Asleep j.cpu) none common (ap (λ s. cond s (gie j.cpu) j.cpu.gate) h.loop.off ∙ h.opened)
      (loop_enters r j AtJump h.loop.words h.loop.sp tt (record { loop = record { pc = h.loop.pc; sp = h.loop.sp; off = awake_off j.cpu.sr; words = resumed_words j.cpu h.loop.words }; opened = sr; gate = λ e. sr }) context refl none common)
      (λ no_line go. idle_step r j h context none common no_line go)
  choose AtJump r j h context none common =
      let sr = awake_gie j.cpu.sr ∙ h.opened in
      on_line r j (bounds_at AtJump j.cpu) none common (open_is_gate j true h.loop.off (h.gate refl))
      (loop_enters r j AtJump h.loop.words h.loop.sp tt (record { loop = record { pc = h.loop.pc; sp = h.loop.sp; off = awake_off j.cpu.sr; words = resumed_words j.cpu h.loop.words }; opened = sr; gate = λ e. sr }) context refl none common)
      (λ no_line go. jump_step r j h context none common no_line go)

  pub base_step : (r : State) (j : Joined (Memory Outside)) (q : Bounds) → AtBase P image marks z built Sound IsWord sound pace wide r j q → Result r j q
  base_step r j q a = subst (Result r j) (sym a.bounds) (choose a.base r j a.is a.context a.no_handler a.common)

  pub step_at : (r : State) (j : Joined (Memory Outside)) (q : Bounds) → At P image marks z built Sound IsWord sound pace wide r j q → Result r j q
  step_at r j q (OnBase a) = base_step r j q a
  step_at r j q (OnHandler a) = handler_step P image marks z built Sound IsWord sound pace wide r j q a
