-- One step of the base at any place: the code of reset, the calls of bodies, sleep, and all others.
use Rattle.std.proofs.Common.{◌≡◌, ℕ, zero, suc, ◌+◌, ◌-◌, ◌*◌, ◌%◌, ◌<◌, ◌≤◌, nat_lt, Bool, true, false, ◌&&◌, cond, List, [], ◌∷◌, ◌++◌, length, Option, Some, None, refl, sym, ap, subst, ◌∙◌, arith, append-nil}
use Rattle.std.proofs.lemmas.Bool.Decides.{nat_tests}
use Rattle.std.specs.Prelude.{replicate, slice_index, IsNone}
use Rattle.nm_base.specs.Lists.{bit}
use Rattle.mote_devices.specs.Board.{line_of}
use Rattle.mote_devices.specs.Outside.{Outside}
use Rattle.run_meaning.specs.State.{State, is_inside, new_context}
use Rattle.run_meaning.specs.Runs as runs
use Rattle.msp_isa.specs.declared.instr.Instr.{Instr}
use Rattle.msp_isa.specs.declared.instr.Cond.TheVariants.{Jmp}
use Rattle.msp_isa.specs.declared.instr.Instr.TheVariants.{Two, One, Jump}
use Rattle.msp_isa.specs.declared.instr.Op1.TheVariants.{Call}
use Rattle.msp_isa.specs.declared.instr.Op2.TheVariants.{Mov}
use Rattle.msp_isa.specs.declared.instr.Operand.TheVariants.{Reg, Immediate}
use Rattle.msp_isa.specs.Decode.{decode}
use Rattle.msp_isa.specs.Stands.{word_in, IsAt}
use Rattle.msp430_cpu.specs.declared.cpu.Stepped.TheVariants.{Ran, Idle}
use Rattle.msp430_cpu.specs.Cpu.{Cpu, reset, even, gie, cpuoff, is_open}
use Rattle.msp430_cpu.specs.Exec.{Joined, exec, run_or_idle, run_decoded, words_at}
use Rattle.msp430_cpu.specs.Memory.{Memory, with_word_at, with_ram}
use Rattle.preempt_core.specs.Law.{Bounds}
use Rattle.preempt_core.proofs.Instruction.{goes_on, stays_closed}
use Rattle.open_law.specs.Open.{Moment, Open, HoldsWords, IsGated, is_within, settled}
use Rattle.open_law.specs.Body.{HasReturned}
use Rattle.code_pieces.specs.Pieces.{open_gate}
use Rattle.preempt_bodies.specs.Bodies.{awake_sr, call}
use Rattle.preempt_bodies.proofs.Carry.{ops}
use Rattle.preempt_bodies.proofs.Running.{between_at, not_back}
use Rattle.preempt_bodies.proofs.Enter.{resumed, byte_below, small_word, word_top}
use Rattle.preempt_bodies.proofs.BaseStep.{awake_off, awake_gie, awake_low}
use Rattle.preempt_bodies.proofs.Logged.{data_high}
use Rattle.preempt_bodies.proofs.Places.{no_bounds}
use Rattle.loop_runs.specs.Loop.{LoopState, Calls, Takes, IsFree, IsNotPop, after_loop, woken}
use Rattle.preempt_tasks.specs.Bodies.{ret}
use Rattle.preempt_tasks.specs.Steps.{IsSourceBody}
use Rattle.preempt_tasks.proofs.Instructions as instructions
use Rattle.preempt_tasks.proofs.Instructions.{loop_cpu, called_cpu, joined, IsNext, even_at}
use Rattle.preempt_tasks.proofs.Standing.{IsBack, Near, Far}
use Rattle.preempt_tasks.proofs.Places.{Setting, Called, start_of, Base, Starting, Opening, Calling, InBody, InPop, AtLoop, AtPause, AtPop, AtTest, AtChoice, AtSleep, Asleep, AtWake, AtNone, AtCompare, AtSkip, AtTake, AtStart, AtReturn, AtBack, IsSuspended, gave_at, IsThere, IsReset, origin, count, act_at, base_code, base_low, body_at, IsBody, IsReturn, IsBase, base_context, base_bounds, booting, has_room, Fits, AtBase, At, OnBase, OnHandler, Outcome}
use Rattle.preempt_tasks.proofs.BodyStep.{body_step}
use Rattle.preempt_tasks.proofs.PopStep.{pop_step}
use Rattle.preempt_tasks.proofs.HandlerStep.{handler_step}
use Rattle.preempt_tasks.proofs.Enter.{CanEnter, enter_step}
use Rattle.preempt_tasks.proofs.LoopStep.{make_there, resumed_there, there_words, open_of, shut_of, Common, T, silent_step, IsFreeAt, at_cpu, next_of, unheard, loop_step, pause_step, test_step, choice_step, sleep_step, wake_step, back_step, none_step, compare_step, skip_step, take_step}

not_so : false ≡ true → ⊥
not_so h = cc

module _ (S : Setting) where
  low_end : S.z.data_end ≤ 0x3900
  low_end = let r = has_room S in omega (arith, r)

  -- ---- what is called

  -- a return address on the stack leaves the data
  called_common : (r : State) (m : Memory Outside) (back : ℕ) → Common S r m → Common S r (with_ram m (with_word_at m.ram 0x38FE back))
  called_common r m back common = record {
    code = common.code;
    board = common.board;
    store = λ a d. common.store a d ∙ sym (byte_below m.ram 0x38FE back a (let room = has_room S in let k = data_high S.z.data_end S.built.even_end low_end a d in omega (arith, k, room)));
    words = common.words;
    bytes = small_word m.ram 0x38FE back common.bytes;
    no_task = common.no_task;
    going = common.going;
    runs = common.runs;
  }

  -- the address that it goes back to
  goes_back : (ram : ℕ → ℕ) (back : ℕ) → back % 2 ≡ 0 → back < 0x10000 → even (word_in (with_word_at ram 0x38FE back) 0x38FE) ≡ back
  goes_back ram back ev small = ap even (word_top ram 0x38FE back small) ∙ even_at back ev

  called_words : (entry sr : ℕ) (others : List ℕ) (g : Bool) → even entry ≡ entry → entry < 0x10000 → sr < 0x10000 → length others ≡ 12 → ((i : ℕ) → slice_index others i < 0x10000) → HoldsWords (called_cpu entry sr others g)
  called_words entry sr others g ev small low twelve regs = record { pc = small; even_pc = ev; even_sp = refl; sr = low; twelve = twelve; others = regs }

  free_at : (s : LoopState) (j : Joined (Memory Outside)) → IsFreeAt S s j → IsFree s
  free_at s j f = record { going = f.common.going; no_base = subst IsNone (sym f.no_base) refl; no_handler = subst IsNone (sym f.no_handler) refl }

  -- CALL #pop
  call_step : (s : LoopState) (j : Joined (Memory Outside)) → IsThere (origin S + 14) false false false j.cpu → IsFreeAt S s j → s.gave ≡ None → exec ops j ≡ run_or_idle ops j → Outcome S s j (base_bounds S AtPop j.cpu)
  call_step s j h f gave go =
      let at = origin S + 14 in
      let n = next_of S s j at false false h f.common go (call S.z.pop) (T S).pops in
      let l = instructions.calls S.image at h.sr h.others false j.bus S.z.pop n S.built.even_pop S.built.low_pop in
      let ram = with_word_at j.bus.ram 0x38FE (at + 4) in
      let m' = with_ram j.bus ram in
      let x : Called = record { body = S.pop; entry = S.z.pop; sr = h.sr; others = h.others; gate = false; ram = ram; boots = false } in
      let shut : called_cpu S.z.pop h.sr h.others (bit h.sr 3) ≡ start_of x = ap (λ t. called_cpu S.z.pop h.sr h.others t) h.gie_is in
      let room = has_room S in
      let words = called_words S.z.pop h.sr h.others false S.built.even_pop S.built.low_pop h.small h.twelve h.regs in
      let law = S.built.pops (start_of x) ram refl (refl, h.gie_is) h.off_is words (omega (arith, room)) (omega arith) (small_word j.bus.ram 0x38FE (at + 4) f.common.bytes) in
      let ev = (T S).tests.even in
      let hi = (T S).tests.high in
      let c = called_common s.run j.bus (at + 4) f.common in
      record {
        moves = Calls ∷ [];
        next = joined (start_of x) m';
        stepped = Ran;
        later = base_bounds S (InPop x [] []) (start_of x);
        exec_is = at_cpu S j (loop_cpu at h.sr h.others false) (called_cpu S.z.pop h.sr h.others (bit h.sr 3)) m' h.cpu l ∙ ap (λ (k : Cpu). record { after = joined k m'; stepped = Ran }) shut;
        legal = ((free_at s j f, subst IsNone (sym gave) refl), tt);
        shown = sym (append-nil j.bus.ports.shown);
        single = omega arith;
        goes = λ n. OnBase (record {
          base = InPop x [] [];
          is = record {
            law = law;
            runs = record { before_ok = tt; since_ok = tt; going = refl; quiet = refl; few = S.built.some };
            cpu = refl;
            stack = λ a le lt. refl;
            goes_back = goes_back j.bus.ram (at + 4) (omega (arith, ev)) (omega (arith, hi)) ∙ omega arith;
            closed = refl;
            gie_there = h.gie_is;
            is_pop = refl;
          };
          context = refl;
          gave = refl;
          no_handler = f.no_handler;
          common = record { code = c.code; board = c.board; store = c.store; words = c.words; bytes = c.bytes; no_task = c.no_task; going = c.going; runs = c.runs };
          bounds = refl;
        });
        halts = λ n. absurd (not_so n);
        idle = λ n. absurd (not_so n);
        deep = omega arith;
        spent = omega arith;
        few = λ n. record { low = omega arith; counted = omega arith; falls = λ v w. omega arith };
        prompt = λ n v w out. omega arith;
        no_line = λ v w q. absurd (omega (arith, q));
        marks = omega arith;
        turns = λ t. absurd (omega (arith, t));
        soon = λ b n c. absurd (no_body b);
        settles = λ b n c i. absurd (no_body b);
        apart = λ p. (refl, refl);
      }
    where
      no_body : IsSourceBody S.pop s.run.base → ⊥
      no_body b = subst (IsSourceBody S.pop) f.no_base b

  -- CALL R13: the task starts, or nothing where there is none at this place
  start_step : (s : LoopState) (j : Joined (Memory Outside)) (k : ℕ) → IsBase S (AtStart k) j.cpu j.bus.ram → IsFreeAt S s j → s.gave ≡ Some k → exec ops j ≡ run_or_idle ops j → Outcome S s j (base_bounds S (AtStart k) j.cpu)
  start_step s j k h0 f gave go = by_test (nat_lt k (count S)) refl
    where
      no_body : IsSourceBody S.pop s.run.base → ⊥
      no_body b = subst (IsSourceBody S.pop) f.no_base b

      task_step : k < count S → nat_lt k (count S) ≡ true → Outcome S s j (base_bounds S (AtStart k) j.cpu)
      task_step lt e =
          let h = h0.there in
          let at = origin S + (36 + 10 * count S) in
          let ev = (T S).starts.even in
          let top = (T S).starts.high in
          let task = S.built.tasks k lt in
          let address = slice_index S.z.tasks k in
          let r13 : slice_index h.others 9 ≡ address = h0.registers.1 ∙ ap (λ t. cond t (slice_index S.z.tasks k) S.z.none) e in
          let n = next_of S s j at false true h f.common go (One Call false (Reg 13)) (T S).starts in
          let l = instructions.calls_taken S.image at h.sr h.others false j.bus address n r13 task.even_start task.low_start in
          let ram = with_word_at j.bus.ram 0x38FE (at + 2) in
          let m' = with_ram j.bus ram in
          let x : Called = record { body = task.body; entry = address; sr = h.sr; others = h.others; gate = true; ram = ram; boots = false } in
          let opened : called_cpu address h.sr h.others (bit h.sr 3) ≡ start_of x = ap (λ t. called_cpu address h.sr h.others t) h.gie_is in
          let room = has_room S in
          let words = called_words address h.sr h.others true task.even_start task.low_start h.small h.twelve h.regs in
          let law = task.law (start_of x) ram refl (refl, h.gie_is) h.off_is words (omega (arith, room)) (omega arith) (small_word j.bus.ram 0x38FE (at + 2) f.common.bytes) in
          let c = called_common s.run j.bus (at + 2) f.common in
          let context : (after_loop S.K S.pop s (Takes k)).run.base ≡ Some (new_context (Some task.body)) = ap (λ o. runs.body_at o) task.is in
          let low = h0.low in
          record {
            moves = Takes k ∷ [];
            next = joined (start_of x) m';
            stepped = Ran;
            later = base_bounds S (InBody x [] []) (start_of x);
            exec_is = at_cpu S j (loop_cpu at h.sr h.others false) (called_cpu address h.sr h.others (bit h.sr 3)) m' h.cpu l ∙ ap (λ (q : Cpu). record { after = joined q m'; stepped = Ran }) opened;
            legal = ((free_at s j f, gave, omega (arith, low)), tt);
            shown = sym (append-nil j.bus.ports.shown);
            single = omega arith;
            goes = λ n. OnBase (record {
              base = InBody x [] [];
              is = record {
                law = law;
                runs = record { before_ok = tt; since_ok = tt; going = refl; quiet = refl; few = S.built.some };
                interrupted = false;
                cpu = refl;
                stack = λ a le lt. refl;
                goes_back = goes_back j.bus.ram (at + 2) (omega (arith, ev)) (omega (arith, top)) ∙ omega arith;
                opened = refl;
                gie_there = h.gie_is;
                not_pop = λ q. S.built.not_task k (task.is ∙ q);
              };
              context = context;
              gave = refl;
              no_handler = f.no_handler;
              common = record { code = c.code; board = c.board; store = c.store; words = c.words; bytes = c.bytes; no_task = c.no_task; going = c.going; runs = c.runs };
              bounds = refl;
            });
            halts = λ n. absurd (not_so n);
            idle = λ n. absurd (not_so n);
            deep = omega arith;
            spent = omega arith;
            few = λ n. record { low = omega arith; counted = omega arith; falls = λ v w. omega arith };
            prompt = λ n v w out. omega arith;
            no_line = λ v w q. absurd (omega (arith, q));
            marks = omega arith;
            turns = λ t. refl;
            soon = λ b n c. absurd (no_body b);
            settles = λ b n c i. absurd (no_body b);
            apart = λ p. absurd (p (subst (IsNotPop S.K S.pop) (sym f.no_base) tt));
          }

      nothing_step : count S ≤ k → nat_lt k (count S) ≡ false → Outcome S s j (base_bounds S (AtStart k) j.cpu)
      nothing_step ge e =
          let h = h0.there in
          let at = origin S + (36 + 10 * count S) in
          let ev = (T S).starts.even in
          let top = (T S).starts.high in
          let r13 : slice_index h.others 9 ≡ S.z.none = h0.registers.1 ∙ ap (λ t. cond t (slice_index S.z.tasks k) S.z.none) e in
          let even_none = even_at S.z.none S.built.lone.even in
          let hi = S.built.lone.high in
          let n = next_of S s j at false true h f.common go (One Call false (Reg 13)) (T S).starts in
          let l = instructions.calls_taken S.image at h.sr h.others false j.bus S.z.none n r13 even_none (omega (arith, hi)) in
          let ram = with_word_at j.bus.ram 0x38FE (at + 2) in
          let m' = with_ram j.bus ram in
          let c' = called_cpu S.z.none h.sr h.others true in
          let opened : called_cpu S.z.none h.sr h.others (bit h.sr 3) ≡ c' = ap (λ t. called_cpu S.z.none h.sr h.others t) h.gie_is in
          let c = called_common s.run j.bus (at + 2) f.common in
          let context : (after_loop S.K S.pop s (Takes k)).run.base ≡ None = ap (λ o. runs.body_at o) (S.built.no_task k ge) in
          let low = h0.low in
          record {
            moves = Takes k ∷ [];
            next = joined c' m';
            stepped = Ran;
            later = base_bounds S AtReturn c';
            exec_is = at_cpu S j (loop_cpu at h.sr h.others false) (called_cpu S.z.none h.sr h.others (bit h.sr 3)) m' h.cpu l ∙ ap (λ (q : Cpu). record { after = joined q m'; stepped = Ran }) opened;
            legal = ((free_at s j f, gave, omega (arith, low)), tt);
            shown = sym (append-nil j.bus.ports.shown);
            single = omega arith;
            goes = λ n. OnBase (record {
              base = AtReturn;
              is = record {
                sr = h.sr;
                others = h.others;
                cpu = refl;
                small = h.small;
                twelve = h.twelve;
                regs = h.regs;
                gie_is = h.gie_is;
                off_is = h.off_is;
                goes_back = goes_back j.bus.ram (at + 2) (omega (arith, ev)) (omega (arith, top)) ∙ omega arith;
              };
              context = context;
              gave = refl;
              no_handler = f.no_handler;
              common = record { code = c.code; board = c.board; store = c.store; words = c.words; bytes = c.bytes; no_task = c.no_task; going = c.going; runs = c.runs };
              bounds = refl;
            });
            halts = λ n. absurd (not_so n);
            idle = λ n. absurd (not_so n);
            deep = omega arith;
            spent = omega arith;
            few = λ n. record { low = omega arith; counted = omega arith; falls = λ v w. omega arith };
            prompt = λ n v w out. omega arith;
            no_line = λ v w q. absurd (omega (arith, q));
            marks = omega arith;
            turns = λ t. refl;
            soon = λ b n c. absurd (no_body b);
            settles = λ b n c i. absurd (no_body b);
            apart = λ p. absurd (p (subst (IsNotPop S.K S.pop) (sym f.no_base) tt));
          }

      by_test : (t : Bool) → nat_lt k (count S) ≡ t → Outcome S s j (base_bounds S (AtStart k) j.cpu)
      by_test true e = task_step (grind (arith, nat_tests)) e
      by_test false e = nothing_step (grind (arith, nat_tests)) e

  -- the lone RET
  return_step : (s : LoopState) (j : Joined (Memory Outside)) → IsReturn S j.cpu j.bus.ram → IsFreeAt S s j → s.gave ≡ None → line_of s.run.board ≡ None → exec ops j ≡ run_or_idle ops j → Outcome S s j (base_bounds S AtReturn j.cpu)
  return_step s j h f gave no_line go =
      let c = called_cpu S.z.none h.sr h.others true in
      let n : IsNext S.image c j.bus ret = record {
        code = f.common.code;
        at = S.built.lone;
        awake = h.off_is;
        fine = f.common.runs;
        go = subst (λ (q : Cpu). exec ops (joined q j.bus) ≡ run_or_idle ops (joined q j.bus)) h.cpu go;
      } in
      let l = instructions.returns S.image S.z.none h.sr h.others true j.bus n in
      let c' = loop_cpu (even (word_in j.bus.ram 0x38FE)) h.sr h.others (bit h.sr 3) in
      silent_step S s j (joined c' j.bus) (base_bounds S AtReturn j.cpu) AtBack (at_cpu S j c c' j.bus h.cpu l) refl
      (make_there (even (word_in j.bus.ram 0x38FE)) (origin S + (38 + 10 * count S)) h.sr h.others (bit h.sr 3) true true false h.goes_back h.gie_is h.small h.twelve h.regs h.gie_is h.off_is)
      f.no_base gave f.no_handler f.common (omega arith) (omega arith) refl (λ v w. absurd (unheard S s v no_line w)) (λ b c. absurd (subst (IsSourceBody S.pop) f.no_base b))

  -- asleep, and no line
  idle_step : (s : LoopState) (j : Joined (Memory Outside)) → IsThere (origin S + 28) false true true j.cpu → IsFreeAt S s j → s.gave ≡ Some 255 → line_of s.run.board ≡ None → exec ops j ≡ run_or_idle ops j → Outcome S s j (base_bounds S Asleep j.cpu)
  idle_step s j h f gave no_line go = record {
    moves = [];
    next = j;
    stepped = Idle;
    later = no_bounds;
    exec_is = go ∙ still;
    legal = tt;
    shown = sym (append-nil j.bus.ports.shown);
    single = omega arith;
    goes = λ n. OnBase (record { base = Asleep; is = h; context = f.no_base; gave = gave; no_handler = f.no_handler; common = f.common; bounds = refl });
    halts = λ n. absurd (not_so n);
    idle = λ n. no_line;
    deep = let sp : j.cpu.sp ≡ 0x3900 = ap (λ (c : Cpu). c.sp) h.cpu in omega (arith, sp);
    spent = omega arith;
    few = λ n. record { low = omega arith; counted = omega arith; falls = λ v k. omega arith };
    prompt = λ n v k out. omega arith;
    no_line = λ v w q. unheard S s v no_line w;
    marks = omega arith;
    turns = λ t. refl;
    soon = λ b n c. refl;
    settles = λ b n c i. omega arith;
    apart = λ p. (refl, refl);
  }
    where
      asleep : (t : Bool) → cpuoff j.cpu ≡ t → t ≡ true → run_or_idle ops j ≡ record { after = j; stepped = Idle }
      asleep t e f = ap (λ (b : Bool). cond b (record { after = j; stepped = Idle }) (run_decoded ops j (decode (words_at ops j)))) (e ∙ f)

      still : run_or_idle ops j ≡ record { after = j; stepped = Idle }
      still = asleep (cpuoff j.cpu) refl (ap cpuoff h.cpu ∙ h.off_is)

  -- ---- the code of reset
  abbrev zeros : List ℕ
  zeros = replicate 12 0

  -- what the base has at the start
  record IsBooting (s : LoopState) (j : Joined (Memory Outside)) : Type 0 where
    context : s.run.base ≡ booting S
    gave : s.gave ≡ None
    no_handler : s.run.handler ≡ None
    common : Common S s.run j.bus

  next_reset : (s : LoopState) (j : Joined (Memory Outside)) (at sr : ℕ) → j.cpu ≡ loop_cpu at sr zeros false → IsBooting s j → bit sr 4 ≡ false → (i : Instr) → IsAt S.image at i → IsNext S.image (loop_cpu at sr zeros false) j.bus i
  next_reset s j at sr e f off i is =
      let shut : is_open (loop_cpu at sr zeros false) ≡ false = ap (λ t. cond t (bit sr 3) false) off in
      record { code = f.common.code; at = is; awake = off; fine = f.common.runs; go = stays_closed ops (joined (loop_cpu at sr zeros false) j.bus) shut }

  first_step : (s : LoopState) (j : Joined (Memory Outside)) → IsReset j.cpu (reset (origin S)) j.bus.ram → IsBooting s j → Outcome S s j (base_bounds S Starting j.cpu)
  first_step s j h f =
      let n = next_reset s j (origin S) 0 h.cpu f refl (Two Mov false (Immediate 0x3900) (Reg 1)) (T S).sets_stack in
      let l = instructions.sets_stack S.image (origin S) 0 zeros false j.bus n in
      let c' = loop_cpu (origin S + 4) 0 zeros false in
      silent_step S s j (joined c' j.bus) (base_bounds S Starting j.cpu) Opening (at_cpu S j (loop_cpu (origin S) 0 zeros false) c' j.bus h.cpu l) refl (record { cpu = refl; ram = h.ram }) f.context f.gave f.no_handler f.common (omega arith) (omega arith) refl (λ v w. omega arith) (λ b c. absurd (omega (arith, c)))

  second_step : (s : LoopState) (j : Joined (Memory Outside)) → IsReset j.cpu (loop_cpu (origin S + 4) 0 zeros false) j.bus.ram → IsBooting s j → Outcome S s j (base_bounds S Opening j.cpu)
  second_step s j h f =
      let n = next_reset s j (origin S + 4) 0 h.cpu f refl open_gate (T S).opens in
      let l = instructions.opens S.image (origin S + 4) 0 zeros false j.bus n (omega arith) in
      let c' = loop_cpu (origin S + 6) 8 zeros false in
      let e : loop_cpu (origin S + 4 + 2) 8 zeros false ≡ c' = ap (λ p. loop_cpu p 8 zeros false) (omega arith) in
      silent_step S s j (joined c' j.bus) (base_bounds S Opening j.cpu) Calling (at_cpu S j (loop_cpu (origin S + 4) 0 zeros false) (loop_cpu (origin S + 4 + 2) 8 zeros false) j.bus h.cpu l ∙ ap (λ (k : Cpu). record { after = joined k j.bus; stepped = Ran }) e) refl (record { cpu = refl; ram = h.ram }) f.context f.gave f.no_handler f.common (omega arith) (omega arith) refl (λ v w. omega arith) (λ b c. absurd (omega (arith, c)))

  zero_at : (k i : ℕ) → slice_index (replicate k 0) i ≡ 0
  zero_at zero i = refl
  zero_at (suc k) zero = refl
  zero_at (suc k) (suc i) = zero_at k i

  third_step : (s : LoopState) (j : Joined (Memory Outside)) → IsReset j.cpu (loop_cpu (origin S + 6) 8 zeros false) j.bus.ram → IsBooting s j → Outcome S s j (base_bounds S Calling j.cpu)
  third_step s j h f =
      let at = origin S + 6 in
      let n = next_reset s j at 8 h.cpu f refl (call S.z.boot) (T S).boots in
      let l = instructions.calls S.image at 8 zeros false j.bus S.z.boot n S.built.even_boot S.built.low_boot in
      let ram = with_word_at j.bus.ram 0x38FE (at + 4) in
      let m' = with_ram j.bus ram in
      let x : Called = record { body = S.K.boot; entry = S.z.boot; sr = 8; others = zeros; gate = true; ram = ram; boots = true } in
      let room = has_room S in
      let regs : (i : ℕ) → slice_index zeros i < 0x10000 = λ i. let e = zero_at 12 i in omega (arith, e) in
      let words = called_words S.z.boot 8 zeros true S.built.even_boot S.built.low_boot (omega arith) refl regs in
      let law = S.built.boots (start_of x) ram refl (refl, refl) refl words (omega (arith, room)) (omega arith) (small_word j.bus.ram 0x38FE (at + 4) f.common.bytes) in
      let ev = (T S).closes.even in
      let hi = (T S).closes.high in
      let c = called_common s.run j.bus (at + 4) f.common in
      silent_step S s j (joined (start_of x) m') (base_bounds S Calling j.cpu) (InBody x [] []) (at_cpu S j (loop_cpu at 8 zeros false) (start_of x) m' h.cpu l) refl
      (record {
        law = law;
        runs = record { before_ok = tt; since_ok = tt; going = refl; quiet = refl; few = S.built.some };
        interrupted = false;
        cpu = refl;
        stack = λ a le lt. refl;
        goes_back = goes_back j.bus.ram (at + 4) (omega (arith, ev)) (omega (arith, hi)) ∙ omega arith;
        opened = refl;
        gie_there = refl;
        not_pop = λ q. S.built.not_boot (some_same q);
      })
      f.context f.gave f.no_handler c (omega arith) (omega arith) refl (λ v w. omega arith) (λ b c. refl)
    where
      some_same : {a b : ℕ} → Some a ≡ Some b → a ≡ b
      some_same q = cc

  -- ---- where it can be interrupted
  loop_enters : (s : LoopState) (j : Joined (Memory Outside)) (base : Base) (at : ℕ) (g gie off : Bool) (i : Instr) → IsThere at g gie off j.cpu → IsAt S.image at i → IsFreeAt S s j → IsSuspended base → IsBase S base (resumed j.cpu) j.bus.ram → base_context S base ≡ None → woken s.gave ≡ None → CanEnter S s j
  loop_enters s j base at g gie off i h stands f waits is none_there gave =
      let room = has_room S in
      let sp : j.cpu.sp ≡ 0x3900 = ap (λ (c : Cpu). c.sp) h.cpu in
      record {
        words = there_words at g gie off j.cpu S.image i h stands;
        room = omega (arith, room, sp);
        high = omega (arith, sp);
        deep = omega (arith, room, sp);
        outside = ap is_inside f.no_base;
        base = base;
        waits = waits;
        is = is;
        context = f.no_base ∙ sym none_there;
        gave = gave;
        not_pop = subst (IsNotPop S.K S.pop) (sym f.no_base) tt;
        no_handler = f.no_handler;
        common = f.common;
      }

  return_enters : (s : LoopState) (j : Joined (Memory Outside)) → IsReturn S j.cpu j.bus.ram → IsFreeAt S s j → s.gave ≡ None → CanEnter S s j
  return_enters s j h f gave =
      let room = has_room S in
      let hi = S.built.lone.high in
      let sp : j.cpu.sp ≡ 0x38FE = ap (λ (c : Cpu). c.sp) h.cpu in
      record {
        words = subst HoldsWords (sym h.cpu) (called_words S.z.none h.sr h.others true (even_at S.z.none S.built.lone.even) (omega (arith, hi)) h.small h.twelve h.regs);
        room = omega (arith, room, sp);
        high = omega (arith, sp);
        deep = omega (arith, room, sp);
        outside = ap is_inside f.no_base;
        base = AtReturn;
        waits = tt;
        is = record {
          sr = awake_sr h.sr;
          others = h.others;
          cpu = ap resumed h.cpu ∙ ap (λ t. called_cpu S.z.none (awake_sr h.sr) h.others t) (awake_gie h.sr ∙ h.gie_is);
          small = awake_low h.sr h.small;
          twelve = h.twelve;
          regs = h.regs;
          gie_is = awake_gie h.sr ∙ h.gie_is;
          off_is = awake_off h.sr;
          goes_back = h.goes_back;
        };
        context = f.no_base;
        gave = ap woken gave;
        not_pop = subst (IsNotPop S.K S.pop) (sym f.no_base) tt;
        no_handler = f.no_handler;
        common = f.common;
      }

  -- the jump behind a task can be interrupted, in either form
  back_enters : (s : LoopState) (j : Joined (Memory Outside)) → IsThere (origin S + (38 + 10 * count S)) true true false j.cpu → IsFreeAt S s j → s.gave ≡ None → CanEnter S s j
  back_enters s j h f gave = by_form (T S).back
    where
      enters : (i : Instr) → IsAt S.image (origin S + (38 + 10 * count S)) i → CanEnter S s j
      enters i is = loop_enters s j AtBack (origin S + (38 + 10 * count S)) true true false i h is f tt (resumed_there (origin S + (38 + 10 * count S)) true true false j.cpu h) refl (ap woken gave)

      by_form : IsBack S.image (origin S + (38 + 10 * count S)) (origin S + 10) → CanEnter S s j
      by_form (Near k is to) = enters (Jump Jmp k) is
      by_form (Far is) = enters (Two Mov false (Immediate (origin S + 10)) (Reg 0)) is

  -- a body can be interrupted where the gate is open
  body_enters : (x : Called) (before since : List Moment) (s : LoopState) (j : Joined (Memory Outside)) → IsBody S x before since j.cpu j.bus.ram → s.run.base ≡ base_context S (InBody x before since) → s.gave ≡ None → s.run.handler ≡ None → Common S s.run j.bus → j.cpu.gate ≡ true → CanEnter S s j
  body_enters x before since s j h context gave none common gate =
      let o : Open = body_at S x (before ++ since) in
      let btw = between_at (act_at S x) (base_code S) (base_low S) S.z.bound (IsGated (base_code S)) (HasReturned (act_at S x) (start_of x) x.ram) (start_of x) x.ram h.law before since h.runs in
      let room = has_room S in
      let low = btw.low in
      let high = btw.high in
      let sp : j.cpu.sp ≡ o.cpu.sp = ap (λ (c : Cpu). c.sp) h.cpu in
      let open_there : o.cpu.gate ≡ true = was_open h.interrupted o.cpu.gate (gie o.cpu) (sym (ap (λ (c : Cpu). c.gate) h.cpu) ∙ gate) in
      let on : cpuoff o.cpu ≡ false = btw.awake (not_back 0x3900 o h.runs.going).0 in
      let sr : awake_sr o.cpu.sr ≡ o.cpu.sr = ap (λ t. cond t (o.cpu.sr - 16) o.cpu.sr) on in
      let w = btw.words in
      let back : resumed j.cpu ≡ settled true o.cpu =
      ap resumed h.cpu
      ∙ ap (λ y. record { pc = o.cpu.pc; sp = o.cpu.sp; sr = y; others = o.cpu.others; gate = bit y 3 }) sr
      ∙ ap (λ t. record { pc = o.cpu.pc; sp = o.cpu.sp; sr = o.cpu.sr; others = o.cpu.others; gate = t && gie o.cpu }) (sym open_there) in
      record {
        words = subst HoldsWords (sym h.cpu) (record { pc = w.pc; even_pc = w.even_pc; even_sp = w.even_sp; sr = w.sr; twelve = w.twelve; others = w.others });
        room = omega (arith, room, low, sp);
        high = omega (arith, high, sp);
        deep = omega (arith, room, low, sp);
        outside = ap is_inside context ∙ not_within (is_within o.done) o.cpu.gate (λ e. (btw.gate h.runs.going).shut e) open_there;
        base = InBody x before since;
        waits = tt;
        is = record { law = h.law; runs = h.runs; interrupted = true; cpu = back; stack = h.stack; goes_back = h.goes_back; opened = h.opened; gie_there = h.gie_there; not_pop = h.not_pop };
        context = context;
        gave = ap woken gave;
        not_pop = subst (IsNotPop S.K S.pop) (sym context) h.not_pop;
        no_handler = none;
        common = common;
      }
    where
      was_open : (i g k : Bool) → cond i (g && k) g ≡ true → g ≡ true
      was_open true true k e = refl
      was_open true false k e = absurd (not_so e)
      was_open false g k e = e

      not_within : (x g : Bool) → (x ≡ true → g ≡ false) → g ≡ true → x ≡ false
      not_within true g shut e = absurd (not_so (sym (shut refl) ∙ e))
      not_within false g shut e = refl

  -- ---- the step at each place
  on_line : (s : LoopState) (j : Joined (Memory Outside)) (q : Bounds) → Common S s.run j.bus → is_open j.cpu ≡ true → CanEnter S s j → (line_of s.run.board ≡ None → exec ops j ≡ run_or_idle ops j → Outcome S s j q) → Outcome S s j q
  on_line s j q common gate can on_none = by_line (line_of s.run.board) refl
    where
      by_line : (o : Option ℕ) → line_of s.run.board ≡ o → Outcome S s j q
      by_line None e = on_none e (goes_on ops j (ap line_of common.board ∙ e))
      by_line (Some v) e = enter_step S s j q v can gate e

  body_open : (j : Joined (Memory Outside)) (t : Bool) → cpuoff j.cpu ≡ false → j.cpu.gate ≡ t → is_open j.cpu ≡ t
  body_open j t on gate = ap (λ b. cond b (gie j.cpu) j.cpu.gate) on ∙ gate

  choose : (base : Base) (s : LoopState) (j : Joined (Memory Outside)) → IsBase S base j.cpu j.bus.ram → s.run.base ≡ base_context S base → s.gave ≡ gave_at base → s.run.handler ≡ None → Common S s.run j.bus → Fits S s → Outcome S s j (base_bounds S base j.cpu)
  choose Starting s j h context gave none common fit = first_step s j h (record { context = context; gave = gave; no_handler = none; common = common })
  choose Opening s j h context gave none common fit = second_step s j h (record { context = context; gave = gave; no_handler = none; common = common })
  choose Calling s j h context gave none common fit = third_step s j h (record { context = context; gave = gave; no_handler = none; common = common })
  choose (InBody x before since) s j h context gave none common fit = by_gate j.cpu.gate refl
    where
      on : cpuoff j.cpu ≡ false
      on = ap cpuoff h.cpu ∙ (between_at (act_at S x) (base_code S) (base_low S) S.z.bound (IsGated (base_code S)) (HasReturned (act_at S x) (start_of x) x.ram) (start_of x) x.ram h.law before since h.runs).awake (not_back 0x3900 (body_at S x (before ++ since)) h.runs.going).0

      by_gate : (t : Bool) → j.cpu.gate ≡ t → Outcome S s j (base_bounds S (InBody x before since) j.cpu)
      by_gate true e = on_line s j (base_bounds S (InBody x before since) j.cpu) common (body_open j true on e) (body_enters x before since s j h context gave none common e) (λ no_line go. body_step S x before since s j h context gave none common go (λ k. no_line))
      by_gate false e = body_step S x before since s j h context gave none common (stays_closed ops j (body_open j false on e)) (λ k. absurd (not_so (sym e ∙ k)))
  choose (InPop x before since) s j h context gave none common fit = pop_step S x before since s j h context gave none common fit
  choose AtLoop s j h context gave none common fit =
      let f : IsFreeAt S s j = record { no_base = context; no_handler = none; common = common } in
      on_line s j (base_bounds S AtLoop j.cpu) common (open_of (origin S + 10) true j.cpu h) (loop_enters s j AtLoop (origin S + 10) true true false _ h (T S).closes f tt (resumed_there (origin S + 10) true true false j.cpu h) refl (ap woken gave))
      (λ no_line go. loop_step S s j h f gave no_line go)
  choose (AtPause true) s j h context gave none common fit =
      let f : IsFreeAt S s j = record { no_base = context; no_handler = none; common = common } in
      on_line s j (base_bounds S (AtPause true) j.cpu) common (open_of (origin S + 12) false j.cpu h) (loop_enters s j (AtPause false) (origin S + 12) true false false _ h (T S).pauses f refl (resumed_there (origin S + 12) true false false j.cpu h) refl (ap woken gave))
      (λ no_line go. pause_step S s j true h f gave (λ k. no_line) go)
  choose (AtPause false) s j h context gave none common fit =
      let f : IsFreeAt S s j = record { no_base = context; no_handler = none; common = common } in
      pause_step S s j false h f gave (λ k. absurd (not_so k)) (stays_closed ops j (shut_of (origin S + 12) false j.cpu h))
  choose AtPop s j h context gave none common fit = call_step s j h (record { no_base = context; no_handler = none; common = common }) gave (stays_closed ops j (shut_of (origin S + 14) false j.cpu h))
  choose (AtTest k) s j h context gave none common fit = test_step S s j k h (record { no_base = context; no_handler = none; common = common }) gave (stays_closed ops j (shut_of (origin S + 18) false j.cpu h.there))
  choose (AtChoice k) s j h context gave none common fit = choice_step S s j k h (record { no_base = context; no_handler = none; common = common }) gave (stays_closed ops j (shut_of (origin S + 22) false j.cpu h.there))
  choose AtSleep s j h context gave none common fit = sleep_step S s j h (record { no_base = context; no_handler = none; common = common }) gave (stays_closed ops j (shut_of (origin S + 24) false j.cpu h))
  choose Asleep s j h context gave none common fit =
      let f : IsFreeAt S s j = record { no_base = context; no_handler = none; common = common } in
      let gate : is_open j.cpu ≡ true = ap is_open h.cpu ∙ ap (λ t. cond t (bit h.sr 3) false) h.off_is ∙ h.gie_is in
      on_line s j (base_bounds S Asleep j.cpu) common gate (loop_enters s j AtWake (origin S + 28) false true true _ h (T S).wakes f tt (resumed_there (origin S + 28) false true true j.cpu h) refl (ap woken gave))
      (λ no_line go. idle_step s j h f gave no_line go)
  choose AtWake s j h context gave none common fit =
      let f : IsFreeAt S s j = record { no_base = context; no_handler = none; common = common } in
      on_line s j (base_bounds S AtWake j.cpu) common (open_of (origin S + 28) true j.cpu h) (loop_enters s j AtWake (origin S + 28) true true false _ h (T S).wakes f tt (resumed_there (origin S + 28) true true false j.cpu h) refl (ap woken gave))
      (λ no_line go. wake_step S s j h f gave no_line go)
  choose (AtNone k) s j h context gave none common fit = none_step S s j k h (record { no_base = context; no_handler = none; common = common }) gave (stays_closed ops j (shut_of (origin S + 30) false j.cpu h.there))
  choose (AtCompare k i) s j h context gave none common fit = compare_step S s j k i h (record { no_base = context; no_handler = none; common = common }) gave (stays_closed ops j (shut_of (origin S + (34 + 10 * i)) false j.cpu h.there))
  choose (AtSkip k i) s j h context gave none common fit = skip_step S s j k i h (record { no_base = context; no_handler = none; common = common }) gave (stays_closed ops j (shut_of (origin S + (34 + 10 * i) + 4) false j.cpu h.there))
  choose (AtTake k i) s j h context gave none common fit = take_step S s j k i h (record { no_base = context; no_handler = none; common = common }) gave (stays_closed ops j (shut_of (origin S + (34 + 10 * i) + 6) false j.cpu h.there))
  choose (AtStart k) s j h context gave none common fit = start_step s j k h (record { no_base = context; no_handler = none; common = common }) gave (stays_closed ops j (shut_of (origin S + (36 + 10 * count S)) true j.cpu h.there))
  choose AtReturn s j h context gave none common fit =
      let f : IsFreeAt S s j = record { no_base = context; no_handler = none; common = common } in
      let gate : is_open j.cpu ≡ true = ap is_open h.cpu ∙ ap (λ t. cond t (bit h.sr 3) true) h.off_is in
      on_line s j (base_bounds S AtReturn j.cpu) common gate (return_enters s j h f gave) (λ no_line go. return_step s j h f gave no_line go)
  choose AtBack s j h context gave none common fit =
      let f : IsFreeAt S s j = record { no_base = context; no_handler = none; common = common } in
      on_line s j (base_bounds S AtBack j.cpu) common (open_of (origin S + (38 + 10 * count S)) true j.cpu h) (back_enters s j h f gave)
      (λ no_line go. back_step S s j h f gave no_line go)

  pub base_step : (s : LoopState) (j : Joined (Memory Outside)) (q : Bounds) → Fits S s → AtBase S s j q → Outcome S s j q
  base_step s j q fit a = subst (Outcome S s j) (sym a.bounds) (choose a.base s j a.is a.context a.gave a.no_handler a.common fit)

  pub step_at : (s : LoopState) (j : Joined (Memory Outside)) (q : Bounds) → Fits S s → At S s j q → Outcome S s j q
  step_at s j q fit (OnBase a) = base_step s j q fit a
  step_at s j q fit (OnHandler a) = handler_step S s j q a
