-- One instruction of the function that takes a task, as loop moves.
use Rattle.std.proofs.Common.{◌≡◌, ℕ, suc, ◌+◌, ◌-◌, ◌<◌, ◌≤◌, Bool, true, false, cond, List, [], ◌∷◌, ◌++◌, length, Option, Some, None, refl, sym, ap, subst, ◌∙◌, arith, append-nil}
use Rattle.std.specs.Prelude.{is_some, IsNone, IsSomeAnd}
use Rattle.std.specs.List.{AllByRecursion}
use Rattle.mote_devices.specs.Outside.{Outside}
use Rattle.mote_devices.specs.WordBoards.{IsWordBoard, IsWordGiven}
use Rattle.nm_base.specs.Behaviour.{Performed, Returned, play}
use Rattle.run_meaning.specs.declared.Move.{Move}
use Rattle.run_meaning.specs.State.{State}
use Rattle.run_meaning.specs.Runs.{after_all}
use Rattle.msp430_cpu.specs.declared.cpu.Stepped.TheVariants.{Ran, Stopped}
use Rattle.msp430_cpu.specs.Cpu.{Cpu, gie, cpuoff, is_open}
use Rattle.msp430_cpu.specs.Exec.{Joined, exec, run_or_idle, stepped_of}
use Rattle.msp430_cpu.specs.Memory.{Memory}
use Rattle.msp430_cpu.specs.Slots.{counts, is_idle, is_stopped, is_illegal}
use Rattle.preempt_core.proofs.Instruction.{stays_closed}
use Rattle.open_law.specs.Open.{Done, Moment, IsMoment, Open, Code, IsShut, IsBetween, IsFair, AreMarks, actions_of, answers_of, is_back, is_over, fault_of, silent, went}
use Rattle.open_law.specs.Body.{HasGiven}
use Rattle.preempt_bodies.proofs.WordBoards.{answers_words}
use Rattle.preempt_bodies.proofs.Logged.{moves_of, IsLowCode}
use Rattle.preempt_bodies.proofs.Acting.{TheBase, context_of}
use Rattle.preempt_bodies.proofs.Carry.{ops, IsCommon, IsJoined, IsCarried, carried, is_moment, sound_marked, now_of, new_of}
use Rattle.preempt_bodies.proofs.Running.{goes_on, between_at, fair_at, between_after, fault-append, marks_no_fault, not_back}
use Rattle.preempt_bodies.proofs.BodyStep.{counts_one, new_empty, empty_all}
use Rattle.preempt_bodies.proofs.Places.{no_bounds}
use Rattle.loop_runs.specs.Loop.{LoopState, Pops, IsNotPop, GivesPlace, LegalLoop, after_loop}
use Rattle.preempt_tasks.specs.Bodies.{stack_of}
use Rattle.preempt_tasks.specs.Steps.{gap, turn, cost, marks_of, turns_of, IsSourceBody}
use Rattle.preempt_tasks.proofs.Instructions.{loop_cpu}
use Rattle.preempt_tasks.proofs.Plain.{plains, IsOwn, moves_own, cost_some, marks-append, turns-append, no_turns, marks_few, loop_moves-plains, one_more, with_run, after_plains, legal_plains, shown_plains, after_last, legal_last, shown_last, cost_last}
use Rattle.preempt_tasks.proofs.Places.{Setting, Called, start_of, InPop, AtTest, IsThere, IsPop, program, trace_of, act_at, base_code, base_low, body_at, base_bounds, has_room, Fits, At, OnBase, Outcome}
use Rattle.preempt_tasks.proofs.BodyStep.{some_moves, not_256, faulted_none}

not_so : false ≡ true → ⊥
not_so h = cc

module _ (S : Setting) where
  low_end : S.z.data_end ≤ 0x3900
  low_end = let r = has_room S in omega (arith, r)

  module _ (x0 : Called) (before since : List Moment) (s : LoopState) (j : Joined (Memory Outside)) (h : IsPop S x0 before since j.cpu j.bus.ram)
      (context : s.run.base ≡ Some (context_of (Some x0.body) (body_at S x0 (before ++ since)).done)) (gave : s.gave ≡ None) (none : s.run.handler ≡ None) (common : IsCommon IsWordBoard S.image S.z.data_end s.run j.bus) (fit : Fits S s) where
    abbrev r : State
    r = s.run

    abbrev body : Option ℕ
    body = Some x0.body

    abbrev act : List ℕ → ℕ → Performed
    act = act_at S x0

    abbrev code : Code
    code = base_code S

    abbrev Back : Open → Type 0
    Back = HasGiven 1 (trace_of S x0) (start_of x0) x0.ram

    abbrev o : Open
    o = body_at S x0 (before ++ since)

    abbrev ds : List Done
    ds = o.done

    btw : IsBetween act code (base_low S) IsShut Back o
    btw = between_at act code (base_low S) S.z.bound IsShut Back (start_of x0) x0.ram h.law before since h.runs

    good_marks : AreMarks (S.marks o.cpu.pc)
    good_marks = btw.marks h.runs.going

    joined : IsJoined (program S) IsWordBoard IsWordGiven answers_words code S.built.even_end low_end TheBase body o false r j
    joined = record {
      common = common;
      done = record { base = context; handler = none };
      cpu = h.cpu;
      stack = λ a le lt. h.stack a (subst (λ (c : Cpu). c.sp ≤ a) (sym h.cpu) le) lt;
    }

    abbrev now : Moment
    now = now_of (program S) IsWordBoard IsWordGiven answers_words code S.built.even_end low_end o r j false

    now_ok : IsMoment now
    now_ok = is_moment (program S) IsWordBoard IsWordGiven answers_words code S.built.even_end low_end o r j false common.bytes (sound_marked (program S) IsWordBoard IsWordGiven answers_words code S.built.even_end low_end r j.bus (S.marks o.cpu.pc) common good_marks.silent)

    abbrev o' : Open
    o' = went code now o

    btw' : IsBetween act code (base_low S) IsShut Back o'
    btw' = between_after act code (base_low S) S.z.bound IsShut Back (start_of x0) x0.ram h.law before since now h.runs now_ok

    abbrev marked : List Done
    marked = silent (S.marks o.cpu.pc)

    abbrev new : List Done
    new = new_of (program S) IsWordBoard IsWordGiven answers_words code S.built.even_end low_end TheBase body o false r j joined good_marks

    abbrev acts : List Move
    acts = moves_of (marked ++ new)

    own : AllByRecursion IsOwn acts
    own = moves_own (marked ++ new)

    fair : IsFair code now o
    fair = fair_at act code (base_low S) S.z.bound IsShut Back (start_of x0) x0.ram h.law before since now h.runs now_ok

    C : IsCarried (program S) IsWordBoard IsWordGiven answers_words code S.built.even_end low_end TheBase body o false r j joined good_marks
    C = carried (program S) IsWordBoard IsWordGiven answers_words code S.built.even_end low_end TheBase body o false r j joined good_marks fair btw'.next

    abbrev r' : State
    r' = after_all (program S) r acts

    abbrev j' : Joined (Memory Outside)
    j' = (run_or_idle ops j).after

    over_not : (is_back 0x3900 o ≡ false) × (fault_of ds ≡ None)
    over_not = not_back 0x3900 o h.runs.going

    -- the gate is closed
    go : exec ops j ≡ run_or_idle ops j
    go = stays_closed ops j (ap is_open h.cpu ∙ ap (λ t. cond t (gie o.cpu) o.cpu.gate) (btw.awake over_not.0) ∙ (btw.gate h.runs.going).gate)

    deep : 0x3900 ≤ j'.cpu.sp + stack_of S.z
    deep = let l = btw'.low in let e : j'.cpu.sp ≡ o'.cpu.sp = ap (λ (c : Cpu). c.sp) C.cpu in omega (arith, l, e)

    one : counts (run_or_idle ops j).stepped ≤ 1
    one = counts_one (run_or_idle ops j).stepped

    abbrev Result : Type 0
    Result = Outcome S s j (base_bounds S (InPop x0 before since) j.cpu)

    -- nothing is owed
    is_pop : IsNotPop S.K S.pop r.base → ⊥
    is_pop n = subst (IsNotPop S.K S.pop) context n (ap (λ b. Some b) h.is_pop)

    is_aside : IsSourceBody S.pop r.base → ⊥
    is_aside b = subst (IsSourceBody S.pop) context b (ap (λ n. Some n) h.is_pop)

    marks_low : marks_of (plains acts) ≤ 1
    marks_low = marks_few (S.marks o.cpu.pc) new good_marks C.plain

    turnless : 1 ≤ turns_of (plains acts) → ⊥
    turnless t = let n = no_turns (marked ++ new) in absurd (omega (arith, t, n))

    awake_after : cpuoff o'.cpu ≡ false
    awake_after = by_back (is_back 0x3900 o') refl
      where
        by_back : (t : Bool) → is_back 0x3900 o' ≡ t → cpuoff o'.cpu ≡ false
        by_back true e = (btw'.back e).returned.awake
        by_back false e = btw'.awake e

    -- a fault
    halted : (c : ℕ) → fault_of new ≡ Some c → Result
    halted c e =
        let st : (run_or_idle ops j).stepped ≡ Stopped c = C.stepped ∙ ap (stepped_of ops) e in
        let low : c < 0x100 = subst IsLowCode e C.low in
        let some : acts ≡ [] → ⊥ = λ q. faulted_none c (subst (λ l. fault_of l ≡ Some c) (new_empty marked new q) e) in
        let pays = cost_some S.z (marked ++ new) (some_moves acts some) in
        record {
          moves = plains acts;
          next = j';
          stepped = (run_or_idle ops j).stepped;
          later = no_bounds;
          exec_is = go;
          legal = legal_plains S.K S.pop acts own s C.legal;
          shown = C.shown ∙ ap (λ l. j.bus.ports.shown ++ l) (sym (shown_plains S.K S.pop acts own s));
          single = let n = loop_moves-plains acts in omega (arith, n);
          goes = λ n. absurd (not_so (sym n ∙ ap is_stopped st));
          halts = λ n. (ap is_illegal st ∙ not_256 c low, ap cpuoff C.cpu ∙ awake_after, refl);
          idle = λ n. absurd (not_so (sym (ap is_idle st) ∙ n));
          deep = deep;
          spent = omega (arith, one, pays);
          few = λ n. absurd (is_pop n);
          prompt = λ n v w out. absurd (is_pop n);
          no_line = λ v w q. absurd (omega (arith, q));
          marks = marks_low;
          turns = λ t. absurd (turnless t);
          soon = λ b n c. absurd (is_aside b);
          settles = λ b n c i. absurd (is_aside b);
          apart = λ p. (refl, no_turns (marked ++ new));
        }

    -- what is common afterwards, where no fault was raised
    common_after : fault_of new ≡ None → IsCommon IsWordBoard S.image S.z.data_end r' j'.bus
    common_after e = record {
      code = C.code_kept;
      board = C.board;
      store = C.store;
      words = C.words;
      bytes = C.bytes;
      no_task = C.no_task;
      going = C.halted ∙ ap is_some e;
      runs = C.stopped ∙ e;
    }

    ran_there : fault_of new ≡ None → (run_or_idle ops j).stepped ≡ Ran
    ran_there e = C.stepped ∙ ap (stepped_of ops) e

    -- the function goes on
    on_body : fault_of new ≡ None → is_back 0x3900 o' ≡ false → Result
    on_body e back =
        let st = ran_there e in
        let no_fault : fault_of o'.done ≡ None = fault-append ds (marked ++ new) over_not.1 ∙ fault-append marked new (marks_no_fault (S.marks o.cpu.pc) good_marks.silent) ∙ e in
        let on : is_over 0x3900 o' ≡ false = ap (λ t. cond t true (is_some (fault_of o'.done))) back ∙ ap is_some no_fault in
        let G = goes_on act code (base_low S) S.z.bound IsShut Back (start_of x0) x0.ram h.law before since now S.built.some h.runs now_ok on in
        let q2 : body_at S x0 (G.before' ++ G.since') ≡ o' = G.same in
        let later_is = after_plains S.K S.pop acts own s in
        let place : At S (with_run S.K S.pop s r') j' (base_bounds S (InPop x0 G.before' G.since') j'.cpu) = OnBase (record {
          base = InPop x0 G.before' G.since';
          is = record {
            law = h.law;
            runs = G.runs;
            cpu = C.cpu ∙ ap (λ (q : Open). q.cpu) (sym q2);
            stack = λ a le lt. ap (λ (f : ℕ → ℕ). f a) C.ram ∙ ap (λ (q : Open). q.ram a) (sym q2);
            goes_back = h.goes_back;
            closed = h.closed;
            gie_there = h.gie_there;
            is_pop = h.is_pop;
          };
          context = C.done.base ∙ ap (λ (q : Open). Some (context_of body q.done)) (sym q2);
          gave = gave;
          no_handler = C.done.handler;
          common = common_after e;
          bounds = refl;
        }) in
        record {
          moves = plains acts;
          next = j';
          stepped = (run_or_idle ops j).stepped;
          later = base_bounds S (InPop x0 G.before' G.since') j'.cpu;
          exec_is = go;
          legal = legal_plains S.K S.pop acts own s C.legal;
          shown = C.shown ∙ ap (λ l. j.bus.ports.shown ++ l) (sym (shown_plains S.K S.pop acts own s));
          single = let n = loop_moves-plains acts in omega (arith, n);
          goes = λ n. subst (λ (t : LoopState). At S t j' (base_bounds S (InPop x0 G.before' G.since') j'.cpu)) (sym later_is) place;
          halts = λ n. absurd (not_so (sym (ap is_stopped st) ∙ n));
          idle = λ n. absurd (not_so (sym (ap is_idle st) ∙ n));
          deep = deep;
          spent = by_moves G.since' G.left h.runs.few acts refl (cost_some S.z (marked ++ new));
          few = λ n. absurd (is_pop n);
          prompt = λ n v w out. absurd (is_pop n);
          no_line = λ v w q. absurd (omega (arith, q));
          marks = marks_low;
          turns = λ t. absurd (turnless t);
          soon = λ b n c. absurd (is_aside b);
          settles = λ b n c i. absurd (is_aside b);
          apart = λ p. (refl, no_turns (marked ++ new));
        }
      where
        by_moves : (since' : List Moment) → (length o'.done ≡ length ds → length since' ≡ suc (length since)) → length since < S.z.bound → (ms : List Move) → acts ≡ ms → (1 ≤ length acts → gap S.z ≤ cost S.z (plains acts)) →
            counts (run_or_idle ops j).stepped + (S.z.bound - length since') ≤ (S.z.bound - length since) + cost S.z (plains acts)
        by_moves since' left f [] q pays =
            let none_done : marked ++ new ≡ [] = empty_all (marked ++ new) q in
            let same_length : length o'.done ≡ length ds = ap (λ l. length (ds ++ l)) none_done ∙ ap length (append-nil ds) in
            let n = left same_length in
            omega (arith, one, n, f)
        by_moves since' left f (m ∷ ms) q pays =
            let n : length acts ≡ suc (length ms) = ap length q in
            let p = pays (omega (arith, n)) in
            omega (arith, one, p)

    -- it is back, and R12 holds what it gives
    on_back : fault_of new ≡ None → is_back 0x3900 o' ≡ true → Result
    on_back e back =
        let st = ran_there e in
        let B = btw'.back back in
        let V = B.value in
        let m = common_after e in
        let w = btw'.words in
        let ended : play (S.K.does x0.body B.turns) (answers_of o'.done) ≡ record { actions = actions_of o'.done; why = Returned V } = B.ended in
        let ended_pop : play (S.K.does S.pop B.turns) (answers_of o'.done) ≡ record { actions = actions_of o'.done; why = Returned V } = subst (λ b. play (S.K.does b B.turns) (answers_of o'.done) ≡ record { actions = actions_of o'.done; why = Returned V }) h.is_pop ended in
        let gives : GivesPlace S.K S.pop V (context_of body o'.done) = record { is_pop = ap (λ b. Some b) h.is_pop; turns = B.turns; ended = ended_pop } in
        let legal_end : LegalLoop S.K S.pop (with_run S.K S.pop s r') (Pops V) = (m.going, subst IsNone (sym C.done.handler) refl, subst (λ t. IsSomeAnd t (GivesPlace S.K S.pop V)) (sym C.done.base) gives) in
        let legal = legal_last S.K S.pop acts own s (Pops V) C.legal legal_end in
        let byte : V ≤ 255 = fit (plains acts) V legal in
        let sp : o'.cpu.sp ≡ 0x3900 = B.returned.sp in
        let pc : o'.cpu.pc ≡ S.built.reset_at + 18 = B.returned.pc ∙ h.goes_back in
        let gate : o'.cpu.gate ≡ false = B.returned.gate ∙ h.closed in
        let is_there : IsThere (S.built.reset_at + 18) false false false j'.cpu = record {
          sr = o'.cpu.sr;
          others = o'.cpu.others;
          cpu = C.cpu
              ∙ ap (λ p. record { pc = p; sp = o'.cpu.sp; sr = o'.cpu.sr; others = o'.cpu.others; gate = o'.cpu.gate }) pc
              ∙ ap (λ p. record { pc = S.built.reset_at + 18; sp = p; sr = o'.cpu.sr; others = o'.cpu.others; gate = o'.cpu.gate }) sp
              ∙ ap (λ t. loop_cpu (S.built.reset_at + 18) o'.cpu.sr o'.cpu.others t) gate;
          small = w.sr;
          twelve = w.twelve;
          regs = w.others;
          gie_is = B.returned.gie ∙ h.gie_there;
          off_is = B.returned.awake;
        } in
        let all = after_last S.K S.pop acts own s (Pops V) in
        let place : At S (after_loop S.K S.pop (with_run S.K S.pop s r') (Pops V)) j' (base_bounds S (AtTest V) j'.cpu) = OnBase (record {
          base = AtTest V;
          is = record { there = is_there; given = B.result; low = byte; status = tt; registers = tt };
          context = refl;
          gave = refl;
          no_handler = C.done.handler;
          common = record { code = m.code; board = m.board; store = m.store; words = m.words; bytes = m.bytes; no_task = m.no_task; going = m.going; runs = m.runs };
          bounds = refl;
        }) in
        let pays : turn S.z ≤ cost S.z (plains acts ++ Pops V ∷ []) = cost_last S.K S.pop acts own s (Pops V) S.z in
        record {
          moves = plains acts ++ Pops V ∷ [];
          next = j';
          stepped = (run_or_idle ops j).stepped;
          later = base_bounds S (AtTest V) j'.cpu;
          exec_is = go;
          legal = legal;
          shown = C.shown ∙ ap (λ l. j.bus.ports.shown ++ l) (sym (shown_last S.K S.pop acts own s (Pops V) refl));
          single = one_more acts (Pops V);
          goes = λ n. subst (λ (t : LoopState). At S t j' (base_bounds S (AtTest V) j'.cpu)) (sym all) place;
          halts = λ n. absurd (not_so (sym (ap is_stopped st) ∙ n));
          idle = λ n. absurd (not_so (sym (ap is_idle st) ∙ n));
          deep = deep;
          spent = omega (arith, one, pays);
          few = λ n. absurd (is_pop n);
          prompt = λ n v w out. absurd (is_pop n);
          no_line = λ v w q. absurd (omega (arith, q));
          marks = let a = marks-append (plains acts) (Pops V ∷ []) in let l = marks_low in omega (arith, a, l);
          turns = λ t. let a = turns-append (plains acts) (Pops V ∷ []) in absurd (turnless (omega (arith, a, t)));
          soon = λ b n c. absurd (is_aside b);
          settles = λ b n c i. absurd (is_aside b);
          apart = λ p. let n = no_turns (marked ++ new) in let a = turns-append (plains acts) (Pops V ∷ []) in (refl, omega (arith, n, a));
        }

    pub pop_step : Result
    pop_step = by_fault (fault_of new) refl
      where
        by_back : (t : Bool) → is_back 0x3900 o' ≡ t → fault_of new ≡ None → Result
        by_back true b e = on_back e b
        by_back false b e = on_body e b

        by_fault : (f : Option ℕ) → fault_of new ≡ f → Result
        by_fault (Some c) e = halted c e
        by_fault None e = by_back (is_back 0x3900 o') refl e
