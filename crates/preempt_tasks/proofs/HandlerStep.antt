-- One instruction of a handler's code, as loop moves.
use Rattle.std.proofs.Common.{◌≡◌, ℕ, suc, ◌+◌, ◌-◌, ◌*◌, ◌<◌, ◌≤◌, Bool, true, false, ◌&&◌, cond, List, [], ◌∷◌, ◌++◌, length, Option, Some, None, refl, sym, ap, subst, ◌∙◌, arith, append-nil}
use Rattle.std.specs.Prelude.{is_some, is_none, IsNone, IsSomeAnd}
use Rattle.std.specs.List.{AllByRecursion}
use Rattle.mote_devices.specs.Board.{line_of}
use Rattle.mote_devices.specs.Outside.{Outside}
use Rattle.mote_devices.specs.WordBoards.{IsWordBoard, IsWordGiven}
use Rattle.core_meaning.specs.Source.{act_of}
use Rattle.nm_base.specs.Behaviour.{Performed}
use Rattle.run_meaning.specs.declared.Move.{Move}
use Rattle.run_meaning.specs.declared.Move.TheVariants.{Leave}
use Rattle.run_meaning.specs.State.{State, Context}
use Rattle.run_meaning.specs.Runs.{HasEnded, after, after_all}
use Rattle.msp430_cpu.specs.declared.cpu.Stepped.TheVariants.{Ran, Stopped}
use Rattle.msp430_cpu.specs.Cpu.{Cpu, even, gie, cpuoff, is_open}
use Rattle.msp430_cpu.specs.Exec.{Joined, exec, run_or_idle, stepped_of}
use Rattle.msp430_cpu.specs.Memory.{Memory}
use Rattle.msp430_cpu.specs.Slots.{counts, is_idle, is_stopped, is_illegal}
use Rattle.preempt_core.specs.Law.{Bounds, one_effect, waiting_effects}
use Rattle.preempt_core.proofs.Instruction.{stays_closed}
use Rattle.open_law.specs.Open.{AreMarks, Done, Moment, IsMoment, Open, Code, IsGated, IsShut, IsBetween, IsFair, is_data, is_back, is_over, fault_of, silent, went, is_within}
use Rattle.open_law.specs.Body.{HasReturned}
use Rattle.preempt_bodies.specs.Bodies.{HasResumed, resumed_by}
use Rattle.preempt_bodies.proofs.WordBoards.{answers_words}
use Rattle.preempt_bodies.proofs.Logged.{moves_of, IsLowCode, AreAnswered, data_high}
use Rattle.preempt_bodies.proofs.Acting.{Actor, AHandler, context_of}
use Rattle.preempt_bodies.proofs.Effects.{marks_answered}
use Rattle.preempt_bodies.proofs.Carry.{ops, IsCommon, IsJoined, IsCarried, carried, is_moment, sound_marked, now_of, new_of, answered-append}
use Rattle.preempt_bodies.proofs.Running.{goes_on, between_at, fair_at, between_after, fault-append, marks_no_fault, not_back}
use Rattle.preempt_bodies.proofs.BodyStep.{counts_one, new_empty, empty_all, effects_low}
use Rattle.preempt_bodies.proofs.HandlerStep.{handler_counts}
use Rattle.preempt_bodies.proofs.Places.{no_bounds}
use Rattle.loop_runs.specs.Loop.{LoopState, LoopMove, Plain, IsNotPop, LegalLoop, after_loop}
use Rattle.preempt_tasks.specs.Bodies.{stack_of}
use Rattle.preempt_tasks.specs.Steps.{gap, cost, marks_of, turns_of, WaitsThrough, effect_of}
use Rattle.preempt_tasks.proofs.Plain.{plains, IsOwn, moves_own, cost_some, marks-append, turns-append, no_turns, marks_few, loop_moves-plains, one_more, with_run, after_plains, legal_plains, shown_plains, prompt_plains, waits_head, after_last, legal_last, shown_last, effects_last, cost_last}
use Rattle.preempt_tasks.proofs.Places.{Setting, start_of, Base, InBody, AtLoop, AtPause, AtWake, AtReturn, AtBack, IsSuspended, IsBase, program, act_at, base_code, base_low, body_at, base_bounds, gave_at, has_room, handler_code, handler_at, AtHandler, At, OnBase, OnHandler, Outcome}
use Rattle.preempt_tasks.proofs.BodyStep.{some_moves, not_256, faulted_none}

not_so : false ≡ true → ⊥
not_so h = cc

-- a handler's moves are no base effects
handler_none : (w : Bool) (o : Option Context) (c : Context) (n : ℕ) → o ≡ Some c → cond (w && is_none o) n 0 ≡ 0
handler_none w o c n e = ap (λ t. cond (w && is_none t) n 0) e ∙ by_test w
  where
    by_test : (t : Bool) → cond (t && false) n 0 ≡ 0
    by_test true = refl
    by_test false = refl

some_not_none : (o : Option Context) (c : Context) → o ≡ Some c → IsNone o → ⊥
some_not_none o c e n = not_so (let k : IsNone (Some c) = subst IsNone e n in cc)

module _ (S : Setting) where
  low_end : S.z.data_end ≤ 0x3900
  low_end = let r = has_room S in omega (arith, r)

  -- a base that was interrupted keeps its place while the stack from its SP on is kept
  pub base_kept : (base : Base) (c : Cpu) (ram ram' : ℕ → ℕ) → IsSuspended base → IsBase S base c ram → ((a : ℕ) → c.sp ≤ a → a < 0x3900 → ram' a ≡ ram a) → IsBase S base c ram'
  base_kept (InBody x before since) c ram ram' s h kept = record { law = h.law; runs = h.runs; interrupted = h.interrupted; cpu = h.cpu; stack = λ a le lt. kept a le lt ∙ h.stack a le lt; goes_back = h.goes_back; opened = h.opened; gie_there = h.gie_there; not_pop = h.not_pop }
  base_kept AtLoop c ram ram' s h kept = h
  base_kept (AtPause gate) c ram ram' s h kept = h
  base_kept AtWake c ram ram' s h kept = h
  base_kept AtReturn c ram ram' s h kept =
      let sp : c.sp ≡ 0x38FE = ap (λ (k : Cpu). k.sp) h.cpu in
      let low : ram' 0x38FE ≡ ram 0x38FE = kept 0x38FE (omega (arith, sp)) (omega arith) in
      let high : ram' (0x38FE + 1) ≡ ram (0x38FE + 1) = kept (0x38FE + 1) (omega (arith, sp)) (omega arith) in
      record {
        sr = h.sr;
        others = h.others;
        cpu = h.cpu;
        small = h.small;
        twelve = h.twelve;
        regs = h.regs;
        gie_is = h.gie_is;
        off_is = h.off_is;
        goes_back = ap (λ x. even (x + 256 * ram' (0x38FE + 1))) low ∙ ap (λ x. even (ram 0x38FE + 256 * x)) high ∙ h.goes_back;
      }
  base_kept AtBack c ram ram' s h kept = h
  base_kept other c ram ram' s h kept = absurd s

  -- it is awake
  pub base_awake : (base : Base) (c : Cpu) (ram : ℕ → ℕ) → IsSuspended base → IsBase S base c ram → cpuoff c ≡ false
  base_awake (InBody x before since) c ram s h =
      ap cpuoff h.cpu ∙ (between_at (act_at S x) (base_code S) (base_low S) S.z.bound (IsGated (base_code S)) (HasReturned (act_at S x) (start_of x) x.ram) (start_of x) x.ram h.law before since h.runs).awake (not_back 0x3900 (body_at S x (before ++ since)) h.runs.going).0
  base_awake AtLoop c ram s h = ap cpuoff h.cpu ∙ h.off_is
  base_awake (AtPause gate) c ram s h = ap cpuoff h.cpu ∙ h.off_is
  base_awake AtWake c ram s h = ap cpuoff h.cpu ∙ h.off_is
  base_awake AtReturn c ram s h = ap cpuoff h.cpu ∙ h.off_is
  base_awake AtBack c ram s h = ap cpuoff h.cpu ∙ h.off_is
  base_awake other c ram s h = absurd s

  -- what it may still run and do
  pub record IsEase (q : Bounds) : Type 0 where
    pub left : q.left + 1 ≤ gap S.z
    pub effects : q.effects ≤ 3

  pub base_ease : (base : Base) (c : Cpu) → IsSuspended base → IsEase (base_bounds S base c)
  base_ease (InBody x before since) c s = record { left = omega arith; effects = effects_low (is_within (body_at S x (before ++ since)).done) c.gate (gie c) }
  base_ease AtLoop c s = record { left = omega arith; effects = omega arith }
  base_ease (AtPause gate) c s = record { left = omega arith; effects = omega arith }
  base_ease AtWake c s = record { left = omega arith; effects = omega arith }
  base_ease AtReturn c s = record { left = omega arith; effects = omega arith }
  base_ease AtBack c s = record { left = omega arith; effects = omega arith }
  base_ease other c s = absurd s

  -- and `pop` has not given anything that is not taken
  pub base_gave : (base : Base) → IsSuspended base → gave_at base ≡ None
  base_gave (InBody x before since) s = refl
  base_gave AtLoop s = refl
  base_gave (AtPause gate) s = refl
  base_gave AtWake s = refl
  base_gave AtReturn s = refl
  base_gave AtBack s = refl
  base_gave other s = absurd s

  module _ (s : LoopState) (j : Joined (Memory Outside)) (q : Bounds) (a : AtHandler S s j q) where
    abbrev r : State
    r = s.run

    abbrev body : Option ℕ
    body = (program S).handler a.v

    abbrev act : List ℕ → ℕ → Performed
    act = act_of (program S) body

    abbrev code : Code
    code = handler_code S a.c

    abbrev low : ℕ
    low = a.c.sp - S.z.handler_depth

    abbrev Back : Open → Type 0
    Back = HasResumed act a.c a.ram

    abbrev o : Open
    o = handler_at S a.c a.ram (a.before ++ a.since)

    abbrev ds : List Done
    ds = o.done

    abbrev w : Actor
    w = AHandler r.base

    btw : IsBetween act code low IsShut Back o
    btw = between_at act code low S.z.bound IsShut Back a.c a.ram a.law a.before a.since a.runs

    good_marks : AreMarks (S.marks o.cpu.pc)
    good_marks = btw.marks a.runs.going

    joined : IsJoined (program S) IsWordBoard IsWordGiven answers_words code S.built.even_end low_end w body o false r j
    joined = record {
      common = a.common;
      done = record { base = refl; handler = a.handler };
      cpu = a.cpu;
      stack = λ x le lt. a.stack x (subst (λ (c : Cpu). c.sp ≤ x) (sym a.cpu) le) lt;
    }

    abbrev now : Moment
    now = now_of (program S) IsWordBoard IsWordGiven answers_words code S.built.even_end low_end o r j false

    now_ok : IsMoment now
    now_ok = is_moment (program S) IsWordBoard IsWordGiven answers_words code S.built.even_end low_end o r j false a.common.bytes (sound_marked (program S) IsWordBoard IsWordGiven answers_words code S.built.even_end low_end r j.bus (S.marks o.cpu.pc) a.common good_marks.silent)

    abbrev o' : Open
    o' = went code now o

    btw' : IsBetween act code low IsShut Back o'
    btw' = between_after act code low S.z.bound IsShut Back a.c a.ram a.law a.before a.since now a.runs now_ok

    abbrev marked : List Done
    marked = silent (S.marks o.cpu.pc)

    abbrev new : List Done
    new = new_of (program S) IsWordBoard IsWordGiven answers_words code S.built.even_end low_end w body o false r j joined good_marks

    abbrev acts : List Move
    acts = moves_of (marked ++ new)

    own : AllByRecursion IsOwn acts
    own = moves_own (marked ++ new)

    fair : IsFair code now o
    fair = fair_at act code low S.z.bound IsShut Back a.c a.ram a.law a.before a.since now a.runs now_ok

    C : IsCarried (program S) IsWordBoard IsWordGiven answers_words code S.built.even_end low_end w body o false r j joined good_marks
    C = carried (program S) IsWordBoard IsWordGiven answers_words code S.built.even_end low_end w body o false r j joined good_marks fair btw'.next

    abbrev r' : State
    r' = after_all (program S) r acts

    abbrev j' : Joined (Memory Outside)
    j' = (run_or_idle ops j).after

    over_not : (is_back code.top o ≡ false) × (fault_of ds ≡ None)
    over_not = not_back code.top o a.runs.going

    -- the gate is closed
    go : exec ops j ≡ record { after = j'; stepped = (run_or_idle ops j).stepped }
    go = stays_closed ops j (ap is_open a.cpu ∙ ap (λ t. cond t (gie o.cpu) o.cpu.gate) (btw.awake over_not.0) ∙ (btw.gate a.runs.going).gate)

    answers : AreAnswered (program S) r (marked ++ new)
    answers = answered-append (program S) r marked new (marks_answered (program S) body (S.marks o.cpu.pc) r good_marks.silent) C.answered

    no_effects : waiting_effects (program S) r acts ≡ 0
    no_effects = handler_counts (program S) r.base body ds (marked ++ new) r joined.done answers

    no_wait : (v : ℕ) (ms : List LoopMove) → WaitsThrough S.K S.pop v s ms → ⊥
    no_wait v ms h = some_not_none r.handler (context_of body ds) a.handler (waits_head S.K S.pop v s ms h)

    has_handler : IsNone r.handler → ⊥
    has_handler n = some_not_none r.handler (context_of body ds) a.handler n

    marks_low : marks_of (plains acts) ≤ 1
    marks_low = marks_few (S.marks o.cpu.pc) new good_marks C.plain

    turnless : 1 ≤ turns_of (plains acts) → ⊥
    turnless t = let n = no_turns (marked ++ new) in absurd (omega (arith, t, n))

    deep : 0x3900 ≤ j'.cpu.sp + stack_of S.z
    deep = let l = btw'.low in let d = a.deep in let e : j'.cpu.sp ≡ o'.cpu.sp = ap (λ (c : Cpu). c.sp) C.cpu in omega (arith, l, d, e)

    one : counts (run_or_idle ops j).stepped ≤ 1
    one = counts_one (run_or_idle ops j).stepped

    -- the base's stack is as it was
    stack_kept : (x : ℕ) → a.c.sp + 4 ≤ x → x < 0x3900 → j'.bus.ram x ≡ j.bus.ram x
    stack_kept x le lt = ap (λ (f : ℕ → ℕ). f x) C.ram ∙ fair.leaves x le (above x le)
      where
        above : (x : ℕ) → a.c.sp + 4 ≤ x → is_data S.z.data_end x ≡ false
        above x le = let b = a.base_room in by_test (is_data S.z.data_end x) refl
          where
            by_test : (t : Bool) → is_data S.z.data_end x ≡ t → t ≡ false
            by_test false e = refl
            by_test true e = let k = data_high S.z.data_end S.built.even_end low_end x e in let b = a.base_room in absurd (omega (arith, k, b, le))

    is_after : IsBase S a.base (resumed_by a.c a.ram) j'.bus.ram
    is_after = base_kept a.base (resumed_by a.c a.ram) j.bus.ram j'.bus.ram a.waits a.is stack_kept

    awake_after : cpuoff o'.cpu ≡ false
    awake_after = by_back (is_back code.top o') refl
      where
        by_back : (t : Bool) → is_back code.top o' ≡ t → cpuoff o'.cpu ≡ false
        by_back true e = ap cpuoff (btw'.back e).cpu ∙ base_awake a.base (resumed_by a.c a.ram) j.bus.ram a.waits a.is
        by_back false e = btw'.awake e

    abbrev before_bounds : Bounds
    before_bounds = record { left = S.z.bound - length a.since; effects = 0; closed = 0 }

    abbrev Result : Type 0
    Result = Outcome S s j before_bounds

    -- a fault
    halted : (c : ℕ) → fault_of new ≡ Some c → Result
    halted c e =
        let st : (run_or_idle ops j).stepped ≡ Stopped c = C.stepped ∙ ap (stepped_of ops) e in
        let low_code : c < 0x100 = subst IsLowCode e C.low in
        let some : acts ≡ [] → ⊥ = λ q. faulted_none c (subst (λ l. fault_of l ≡ Some c) (new_empty marked new q) e) in
        let pays = cost_some S.z (marked ++ new) (some_moves acts some) in
        record {
          moves = plains acts;
          next = j';
          stepped = (run_or_idle ops j).stepped;
          later = no_bounds;
          exec_is = go;
          legal = legal_plains S.K S.pop acts own s C.legal;
          shown = C.shown ∙ ap (λ l. j.bus.ports.shown ++ l) (sym (shown_plains S.K S.pop acts own s));
          single = let n = loop_moves-plains acts in omega (arith, n);
          goes = λ n. absurd (not_so (sym n ∙ ap is_stopped st));
          halts = λ n. (ap is_illegal st ∙ not_256 c low_code, ap cpuoff C.cpu ∙ awake_after, refl);
          idle = λ n. absurd (not_so (sym (ap is_idle st) ∙ n));
          deep = deep;
          spent = omega (arith, one, pays);
          few = λ n. prompt_plains S.K S.pop acts own s 0 0 (record {
            low = let b = no_effects in omega (arith, b);
            counted = let b = no_effects in omega (arith, b);
            falls = λ v h. let b = no_effects in omega (arith, b);
          });
          prompt = λ n v h out. absurd (no_wait v (plains acts) h);
          no_line = λ v h z. no_wait v (plains acts) h;
          marks = marks_low;
          turns = λ t. absurd (turnless t);
          soon = λ b n c. absurd (has_handler n);
          settles = λ b n c i. absurd (has_handler n);
          apart = λ p. absurd (p a.not_pop);
        }

    common_after : fault_of new ≡ None → IsCommon IsWordBoard S.image S.z.data_end r' j'.bus
    common_after e = record {
      code = C.code_kept;
      board = C.board;
      store = C.store;
      words = C.words;
      bytes = C.bytes;
      no_task = C.no_task;
      going = C.halted ∙ ap is_some e;
      runs = C.stopped ∙ e;
    }

    ran_there : fault_of new ≡ None → (run_or_idle ops j).stepped ≡ Ran
    ran_there e = C.stepped ∙ ap (stepped_of ops) e

    -- the handler's code goes on
    on_code : fault_of new ≡ None → is_back code.top o' ≡ false → Result
    on_code e back =
        let st = ran_there e in
        let no_fault : fault_of o'.done ≡ None = fault-append ds (marked ++ new) over_not.1 ∙ fault-append marked new (marks_no_fault (S.marks o.cpu.pc) good_marks.silent) ∙ e in
        let on : is_over code.top o' ≡ false = ap (λ t. cond t true (is_some (fault_of o'.done))) back ∙ ap is_some no_fault in
        let G = goes_on act code low S.z.bound IsShut Back a.c a.ram a.law a.before a.since now S.built.some a.runs now_ok on in
        let later_is = after_plains S.K S.pop acts own s in
        let later : Bounds = record { left = S.z.bound - length G.since'; effects = 0; closed = 0 } in
        let place : At S (with_run S.K S.pop s r') j' later = OnHandler (record {
          v = a.v;
          c = a.c;
          ram = a.ram;
          before = G.before';
          since = G.since';
          law = a.law;
          runs = G.runs;
          cpu = C.cpu ∙ ap (λ (q : Open). q.cpu) (sym G.same);
          stack = λ x le lt. ap (λ (f : ℕ → ℕ). f x) C.ram ∙ ap (λ (q : Open). q.ram x) (sym G.same);
          base = a.base;
          waits = a.waits;
          is = is_after;
          base_room = a.base_room;
          deep = a.deep;
          base_context_is = C.done.base ∙ a.base_context_is;
          gave = a.gave;
          not_pop = subst (IsNotPop S.K S.pop) (sym C.done.base) a.not_pop;
          handler = C.done.handler ∙ ap (λ (q : Open). Some (context_of body q.done)) (sym G.same);
          common = common_after e;
          bounds = refl;
        }) in
        record {
          moves = plains acts;
          next = j';
          stepped = (run_or_idle ops j).stepped;
          later = later;
          exec_is = go;
          legal = legal_plains S.K S.pop acts own s C.legal;
          shown = C.shown ∙ ap (λ l. j.bus.ports.shown ++ l) (sym (shown_plains S.K S.pop acts own s));
          single = let n = loop_moves-plains acts in omega (arith, n);
          goes = λ n. subst (λ (t : LoopState). At S t j' later) (sym later_is) place;
          halts = λ n. absurd (not_so (sym (ap is_stopped st) ∙ n));
          idle = λ n. absurd (not_so (sym (ap is_idle st) ∙ n));
          deep = deep;
          spent = by_moves G.since' G.left a.runs.few acts refl (cost_some S.z (marked ++ new));
          few = λ n. prompt_plains S.K S.pop acts own s 0 0 (record {
            low = let b = no_effects in omega (arith, b);
            counted = let b = no_effects in omega (arith, b);
            falls = λ v h. let b = no_effects in omega (arith, b);
          });
          prompt = λ n v h out. absurd (no_wait v (plains acts) h);
          no_line = λ v h z. no_wait v (plains acts) h;
          marks = marks_low;
          turns = λ t. absurd (turnless t);
          soon = λ b n c. absurd (has_handler n);
          settles = λ b n c i. absurd (has_handler n);
          apart = λ p. absurd (p a.not_pop);
        }
      where
        by_moves : (since' : List Moment) → (length o'.done ≡ length ds → length since' ≡ suc (length a.since)) → length a.since < S.z.bound → (ms : List Move) → acts ≡ ms → (1 ≤ length acts → gap S.z ≤ cost S.z (plains acts)) →
            counts (run_or_idle ops j).stepped + (S.z.bound - length since') ≤ (S.z.bound - length a.since) + cost S.z (plains acts)
        by_moves since' left f [] q pays =
            let none_done : marked ++ new ≡ [] = empty_all (marked ++ new) q in
            let same_length : length o'.done ≡ length ds = ap (λ l. length (ds ++ l)) none_done ∙ ap length (append-nil ds) in
            let n = left same_length in
            omega (arith, one, n, f)
        by_moves since' left f (m ∷ ms) q pays =
            let n : length acts ≡ suc (length ms) = ap length q in
            let p = pays (omega (arith, n)) in
            omega (arith, one, p)

    -- RETI: the handler leaves, and the base goes on
    on_back : fault_of new ≡ None → is_back code.top o' ≡ true → Result
    on_back e back =
        let st = ran_there e in
        let B = btw'.back back in
        let m = common_after e in
        let none_more : effect_of S.K S.pop (with_run S.K S.pop s r') (Plain Leave) ≡ 0 = handler_none (is_some (line_of r'.board)) r'.handler (context_of body o'.done) (one_effect (program S) r' Leave) C.done.handler in
        let legal_end : LegalLoop S.K S.pop (with_run S.K S.pop s r') (Plain Leave) = ((m.going, subst (λ t. IsSomeAnd t (HasEnded (program S))) (sym C.done.handler) (record { turns = B.all.turns; all = B.all.all; ended = B.all.ended })), tt) in
        let cpu_is : j'.cpu ≡ resumed_by a.c a.ram = C.cpu ∙ B.cpu in
        let ease = base_ease a.base j'.cpu a.waits in
        let left = ease.left in
        let eff = ease.effects in
        let zero = no_effects in
        let sum = effects_last S.K S.pop acts own s (Plain Leave) none_more in
        let all = after_last S.K S.pop acts own s (Plain Leave) in
        let later = base_bounds S a.base j'.cpu in
        let place : At S (after_loop S.K S.pop (with_run S.K S.pop s r') (Plain Leave)) j' later = OnBase (record {
          base = a.base;
          is = subst (λ (c : Cpu). IsBase S a.base c j'.bus.ram) (sym cpu_is) is_after;
          context = C.done.base ∙ a.base_context_is;
          gave = a.gave ∙ sym (base_gave a.base a.waits);
          no_handler = refl;
          common = record { code = m.code; board = m.board; store = m.store; words = m.words; bytes = m.bytes; no_task = m.no_task; going = m.going; runs = m.runs };
          bounds = refl;
        }) in
        let pays = cost_last S.K S.pop acts own s (Plain Leave) S.z in
        record {
          moves = plains acts ++ Plain Leave ∷ [];
          next = j';
          stepped = (run_or_idle ops j).stepped;
          later = later;
          exec_is = go;
          legal = legal_last S.K S.pop acts own s (Plain Leave) C.legal legal_end;
          shown = C.shown ∙ ap (λ l. j.bus.ports.shown ++ l) (sym (shown_last S.K S.pop acts own s (Plain Leave) refl));
          single = one_more acts (Plain Leave);
          goes = λ n. subst (λ (t : LoopState). At S t j' later) (sym all) place;
          halts = λ n. absurd (not_so (sym (ap is_stopped st) ∙ n));
          idle = λ n. absurd (not_so (sym (ap is_idle st) ∙ n));
          deep = deep;
          spent = omega (arith, one, left, pays);
          few = λ n. record {
            low = omega (arith, eff, zero, sum);
            counted = omega (arith, zero, sum);
            falls = λ v h. absurd (no_wait v (plains acts ++ Plain Leave ∷ []) h);
          };
          prompt = λ n v h out. absurd (no_wait v (plains acts ++ Plain Leave ∷ []) h);
          no_line = λ v h z. no_wait v (plains acts ++ Plain Leave ∷ []) h;
          marks = let a = marks-append (plains acts) (Plain Leave ∷ []) in let l = marks_low in omega (arith, a, l);
          turns = λ t. let a = turns-append (plains acts) (Plain Leave ∷ []) in absurd (turnless (omega (arith, a, t)));
          soon = λ b n c. absurd (has_handler n);
          settles = λ b n c i. absurd (has_handler n);
          apart = λ p. absurd (p a.not_pop);
        }

    pub handler_awake : cpuoff j.cpu ≡ false
    handler_awake = ap cpuoff a.cpu ∙ btw.awake over_not.0

    handler_result : Result
    handler_result = by_fault (fault_of new) refl
      where
        by_back : (t : Bool) → is_back code.top o' ≡ t → fault_of new ≡ None → Result
        by_back true b e = on_back e b
        by_back false b e = on_code e b

        by_fault : (f : Option ℕ) → fault_of new ≡ f → Result
        by_fault (Some c) e = halted c e
        by_fault None e = by_back (is_back code.top o') refl e

    pub handler_step : Outcome S s j q
    handler_step = subst (Outcome S s j) (sym a.bounds) handler_result
