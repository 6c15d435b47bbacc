-- One instruction of the boot body or of a task, as loop moves.
use Rattle.std.proofs.Common.{◌≡◌, ℕ, suc, ◌+◌, ◌-◌, ◌*◌, ◌<◌, ◌≤◌, ◌==◌, Bool, true, false, ◌&&◌, not, cond, List, [], ◌∷◌, ◌++◌, length, Option, Some, None, refl, sym, ap, subst, ◌∙◌, arith, append_assoc, append-nil}
use Rattle.std.proofs.lemmas.Bool.Decides.{nat_tests}
use Rattle.std.specs.Prelude.{is_some, IsNone, IsSomeAnd}
use Rattle.std.specs.List.{AllByRecursion}
use Rattle.nm_base.specs.Lists.{number_of}
use Rattle.mote_devices.specs.Board.{line_of}
use Rattle.mote_devices.specs.Outside.{Outside}
use Rattle.mote_devices.specs.WordBoards.{IsWordBoard, IsWordGiven}
use Rattle.nm_base.specs.Behaviour.{Performed}
use Rattle.run_meaning.specs.declared.Move.{Move}
use Rattle.run_meaning.specs.declared.Move.TheVariants.{Finish}
use Rattle.run_meaning.specs.State.{State, is_inside}
use Rattle.run_meaning.specs.Runs.{HasEnded, after_all, shown_by}
use Rattle.run_meaning.specs.Steps.{Waits, StaysOutside}
use Rattle.msp430_cpu.specs.declared.cpu.Stepped.TheVariants.{Ran, Stopped}
use Rattle.msp430_cpu.specs.Cpu.{Cpu, gie, cpuoff}
use Rattle.msp430_cpu.specs.Exec.{Joined, exec, run_or_idle, stepped_of}
use Rattle.msp430_cpu.specs.Memory.{Memory}
use Rattle.msp430_cpu.specs.Slots.{counts, is_idle, is_stopped, is_illegal}
use Rattle.preempt_core.specs.Law.{Bounds, is_waiting, waiting_effects}
use Rattle.preempt_core.proofs.Waiting.{waiting-append, waits_line}
use Rattle.open_law.specs.Open.{Done, Moment, IsMoment, Open, Code, IsGated, IsBetween, IsFair, AreMarks, is_within, is_back, is_over, fault_of, silent, went, settled}
use Rattle.open_law.specs.Body.{HasReturned}
use Rattle.preempt_bodies.proofs.Stretches.{outside_back}
use Rattle.preempt_bodies.proofs.WordBoards.{answers_words}
use Rattle.preempt_bodies.proofs.Logged.{moves_of, IsLowCode}
use Rattle.preempt_bodies.proofs.Acting.{TheBase, context_of, HasDone, done_all}
use Rattle.preempt_bodies.proofs.Effects.{marks_answered, marks_count, new_counts, within_all_plain, inside_is}
use Rattle.preempt_bodies.proofs.Carry.{ops, IsCommon, IsJoined, IsCarried, carried, is_moment, sound_marked, now_of, new_of, marks_same, moves-append}
use Rattle.preempt_bodies.proofs.Running.{goes_on, between_at, fair_at, between_after, fault-append, marks_no_fault, not_back}
use Rattle.preempt_bodies.proofs.BodyStep.{body_counted, body_falls, effects_low, counts_one, outside_head, new_empty, empty_all}
use Rattle.preempt_bodies.proofs.Places.{effects_at, no_bounds}
use Rattle.loop_runs.specs.Loop.{LoopState, Plain, IsNotPop, LegalLoop, after_loop}
use Rattle.preempt_tasks.specs.Bodies.{stack_of}
use Rattle.preempt_tasks.specs.Steps.{gap, cost, marks_of, turns_of, effect_of}
use Rattle.preempt_tasks.proofs.Instructions.{loop_cpu}
use Rattle.preempt_tasks.proofs.Plain.{plains, IsOwn, moves_own, cost_some, marks-append, no_turns, marks_few, loop_moves-plains, one_more, with_run, after_plains, legal_plains, shown_plains, prompt_plains, waits_plains, out_plains, after_last, legal_last, shown_last, waits_last, cost_last, prompt_last}
use Rattle.preempt_tasks.proofs.Places.{Setting, Called, start_of, closed_at, Base, InBody, AtLoop, AtBack, IsThere, IsBody, IsBase, program, act_at, base_code, base_low, body_at, base_bounds, base_context, gave_at, has_room, At, OnBase, Outcome}

not_so : false ≡ true → ⊥
not_so h = cc

pub finish_counts : (w i : Bool) → i ≡ false → cond w (cond i (number_of (not false)) 0) 0 ≡ 0
finish_counts true true e = absurd (not_so (sym e))
finish_counts false true e = refl
finish_counts true false e = refl
finish_counts false false e = refl

-- the place that a body goes back to
abbrev pub returns_to : Bool → Base
returns_to boots = cond boots AtLoop AtBack

pub some_moves : {A : Type 0} (l : List A) → (l ≡ [] → ⊥) → 1 ≤ length l
some_moves [] h = absurd (h refl)
some_moves (x ∷ l) h = omega arith

pub not_256 : (c : ℕ) → c < 0x100 → (c == 256) ≡ false
not_256 c l = grind (arith, nat_tests)

pub faulted_none : (c : ℕ) → fault_of [] ≡ Some c → ⊥
faulted_none c q = cc

-- the instructions with the gate closed
closed_some : (x g k : Bool) → g ≡ false → 1 ≤ closed_at x g k
closed_some x true k e = absurd (not_so (sym e))
closed_some true false k e = omega arith
closed_some false false true e = omega arith
closed_some false false false e = omega arith

closed_open : (x g k : Bool) → g ≡ true → closed_at x g k ≡ 0
closed_open x true k e = refl
closed_open x false k e = absurd (not_so e)

closed_one : (x g k : Bool) → closed_at x g k ≡ 1 → k ≡ true
closed_one x true k e = absurd (omega (arith, e))
closed_one true false k e = absurd (omega (arith, e))
closed_one false false true e = refl
closed_one false false false e = absurd (omega (arith, e))

closed_low : (x g k : Bool) → x ≡ false → (k ≡ false → g ≡ true) → closed_at x g k ≤ 1
closed_low x true k e h = omega arith
closed_low true false k e h = absurd (not_so (sym e))
closed_low false false true e h = omega arith
closed_low false false false e h = absurd (not_so (h refl))

module _ (S : Setting) where
  low_end : S.z.data_end ≤ 0x3900
  low_end = let r = has_room S in omega (arith, r)

  -- in the loop where the gate is open, whichever place it is
  pub back_there : (boots : Bool) (c : Cpu) (ram : ℕ → ℕ) → IsThere (cond boots (S.built.reset_at + 10) (S.built.reset_at + (38 + 10 * length S.z.tasks))) true true false c → IsBase S (returns_to boots) c ram
  back_there true c ram h = h
  back_there false c ram h = h

  pub back_context : (boots : Bool) → base_context S (returns_to boots) ≡ None
  back_context true = refl
  back_context false = refl

  pub back_gave : (boots : Bool) → gave_at (returns_to boots) ≡ None
  back_gave true = refl
  back_gave false = refl

  record IsAhead (q : Bounds) : Type 0 where
    left : q.left ≤ 4
    effects : q.effects ≡ 0
    closed : q.closed ≡ 0

  back_bounds : (boots : Bool) (c : Cpu) → IsAhead (base_bounds S (returns_to boots) c)
  back_bounds true c = record { left = omega arith; effects = refl; closed = refl }
  back_bounds false c = record { left = omega arith; effects = refl; closed = refl }

  module _ (x0 : Called) (before since : List Moment) (s : LoopState) (j : Joined (Memory Outside)) (h : IsBody S x0 before since j.cpu j.bus.ram)
      (context : s.run.base ≡ Some (context_of (Some x0.body) (body_at S x0 (before ++ since)).done)) (gave : s.gave ≡ None) (none : s.run.handler ≡ None) (common : IsCommon IsWordBoard S.image S.z.data_end s.run j.bus)
      (go : exec ops j ≡ run_or_idle ops j) (open_none : j.cpu.gate ≡ true → line_of s.run.board ≡ None) where
    abbrev r : State
    r = s.run

    abbrev body : Option ℕ
    body = Some x0.body

    abbrev act : List ℕ → ℕ → Performed
    act = act_at S x0

    abbrev code : Code
    code = base_code S

    abbrev Back : Open → Type 0
    Back = HasReturned act (start_of x0) x0.ram

    abbrev o : Open
    o = body_at S x0 (before ++ since)

    abbrev ds : List Done
    ds = o.done

    btw : IsBetween act code (base_low S) (IsGated code) Back o
    btw = between_at act code (base_low S) S.z.bound (IsGated code) Back (start_of x0) x0.ram h.law before since h.runs

    good_marks : AreMarks (S.marks o.cpu.pc)
    good_marks = btw.marks h.runs.going

    joined : IsJoined (program S) IsWordBoard IsWordGiven answers_words code S.built.even_end low_end TheBase body o h.interrupted r j
    joined = record {
      common = common;
      done = record { base = context; handler = none };
      cpu = h.cpu;
      stack = λ a le lt. h.stack a (subst (λ (c : Cpu). c.sp ≤ a) (sym h.cpu) le) lt;
    }

    abbrev now : Moment
    now = now_of (program S) IsWordBoard IsWordGiven answers_words code S.built.even_end low_end o r j h.interrupted

    now_ok : IsMoment now
    now_ok = is_moment (program S) IsWordBoard IsWordGiven answers_words code S.built.even_end low_end o r j h.interrupted common.bytes (sound_marked (program S) IsWordBoard IsWordGiven answers_words code S.built.even_end low_end r j.bus (S.marks o.cpu.pc) common good_marks.silent)

    abbrev o' : Open
    o' = went code now o

    btw' : IsBetween act code (base_low S) (IsGated code) Back o'
    btw' = between_after act code (base_low S) S.z.bound (IsGated code) Back (start_of x0) x0.ram h.law before since now h.runs now_ok

    abbrev marked : List Done
    marked = silent (S.marks o.cpu.pc)

    abbrev new : List Done
    new = new_of (program S) IsWordBoard IsWordGiven answers_words code S.built.even_end low_end TheBase body o h.interrupted r j joined good_marks

    abbrev acts : List Move
    acts = moves_of (marked ++ new)

    own : AllByRecursion IsOwn acts
    own = moves_own (marked ++ new)

    fair : IsFair code now o
    fair = fair_at act code (base_low S) S.z.bound (IsGated code) Back (start_of x0) x0.ram h.law before since now h.runs now_ok

    C : IsCarried (program S) IsWordBoard IsWordGiven answers_words code S.built.even_end low_end TheBase body o h.interrupted r j joined good_marks
    C = carried (program S) IsWordBoard IsWordGiven answers_words code S.built.even_end low_end TheBase body o h.interrupted r j joined good_marks fair btw'.next

    abbrev r' : State
    r' = after_all (program S) r acts

    abbrev j' : Joined (Memory Outside)
    j' = (run_or_idle ops j).after

    abbrev x : Bool
    x = is_within ds

    abbrev y : Bool
    y = is_within (ds ++ marked)

    abbrev g : Bool
    g = j.cpu.gate

    abbrev k : Bool
    k = gie j.cpu

    abbrev behind : State
    behind = after_all (program S) r (moves_of marked)

    behind_done : HasDone TheBase body (ds ++ marked) behind
    behind_done = done_all (program S) TheBase body ds marked r joined.done (marks_answered (program S) body (S.marks o.cpu.pc) r good_marks.silent)

    W1 : ℕ
    W1 = waiting_effects (program S) r (moves_of marked)

    W2 : ℕ
    W2 = waiting_effects (program S) behind (moves_of new)

    total : waiting_effects (program S) r acts ≡ W1 + W2
    unfolding W1 W2
    total = ap (waiting_effects (program S) r) (moves-append marked new) ∙ waiting-append (program S) r (moves_of marked) (moves_of new)

    first_few : W1 ≤ number_of (x && not y)
    unfolding W1
    first_few = marks_count (program S) body (S.marks o.cpu.pc) ds r joined.done good_marks

    second_few : W2 ≤ number_of (not y)
    unfolding W2
    second_few = (new_counts (program S) body new (ds ++ marked) behind behind_done C.answered C.plain fair.alone).0

    second_none : g ≡ true → W2 ≡ 0
    unfolding W2
    second_none e = (new_counts (program S) body new (ds ++ marked) behind behind_done C.answered C.plain fair.alone).1 (ap line_of (marks_same (program S) r (S.marks o.cpu.pc) good_marks.silent).board ∙ open_none e)

    gie_same : gie o.cpu ≡ k
    gie_same = sym (ap gie h.cpu)

    over_not : (is_back 0x3900 o ≡ false) × (fault_of ds ≡ None)
    over_not = not_back 0x3900 o h.runs.going

    begins : x ≡ false → k ≡ false → y ≡ true
    begins ex ek = ((btw.gate h.runs.going).begins ex (gie_same ∙ ek)).1

    within_after : is_within o'.done ≡ y
    within_after = ap is_within (sym (append_assoc ds marked new)) ∙ within_all_plain (ds ++ marked) new C.plain

    counted : waiting_effects (program S) r acts ≤ effects_at x g k
    counted = let b = body_counted x y g k W1 W2 first_few second_few second_none begins in omega (arith, b, total)

    closed_of : (v : ℕ) (ms : List Move) → Waits (program S) v r ms → g ≡ false
    closed_of v ms waits = by_gate g refl
      where
        by_gate : (t : Bool) → g ≡ t → g ≡ false
        by_gate false e = e
        by_gate true e = absurd (not_so (sym (ap is_some (open_none e)) ∙ waits_line (program S) v r ms waits))

    outside_first : (ms : List Move) → StaysOutside (program S) r ms → x ≡ false
    outside_first ms out = sym (inside_is (program S) body ds r joined.done) ∙ outside_head (program S) r ms out

    outside_then : StaysOutside (program S) r acts → y ≡ false
    outside_then out =
        let e : acts ≡ moves_of marked ++ moves_of new = moves-append marked new in
        sym (inside_is (program S) body (ds ++ marked) behind behind_done) ∙ outside_head (program S) behind (moves_of new) (outside_back (program S) r (moves_of marked) (moves_of new) (subst (StaysOutside (program S) r) e out))

    -- GIE is set where the code stays outside
    set_there : x ≡ false → y ≡ false → k ≡ true
    set_there ex ey = by_gie k refl
      where
        by_gie : (t : Bool) → k ≡ t → k ≡ true
        by_gie true e = e
        by_gie false e = absurd (not_so (sym ey ∙ begins ex e))

    deep : 0x3900 ≤ j'.cpu.sp + stack_of S.z
    deep = let l = btw'.low in let e : j'.cpu.sp ≡ o'.cpu.sp = ap (λ (c : Cpu). c.sp) C.cpu in omega (arith, l, e)

    abbrev before_bounds : Bounds
    before_bounds = base_bounds S (InBody x0 before since) j.cpu

    one : counts (run_or_idle ops j).stepped ≤ 1
    one = counts_one (run_or_idle ops j).stepped

    abbrev Result : Type 0
    Result = Outcome S s j before_bounds

    shown_all : j'.bus.ports.shown ≡ j.bus.ports.shown ++ shown_by (program S) r acts
    shown_all = C.shown

    -- the bound's gate number
    shut_number : g ≡ false → 1 ≤ closed_at x g k
    shut_number c = closed_some x g k c

    never : (v : ℕ) (ms : List Move) → Waits (program S) v r ms → closed_at x g k ≡ 0 → ⊥
    never v ms w z = let b = shut_number (closed_of v ms w) in absurd (omega (arith, b, z))

    own_base : IsNotPop S.K S.pop r.base
    own_base = subst (IsNotPop S.K S.pop) (sym context) h.not_pop

    marks_low : marks_of (plains acts) ≤ 1
    marks_low = marks_few (S.marks o.cpu.pc) new good_marks C.plain

    turnless : 1 ≤ turns_of (plains acts) → ⊥
    turnless t = let n = no_turns (marked ++ new) in absurd (omega (arith, t, n))

    awake_after : cpuoff o'.cpu ≡ false
    awake_after = by_back (is_back 0x3900 o') refl
      where
        by_back : (t : Bool) → is_back 0x3900 o' ≡ t → cpuoff o'.cpu ≡ false
        by_back true e = (btw'.back e).awake
        by_back false e = btw'.awake e

    -- a fault
    halted : (c : ℕ) → fault_of new ≡ Some c → Result
    halted c e =
        let st : (run_or_idle ops j).stepped ≡ Stopped c = C.stepped ∙ ap (stepped_of ops) e in
        let low : c < 0x100 = subst IsLowCode e C.low in
        let some : acts ≡ [] → ⊥ = λ q. faulted_none c (subst (λ l. fault_of l ≡ Some c) (new_empty marked new q) e) in
        let pays = cost_some S.z (marked ++ new) (some_moves acts some) in
        record {
          moves = plains acts;
          next = j';
          stepped = (run_or_idle ops j).stepped;
          later = no_bounds;
          exec_is = go;
          legal = legal_plains S.K S.pop acts own s C.legal;
          shown = C.shown ∙ ap (λ l. j.bus.ports.shown ++ l) (sym (shown_plains S.K S.pop acts own s));
          single = let n = loop_moves-plains acts in omega (arith, n);
          goes = λ n. absurd (not_so (sym n ∙ ap is_stopped st));
          halts = λ n. (ap is_illegal st ∙ not_256 c low, ap cpuoff C.cpu ∙ awake_after, refl);
          idle = λ n. absurd (not_so (sym (ap is_idle st) ∙ n));
          deep = deep;
          spent = omega (arith, one, pays);
          few = λ n. prompt_plains S.K S.pop acts own s (effects_at x g k) 0 (record {
            low = let b = counted in let l = effects_low x g k in omega (arith, b, l);
            counted = counted;
            falls = λ v w. let b = counted in omega (arith, b);
          });
          prompt = λ n v w out. let c' = closed_of v acts (waits_plains S.K S.pop v acts own s w) in let b = shut_number c' in omega (arith, one, b);
          no_line = λ v w z. never v acts (waits_plains S.K S.pop v acts own s w) z;
          marks = marks_low;
          turns = λ t. refl;
          soon = λ b n c. refl;
          settles = λ b n c i. omega arith;
          apart = λ p. absurd (p own_base);
        }

    -- what is common afterwards, where no fault was raised
    common_after : fault_of new ≡ None → IsCommon IsWordBoard S.image S.z.data_end r' j'.bus
    common_after e = record {
      code = C.code_kept;
      board = C.board;
      store = C.store;
      words = C.words;
      bytes = C.bytes;
      no_task = C.no_task;
      going = C.halted ∙ ap is_some e;
      runs = C.stopped ∙ e;
    }

    ran_there : fault_of new ≡ None → (run_or_idle ops j).stepped ≡ Ran
    ran_there e = C.stepped ∙ ap (stepped_of ops) e

    -- the body goes on
    on_body : fault_of new ≡ None → is_back 0x3900 o' ≡ false → Result
    on_body e back =
        let st = ran_there e in
        let no_fault : fault_of o'.done ≡ None = fault-append ds (marked ++ new) over_not.1 ∙ fault-append marked new (marks_no_fault (S.marks o.cpu.pc) good_marks.silent) ∙ e in
        let on : is_over 0x3900 o' ≡ false = ap (λ t. cond t true (is_some (fault_of o'.done))) back ∙ ap is_some no_fault in
        let G = goes_on act code (base_low S) S.z.bound (IsGated code) Back (start_of x0) x0.ram h.law before since now S.built.some h.runs now_ok on in
        let gate_after : IsGated code o' = btw'.gate on in
        let q2 : body_at S x0 (G.before' ++ G.since') ≡ o' = G.same in
        let gate_is : o'.cpu.gate ≡ k = fair.gate back ∙ gie_same in
        let shut_after : y ≡ true → o'.cpu.gate ≡ false = λ ey. gate_after.shut (within_after ∙ ey) in
        let opens_after : y ≡ false → gie o'.cpu ≡ false → o'.cpu.gate ≡ true = λ ey ek. (gate_after.begins (within_after ∙ ey) ek).0 in
        let effects_same : effects_at (is_within (body_at S x0 (G.before' ++ G.since')).done) j'.cpu.gate (gie j'.cpu) ≡ effects_at y o'.cpu.gate (gie o'.cpu) =
        ap (λ (q : Open). effects_at (is_within q.done) j'.cpu.gate (gie j'.cpu)) q2 ∙ ap (λ t. effects_at t j'.cpu.gate (gie j'.cpu)) within_after ∙ ap (λ (c : Cpu). effects_at y c.gate (gie c)) C.cpu in
        let closed_same : closed_at (is_within (body_at S x0 (G.before' ++ G.since')).done) j'.cpu.gate (gie j'.cpu) ≡ closed_at y o'.cpu.gate (gie o'.cpu) =
        ap (λ (q : Open). closed_at (is_within q.done) j'.cpu.gate (gie j'.cpu)) q2 ∙ ap (λ t. closed_at t j'.cpu.gate (gie j'.cpu)) within_after ∙ ap (λ (c : Cpu). closed_at y c.gate (gie c)) C.cpu in
        let later_is = after_plains S.K S.pop acts own s in
        let place : At S (with_run S.K S.pop s r') j' (base_bounds S (InBody x0 G.before' G.since') j'.cpu) = OnBase (record {
          base = InBody x0 G.before' G.since';
          is = record {
            law = h.law;
            runs = G.runs;
            interrupted = false;
            cpu = C.cpu ∙ ap (λ (q : Open). settled false q.cpu) (sym q2);
            stack = λ a le lt. ap (λ (f : ℕ → ℕ). f a) C.ram ∙ ap (λ (q : Open). q.ram a) (sym q2);
            goes_back = h.goes_back;
            opened = h.opened;
            gie_there = h.gie_there;
            not_pop = h.not_pop;
          };
          context = C.done.base ∙ ap (λ (q : Open). Some (context_of body q.done)) (sym q2);
          gave = gave;
          no_handler = C.done.handler;
          common = common_after e;
          bounds = refl;
        }) in
        record {
          moves = plains acts;
          next = j';
          stepped = (run_or_idle ops j).stepped;
          later = base_bounds S (InBody x0 G.before' G.since') j'.cpu;
          exec_is = go;
          legal = legal_plains S.K S.pop acts own s C.legal;
          shown = C.shown ∙ ap (λ l. j.bus.ports.shown ++ l) (sym (shown_plains S.K S.pop acts own s));
          single = let n = loop_moves-plains acts in omega (arith, n);
          goes = λ n. subst (λ (t : LoopState). At S t j' (base_bounds S (InBody x0 G.before' G.since') j'.cpu)) (sym later_is) place;
          halts = λ n. absurd (not_so (sym (ap is_stopped st) ∙ n));
          idle = λ n. absurd (not_so (sym (ap is_idle st) ∙ n));
          deep = deep;
          spent = by_moves G.since' G.left h.runs.few acts refl (cost_some S.z (marked ++ new));
          few = λ n. prompt_plains S.K S.pop acts own s (effects_at x g k) (effects_at (is_within (body_at S x0 (G.before' ++ G.since')).done) j'.cpu.gate (gie j'.cpu)) (record {
            low = let b = counted in let l = effects_low x g k in let l' = effects_low y o'.cpu.gate (gie o'.cpu) in omega (arith, b, l, l', effects_same);
            counted = counted;
            falls = λ v w.
                let c = closed_of v acts w in
                let f = body_falls x y k o'.cpu.gate (gie o'.cpu) W1 W2 first_few second_few begins gate_is shut_after opens_after in
                let e0 : effects_at x g k ≡ effects_at x false k = ap (λ t. effects_at x t k) c in
                omega (arith, f, total, effects_same, e0);
          });
          prompt = λ n v w out.
              let w' = waits_plains S.K S.pop v acts own s w in
              let out' = out_plains S.K S.pop acts own s out in
              let b = shut_number (closed_of v acts w') in
              let ex = outside_first acts out' in
              let ey = outside_then out' in
              let open_now : o'.cpu.gate ≡ true = gate_is ∙ set_there ex ey in
              let b' = closed_open y o'.cpu.gate (gie o'.cpu) open_now in
              omega (arith, one, b, b', closed_same);
          no_line = λ v w z. never v acts (waits_plains S.K S.pop v acts own s w) z;
          marks = marks_low;
          turns = λ t. absurd (turnless t);
          soon = λ b n c.
              let k_set = closed_one x g k c in
              let gate_set : o'.cpu.gate ≡ true = gate_is ∙ k_set in
              closed_same ∙ closed_open y o'.cpu.gate (gie o'.cpu) gate_set;
          settles = λ b n c i.
              let ey : y ≡ false = sym within_after ∙ sym (inside_is (program S) body o'.done r' C.done) ∙ sym (ap (λ (t : LoopState). is_inside t.run.base) later_is) ∙ i in
              let low = closed_low y o'.cpu.gate (gie o'.cpu) ey (opens_after ey) in
              omega (arith, low, closed_same);
          apart = λ p. absurd (p own_base);
        }
      where
        by_moves : (since' : List Moment) → (length o'.done ≡ length ds → length since' ≡ suc (length since)) → length since < S.z.bound → (ms : List Move) → acts ≡ ms → (1 ≤ length acts → gap S.z ≤ cost S.z (plains acts)) →
            counts (run_or_idle ops j).stepped + (S.z.bound - length since') ≤ (S.z.bound - length since) + cost S.z (plains acts)
        by_moves since' left f [] q pays =
            let none_done : marked ++ new ≡ [] = empty_all (marked ++ new) q in
            let same_length : length o'.done ≡ length ds = ap (λ l. length (ds ++ l)) none_done ∙ ap length (append-nil ds) in
            let n = left same_length in
            omega (arith, one, n, f)
        by_moves since' left f (m ∷ ms) q pays =
            let n : length acts ≡ suc (length ms) = ap length q in
            let p = pays (omega (arith, n)) in
            omega (arith, one, p)

    -- it is back, and the run finishes the body
    on_back : fault_of new ≡ None → is_back 0x3900 o' ≡ true → Result
    on_back e back =
        let st = ran_there e in
        let B = btw'.back back in
        let m = common_after e in
        let b0 = returns_to x0.boots in
        let outside : is_inside r'.base ≡ false = ap is_inside C.done.base ∙ B.outside in
        let none_more : effect_of S.K S.pop (with_run S.K S.pop s r') (Plain Finish) ≡ 0 = finish_counts (is_waiting r') (is_inside r'.base) outside in
        let apart : IsNotPop S.K S.pop r'.base = subst (IsNotPop S.K S.pop) (sym C.done.base) h.not_pop in
        let legal_end : LegalLoop S.K S.pop (with_run S.K S.pop s r') (Plain Finish) = ((m.going, (subst IsNone (sym C.done.handler) refl, subst (λ t. IsSomeAnd t (HasEnded (program S))) (sym C.done.base) (record { turns = B.all.turns; all = B.all.all; ended = B.all.ended }))), apart) in
        let w = btw'.words in
        let sp : o'.cpu.sp ≡ 0x3900 = B.sp in
        let pc : o'.cpu.pc ≡ cond x0.boots (S.built.reset_at + 10) (S.built.reset_at + (38 + 10 * length S.z.tasks)) = B.pc ∙ h.goes_back in
        let gate : o'.cpu.gate ≡ true = B.gate ∙ h.opened in
        let is_there : IsThere (cond x0.boots (S.built.reset_at + 10) (S.built.reset_at + (38 + 10 * length S.z.tasks))) true true false j'.cpu = record {
          sr = o'.cpu.sr;
          others = o'.cpu.others;
          cpu = C.cpu
              ∙ ap (λ p. record { pc = p; sp = o'.cpu.sp; sr = o'.cpu.sr; others = o'.cpu.others; gate = o'.cpu.gate }) pc
              ∙ ap (λ p. record { pc = cond x0.boots (S.built.reset_at + 10) (S.built.reset_at + (38 + 10 * length S.z.tasks)); sp = p; sr = o'.cpu.sr; others = o'.cpu.others; gate = o'.cpu.gate }) sp
              ∙ ap (λ t. loop_cpu (cond x0.boots (S.built.reset_at + 10) (S.built.reset_at + (38 + 10 * length S.z.tasks))) o'.cpu.sr o'.cpu.others t) gate;
          small = w.sr;
          twelve = w.twelve;
          regs = w.others;
          gie_is = B.gie ∙ h.gie_there;
          off_is = B.awake;
        } in
        let q = back_bounds x0.boots j'.cpu in
        let left = q.left in
        let effects = q.effects in
        let closed = q.closed in
        let all = after_last S.K S.pop acts own s (Plain Finish) in
        let place : At S (after_loop S.K S.pop (with_run S.K S.pop s r') (Plain Finish)) j' (base_bounds S b0 j'.cpu) = OnBase (record {
          base = b0;
          is = back_there x0.boots j'.cpu j'.bus.ram is_there;
          context = sym (back_context x0.boots);
          gave = gave ∙ sym (back_gave x0.boots);
          no_handler = C.done.handler;
          common = record { code = m.code; board = m.board; store = m.store; words = m.words; bytes = m.bytes; no_task = m.no_task; going = m.going; runs = m.runs };
          bounds = refl;
        }) in
        let pays = cost_last S.K S.pop acts own s (Plain Finish) S.z in
        record {
          moves = plains acts ++ Plain Finish ∷ [];
          next = j';
          stepped = (run_or_idle ops j).stepped;
          later = base_bounds S b0 j'.cpu;
          exec_is = go;
          legal = legal_last S.K S.pop acts own s (Plain Finish) C.legal legal_end;
          shown = C.shown ∙ ap (λ l. j.bus.ports.shown ++ l) (sym (shown_last S.K S.pop acts own s (Plain Finish) refl));
          single = one_more acts (Plain Finish);
          goes = λ n. subst (λ (t : LoopState). At S t j' (base_bounds S b0 j'.cpu)) (sym all) place;
          halts = λ n. absurd (not_so (sym (ap is_stopped st) ∙ n));
          idle = λ n. absurd (not_so (sym (ap is_idle st) ∙ n));
          deep = deep;
          spent = omega (arith, one, left, pays);
          few = λ n. let p = prompt_last S.K S.pop acts own s (Plain Finish) (effects_at x g k) none_more counted (let l = effects_low x g k in omega (arith, l)) in
              let a = p.low in let b = p.counted in record { low = omega (arith, a, effects); counted = b; falls = λ v w'. let f = p.falls v w' in omega (arith, f, effects) };
          prompt = λ n v w' out.
              let b = shut_number (closed_of v acts (waits_last S.K S.pop acts own s (Plain Finish) v w')) in
              omega (arith, one, b, closed);
          no_line = λ v w' z. never v acts (waits_last S.K S.pop acts own s (Plain Finish) v w') z;
          marks = let a = marks-append (plains acts) (Plain Finish ∷ []) in let l = marks_low in omega (arith, a, l);
          turns = λ t. closed;
          soon = λ b n c. closed;
          settles = λ b n c i. omega (arith, closed);
          apart = λ p. absurd (p own_base);
        }

    pub body_step : Result
    body_step = by_fault (fault_of new) refl
      where
        by_back : (t : Bool) → is_back 0x3900 o' ≡ t → fault_of new ≡ None → Result
        by_back true b e = on_back e b
        by_back false b e = on_body e b

        by_fault : (f : Option ℕ) → fault_of new ≡ f → Result
        by_fault (Some c) e = halted c e
        by_fault None e = by_back (is_back 0x3900 o') refl e
