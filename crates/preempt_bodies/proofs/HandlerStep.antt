-- One instruction of a handler's code, as moves.
use Rattle.std.proofs.Common.{◌≡◌, ℕ, ◌+◌, ◌-◌, ◌<◌, ◌≤◌, ◌==◌, Bool, true, false, ◌&&◌, cond, List, [], ◌∷◌, ◌++◌, length, Option, Some, None, refl, sym, ap, subst, ◌∙◌, arith, append-nil}
use Rattle.std.proofs.lemmas.Bool.Decides.{nat_tests}
use Rattle.std.specs.Prelude.{is_some, is_none, IsNone, IsSomeAnd}
use Rattle.nm_base.specs.declared.action.Action.{Action}
use Rattle.mote_devices.specs.declared.state.BoardState.{BoardState}
use Rattle.mote_devices.specs.declared.shown.Given.{Given}
use Rattle.mote_devices.specs.Board.{line_of}
use Rattle.mote_devices.specs.Outside.{Outside}
use Rattle.core_meaning.specs.Source.{Source, act_of}
use Rattle.nm_base.specs.Behaviour.{Performed}
use Rattle.run_meaning.specs.declared.Move.{Move}
use Rattle.run_meaning.specs.declared.Move.TheVariants.{Do, Leave}
use Rattle.run_meaning.specs.State.{State, Context}
use Rattle.run_meaning.specs.Runs.{AreLegal, HasEnded, after, after_all, shown_by}
use Rattle.run_meaning.specs.Steps.{Waits}
use Rattle.msp430_cpu.specs.declared.cpu.Stepped.TheVariants.{Ran, Stopped}
use Rattle.msp430_cpu.specs.Cpu.{Cpu, gie, cpuoff, is_open}
use Rattle.msp430_cpu.specs.Exec.{Joined, exec, run_or_idle, stepped_of}
use Rattle.msp430_cpu.specs.Memory.{Memory}
use Rattle.msp430_cpu.specs.Slots.{counts, is_idle, is_stopped, is_illegal}
use Rattle.preempt_core.specs.Law.{Bounds, one_effect, waiting_effects}
use Rattle.preempt_core.proofs.Instruction.{stays_closed}
use Rattle.preempt_core.proofs.Follow.{after_all-append, shown_by-append, legal-append}
use Rattle.preempt_core.proofs.Waiting.{waiting-append}
use Rattle.open_law.specs.Open.{AreMarks, Done, Moment, IsMoment, Open, Code, IsShut, IsBetween, IsFair, is_data, is_back, is_over, fault_of, silent, went, is_within}
use Rattle.preempt_bodies.specs.Boards.{AnswersWords}
use Rattle.open_law.specs.Body.{code_below}
use Rattle.preempt_bodies.specs.Bodies.{Sizes, HasResumed, resumed_by, stack_of}
use Rattle.preempt_bodies.proofs.Words.{IsSpelled}
use Rattle.preempt_bodies.proofs.Logged.{moves_of, IsLowCode, AreAnswered, data_high}
use Rattle.preempt_bodies.proofs.Acting.{Actor, AHandler, context_of, HasDone, done_one}
use Rattle.preempt_bodies.proofs.Effects.{marks_answered}
use Rattle.preempt_bodies.proofs.Carry.{ops, IsCommon, IsJoined, IsCarried, carried, is_moment, sound_marked, now_of, new_of, answered-append}
use Rattle.preempt_bodies.proofs.Running.{goes_on, between_at, fair_at, between_after, fault-append, marks_no_fault, not_back}
use Rattle.preempt_bodies.proofs.BodyStep.{counts_one, new_empty, empty_all, not_empty, effects_low}
use Rattle.preempt_bodies.proofs.Places.{Base, Starting, Opening, Calling, InBody, AtLoop, Asleep, AtJump, IsBase, IsSuspended, base_bounds, boot_at, boot_law, handler_at, AtHandler, At, OnBase, OnHandler, Outcome, no_bounds}

not_so : false ≡ true → ⊥
not_so h = cc

-- a handler's moves are no base effects
handler_none : (w : Bool) (o : Option Context) (c : Context) (n : ℕ) → o ≡ Some c → cond (w && is_none o) n 0 ≡ 0
handler_none w o c n e = ap (λ t. cond (w && is_none t) n 0) e ∙ by_test w
  where
    by_test : (t : Bool) → cond (t && false) n 0 ≡ 0
    by_test true = refl
    by_test false = refl

pub handler_counts : (P : Source) (base : Option Context) (body : Option ℕ) (ds new : List Done) (r : State) → HasDone (AHandler base) body ds r → AreAnswered P r new → waiting_effects P r (moves_of new) ≡ 0
handler_counts P base body ds [] r h a = refl
handler_counts P base body ds (d ∷ new) r h a =
    let rest = handler_counts P base body (ds ++ d ∷ []) new (after P r (Do d.action)) (done_one P (AHandler base) body ds d r h a.0) a.1 in
    let one = handler_none (is_some (line_of r.board)) r.handler (context_of body ds) (one_effect P r (Do d.action)) h.handler in
    omega (arith, rest, one)

some_not_none : (o : Option Context) (c : Context) → o ≡ Some c → IsNone o → ⊥
some_not_none o c e n = not_so (let k : IsNone (Some c) = subst IsNone e n in cc)

pub waits_none : (P : Source) (v : ℕ) (r : State) (ms : List Move) → Waits P v r ms → IsNone r.handler
waits_none P v r [] h = h.1
waits_none P v r (m ∷ ms) h = h.1

module _ (P : Source) (image : ℕ → ℕ) (marks : ℕ → List Action) (z : Sizes) (built : IsSpelled P image marks z) (Sound : BoardState → Type 0) (IsWord : Given → Type 0) (sound : AnswersWords Sound IsWord) (pace : ℕ) (wide : z.bound + 3 ≤ pace) where
  low_end : z.data_end ≤ 0x3900
  low_end = let r = built.room in omega (arith, r)

  -- a base that was interrupted keeps its place while the stack from its SP on is kept
  pub base_kept : (base : Base) (c : Cpu) (ram ram' : ℕ → ℕ) → IsSuspended base → IsBase P image marks z built Sound IsWord sound pace wide base c ram → ((a : ℕ) → c.sp ≤ a → a < 0x3900 → ram' a ≡ ram a) → IsBase P image marks z built Sound IsWord sound pace wide base c ram'
  base_kept Starting c ram ram' s h kept = absurd s
  base_kept Opening c ram ram' s h kept = absurd s
  base_kept Calling c ram ram' s h kept = absurd s
  base_kept (InBody before since) c ram ram' s h kept = record { interrupted = h.interrupted; runs = h.runs; cpu = h.cpu; stack = λ a le lt. kept a le lt ∙ h.stack a le lt }
  base_kept AtLoop c ram ram' s h kept = h
  base_kept Asleep c ram ram' s h kept = absurd s
  base_kept AtJump c ram ram' s h kept = h

  -- it is awake
  pub base_awake : (base : Base) (c : Cpu) (ram : ℕ → ℕ) → IsSuspended base → IsBase P image marks z built Sound IsWord sound pace wide base c ram → cpuoff c ≡ false
  base_awake Starting c ram s h = absurd s
  base_awake Opening c ram s h = absurd s
  base_awake Calling c ram s h = absurd s
  base_awake (InBody before since) c ram s h =
      ap cpuoff h.cpu ∙ (between_at _ _ _ z.bound _ _ _ _ (boot_law P image marks z built Sound IsWord sound pace wide) before since h.runs).awake (not_back 0x3900 (boot_at P image marks z built Sound IsWord sound pace wide (before ++ since)) h.runs.going).0
  base_awake AtLoop c ram s h = h.off
  base_awake Asleep c ram s h = absurd s
  base_awake AtJump c ram s h = h.loop.off

  -- what it may still run and do fits the pace
  pub base_left : (base : Base) (c : Cpu) → IsSuspended base → (base_bounds P image marks z built Sound IsWord sound pace wide base c).left + 1 ≤ pace
  base_left Starting c s = absurd s
  base_left Opening c s = absurd s
  base_left Calling c s = absurd s
  base_left (InBody before since) c s = omega (arith, wide)
  base_left AtLoop c s = omega (arith, wide)
  base_left Asleep c s = absurd s
  base_left AtJump c s = omega (arith, wide)

  pub base_effects_low : (base : Base) (c : Cpu) → IsSuspended base → (base_bounds P image marks z built Sound IsWord sound pace wide base c).effects ≤ 7
  base_effects_low Starting c s = absurd s
  base_effects_low Opening c s = absurd s
  base_effects_low Calling c s = absurd s
  base_effects_low (InBody before since) c s = let e = effects_low (is_within (boot_at P image marks z built Sound IsWord sound pace wide (before ++ since)).done) c.gate (gie c) in omega (arith, e)
  base_effects_low AtLoop c s = omega arith
  base_effects_low Asleep c s = absurd s
  base_effects_low AtJump c s = omega arith

  module _ (r : State) (j : Joined (Memory Outside)) (q : Bounds) (a : AtHandler P image marks z built Sound IsWord sound pace wide r j q) where
    abbrev body : Option ℕ
    body = P.handler a.v

    abbrev act : List ℕ → ℕ → Performed
    act = act_of P body

    abbrev code : Code
    code = code_below image z.data_end marks (a.c.sp + 4)

    abbrev low : ℕ
    low = a.c.sp - z.handler_depth

    abbrev Back : Open → Type 0
    Back = HasResumed act a.c a.ram

    abbrev o : Open
    o = handler_at P image marks z built Sound IsWord sound pace wide a.c a.ram (a.before ++ a.since)

    abbrev ds : List Done
    ds = o.done

    abbrev w : Actor
    w = AHandler r.base

    btw : IsBetween act code low IsShut Back o
    btw = between_at act code low z.bound IsShut Back a.c a.ram a.law a.before a.since a.runs

    good_marks : AreMarks (marks o.cpu.pc)
    good_marks = btw.marks a.runs.going

    joined : IsJoined P Sound IsWord sound code built.even_end low_end w body o false r j
    joined = record {
      common = a.common;
      done = record { base = refl; handler = a.handler };
      cpu = a.cpu;
      stack = λ x le lt. a.stack x (subst (λ (c : Cpu). c.sp ≤ x) (sym a.cpu) le) lt;
    }

    abbrev now : Moment
    now = now_of P Sound IsWord sound code built.even_end low_end o r j false

    now_ok : IsMoment now
    now_ok = is_moment P Sound IsWord sound code built.even_end low_end o r j false a.common.bytes (sound_marked P Sound IsWord sound code built.even_end low_end r j.bus (marks o.cpu.pc) a.common good_marks.silent)

    abbrev o' : Open
    o' = went code now o

    btw' : IsBetween act code low IsShut Back o'
    btw' = between_after act code low z.bound IsShut Back a.c a.ram a.law a.before a.since now a.runs now_ok

    abbrev marked : List Done
    marked = silent (marks o.cpu.pc)

    abbrev new : List Done
    new = new_of P Sound IsWord sound code built.even_end low_end w body o false r j joined good_marks

    abbrev acts : List Move
    acts = moves_of (marked ++ new)

    fair : IsFair code now o
    fair = fair_at act code low z.bound IsShut Back a.c a.ram a.law a.before a.since now a.runs now_ok

    C : IsCarried P Sound IsWord sound code built.even_end low_end w body o false r j joined good_marks
    C = carried P Sound IsWord sound code built.even_end low_end w body o false r j joined good_marks fair btw'.next

    abbrev r' : State
    r' = after_all P r acts

    abbrev j' : Joined (Memory Outside)
    j' = (run_or_idle ops j).after

    over_not : (is_back code.top o ≡ false) × (fault_of ds ≡ None)
    over_not = not_back code.top o a.runs.going

    -- the gate is closed
    go : exec ops j ≡ record { after = j'; stepped = (run_or_idle ops j).stepped }
    go = stays_closed ops j (ap is_open a.cpu ∙ ap (λ t. cond t (gie o.cpu) o.cpu.gate) (btw.awake over_not.0) ∙ (btw.gate a.runs.going).gate)

    answers : AreAnswered P r (marked ++ new)
    answers = answered-append P r marked new (marks_answered P body (marks o.cpu.pc) r good_marks.silent) C.answered

    no_effects : waiting_effects P r acts ≡ 0
    no_effects = handler_counts P r.base body ds (marked ++ new) r joined.done answers

    no_wait : (v : ℕ) (ms : List Move) → Waits P v r ms → ⊥
    no_wait v ms h = some_not_none r.handler (context_of body ds) a.handler (waits_none P v r ms h)

    deep : 0x3900 ≤ j'.cpu.sp + stack_of z
    deep = let l = btw'.low in let d = a.deep in let e : j'.cpu.sp ≡ o'.cpu.sp = ap (λ (c : Cpu). c.sp) C.cpu in omega (arith, l, d, e)

    one : counts (run_or_idle ops j).stepped ≤ 1
    one = counts_one (run_or_idle ops j).stepped

    -- the base's stack is as it was
    stack_kept : (x : ℕ) → a.c.sp + 4 ≤ x → x < 0x3900 → j'.bus.ram x ≡ j.bus.ram x
    stack_kept x le lt = ap (λ (f : ℕ → ℕ). f x) C.ram ∙ fair.leaves x le (above x le)
      where
        above : (x : ℕ) → a.c.sp + 4 ≤ x → is_data z.data_end x ≡ false
        above x le = let b = a.base_room in by_test (is_data z.data_end x) refl
          where
            by_test : (t : Bool) → is_data z.data_end x ≡ t → t ≡ false
            by_test false e = refl
            by_test true e = let k = data_high z.data_end built.even_end low_end x e in let b = a.base_room in absurd (omega (arith, k, b, le))

    is_after : IsBase P image marks z built Sound IsWord sound pace wide a.base (resumed_by a.c a.ram) j'.bus.ram
    is_after = base_kept a.base (resumed_by a.c a.ram) j.bus.ram j'.bus.ram a.waits a.is stack_kept

    awake_after : cpuoff o'.cpu ≡ false
    awake_after = by_back (is_back code.top o') refl
      where
        by_back : (t : Bool) → is_back code.top o' ≡ t → cpuoff o'.cpu ≡ false
        by_back true e = ap cpuoff (btw'.back e).cpu ∙ base_awake a.base (resumed_by a.c a.ram) j.bus.ram a.waits a.is
        by_back false e = btw'.awake e

    abbrev before_bounds : Bounds
    before_bounds = record { left = z.bound - length a.since; effects = 0; closed = 0 }

    abbrev Result : Type 0
    Result = Outcome P image marks z built Sound IsWord sound pace wide r j before_bounds

    -- a fault
    halted : (c : ℕ) → fault_of new ≡ Some c → Result
    halted c e =
        let st : (run_or_idle ops j).stepped ≡ Stopped c = C.stepped ∙ ap (stepped_of ops) e in
        let low_code : c < 0x100 = subst IsLowCode e C.low in
        let some : acts ≡ [] → ⊥ = λ q. faulted_none (subst (λ l. fault_of l ≡ Some c) (new_empty marked new q) e) in
        record {
          acts = acts;
          next = j';
          stepped = (run_or_idle ops j).stepped;
          later = no_bounds;
          exec_is = go;
          legal = C.legal;
          shown = C.shown;
          goes = λ n. absurd (not_so (sym n ∙ ap is_stopped st));
          halts = λ n. (ap is_illegal st ∙ not_256 c low_code, ap cpuoff C.cpu ∙ awake_after, refl);
          idle = λ n. absurd (not_so (sym (ap is_idle st) ∙ n));
          deep = deep;
          quiet = λ q. absurd (some q);
          paid = λ q. omega (arith, one, wide);
          few = record {
            low = let b = no_effects in omega (arith, b);
            counted = let b = no_effects in omega (arith, b);
            falls = λ v h. absurd (no_wait v acts h);
          };
          prompt = λ v h s. absurd (no_wait v acts h);
        }
      where
        faulted_none : fault_of [] ≡ Some c → ⊥
        faulted_none q = cc

        not_256 : (n : ℕ) → n < 0x100 → (n == 256) ≡ false
        not_256 n l = grind (arith, nat_tests)

    common_after : fault_of new ≡ None → IsCommon Sound image z.data_end r' j'.bus
    common_after e = record {
      code = C.code_kept;
      board = C.board;
      store = C.store;
      words = C.words;
      bytes = C.bytes;
      no_task = C.no_task;
      going = C.halted ∙ ap is_some e;
      runs = C.stopped ∙ e;
    }

    ran_there : fault_of new ≡ None → (run_or_idle ops j).stepped ≡ Ran
    ran_there e = C.stepped ∙ ap (stepped_of ops) e

    -- the handler's code goes on
    on_code : fault_of new ≡ None → is_back code.top o' ≡ false → Result
    on_code e back =
        let st = ran_there e in
        let no_fault : fault_of o'.done ≡ None = fault-append ds (marked ++ new) over_not.1 ∙ fault-append marked new (marks_no_fault (marks o.cpu.pc) good_marks.silent) ∙ e in
        let on : is_over code.top o' ≡ false = ap (λ t. cond t true (is_some (fault_of o'.done))) back ∙ ap is_some no_fault in
        let G = goes_on act code low z.bound IsShut Back a.c a.ram a.law a.before a.since now built.some a.runs now_ok on in
        record {
          acts = acts;
          next = j';
          stepped = (run_or_idle ops j).stepped;
          later = record { left = z.bound - length G.since'; effects = 0; closed = 0 };
          exec_is = go;
          legal = C.legal;
          shown = C.shown;
          goes = λ n. OnHandler (record {
            v = a.v;
            c = a.c;
            ram = a.ram;
            before = G.before';
            since = G.since';
            law = a.law;
            runs = G.runs;
            cpu = C.cpu ∙ ap (λ (q : Open). q.cpu) (sym G.same);
            stack = λ x le lt. ap (λ (f : ℕ → ℕ). f x) C.ram ∙ ap (λ (q : Open). q.ram x) (sym G.same);
            base = a.base;
            waits = a.waits;
            is = is_after;
            base_room = a.base_room;
            deep = a.deep;
            base_context_is = C.done.base ∙ a.base_context_is;
            handler = C.done.handler ∙ ap (λ (q : Open). Some (context_of body q.done)) (sym G.same);
            common = common_after e;
            bounds = refl;
          });
          halts = λ n. absurd (not_so (sym (ap is_stopped st) ∙ n));
          idle = λ n. absurd (not_so (sym (ap is_idle st) ∙ n));
          deep = deep;
          quiet = λ q.
              let none_done : marked ++ new ≡ [] = empty_all (marked ++ new) q in
              let same_length : length o'.done ≡ length ds = ap (λ l. length (ds ++ l)) none_done ∙ ap length (append-nil ds) in
              let n = G.left same_length in
              let f = a.runs.few in
              omega (arith, one, n, f);
          paid = λ q. omega (arith, one, wide);
          few = record {
            low = let b = no_effects in omega (arith, b);
            counted = let b = no_effects in omega (arith, b);
            falls = λ v h. absurd (no_wait v acts h);
          };
          prompt = λ v h s. absurd (no_wait v acts h);
        }

    -- RETI: the handler leaves, and the base goes on
    on_back : fault_of new ≡ None → is_back code.top o' ≡ true → Result
    on_back e back =
        let st = ran_there e in
        let B = btw'.back back in
        let m = common_after e in
        let all : after_all P r (acts ++ Leave ∷ []) ≡ after P r' Leave = after_all-append P r acts (Leave ∷ []) in
        let sum : waiting_effects P r (acts ++ Leave ∷ []) ≡ waiting_effects P r acts + waiting_effects P r' (Leave ∷ []) = waiting-append P r acts (Leave ∷ []) in
        let none_more : cond (is_some (line_of r'.board) && is_none r'.handler) (one_effect P r' Leave) 0 ≡ 0 = handler_none (is_some (line_of r'.board)) r'.handler (context_of body o'.done) (one_effect P r' Leave) C.done.handler in
        let legal_end : AreLegal P r' (Leave ∷ []) = ((m.going, subst (λ t. IsSomeAnd t (HasEnded P)) (sym C.done.handler) (record { turns = B.all.turns; all = B.all.all; ended = B.all.ended })), tt) in
        let cpu_is : j'.cpu ≡ resumed_by a.c a.ram = C.cpu ∙ B.cpu in
        let left = base_left a.base j'.cpu a.waits in
        let eff = base_effects_low a.base j'.cpu a.waits in
        let zero = no_effects in
        record {
          acts = acts ++ Leave ∷ [];
          next = j';
          stepped = (run_or_idle ops j).stepped;
          later = base_bounds P image marks z built Sound IsWord sound pace wide a.base j'.cpu;
          exec_is = go;
          legal = legal-append P r acts (Leave ∷ []) C.legal legal_end;
          shown = C.shown ∙ ap (λ l. j.bus.ports.shown ++ l) (sym (append-nil (shown_by P r acts)) ∙ sym (shown_by-append P r acts (Leave ∷ [])));
          goes = λ n. subst (λ t. At P image marks z built Sound IsWord sound pace wide t j' (base_bounds P image marks z built Sound IsWord sound pace wide a.base j'.cpu)) (sym all) (OnBase (record {
            base = a.base;
            is = subst (λ (c : Cpu). IsBase P image marks z built Sound IsWord sound pace wide a.base c j'.bus.ram) (sym cpu_is) is_after;
            context = C.done.base ∙ a.base_context_is;
            no_handler = refl;
            common = record { code = m.code; board = m.board; store = m.store; words = m.words; bytes = m.bytes; no_task = m.no_task; going = m.going; runs = m.runs };
            bounds = refl;
          }));
          halts = λ n. absurd (not_so (sym (ap is_stopped st) ∙ n));
          idle = λ n. absurd (not_so (sym (ap is_idle st) ∙ n));
          deep = deep;
          quiet = λ q. absurd (not_empty acts Leave q);
          paid = λ q. omega (arith, one, left);
          few = record {
            low = omega (arith, eff, zero, sum, none_more);
            counted = omega (arith, zero, sum, none_more);
            falls = λ v h. absurd (no_wait v (acts ++ Leave ∷ []) h);
          };
          prompt = λ v h s. absurd (no_wait v (acts ++ Leave ∷ []) h);
        }

    pub handler_awake : cpuoff j.cpu ≡ false
    handler_awake = ap cpuoff a.cpu ∙ btw.awake over_not.0

    handler_result : Result
    handler_result = by_fault (fault_of new) refl
      where
        by_back : (t : Bool) → is_back code.top o' ≡ t → fault_of new ≡ None → Result
        by_back true b e = on_back e b
        by_back false b e = on_code e b

        by_fault : (f : Option ℕ) → fault_of new ≡ f → Result
        by_fault (Some c) e = halted c e
        by_fault None e = by_back (is_back code.top o') refl e

    pub handler_step : Outcome P image marks z built Sound IsWord sound pace wide r j q
    handler_step = subst (Outcome P image marks z built Sound IsWord sound pace wide r j) (sym a.bounds) handler_result
