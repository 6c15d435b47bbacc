-- One instruction of the boot body, as moves.
use Rattle.std.proofs.Common.{◌≡◌, ℕ, suc, ◌+◌, ◌-◌, ◌<◌, ◌≤◌, ◌==◌, Bool, true, false, ◌&&◌, not, cond, List, [], ◌∷◌, ◌++◌, length, Option, Some, None, refl, sym, ap, subst, ◌∙◌, arith, append_assoc, append-nil}
use Rattle.std.proofs.lemmas.Bool.Decides.{nat_tests}
use Rattle.std.specs.Prelude.{is_some, IsNone, IsSomeAnd, nat_lt}
use Rattle.nm_base.specs.Lists.{number_of}
use Rattle.mote_devices.specs.declared.state.BoardState.{BoardState}
use Rattle.mote_devices.specs.declared.shown.Given.{Given}
use Rattle.mote_devices.specs.Board.{line_of}
use Rattle.mote_devices.specs.Outside.{Outside}
use Rattle.nm_base.specs.declared.action.Action.{Action}
use Rattle.core_meaning.specs.Source.{Source}
use Rattle.nm_base.specs.Behaviour.{Performed}
use Rattle.run_meaning.specs.declared.Move.{Move}
use Rattle.run_meaning.specs.declared.Move.TheVariants.{Finish}
use Rattle.run_meaning.specs.State.{State, is_inside}
use Rattle.run_meaning.specs.Runs.{AreLegal, HasEnded, after, after_all, shown_by}
use Rattle.run_meaning.specs.Steps.{Waits, StaysOutside}
use Rattle.msp430_cpu.specs.declared.cpu.Stepped.{Stepped}
use Rattle.msp430_cpu.specs.declared.cpu.Stepped.TheVariants.{Ran, Stopped}
use Rattle.msp430_cpu.specs.Cpu.{Cpu, gie, cpuoff}
use Rattle.msp430_cpu.specs.Exec.{Joined, exec, run_or_idle, stepped_of}
use Rattle.msp430_cpu.specs.Memory.{Memory}
use Rattle.msp430_cpu.specs.Slots.{counts, is_idle, is_stopped, is_illegal}
use Rattle.preempt_core.specs.Law.{Bounds, is_waiting, waiting_effects}
use Rattle.preempt_core.proofs.Follow.{after_all-append, shown_by-append, legal-append}
use Rattle.preempt_bodies.proofs.Stretches.{outside_back}
use Rattle.preempt_core.proofs.Waiting.{waiting-append, waits_line}
use Rattle.open_law.specs.Open.{Done, Moment, IsMoment, Open, Code, IsGated, IsBetween, IsFair, AreMarks, is_within, is_back, is_over, fault_of, silent, went, settled, HoldsWords}
use Rattle.preempt_bodies.specs.Boards.{AnswersWords}
use Rattle.open_law.specs.Body.{HasReturned}
use Rattle.preempt_bodies.specs.Bodies.{Sizes, stack_of}
use Rattle.preempt_bodies.proofs.Words.{IsSpelled}
use Rattle.preempt_bodies.proofs.Logged.{moves_of, IsLowCode}
use Rattle.preempt_bodies.proofs.Acting.{TheBase, context_of, HasDone, done_all}
use Rattle.preempt_bodies.proofs.Effects.{marks_answered, marks_count, new_counts, within_all_plain, inside_is}
use Rattle.preempt_bodies.proofs.Carry.{ops, IsCommon, IsJoined, IsCarried, carried, is_moment, sound_marked, now_of, new_of, marks_same, moves-append}
use Rattle.preempt_bodies.proofs.Running.{goes_on, between_at, fair_at, between_after, fault-append, marks_no_fault, not_back}
use Rattle.preempt_bodies.proofs.Places.{effects_at, InBody, AtLoop, IsBody, boot_back, boot_code, boot_cpu, boot_ram, boot_low, boot_law, boot_at, base_bounds, At, OnBase, Outcome, no_bounds}

not_so : false ≡ true → ⊥
not_so h = cc

-- W1 and W2: what marks and access count; x, y: inside before, and behind the marks; g, k: the gate and GIE before
pub body_counted : (x y g k : Bool) (W1 W2 : ℕ) → W1 ≤ number_of (x && not y) → W2 ≤ number_of (not y) → (g ≡ true → W2 ≡ 0) → (x ≡ false → k ≡ false → y ≡ true) → W1 + W2 ≤ effects_at x g k
body_counted true true g k W1 W2 a b o begins = omega (arith, a, b)
body_counted true false g k W1 W2 a b o begins = omega (arith, a, b)
body_counted false true g k W1 W2 a b o begins = omega (arith, a, b)
body_counted false false g false W1 W2 a b o begins = absurd (not_so (begins refl refl))
body_counted false false true true W1 W2 a b o begins = let e = o refl in omega (arith, a, e)
body_counted false false false true W1 W2 a b o begins = omega (arith, a, b)

-- .. and with what may come later, where the gate was closed. g', k': the gate and GIE after
pub body_falls : (x y k g' k' : Bool) (W1 W2 : ℕ) → W1 ≤ number_of (x && not y) → W2 ≤ number_of (not y) → (x ≡ false → k ≡ false → y ≡ true) →
    g' ≡ k → (y ≡ true → g' ≡ false) → (y ≡ false → k' ≡ false → g' ≡ true) → W1 + W2 + effects_at y g' k' ≤ effects_at x false k
body_falls true true k g' k' W1 W2 a b begins e shut opens = omega (arith, a, b)
body_falls true false k true k' W1 W2 a b begins e shut opens = omega (arith, a, b)
body_falls true false k false true W1 W2 a b begins e shut opens = omega (arith, a, b)
body_falls true false k false false W1 W2 a b begins e shut opens = absurd (not_so (opens refl refl))
body_falls false true true g' k' W1 W2 a b begins e shut opens = absurd (not_so (sym (shut refl) ∙ e))
body_falls false true false g' k' W1 W2 a b begins e shut opens = omega (arith, a, b)
body_falls false false false g' k' W1 W2 a b begins e shut opens = absurd (not_so (begins refl refl))
body_falls false false true true k' W1 W2 a b begins e shut opens = omega (arith, a, b)
body_falls false false true false k' W1 W2 a b begins e shut opens = absurd (not_so e)

pub effects_low : (x g k : Bool) → effects_at x g k ≤ 3
effects_low true g k = omega arith
effects_low false true k = omega arith
effects_low false false true = omega arith
effects_low false false false = omega arith

pub counts_one : (s : Stepped) → counts s ≤ 1
counts_one Ran = omega arith
counts_one (Stopped code) = by_test (nat_lt code 256)
  where
    by_test : (t : Bool) → cond t 1 0 ≤ 1
    by_test true = omega arith
    by_test false = omega arith
counts_one other = omega arith

pub outside_head : (P : Source) (s : State) (ms : List Move) → StaysOutside P s ms → is_inside s.base ≡ false
outside_head P s [] h = h
outside_head P s (m ∷ ms) h = h.0

pub not_empty : {A : Type 0} (a : List A) (x : A) → a ++ x ∷ [] ≡ [] → ⊥
not_empty [] x e = let h : 1 ≡ 0 = ap length e in omega (arith, h)
not_empty (y ∷ a) x e = let h : suc (length (a ++ x ∷ [])) ≡ 0 = ap length e in omega (arith, h)

pub new_empty : (a b : List Done) → moves_of (a ++ b) ≡ [] → b ≡ []
new_empty [] [] e = refl
new_empty [] (d ∷ b) e = absurd (let h : suc (length (moves_of b)) ≡ 0 = ap length e in omega (arith, h))
new_empty (d ∷ a) b e = absurd (let h : suc (length (moves_of (a ++ b))) ≡ 0 = ap length e in omega (arith, h))

pub empty_all : (a : List Done) → moves_of a ≡ [] → a ≡ []
empty_all [] e = refl
empty_all (d ∷ a) e = absurd (let h : suc (length (moves_of a)) ≡ 0 = ap length e in omega (arith, h))

length-moves : (ds : List Done) → length (moves_of ds) ≡ length ds
length-moves [] = refl
length-moves (d ∷ ds) = ap suc (length-moves ds)

finish_counts : (w i : Bool) → i ≡ false → cond w (cond i (number_of (not false)) 0) 0 + 0 ≡ 0
finish_counts true true e = absurd (not_so (sym e))
finish_counts false true e = refl
finish_counts true false e = refl
finish_counts false false e = refl

module _ (P : Source) (image : ℕ → ℕ) (marks : ℕ → List Action) (z : Sizes) (built : IsSpelled P image marks z) (Sound : BoardState → Type 0) (IsWord : Given → Type 0) (sound : AnswersWords Sound IsWord) (pace : ℕ) (wide : z.bound + 3 ≤ pace) where
  low_end : z.data_end ≤ 0x3900
  low_end = let r = built.room in omega (arith, r)

  abbrev body : Option ℕ
  body = Some P.boot

  abbrev act : List ℕ → ℕ → Performed
  act = P.act P.boot

  abbrev code : Code
  code = boot_code P image marks z built Sound IsWord sound pace wide

  abbrev Back : Open → Type 0
  Back = HasReturned act (boot_cpu P image marks z built Sound IsWord sound pace wide) (boot_ram P image marks z built Sound IsWord sound pace wide)

  module _ (before since : List Moment) (r : State) (j : Joined (Memory Outside)) (h : IsBody P image marks z built Sound IsWord sound pace wide before since j.cpu j.bus.ram)
      (context : r.base ≡ Some (context_of body (boot_at P image marks z built Sound IsWord sound pace wide (before ++ since)).done)) (none : r.handler ≡ None) (common : IsCommon Sound image z.data_end r j.bus)
      (go : exec ops j ≡ run_or_idle ops j) (open_none : j.cpu.gate ≡ true → line_of r.board ≡ None) where
    abbrev o : Open
    o = boot_at P image marks z built Sound IsWord sound pace wide (before ++ since)

    abbrev ds : List Done
    ds = o.done

    btw : IsBetween act code (boot_low P image marks z built Sound IsWord sound pace wide) (IsGated code) Back o
    btw = between_at act code _ z.bound (IsGated code) Back _ _ (boot_law P image marks z built Sound IsWord sound pace wide) before since h.runs

    good_marks : AreMarks (marks o.cpu.pc)
    good_marks = btw.marks h.runs.going

    joined : IsJoined P Sound IsWord sound code built.even_end low_end TheBase body o h.interrupted r j
    joined = record {
      common = common;
      done = record { base = context; handler = none };
      cpu = h.cpu;
      stack = λ a le lt. h.stack a (subst (λ (c : Cpu). c.sp ≤ a) (sym h.cpu) le) lt;
    }

    abbrev now : Moment
    now = now_of P Sound IsWord sound code built.even_end low_end o r j h.interrupted

    now_ok : IsMoment now
    now_ok = is_moment P Sound IsWord sound code built.even_end low_end o r j h.interrupted common.bytes (sound_marked P Sound IsWord sound code built.even_end low_end r j.bus (marks o.cpu.pc) common good_marks.silent)

    abbrev o' : Open
    o' = went code now o

    btw' : IsBetween act code (boot_low P image marks z built Sound IsWord sound pace wide) (IsGated code) Back o'
    btw' = between_after act code _ z.bound (IsGated code) Back _ _ (boot_law P image marks z built Sound IsWord sound pace wide) before since now h.runs now_ok

    abbrev marked : List Done
    marked = silent (marks o.cpu.pc)

    abbrev new : List Done
    new = new_of P Sound IsWord sound code built.even_end low_end TheBase body o h.interrupted r j joined good_marks

    abbrev acts : List Move
    acts = moves_of (marked ++ new)

    abbrev Carried : Type 0
    Carried = IsCarried P Sound IsWord sound code built.even_end low_end TheBase body o h.interrupted r j joined good_marks

    C : Carried
    C = carried P Sound IsWord sound code built.even_end low_end TheBase body o h.interrupted r j joined good_marks (fair_at act code _ z.bound (IsGated code) Back _ _ (boot_law P image marks z built Sound IsWord sound pace wide) before since now h.runs now_ok) btw'.next

    abbrev r' : State
    r' = after_all P r acts

    abbrev j' : Joined (Memory Outside)
    j' = (run_or_idle ops j).after

    abbrev x : Bool
    x = is_within ds

    abbrev y : Bool
    y = is_within (ds ++ marked)

    abbrev g : Bool
    g = j.cpu.gate

    abbrev k : Bool
    k = gie j.cpu

    abbrev behind : State
    behind = after_all P r (moves_of marked)

    behind_done : HasDone TheBase body (ds ++ marked) behind
    behind_done = done_all P TheBase body ds marked r joined.done (marks_answered P body (marks o.cpu.pc) r good_marks.silent)

    W1 : ℕ
    W1 = waiting_effects P r (moves_of marked)

    W2 : ℕ
    W2 = waiting_effects P behind (moves_of new)

    total : waiting_effects P r acts ≡ W1 + W2
    unfolding W1 W2
    total = ap (waiting_effects P r) (moves-append marked new) ∙ waiting-append P r (moves_of marked) (moves_of new)

    first_few : W1 ≤ number_of (x && not y)
    unfolding W1
    first_few = marks_count P body (marks o.cpu.pc) ds r joined.done good_marks

    fair : IsFair code now o
    fair = fair_at act code _ z.bound (IsGated code) Back _ _ (boot_law P image marks z built Sound IsWord sound pace wide) before since now h.runs now_ok

    second_few : W2 ≤ number_of (not y)
    unfolding W2
    second_few = (new_counts P body new (ds ++ marked) behind behind_done C.answered C.plain fair.alone).0

    second_none : g ≡ true → W2 ≡ 0
    unfolding W2
    second_none e = (new_counts P body new (ds ++ marked) behind behind_done C.answered C.plain fair.alone).1 (ap line_of (marks_same P r (marks o.cpu.pc) good_marks.silent).board ∙ open_none e)

    gie_same : gie o.cpu ≡ k
    gie_same = sym (ap gie h.cpu)

    over_not : (is_back 0x3900 o ≡ false) × (fault_of ds ≡ None)
    over_not = not_back 0x3900 o h.runs.going

    begins : x ≡ false → k ≡ false → y ≡ true
    begins ex ek = ((btw.gate h.runs.going).begins ex (gie_same ∙ ek)).1

    within_after : is_within o'.done ≡ y
    within_after = ap is_within (sym (append_assoc ds marked new)) ∙ within_all_plain (ds ++ marked) new C.plain

    counted : waiting_effects P r acts ≤ effects_at x g k
    counted = let b = body_counted x y g k W1 W2 first_few second_few second_none begins in omega (arith, b, total)

    closed_of : (v : ℕ) (ms : List Move) → Waits P v r ms → g ≡ false
    closed_of v ms waits = by_gate g refl
      where
        by_gate : (t : Bool) → g ≡ t → g ≡ false
        by_gate false e = e
        by_gate true e = absurd (not_so (sym (ap is_some (open_none e)) ∙ waits_line P v r ms waits))

    outside_first : (ms : List Move) → StaysOutside P r ms → x ≡ false
    outside_first ms s = sym (inside_is P body ds r joined.done) ∙ outside_head P r ms s

    outside_then : (tail : List Move) → StaysOutside P r (acts ++ tail) → y ≡ false
    outside_then tail s =
        let e : acts ++ tail ≡ moves_of marked ++ (moves_of new ++ tail) = ap (λ l. l ++ tail) (moves-append marked new) ∙ append_assoc (moves_of marked) (moves_of new) tail in
        sym (inside_is P body (ds ++ marked) behind behind_done) ∙ outside_head P behind (moves_of new ++ tail) (outside_back P r (moves_of marked) (moves_of new ++ tail) (subst (StaysOutside P r) e s))

    -- GIE is set where the code stays outside
    set_there : x ≡ false → y ≡ false → k ≡ true
    set_there ex ey = by_gie k refl
      where
        by_gie : (t : Bool) → k ≡ t → k ≡ true
        by_gie true e = e
        by_gie false e = absurd (not_so (sym ey ∙ begins ex e))

    deep : 0x3900 ≤ j'.cpu.sp + stack_of z
    deep = let l = btw'.low in let e : j'.cpu.sp ≡ o'.cpu.sp = ap (λ (c : Cpu). c.sp) C.cpu in omega (arith, l, e)

    abbrev before_bounds : Bounds
    before_bounds = record { left = z.bound - length since; effects = effects_at x g k; closed = cond g 0 1 }

    exec_is : exec ops j ≡ record { after = j'; stepped = (run_or_idle ops j).stepped }
    exec_is = go

    one : counts (run_or_idle ops j).stepped ≤ 1
    one = counts_one (run_or_idle ops j).stepped

    abbrev Result : Type 0
    Result = Outcome P image marks z built Sound IsWord sound pace wide r j before_bounds

    awake_after : cpuoff o'.cpu ≡ false
    awake_after = by_back (is_back 0x3900 o') refl
      where
        by_back : (t : Bool) → is_back 0x3900 o' ≡ t → cpuoff o'.cpu ≡ false
        by_back true e = (btw'.back e).awake
        by_back false e = btw'.awake e

    -- a fault
    halted : (c : ℕ) → fault_of new ≡ Some c → Result
    halted c e =
        let st : (run_or_idle ops j).stepped ≡ Stopped c = C.stepped ∙ ap (stepped_of ops) e in
        let low : c < 0x100 = subst IsLowCode e C.low in
        let some : acts ≡ [] → ⊥ = λ q. faulted_none (subst (λ l. fault_of l ≡ Some c) (no_new q) e) in
        record {
          acts = acts;
          next = j';
          stepped = (run_or_idle ops j).stepped;
          later = no_bounds;
          exec_is = exec_is;
          legal = C.legal;
          shown = C.shown;
          goes = λ n. absurd (not_so (sym n ∙ ap is_stopped st));
          halts = λ n. (ap is_illegal st ∙ not_256 c low, ap cpuoff C.cpu ∙ awake_after, refl);
          idle = λ n. absurd (not_so (sym (ap is_idle st) ∙ n));
          deep = deep;
          quiet = λ q. absurd (some q);
          paid = λ q. omega (arith, one, wide);
          few = record {
            low = let b = counted in let l = effects_low x g k in omega (arith, b, l);
            counted = counted;
            falls = λ v w. let b = counted in omega (arith, b);
          };
          prompt = λ v w s. let c = closed_of v acts w in let b : cond {A = ℕ} g 0 1 ≡ 1 = ap (λ t. cond {A = ℕ} t 0 1) c in omega (arith, one, b);
        }
      where
        faulted_none : fault_of [] ≡ Some c → ⊥
        faulted_none q = cc

        no_new : acts ≡ [] → new ≡ []
        no_new q = new_empty marked new q

        not_256 : (n : ℕ) → n < 0x100 → (n == 256) ≡ false
        not_256 n l = grind (arith, nat_tests)

    -- what is common afterwards, where no fault was raised
    common_after : fault_of new ≡ None → IsCommon Sound image z.data_end r' j'.bus
    common_after e = record {
      code = C.code_kept;
      board = C.board;
      store = C.store;
      words = C.words;
      bytes = C.bytes;
      no_task = C.no_task;
      going = C.halted ∙ ap is_some e;
      runs = C.stopped ∙ e;
    }

    ran_there : fault_of new ≡ None → (run_or_idle ops j).stepped ≡ Ran
    ran_there e = C.stepped ∙ ap (stepped_of ops) e

    -- the body goes on
    on_body : fault_of new ≡ None → is_back 0x3900 o' ≡ false → Result
    on_body e back =
        let st = ran_there e in
        let no_fault : fault_of o'.done ≡ None = fault-append ds (marked ++ new) over_not.1 ∙ fault-append marked new (marks_no_fault (marks o.cpu.pc) good_marks.silent) ∙ e in
        let on : is_over 0x3900 o' ≡ false = ap (λ t. cond t true (is_some (fault_of o'.done))) back ∙ ap is_some no_fault in
        let G = goes_on act code _ z.bound (IsGated code) Back _ _ (boot_law P image marks z built Sound IsWord sound pace wide) before since now built.some h.runs now_ok on in
        let gate_after : IsGated code o' = btw'.gate on in
        let q2 : boot_at P image marks z built Sound IsWord sound pace wide (G.before' ++ G.since') ≡ o' = G.same in
        let gate_is : o'.cpu.gate ≡ k = fair.gate back ∙ gie_same in
        let shut_after : y ≡ true → o'.cpu.gate ≡ false = λ ey. gate_after.shut (within_after ∙ ey) in
        let opens_after : y ≡ false → gie o'.cpu ≡ false → o'.cpu.gate ≡ true = λ ey ek. (gate_after.begins (within_after ∙ ey) ek).0 in
        let effects_same : effects_at (is_within (boot_at P image marks z built Sound IsWord sound pace wide (G.before' ++ G.since')).done) j'.cpu.gate (gie j'.cpu) ≡ effects_at y o'.cpu.gate (gie o'.cpu) =
        ap (λ (q : Open). effects_at (is_within q.done) j'.cpu.gate (gie j'.cpu)) q2 ∙ ap (λ t. effects_at t j'.cpu.gate (gie j'.cpu)) within_after ∙ ap (λ (c : Cpu). effects_at y c.gate (gie c)) C.cpu in
        let closed_same : cond {A = ℕ} j'.cpu.gate 0 1 ≡ cond o'.cpu.gate 0 1 = ap (λ (c : Cpu). cond {A = ℕ} c.gate 0 1) C.cpu in
        record {
          acts = acts;
          next = j';
          stepped = (run_or_idle ops j).stepped;
          later = base_bounds P image marks z built Sound IsWord sound pace wide (InBody G.before' G.since') j'.cpu;
          exec_is = exec_is;
          legal = C.legal;
          shown = C.shown;
          goes = λ n. OnBase (record {
            base = InBody G.before' G.since';
            is = record {
              interrupted = false;
              runs = G.runs;
              cpu = C.cpu ∙ ap (λ (q : Open). settled false q.cpu) (sym q2);
              stack = λ a le lt. ap (λ (f : ℕ → ℕ). f a) C.ram ∙ ap (λ (q : Open). q.ram a) (sym q2);
            };
            context = C.done.base ∙ ap (λ (q : Open). Some (context_of body q.done)) (sym q2);
            no_handler = C.done.handler;
            common = common_after e;
            bounds = refl;
          });
          halts = λ n. absurd (not_so (sym (ap is_stopped st) ∙ n));
          idle = λ n. absurd (not_so (sym (ap is_idle st) ∙ n));
          deep = deep;
          quiet = λ q.
              let none_done : marked ++ new ≡ [] = empty_all (marked ++ new) q in
              let same_length : length o'.done ≡ length ds = ap (λ l. length (ds ++ l)) none_done ∙ ap length (append-nil ds) in
              let n = G.left same_length in
              let f = h.runs.few in
              omega (arith, one, n, f);
          paid = λ q. omega (arith, one, wide);
          few = record {
            low = let b = counted in let l = effects_low x g k in let l' = effects_low y o'.cpu.gate (gie o'.cpu) in omega (arith, b, l, l', effects_same);
            counted = counted;
            falls = λ v w.
                let c = closed_of v acts w in
                let f = body_falls x y k o'.cpu.gate (gie o'.cpu) W1 W2 first_few second_few begins gate_is shut_after opens_after in
                let e0 : effects_at x g k ≡ effects_at x false k = ap (λ t. effects_at x t k) c in
                omega (arith, f, total, effects_same, e0);
          };
          prompt = λ v w s.
              let c = closed_of v acts w in
              let b : cond {A = ℕ} g 0 1 ≡ 1 = ap (λ t. cond {A = ℕ} t 0 1) c in
              let ex = outside_first acts s in
              let ey = outside_then [] (subst (StaysOutside P r) (sym (append-nil acts)) s) in
              let open_now : o'.cpu.gate ≡ true = gate_is ∙ set_there ex ey in
              let b' : cond {A = ℕ} o'.cpu.gate 0 1 ≡ 0 = ap (λ t. cond {A = ℕ} t 0 1) open_now in
              omega (arith, one, b, b', closed_same);
        }

    -- it is back, and the run finishes the boot body
    on_back : fault_of new ≡ None → is_back 0x3900 o' ≡ true → Result
    on_back e back =
        let st = ran_there e in
        let B = btw'.back back in
        let m = common_after e in
        let all : after_all P r (acts ++ Finish ∷ []) ≡ after P r' Finish = after_all-append P r acts (Finish ∷ []) in
        let outside : is_inside r'.base ≡ false = ap is_inside C.done.base ∙ B.outside in
        let none_more : waiting_effects P r' (Finish ∷ []) ≡ 0 = finish_counts (is_waiting r') (is_inside r'.base) outside in
        let sum : waiting_effects P r (acts ++ Finish ∷ []) ≡ waiting_effects P r acts + waiting_effects P r' (Finish ∷ []) = waiting-append P r acts (Finish ∷ []) in
        let open_now : j'.cpu.gate ≡ true = ap (λ (c : Cpu). c.gate) C.cpu ∙ B.gate in
        let legal_end : AreLegal P r' (Finish ∷ []) = ((m.going, (subst IsNone (sym C.done.handler) refl, subst (λ t. IsSomeAnd t (HasEnded P)) (sym C.done.base) (record { turns = B.all.turns; all = B.all.all; ended = B.all.ended }))), tt) in
        record {
          acts = acts ++ Finish ∷ [];
          next = j';
          stepped = (run_or_idle ops j).stepped;
          later = base_bounds P image marks z built Sound IsWord sound pace wide AtLoop j'.cpu;
          exec_is = exec_is;
          legal = legal-append P r acts (Finish ∷ []) C.legal legal_end;
          shown = C.shown ∙ ap (λ l. j.bus.ports.shown ++ l) (sym (append-nil (shown_by P r acts)) ∙ sym (shown_by-append P r acts (Finish ∷ [])));
          goes = λ n. subst (λ t. At P image marks z built Sound IsWord sound pace wide t j' (base_bounds P image marks z built Sound IsWord sound pace wide AtLoop j'.cpu)) (sym all) (OnBase (record {
            base = AtLoop;
            is = record {
              pc = ap (λ (c : Cpu). c.pc) C.cpu ∙ B.pc ∙ boot_back P image marks z built Sound IsWord sound pace wide;
              sp = ap (λ (c : Cpu). c.sp) C.cpu ∙ B.sp;
              off = ap cpuoff C.cpu ∙ B.awake;
              words = subst HoldsWords (sym C.cpu) btw'.words;
            };
            context = refl;
            no_handler = C.done.handler;
            common = record { code = m.code; board = m.board; store = m.store; words = m.words; bytes = m.bytes; no_task = m.no_task; going = m.going; runs = m.runs };
            bounds = refl;
          }));
          halts = λ n. absurd (not_so (sym (ap is_stopped st) ∙ n));
          idle = λ n. absurd (not_so (sym (ap is_idle st) ∙ n));
          deep = deep;
          quiet = λ q. absurd (not_empty acts Finish q);
          paid = λ q. omega (arith, one, wide);
          few = record {
            low = let b = counted in let l = effects_low x g k in omega (arith, b, l, sum, none_more);
            counted = let b = counted in omega (arith, b, sum, none_more);
            falls = λ v w. let b = counted in omega (arith, b, sum, none_more);
          };
          prompt = λ v w s.
              let c = closed_of v (acts ++ Finish ∷ []) w in
              let b : cond {A = ℕ} g 0 1 ≡ 1 = ap (λ t. cond {A = ℕ} t 0 1) c in
              let b' : cond {A = ℕ} j'.cpu.gate 0 1 ≡ 0 = ap (λ t. cond {A = ℕ} t 0 1) open_now in
              omega (arith, one, b, b');
        }

    pub body_step : Result
    body_step = by_fault (fault_of new) refl
      where
        by_back : (t : Bool) → is_back 0x3900 o' ≡ t → fault_of new ≡ None → Result
        by_back true b e = on_back e b
        by_back false b e = on_body e b

        by_fault : (f : Option ℕ) → fault_of new ≡ f → Result
        by_fault (Some c) e = halted c e
        by_fault None e = by_back (is_back 0x3900 o') refl e
