-- Entry, body and exit of a handler, as open code: they leave what they interrupt as it was.
use Rattle.std.proofs.Common.{◌≡◌, ℕ, zero, suc, ◌+◌, ◌-◌, ◌*◌, ◌%◌, ◌<◌, ◌≤◌, ◌==◌, Bool, true, false, ◌&&◌, cond, List, [], ◌∷◌, ◌++◌, length, refl, sym, ap, subst, ◌∙◌, arith}
use Rattle.std.proofs.Math.Path.{fun_ext}
use Rattle.std.proofs.lemmas.Bool.Decides.{nat_tests}
use Rattle.std.proofs.lemmas.List.{ext_get_or, get_or-set_same, get_or-set_other, length-set}
use Rattle.std.specs.Prelude.{nat_le, nat_lt, slice_index, slice_set, bit_and, is_some}
use Rattle.std.specs.List.{AllByRecursion}
use Rattle.nm_base.specs.Lists.{bit}
use Rattle.nm_base.specs.declared.action.Action.{Action}
use Rattle.nm_base.specs.Behaviour.{Performed}
use Rattle.msp430_cpu.specs.Cpu.{Cpu, even, gie, cpuoff, wrap16}
use Rattle.msp430_cpu.specs.Exec.{Step, run_or_idle, stepped_of}
use Rattle.msp430_cpu.specs.Memory.{word_at, with_word_at}
use Rattle.open_law.specs.Open.{AreWordOuts, Moment, IsMoment, Open, Code, AreNext, AreAll, AreMarks, HoldsWords, IsBetween, IsFair, IsOpenCode, IsShut, is_data, is_back, is_over, fault_of, silent, disturbed, settled, joined_now, instruction, went, open_step, open_all, open_start, logged_bus}
use Rattle.msp_isa.specs.Stands.{word_in}
use Rattle.open_law.specs.Body.{IsBodyLaw, HasReturned, StartsShut, code_below}
use Rattle.open_law.proofs.Wider.{grows, open_on, stays_over}
use Rattle.preempt_bodies.specs.Bodies.{HasResumed, awake_sr, resumed_by}
use Rattle.preempt_bodies.specs.Runs.{Survives}
use Rattle.preempt_bodies.proofs.Words.{IsEntryExit, IsCall, Middle, Through, Straight, line_words}
use Rattle.preempt_bodies.proofs.Carry.{stands}
use Rattle.preempt_bodies.proofs.Enter.{word_top, byte_above, small_word}
use Rattle.preempt_bodies.proofs.BaseStep.{awake_low}
use Rattle.preempt_bodies.proofs.Running.{IsRunning, goes_on, between_at, fair_at, between_after, not_back}
use Rattle.preempt_bodies.proofs.Leaving.{Leaves, longer, next_none, no_marks, piece_went, piece_fair, own, far, small}
use Rattle.preempt_bodies.proofs.Pieces.{pushes, calls, pops, clears, returns, cleared}

not_so : false ≡ true → ⊥
not_so h = cc

module _ (image : ℕ → ℕ) (marks : ℕ → List Action) (end entry exit depth bound : ℕ) (act : List ℕ → ℕ → Performed)
    (low_end : 0x1100 ≤ end) (code : IsEntryExit image marks entry exit) (middle : Middle image marks end entry exit depth bound act) (some : 1 ≤ bound)
    (c : Cpu) (ram : ℕ → ℕ) (at_entry : c.pc ≡ entry) (no_sr : c.sr ≡ 0) (shut : c.gate ≡ false) (words : HoldsWords c) (room : end + (26 + depth) ≤ c.sp) (high : c.sp + 4 ≤ 0x3900) (small_ram : (a : ℕ) → ram a < 0x100) where
  abbrev K : Code
  K = code_below image end marks (c.sp + 4)

  abbrev low : ℕ
  low = c.sp - (26 + depth)

  -- where the registers are saved
  abbrev S : ℕ
  S = c.sp - 24

  abbrev Back : Open → Type 0
  Back = HasResumed act c ram

  -- a place in entry or exit
  record IsPiece (pc_at sp_at : ℕ) (o : Open) : Type 0 where
    pc : o.cpu.pc ≡ pc_at
    sp : o.cpu.sp ≡ sp_at
    sr : o.cpu.sr < 0x10000
    off : cpuoff o.cpu ≡ false
    closed : IsShut o
    twelve : length o.cpu.others ≡ 12
    word : (i : ℕ) → slice_index o.cpu.others i < 0x10000
    bytes : (a : ℕ) → o.ram a < 0x100
    base : (a : ℕ) → c.sp + 2 ≤ a → a < c.sp + 4 → o.ram a ≡ ram a

  -- these registers are saved, from one on
  abbrev AreSaved : ℕ → (ℕ → ℕ) → Type 0
  AreSaved n f = (i : ℕ) → n ≤ i → i < 12 → word_in f (S + 2 * i) ≡ slice_index c.others i

  record IsPushing (n : ℕ) (o : Open) : Type 0 where
    piece : IsPiece (entry + 2 * (12 - n)) (c.sp - 2 * (12 - n)) o
    few : n ≤ 12
    others : o.cpu.others ≡ c.others
    saved : AreSaved n o.ram
    status : word_in o.ram c.sp ≡ word_in ram c.sp
    done : o.done ≡ []

  record IsBody (before since : List Moment) (o : Open) : Type 0 where
    cb : Cpu
    ramb : ℕ → ℕ
    top : cb.sp + 2 ≡ S
    law : IsOpenCode act (code_below image end marks (cb.sp + 2)) (cb.sp - depth) bound IsShut (HasReturned act cb ramb) cb ramb
    runs : IsRunning act (code_below image end marks (cb.sp + 2)) (cb.sp - depth) bound IsShut (HasReturned act cb ramb) cb ramb law before since
    same_cpu : o.cpu ≡ (open_all (code_below image end marks (cb.sp + 2)) (before ++ since) (open_start cb ramb)).cpu
    same_done : o.done ≡ (open_all (code_below image end marks (cb.sp + 2)) (before ++ since) (open_start cb ramb)).done
    stack : (a : ℕ) → o.cpu.sp ≤ a → a < S → o.ram a ≡ (open_all (code_below image end marks (cb.sp + 2)) (before ++ since) (open_start cb ramb)).ram a
    back_at : word_in ramb cb.sp ≡ exit
    shut_start : cb.gate ≡ false
    shut_gie : gie cb ≡ false
    bytes : (a : ℕ) → o.ram a < 0x100
    saved : AreSaved 0 o.ram
    status : word_in o.ram c.sp ≡ word_in ram c.sp
    base : (a : ℕ) → c.sp + 2 ≤ a → a < c.sp + 4 → o.ram a ≡ ram a

  record IsPopping (p : ℕ) (o : Open) : Type 0 where
    piece : IsPiece (exit + 2 * p) (S + 2 * p) o
    few : p ≤ 12
    restored : (i : ℕ) → i < p → slice_index o.cpu.others i ≡ slice_index c.others i
    saved : AreSaved p o.ram
    status : word_in o.ram c.sp ≡ word_in ram c.sp
    next : AreNext act o.done
    all : AreAll act o.done

  record IsReturning (o : Open) : Type 0 where
    piece : IsPiece (exit + 30) c.sp o
    others : o.cpu.others ≡ c.others
    status : word_in o.ram c.sp ≡ awake_sr (word_in ram c.sp)
    next : AreNext act o.done
    all : AreAll act o.done

  data Phase (o : Open) : Type 0 where
    Pushing : (n : ℕ) → IsPushing n o → Phase o
    InBody : (before since : List Moment) → IsBody before since o → Phase o
    Popping : (p : ℕ) → IsPopping p o → Phase o
    Returning : IsReturning o → Phase o
    Over : is_over K.top o ≡ true → IsBetween act K low IsShut Back o → Phase o

  -- how many instructions without an action may still come
  abbrev budget : {o : Open} → Phase o → ℕ
  budget (Pushing n h) = n + (16 + bound)
  budget (InBody before since h) = (bound - length since) + 15
  budget (Popping p h) = 14 - p
  budget (Returning h) = 1
  budget (Over h b) = 0

  not_above : (o : Open) (n : ℕ) → o.cpu.sp ≡ n → n < c.sp + 4 → is_back K.top o ≡ false
  not_above o n e lt = let t : nat_le (c.sp + 4) o.cpu.sp ≡ false = grind (arith, nat_tests) in t

  -- what holds between two instructions
  piece_between : (o : Open) (pc_at sp_at : ℕ) → IsPiece pc_at sp_at o → AreNext act o.done → marks pc_at ≡ [] → even pc_at ≡ pc_at → pc_at < 0x10000 → even sp_at ≡ sp_at → low ≤ sp_at → sp_at < c.sp + 4 → IsBetween act K low IsShut Back o
  piece_between o pc_at sp_at h next none even_pc low_pc even_sp low_sp high_sp =
      let p = h.pc in
      let s = h.sp in
      record {
        next = next;
        low = omega (arith, s, low_sp);
        high = omega (arith, s, high_sp);
        words = record { pc = omega (arith, p, low_pc); even_pc = ap even p ∙ even_pc ∙ sym p; even_sp = ap even s ∙ even_sp ∙ sym s; sr = h.sr; twelve = h.twelve; others = h.word };
        bytes = h.bytes;
        marks = λ b. no_marks (marks o.cpu.pc) (ap marks p ∙ none);
        gate = λ n. h.closed;
        awake = λ n. h.off;
        back = λ b. absurd (not_so (sym (not_above o sp_at s high_sp) ∙ b));
      }

  abbrev Kb : Cpu → Code
  Kb cb = code_below image end marks (cb.sp + 2)

  body_between : (o ob : Open) (cb : Cpu) (ramb : ℕ → ℕ) → cb.sp + 2 ≡ S → IsBetween act (Kb cb) (cb.sp - depth) IsShut (HasReturned act cb ramb) ob → o.cpu ≡ ob.cpu → o.done ≡ ob.done → ((a : ℕ) → o.ram a < 0x100) → is_back (Kb cb).top ob ≡ false → (is_over K.top o ≡ false → IsShut ob) → IsBetween act K low IsShut Back o
  body_between o ob cb ramb top B cpu done bytes back closed =
      let l = B.low in
      let h = B.high in
      let s : o.cpu.sp ≡ ob.cpu.sp = ap (λ (k : Cpu). k.sp) cpu in
      let under : is_back K.top o ≡ false = below o.cpu.sp (omega (arith, s, h, top, room)) in
      record {
        next = subst (AreNext act) (sym done) B.next;
        low = omega (arith, l, s, top);
        high = omega (arith, h, s, top, room);
        words = subst HoldsWords (sym cpu) B.words;
        bytes = bytes;
        marks = λ b. subst (λ (k : Cpu). AreMarks (marks k.pc)) (sym cpu) (B.marks (ap (λ t. cond t true (is_some (fault_of ob.done))) back ∙ ap is_some (ap fault_of (sym done) ∙ (not_back K.top o b).1)));
        gate = λ n. let g = closed n in record { gate = ap (λ (k : Cpu). k.gate) cpu ∙ g.gate; gie = ap gie cpu ∙ g.gie };
        awake = λ b. ap cpuoff cpu ∙ B.awake back;
        back = λ b. absurd (not_so (sym under ∙ b));
      }
    where
      below : (n : ℕ) → n < c.sp + 4 → nat_le (c.sp + 4) n ≡ false
      below n lt = grind (arith, nat_tests)

  -- where entry ends there are no marks either
  last_marks : marks (entry + 24) ≡ []
  last_marks = by_middle middle
    where
      by_middle : Middle image marks end entry exit depth bound act → marks (entry + 24) ≡ []
      by_middle (Through body call law) = call.no_marks
      by_middle (Straight e all) = let at : entry + 24 ≡ exit + 2 * 0 = omega (arith, e) in ap marks at ∙ code.no_exit_marks 0 (omega arith)

  entry_marks : (n : ℕ) → n ≤ 12 → marks (entry + 2 * (12 - n)) ≡ []
  entry_marks zero few = last_marks
  entry_marks (suc n) few = code.no_marks (12 - suc n) (omega (arith, few))

  phase_between : (o : Open) → Phase o → IsBetween act K low IsShut Back o
  phase_between o (Pushing n h) =
      let f = h.few in
      let ee = code.even_entry in
      let eh = code.high_entry in
      let es = words.even_sp in
      piece_between o (entry + 2 * (12 - n)) (c.sp - 2 * (12 - n)) h.piece (next_none act o.done h.done) (entry_marks n h.few) (omega (arith, ee)) (omega (arith, eh)) (omega (arith, es, room)) (omega (arith, room)) (omega arith)
  phase_between o (InBody before since h) =
      let ob = open_all (Kb h.cb) (before ++ since) (open_start h.cb h.ramb) in
      let B = between_at act (Kb h.cb) (h.cb.sp - depth) bound IsShut (HasReturned act h.cb h.ramb) h.cb h.ramb h.law before since h.runs in
      body_between o ob h.cb h.ramb h.top B h.same_cpu h.same_done h.bytes (not_back (Kb h.cb).top ob h.runs.going).0 (λ n. B.gate h.runs.going)
  phase_between o (Popping p h) =
      let f = h.few in
      let ee = code.even_exit in
      let eh = code.high_exit in
      let es = words.even_sp in
      piece_between o (exit + 2 * p) (S + 2 * p) h.piece h.next (code.no_exit_marks p (omega (arith, f))) (omega (arith, ee)) (omega (arith, eh, f)) (omega (arith, es, room)) (omega (arith, room)) (omega (arith, room, f))
  phase_between o (Returning h) =
      let ee = code.even_exit in
      let eh = code.high_exit in
      piece_between o (exit + 30) c.sp h.piece h.next (code.no_exit_marks 15 (omega arith)) (omega (arith, ee)) (omega (arith, eh)) words.even_sp (omega (arith, room)) (omega arith)
  phase_between o (Over h b) = b

  -- one instruction: it is fair, and leads to a phase with less to come
  record Moved (o : Open) (now : Moment) (b : ℕ) : Type 0 where
    fair : IsFair K now o
    to : Open
    same : went K now o ≡ to
    next : Phase to
    less : length to.done ≡ length o.done → budget next < b

  -- entry: one register more
  push_step : (i : ℕ) (o : Open) (now : Moment) → IsMoment now → IsPushing (suc i) o → Moved o now (suc i + (16 + bound))
  push_step i o now ok h =
      let f = h.few in
      let eh = code.high_entry in
      let es = words.even_sp in
      let p = h.piece.pc in
      let s = h.piece.sp in
      let j = joined_now K now o in
      let at : entry + 2 * (12 - suc i) ≡ entry + 2 * (11 - i) = omega arith in
      let f0 : word_at j.bus j.cpu.pc ≡ 0x1204 + i = ap (word_at j.bus) (p ∙ at) ∙ stands (code.pushes i (omega (arith, f))) j.bus refl in
      let v = slice_index o.cpu.others i % 0x10000 in
      let ram' = with_word_at j.bus.ram (o.cpu.sp - 2) v in
      let c' : Cpu = record { pc = wrap16 (wrap16 (o.cpu.pc + 2) + 0); sp = o.cpu.sp - 2; sr = o.cpu.sr; others = o.cpu.others; gate = gie o.cpu } in
      let step = pushes end now.answer j i (omega (arith, f)) h.piece.off f0 (ap even s ∙ omega (arith, es, room, f) ∙ sym s) (omega (arith, s, room, low_end, f)) (omega (arith, s, high)) (omega (arith, s, room, f)) refl in
      let unmarked : marks o.cpu.pc ≡ [] = ap marks p ∙ entry_marks (suc i) h.few in
      let above : (a : ℕ) → o.cpu.sp ≤ a → a < c.sp + 4 → ram' a ≡ o.ram a = λ a le lt. byte_above j.bus.ram (o.cpu.sp - 2) v a (omega (arith, le, s, room)) ∙ own now.bytes o.cpu.sp (c.sp + 4) o.ram a le lt in
      let word_above : (a : ℕ) → o.cpu.sp ≤ a → a + 1 < c.sp + 4 → word_in ram' a ≡ word_in o.ram a = λ a le lt. ap (λ x. x + 256 * ram' (a + 1)) (above a le (omega (arith, lt))) ∙ ap (λ x. o.ram a + 256 * x) (above (a + 1) (omega (arith, le)) lt) in
      let w = h.piece.word i in
      let one : word_in ram' (o.cpu.sp - 2) ≡ slice_index c.others i = word_top j.bus.ram (o.cpu.sp - 2) v (omega arith) ∙ omega (arith, w) ∙ ap (λ l. slice_index l i) h.others in
      record {
        fair = piece_fair K now o c' ram' step (λ a le. byte_above j.bus.ram (o.cpu.sp - 2) v a (omega (arith, le, s, room)) ∙ far now.bytes o.cpu.sp (c.sp + 4) o.ram a le) refl;
        to = record { cpu = c'; ram = ram'; done = o.done };
        same = piece_went K now o c' ram' step unmarked;
        next = Pushing i (record {
          piece = record {
            pc = omega (arith, p, eh, f);
            sp = omega (arith, s, room, f);
            sr = h.piece.sr;
            off = h.piece.off;
            closed = record { gate = h.piece.closed.gie; gie = h.piece.closed.gie };
            twelve = h.piece.twelve;
            word = h.piece.word;
            bytes = small_word j.bus.ram (o.cpu.sp - 2) v (small now.bytes o.cpu.sp (c.sp + 4) o.ram h.piece.bytes ok.bytes);
            base = λ a le lt. above a (omega (arith, le, s)) lt ∙ h.piece.base a le lt;
          };
          few = omega (arith, f);
          others = h.others;
          saved = λ k le lt. saved_by k le lt (k == i) refl one word_above;
          status = word_above c.sp (omega (arith, s)) (omega arith) ∙ h.status;
          done = h.done;
        });
        less = λ e. omega arith;
      }
    where
      saved_by : (k : ℕ) → i ≤ k → k < 12 → (t : Bool) → (k == i) ≡ t →
          word_in (with_word_at (joined_now K now o).bus.ram (o.cpu.sp - 2) (slice_index o.cpu.others i % 0x10000)) (o.cpu.sp - 2) ≡ slice_index c.others i →
          ((a : ℕ) → o.cpu.sp ≤ a → a + 1 < c.sp + 4 → word_in (with_word_at (joined_now K now o).bus.ram (o.cpu.sp - 2) (slice_index o.cpu.others i % 0x10000)) a ≡ word_in o.ram a) →
          word_in (with_word_at (joined_now K now o).bus.ram (o.cpu.sp - 2) (slice_index o.cpu.others i % 0x10000)) (S + 2 * k) ≡ slice_index c.others k
      saved_by k le lt true e one up =
          let same : k ≡ i = grind (arith, nat_tests) in
          let s = h.piece.sp in
          let f = h.few in
          let at : S + 2 * k ≡ o.cpu.sp - 2 = omega (arith, s, same, room, f) in
          ap (word_in (with_word_at (joined_now K now o).bus.ram (o.cpu.sp - 2) (slice_index o.cpu.others i % 0x10000))) at ∙ one ∙ ap (slice_index c.others) (sym same)
      saved_by k le lt false e one up =
          let more : suc i ≤ k = grind (arith, nat_tests) in
          let s = h.piece.sp in
          let f = h.few in
          up (S + 2 * k) (omega (arith, s, more, room, f)) (omega (arith, lt, room)) ∙ h.saved k more lt

  -- entry: the call of the body
  call_step : (body : ℕ) → IsCall image marks entry exit body → IsBodyLaw image end marks (λ k o. IsShut o) act body depth bound StartsShut → (o : Open) (now : Moment) → IsMoment now → IsPushing 0 o → Moved o now (0 + (16 + bound))
  call_step body call body_law o now ok h =
      let eh = code.high_entry in
      let es = words.even_sp in
      let p = h.piece.pc in
      let s = h.piece.sp in
      let lb = call.low_body in
      let j = joined_now K now o in
      let at : entry + 2 * (12 - 0) ≡ entry + 24 = omega arith in
      let f0 : word_at j.bus j.cpu.pc ≡ 0x12B0 = ap (word_at j.bus) (p ∙ at) ∙ stands call.calls j.bus refl in
      let e1 : wrap16 (o.cpu.pc + 2) ≡ entry + 26 = omega (arith, p, eh) in
      let f1 : word_at j.bus (wrap16 (j.cpu.pc + 2)) ≡ body = ap (word_at j.bus) e1 ∙ stands call.body_at j.bus refl in
      let v = wrap16 (wrap16 (o.cpu.pc + 2) + 2) in
      let ram' = with_word_at j.bus.ram (o.cpu.sp - 2) v in
      let c' : Cpu = record { pc = even (body % 0x10000); sp = o.cpu.sp - 2; sr = o.cpu.sr; others = o.cpu.others; gate = gie o.cpu } in
      let step = calls end now.answer j body h.piece.off f0 f1 (ap even s ∙ omega (arith, es, room) ∙ sym s) (omega (arith, s, room, low_end)) (omega (arith, s, high)) (omega (arith, s, room)) refl in
      let unmarked : marks o.cpu.pc ≡ [] = ap marks p ∙ last_marks in
      let above : (a : ℕ) → o.cpu.sp ≤ a → a < c.sp + 4 → ram' a ≡ o.ram a = λ a le lt. byte_above j.bus.ram (o.cpu.sp - 2) v a (omega (arith, le, s, room)) ∙ own now.bytes o.cpu.sp (c.sp + 4) o.ram a le lt in
      let word_above : (a : ℕ) → o.cpu.sp ≤ a → a + 1 < c.sp + 4 → word_in ram' a ≡ word_in o.ram a = λ a le lt. ap (λ x. x + 256 * ram' (a + 1)) (above a le (omega (arith, lt))) ∙ ap (λ x. o.ram a + 256 * x) (above (a + 1) (omega (arith, le)) lt) in
      let bytes' : (a : ℕ) → ram' a < 0x100 = small_word j.bus.ram (o.cpu.sp - 2) v (small now.bytes o.cpu.sp (c.sp + 4) o.ram h.piece.bytes ok.bytes) in
      let same_body : body % 0x10000 ≡ body = omega (arith, lb) in
      let to_body : even (body % 0x10000) ≡ body = ap even same_body ∙ call.even_body in
      let held : HoldsWords c' = record { pc = omega (arith, to_body, lb); even_pc = ap even to_body ∙ call.even_body ∙ sym to_body; even_sp = omega (arith, s, es, room); sr = h.piece.sr; twelve = h.piece.twelve; others = h.piece.word } in
      let law = body_law c' ram' to_body (h.piece.closed.gie, h.piece.closed.gie) h.piece.off held (omega (arith, s, room)) (omega (arith, s, room, high)) bytes' in
      record {
        fair = piece_fair K now o c' ram' step (λ a le. byte_above j.bus.ram (o.cpu.sp - 2) v a (omega (arith, le, s, room)) ∙ far now.bytes o.cpu.sp (c.sp + 4) o.ram a le) refl;
        to = record { cpu = c'; ram = ram'; done = o.done };
        same = piece_went K now o c' ram' step unmarked;
        next = InBody [] [] (record {
          cb = c';
          ramb = ram';
          top = omega (arith, s, room);
          law = law;
          runs = record { before_ok = tt; since_ok = tt; going = not_started (o.cpu.sp - 2); quiet = refl; few = some };
          same_cpu = refl;
          same_done = h.done;
          stack = λ a le lt. refl;
          back_at = let be = call.behind in word_top j.bus.ram (o.cpu.sp - 2) v (omega arith) ∙ omega (arith, p, eh, be);
          shut_start = h.piece.closed.gie;
          shut_gie = h.piece.closed.gie;
          bytes = bytes';
          saved = λ k le lt. word_above (S + 2 * k) (omega (arith, s)) (omega (arith, lt, room)) ∙ h.saved k le lt;
          status = word_above c.sp (omega (arith, s)) (omega arith) ∙ h.status;
          base = λ a le lt. above a (omega (arith, le, s)) lt ∙ h.piece.base a le lt;
        });
        less = λ e. omega arith;
      }
    where
      not_started : (a : ℕ) → cond (nat_le (a + 2) a) true false ≡ false
      not_started a = let t : nat_le (a + 2) a ≡ false = grind (arith, nat_tests) in ap (λ t. cond t true false) t

  -- exit: one register more
  pop_step : (p : ℕ) (o : Open) (now : Moment) → IsMoment now → p < 12 → IsPopping p o → Moved o now (14 - p)
  pop_step p o now ok lt h =
      let eh = code.high_exit in
      let es = words.even_sp in
      let pc = h.piece.pc in
      let s = h.piece.sp in
      let j = joined_now K now o in
      let f0 : word_at j.bus j.cpu.pc ≡ 0x4134 + p = ap (word_at j.bus) pc ∙ stands (code.pops p lt) j.bus refl in
      let v = word_in j.bus.ram o.cpu.sp in
      let c' : Cpu = record { pc = wrap16 (wrap16 (wrap16 (o.cpu.pc + 2) + 0) + 0); sp = o.cpu.sp + 2; sr = o.cpu.sr; others = slice_set o.cpu.others p v; gate = gie o.cpu } in
      let step = pops end now.answer j p lt h.piece.off f0 (ap even s ∙ omega (arith, es, room) ∙ sym s) (omega (arith, s, room, low_end)) (omega (arith, s, high, lt)) (omega (arith, s, room)) refl in
      let unmarked : marks o.cpu.pc ≡ [] = ap marks pc ∙ code.no_exit_marks p (omega (arith, lt)) in
      let keep : (a : ℕ) → o.cpu.sp ≤ a → a < c.sp + 4 → j.bus.ram a ≡ o.ram a = λ a le l. own now.bytes o.cpu.sp (c.sp + 4) o.ram a le l in
      let keep_word : (a : ℕ) → o.cpu.sp ≤ a → a + 1 < c.sp + 4 → word_in j.bus.ram a ≡ word_in o.ram a = λ a le l. ap (λ x. x + 256 * j.bus.ram (a + 1)) (keep a le (omega (arith, l))) ∙ ap (λ x. o.ram a + 256 * x) (keep (a + 1) (omega (arith, le)) l) in
      let value : v ≡ slice_index c.others p = keep_word o.cpu.sp (omega arith) (omega (arith, s, room, lt)) ∙ ap (word_in o.ram) s ∙ h.saved p (omega arith) lt in
      let w = words.others p in
      let tw = h.piece.twelve in
      record {
        fair = piece_fair K now o c' j.bus.ram step (λ a le. far now.bytes o.cpu.sp (c.sp + 4) o.ram a le) refl;
        to = record { cpu = c'; ram = j.bus.ram; done = o.done };
        same = piece_went K now o c' j.bus.ram step unmarked;
        next = Popping (suc p) (record {
          piece = record {
            pc = omega (arith, pc, eh, lt);
            sp = omega (arith, s);
            sr = h.piece.sr;
            off = h.piece.off;
            closed = record { gate = h.piece.closed.gie; gie = h.piece.closed.gie };
            twelve = length-set o.cpu.others p v ∙ tw;
            word = λ i. bounded i (i == p) refl v (omega (arith, value, w));
            bytes = small now.bytes o.cpu.sp (c.sp + 4) o.ram h.piece.bytes ok.bytes;
            base = λ a le l. keep a (omega (arith, le, s, room, lt)) l ∙ h.piece.base a le l;
          };
          few = lt;
          restored = λ i l. given i l (i == p) refl v value;
          saved = λ k le l. keep_word (S + 2 * k) (omega (arith, s, le)) (omega (arith, l, room)) ∙ h.saved k (omega (arith, le)) l;
          status = keep_word c.sp (omega (arith, s, room, lt)) (omega arith) ∙ h.status;
          next = h.next;
          all = h.all;
        });
        less = λ e. omega (arith, lt);
      }
    where
      bounded : (i : ℕ) (t : Bool) → (i == p) ≡ t → (v : ℕ) → v < 0x10000 → slice_index (slice_set o.cpu.others p v) i < 0x10000
      bounded i true e v l = let same : i ≡ p = grind (arith, nat_tests) in let tw = h.piece.twelve in let k : slice_index (slice_set o.cpu.others p v) i ≡ v = ap (slice_index (slice_set o.cpu.others p v)) same ∙ get_or-set_same o.cpu.others p v 0 (omega (arith, tw, lt)) in omega (arith, k, l)
      bounded i false e v l = let k : slice_index (slice_set o.cpu.others p v) i ≡ slice_index o.cpu.others i = get_or-set_other o.cpu.others p i v 0 (λ q. not_so (sym e ∙ same_now q)) in let w = h.piece.word i in omega (arith, k, w)
        where
          same_now : i ≡ p → (i == p) ≡ true
          same_now q = grind (arith, nat_tests)

      given : (i : ℕ) → i < suc p → (t : Bool) → (i == p) ≡ t → (v : ℕ) → v ≡ slice_index c.others p → slice_index (slice_set o.cpu.others p v) i ≡ slice_index c.others i
      given i l true e v value = let same : i ≡ p = grind (arith, nat_tests) in let tw = h.piece.twelve in ap (slice_index (slice_set o.cpu.others p v)) same ∙ get_or-set_same o.cpu.others p v 0 (omega (arith, tw, lt)) ∙ value ∙ ap (slice_index c.others) (sym same)
      given i l false e v value = get_or-set_other o.cpu.others p i v 0 (λ q. not_so (sym e ∙ same_now q)) ∙ h.restored i (grind (arith, nat_tests))
        where
          same_now : i ≡ p → (i == p) ≡ true
          same_now q = grind (arith, nat_tests)

  -- exit: CPUOFF is cleared in the saved status
  clear_step : (o : Open) (now : Moment) → IsMoment now → IsPopping 12 o → Moved o now (14 - 12)
  clear_step o now ok h =
      let eh = code.high_exit in
      let pc = h.piece.pc in
      let s = h.piece.sp in
      let j = joined_now K now o in
      let at : exit + 2 * 12 ≡ exit + 24 = omega arith in
      let sp : o.cpu.sp ≡ c.sp = omega (arith, s, room) in
      let f0 : word_at j.bus j.cpu.pc ≡ 0xC0B1 = ap (word_at j.bus) (pc ∙ at) ∙ stands code.clears j.bus refl in
      let e1 : wrap16 (o.cpu.pc + 2) ≡ exit + 26 = omega (arith, pc, eh) in
      let e2 : wrap16 (o.cpu.pc + 4) ≡ exit + 28 = omega (arith, pc, eh) in
      let f1 : word_at j.bus (wrap16 (j.cpu.pc + 2)) ≡ 0x0010 = ap (word_at j.bus) e1 ∙ stands code.bit_4 j.bus refl in
      let f2 : word_at j.bus (wrap16 (j.cpu.pc + 4)) ≡ 0 = ap (word_at j.bus) e2 ∙ stands code.at_sp j.bus refl in
      let v = bit_and (word_in j.bus.ram o.cpu.sp) (0x10000 - 1 - 16) in
      let ram' = with_word_at j.bus.ram o.cpu.sp v in
      let c' : Cpu = record { pc = wrap16 (wrap16 (wrap16 (o.cpu.pc + 2) + 2) + 2); sp = o.cpu.sp; sr = o.cpu.sr; others = o.cpu.others; gate = gie o.cpu } in
      let step = clears end now.answer j h.piece.off f0 f1 f2 (ap even sp ∙ words.even_sp ∙ sym sp) (omega (arith, sp, room, low_end)) (omega (arith, sp, high)) (omega (arith, sp, room)) refl in
      let unmarked : marks o.cpu.pc ≡ [] = ap marks pc ∙ code.no_exit_marks 12 (omega arith) in
      let keep : (a : ℕ) → o.cpu.sp ≤ a → a < c.sp + 4 → j.bus.ram a ≡ o.ram a = λ a le l. own now.bytes o.cpu.sp (c.sp + 4) o.ram a le l in
      let status : word_in j.bus.ram o.cpu.sp ≡ word_in ram c.sp = ap (λ x. x + 256 * j.bus.ram (o.cpu.sp + 1)) (keep o.cpu.sp (omega arith) (omega (arith, sp))) ∙ ap (λ x. o.ram o.cpu.sp + 256 * x) (keep (o.cpu.sp + 1) (omega arith) (omega (arith, sp))) ∙ ap (word_in o.ram) sp ∙ h.status in
      let b0 = small_ram c.sp in
      let b1 = small_ram (c.sp + 1) in
      let new : v ≡ awake_sr (word_in ram c.sp) = ap (λ x. bit_and x (0x10000 - 1 - 16)) status ∙ cleared (word_in ram c.sp) (omega (arith, b0, b1)) in
      let v_low : v < 0x10000 = let k = awake_low (word_in ram c.sp) (omega (arith, b0, b1)) in omega (arith, new, k) in
      let tw = h.piece.twelve in
      record {
        fair = piece_fair K now o c' ram' step (λ a le. byte_above j.bus.ram o.cpu.sp v a (omega (arith, le, sp)) ∙ far now.bytes o.cpu.sp (c.sp + 4) o.ram a le) refl;
        to = record { cpu = c'; ram = ram'; done = o.done };
        same = piece_went K now o c' ram' step unmarked;
        next = Returning (record {
          piece = record {
            pc = omega (arith, pc, eh);
            sp = sp;
            sr = h.piece.sr;
            off = h.piece.off;
            closed = record { gate = h.piece.closed.gie; gie = h.piece.closed.gie };
            twelve = tw;
            word = h.piece.word;
            bytes = small_word j.bus.ram o.cpu.sp v (small now.bytes o.cpu.sp (c.sp + 4) o.ram h.piece.bytes ok.bytes);
            base = λ a le l. byte_above j.bus.ram o.cpu.sp v a (omega (arith, le, sp)) ∙ keep a (omega (arith, le, sp)) l ∙ h.piece.base a le l;
          };
          others = ext_get_or 0 o.cpu.others c.others (tw ∙ sym words.twelve) (λ i l. h.restored i (omega (arith, l, tw)));
          status = ap (word_in ram') (sym sp) ∙ word_top j.bus.ram o.cpu.sp v v_low ∙ new;
          next = h.next;
          all = h.all;
        });
        less = λ e. omega arith;
      }

  -- exit: RETI
  return_step : (o : Open) (now : Moment) → IsMoment now → IsReturning o → Moved o now 1
  return_step o now ok h =
      let pc = h.piece.pc in
      let sp = h.piece.sp in
      let j = joined_now K now o in
      let f0 : word_at j.bus j.cpu.pc ≡ 0x1300 = ap (word_at j.bus) pc ∙ stands code.returns j.bus refl in
      let c' : Cpu = record { pc = even (word_in j.bus.ram (o.cpu.sp + 2)); sp = o.cpu.sp + 4; sr = word_in j.bus.ram o.cpu.sp; others = o.cpu.others; gate = bit (word_in j.bus.ram o.cpu.sp) 3 } in
      let step = returns end now.answer j h.piece.off f0 (ap even sp ∙ words.even_sp ∙ sym sp) (omega (arith, sp, room, low_end)) (omega (arith, sp, high)) (omega (arith, sp, room)) refl in
      let unmarked : marks o.cpu.pc ≡ [] = ap marks pc ∙ code.no_exit_marks 15 (omega arith) in
      let keep : (a : ℕ) → o.cpu.sp ≤ a → a < c.sp + 4 → j.bus.ram a ≡ o.ram a = λ a le l. own now.bytes o.cpu.sp (c.sp + 4) o.ram a le l in
      let keep_word : (a : ℕ) → o.cpu.sp ≤ a → a + 1 < c.sp + 4 → word_in j.bus.ram a ≡ word_in o.ram a = λ a le l. ap (λ x. x + 256 * j.bus.ram (a + 1)) (keep a le (omega (arith, l))) ∙ ap (λ x. o.ram a + 256 * x) (keep (a + 1) (omega (arith, le)) l) in
      let status : word_in j.bus.ram o.cpu.sp ≡ awake_sr (word_in ram c.sp) = keep_word o.cpu.sp (omega arith) (omega (arith, sp)) ∙ ap (word_in o.ram) sp ∙ h.status in
      let sp2 : o.cpu.sp + 2 ≡ c.sp + 2 = omega (arith, sp) in
      let address : word_in j.bus.ram (o.cpu.sp + 2) ≡ word_in ram (c.sp + 2) =
      keep_word (o.cpu.sp + 2) (omega arith) (omega (arith, sp)) ∙ ap (word_in o.ram) sp2 ∙ ap (λ x. x + 256 * o.ram (c.sp + 2 + 1)) (h.piece.base (c.sp + 2) (omega arith) (omega arith)) ∙ ap (λ x. ram (c.sp + 2) + 256 * x) (h.piece.base (c.sp + 2 + 1) (omega arith) (omega arith)) in
      let sp4 : o.cpu.sp + 4 ≡ c.sp + 4 = omega (arith, sp) in
      let back : c' ≡ resumed_by c ram =
      ap (λ x. record { pc = even x; sp = o.cpu.sp + 4; sr = word_in j.bus.ram o.cpu.sp; others = o.cpu.others; gate = bit (word_in j.bus.ram o.cpu.sp) 3 }) address
      ∙ ap (λ x. record { pc = even (word_in ram (c.sp + 2)); sp = x; sr = word_in j.bus.ram o.cpu.sp; others = o.cpu.others; gate = bit (word_in j.bus.ram o.cpu.sp) 3 }) sp4
      ∙ ap (λ x. record { pc = even (word_in ram (c.sp + 2)); sp = c.sp + 4; sr = x; others = o.cpu.others; gate = bit x 3 }) status
      ∙ ap (λ x. record { pc = even (word_in ram (c.sp + 2)); sp = c.sp + 4; sr = awake_sr (word_in ram c.sp); others = x; gate = bit (awake_sr (word_in ram c.sp)) 3 }) h.others in
      let to : Open = record { cpu = c'; ram = j.bus.ram; done = o.done } in
      let is_there : is_back K.top to ≡ true = at_top (o.cpu.sp + 4) (omega (arith, sp)) in
      let over : is_over K.top to ≡ true = ap (λ t. cond t true (is_some (fault_of o.done))) is_there in
      let b0 = small_ram c.sp in
      let b1 = small_ram (c.sp + 1) in
      let b2 = small_ram (c.sp + 2) in
      let b3 = small_ram (c.sp + 2 + 1) in
      let low_sr = awake_low (word_in ram c.sp) (omega (arith, b0, b1)) in
      let es = words.even_sp in
      record {
        fair = record {
          runs = (piece_fair_runs o now c' j.bus.ram step);
          outs = subst AreWordOuts (sym (ap (λ (x : Step (logged_bus end now.answer)). x.after.bus.ports) step)) tt;
          alone = let e : length (instruction K now o).after.bus.ports ≡ 0 = ap (λ (x : Step (logged_bus end now.answer)). length x.after.bus.ports) step in omega (arith, e);
          leaves = λ a le d. ap (λ (x : Step (logged_bus end now.answer)). x.after.bus.ram a) step ∙ far now.bytes o.cpu.sp (c.sp + 4) o.ram a le;
          gate = λ b. absurd (not_so (sym b ∙ ap (is_back K.top) (piece_went K now o c' j.bus.ram step unmarked) ∙ is_there));
        };
        to = to;
        same = piece_went K now o c' j.bus.ram step unmarked;
        next = Over over (record {
          next = h.next;
          low = omega (arith, sp, room);
          high = omega (arith, sp);
          words = record { pc = omega (arith, address, b2, b3); even_pc = omega arith; even_sp = omega (arith, es, sp); sr = omega (arith, status, low_sr); twelve = h.piece.twelve; others = h.piece.word };
          bytes = small now.bytes o.cpu.sp (c.sp + 4) o.ram h.piece.bytes ok.bytes;
          marks = λ b. absurd (not_so (sym b ∙ over));
          gate = λ n. absurd (not_so (sym n ∙ over));
          awake = λ b. absurd (not_so (sym b ∙ is_there));
          back = λ b. record { cpu = back; all = h.all };
        });
        less = λ e. omega arith;
      }
    where
      at_top : (n : ℕ) → c.sp + 4 ≤ n → nat_le (c.sp + 4) n ≡ true
      at_top n le = grind (arith, nat_tests)

      piece_fair_runs : (o : Open) (now : Moment) (c' : Cpu) (ram' : ℕ → ℕ) → Leaves K now o c' ram' → (instruction K now o).stepped ≡ stepped_of (logged_bus end now.answer) (fault_of (instruction K now o).after.bus.ports)
      piece_fair_runs o now c' ram' s = ap (λ (x : Step (logged_bus end now.answer)). x.stepped) s ∙ sym (ap (λ (x : Step (logged_bus end now.answer)). stepped_of (logged_bus end now.answer) (fault_of x.after.bus.ports)) s)

  -- an instruction of the body
  module _ (before since : List Moment) (o : Open) (now : Moment) (ok : IsMoment now) (h : IsBody before since o) where
    abbrev B : Code
    B = Kb h.cb

    abbrev ob : Open
    ob = open_all B (before ++ since) (open_start h.cb h.ramb)

    abbrev Back' : Open → Type 0
    Back' = HasReturned act h.cb h.ramb

    -- the same moment, as the body sees it
    abbrev inner : Moment
    inner = record { bytes = disturbed now.bytes o.cpu.sp (c.sp + 4) o.ram; answer = now.answer; interrupted = now.interrupted }

    inner_ok : IsMoment inner
    inner_ok = record { bytes = small now.bytes o.cpu.sp (c.sp + 4) o.ram h.bytes ok.bytes; answer = ok.answer }

    abbrev ob' : Open
    ob' = went B inner ob

    btw : IsBetween act B (h.cb.sp - depth) IsShut Back' ob
    btw = between_at act B (h.cb.sp - depth) bound IsShut Back' h.cb h.ramb h.law before since h.runs

    btw' : IsBetween act B (h.cb.sp - depth) IsShut Back' ob'
    btw' = between_after act B (h.cb.sp - depth) bound IsShut Back' h.cb h.ramb h.law before since inner h.runs inner_ok

    fair : IsFair B inner ob
    fair = fair_at act B (h.cb.sp - depth) bound IsShut Back' h.cb h.ramb h.law before since inner h.runs inner_ok

    sp_same : o.cpu.sp ≡ ob.cpu.sp
    sp_same = ap (λ (k : Cpu). k.sp) h.same_cpu

    under : o.cpu.sp ≤ S
    under = let b = btw.high in let t = h.top in omega (arith, b, t, sp_same)

    same_memory : (a : ℕ) (t : Bool) → (nat_le ob.cpu.sp a && nat_lt a (h.cb.sp + 2)) ≡ t → disturbed now.bytes o.cpu.sp (c.sp + 4) o.ram a ≡ cond t (ob.ram a) (disturbed now.bytes o.cpu.sp (c.sp + 4) o.ram a)
    same_memory a false e = refl
    same_memory a true e =
        let l : ob.cpu.sp ≤ a = grind (arith, nat_tests) in
        let u : a < h.cb.sp + 2 = grind (arith, nat_tests) in
        let t = h.top in
        own now.bytes o.cpu.sp (c.sp + 4) o.ram a (omega (arith, l, sp_same)) (omega (arith, u, t, room)) ∙ h.stack a (omega (arith, l, sp_same)) (omega (arith, u, t))

    same_joined : joined_now K now o ≡ joined_now B inner ob
    same_joined =
        ap (λ (k : Cpu). record { cpu = settled now.interrupted k; bus = record { ram = disturbed now.bytes o.cpu.sp (c.sp + 4) o.ram; code = image; ports = [] } }) h.same_cpu
        ∙ ap (λ f. record { cpu = settled now.interrupted ob.cpu; bus = record { ram = f; code = image; ports = [] } }) (fun_ext (λ a. same_memory a (nat_le ob.cpu.sp a && nat_lt a (h.cb.sp + 2)) refl))

    same_step : instruction K now o ≡ instruction B inner ob
    same_step = ap (run_or_idle (logged_bus end now.answer)) same_joined

    same_went : went K now o ≡ ob'
    same_went =
        ap (λ (s : Step (logged_bus end now.answer)). record { cpu = s.after.cpu; ram = s.after.bus.ram; done = o.done ++ (silent (marks o.cpu.pc) ++ s.after.bus.ports) }) same_step
        ∙ ap (λ l. record { cpu = ob'.cpu; ram = ob'.ram; done = l ++ (silent (marks o.cpu.pc) ++ (instruction B inner ob).after.bus.ports) }) h.same_done
        ∙ ap (λ (k : Cpu). record { cpu = ob'.cpu; ram = ob'.ram; done = ob.done ++ (silent (marks k.pc) ++ (instruction B inner ob).after.bus.ports) }) h.same_cpu

    -- what lies above the body's stack is kept
    above : (a : ℕ) → S ≤ a → a < c.sp + 4 → ob'.ram a ≡ o.ram a
    above a le lt = let t = h.top in fair.leaves a (omega (arith, le, t)) (no_data a (is_data end a) refl le) ∙ own now.bytes o.cpu.sp (c.sp + 4) o.ram a (omega (arith, le, under)) lt
      where
        no_data : (a : ℕ) (t : Bool) → is_data end a ≡ t → S ≤ a → t ≡ false
        no_data a false e le = refl
        no_data a true e le = let k : a < end = grind (arith, nat_tests) in absurd (omega (arith, k, le, room))

    word_above : (a : ℕ) → S ≤ a → a + 1 < c.sp + 4 → word_in ob'.ram a ≡ word_in o.ram a
    word_above a le lt = ap (λ x. x + 256 * ob'.ram (a + 1)) (above a le (omega (arith, lt))) ∙ ap (λ x. o.ram a + 256 * x) (above (a + 1) (omega (arith, le)) lt)

    gie_shut : gie o.cpu ≡ false
    gie_shut = ap gie h.same_cpu ∙ (btw.gate h.runs.going).gie

    gate_after : is_back K.top (went K now o) ≡ false → (went K now o).cpu.gate ≡ gie o.cpu
    gate_after e = by_back (is_back B.top ob') refl
      where
        by_back : (t : Bool) → is_back B.top ob' ≡ t → (went K now o).cpu.gate ≡ gie o.cpu
        by_back true b = ap (λ (q : Open). q.cpu.gate) same_went ∙ (btw'.back b).gate ∙ h.shut_start ∙ sym gie_shut
        by_back false b = ap (λ (q : Open). q.cpu.gate) same_went ∙ fair.gate b ∙ sym (ap gie h.same_cpu)

    outer_fair : IsFair K now o
    outer_fair = record {
      runs = ap (λ (s : Step (logged_bus end now.answer)). s.stepped) same_step ∙ fair.runs ∙ sym (ap (λ (s : Step (logged_bus end now.answer)). stepped_of (logged_bus end now.answer) (fault_of s.after.bus.ports)) same_step);
      outs = subst AreWordOuts (sym (ap (λ (s : Step (logged_bus end now.answer)). s.after.bus.ports) same_step)) fair.outs;
      alone = let e : length (instruction K now o).after.bus.ports ≡ length (instruction B inner ob).after.bus.ports = ap (λ (s : Step (logged_bus end now.answer)). length s.after.bus.ports) same_step in let f = fair.alone in omega (arith, e, f);
      leaves = λ a le d. let t = h.top in ap (λ (s : Step (logged_bus end now.answer)). s.after.bus.ram a) same_step ∙ fair.leaves a (omega (arith, le, t, room)) d ∙ far now.bytes o.cpu.sp (c.sp + 4) o.ram a le;
      gate = gate_after;
    }

    abbrev Result : Type 0
    Result = Moved o now ((bound - length since) + 15)

    few_since : length since < bound
    few_since = h.runs.few

    -- the body is back
    came_back : is_back B.top ob' ≡ true → Result
    came_back b =
        let R = btw'.back b in
        let eh = code.high_exit in
        let ee = code.even_exit in
        let ba = h.back_at in
        let t = h.top in
        let pc : ob'.cpu.pc ≡ exit + 2 * 0 = R.pc ∙ ap even ba ∙ omega (arith, ee) in
        let sp : ob'.cpu.sp ≡ S + 2 * 0 = R.sp ∙ omega (arith, t) in
        let w = btw'.words in
        record {
          fair = outer_fair;
          to = ob';
          same = same_went;
          next = Popping 0 (record {
            piece = record {
              pc = pc;
              sp = sp;
              sr = w.sr;
              off = R.awake;
              closed = record { gate = R.gate ∙ h.shut_start; gie = R.gie ∙ h.shut_gie };
              twelve = w.twelve;
              word = w.others;
              bytes = btw'.bytes;
              base = λ a le lt. above a (omega (arith, le)) lt ∙ h.base a le lt;
            };
            few = omega arith;
            restored = λ i l. absurd (omega (arith, l));
            saved = λ k le lt. word_above (S + 2 * k) (omega arith) (omega (arith, lt, room)) ∙ h.saved k le lt;
            status = word_above c.sp (omega arith) (omega arith) ∙ h.status;
            next = btw'.next;
            all = R.all;
          });
          less = λ e. omega (arith, few_since);
        }

    -- it has raised a fault
    stopped : is_back B.top ob' ≡ false → is_some (fault_of ob'.done) ≡ true → Result
    stopped b f =
        let over : is_over K.top ob' ≡ true = by_back (is_back K.top ob') in
        record {
          fair = outer_fair;
          to = ob';
          same = same_went;
          next = Over over (body_between ob' ob' h.cb h.ramb h.top btw' refl refl btw'.bytes b (λ n. absurd (not_so (sym n ∙ over))));
          less = λ e. omega arith;
        }
      where
        by_back : (t : Bool) → cond t true (is_some (fault_of ob'.done)) ≡ true
        by_back true = refl
        by_back false = f

    -- it goes on
    goes_further : is_over B.top ob' ≡ false → Result
    goes_further on =
        let G = goes_on act B (h.cb.sp - depth) bound IsShut Back' h.cb h.ramb h.law before since inner some h.runs inner_ok on in
        let t = h.top in
        record {
          fair = outer_fair;
          to = ob';
          same = same_went;
          next = InBody G.before' G.since' (record {
            cb = h.cb;
            ramb = h.ramb;
            top = h.top;
            law = h.law;
            runs = G.runs;
            same_cpu = ap (λ (q : Open). q.cpu) (sym G.same);
            same_done = ap (λ (q : Open). q.done) (sym G.same);
            stack = λ a le lt. ap (λ (q : Open). q.ram a) (sym G.same);
            back_at = h.back_at;
            shut_start = h.shut_start;
            shut_gie = h.shut_gie;
            bytes = btw'.bytes;
            saved = λ k le lt. word_above (S + 2 * k) (omega arith) (omega (arith, lt, room)) ∙ h.saved k le lt;
            status = word_above c.sp (omega arith) (omega arith) ∙ h.status;
            base = λ a le lt. above a (omega (arith, le)) lt ∙ h.base a le lt;
          });
          less = λ e. let still : length ob'.done ≡ length ob.done = e ∙ ap length h.same_done in let n = G.left still in omega (arith, n, few_since);
        }

    body_step : Result
    body_step = by_back (is_back B.top ob') refl (is_some (fault_of ob'.done)) refl
      where
        by_back : (t : Bool) → is_back B.top ob' ≡ t → (f : Bool) → is_some (fault_of ob'.done) ≡ f → Result
        by_back true b f e = came_back b
        by_back false b true e = stopped b e
        by_back false b false e = goes_further (ap (λ t. cond t true (is_some (fault_of ob'.done))) b ∙ e)

  looser : (o : Open) (now : Moment) (a b : ℕ) → a ≤ b → Moved o now a → Moved o now b
  looser o now a b le m = record { fair = m.fair; to = m.to; same = m.same; next = m.next; less = λ e. let l = m.less e in omega (arith, l, le) }

  -- where entry ends, the body is called, or exit begins
  middle_step : Middle image marks end entry exit depth bound act → (o : Open) (now : Moment) → IsMoment now → IsPushing 0 o → Moved o now (0 + (16 + bound))
  middle_step (Through body call law) o now ok h = call_step body call law o now ok h
  middle_step (Straight e all) o now ok h =
      let p = h.piece.pc in
      let s = h.piece.sp in
      looser o now (14 - 0) (0 + (16 + bound)) (omega arith)
      (pop_step 0 o now ok (omega arith) (record {
        piece = record { pc = omega (arith, p, e); sp = omega (arith, s); sr = h.piece.sr; off = h.piece.off; closed = h.piece.closed; twelve = h.piece.twelve; word = h.piece.word; bytes = h.piece.bytes; base = h.piece.base };
        few = omega arith;
        restored = λ i l. absurd (omega (arith, l));
        saved = h.saved;
        status = h.status;
        next = next_none act o.done h.done;
        all = subst (AreAll act) (sym h.done) all;
      }))

  -- the step of each phase
  step_of : (o : Open) (ph : Phase o) (now : Moment) → IsMoment now → is_over K.top o ≡ false → Moved o now (budget ph)
  step_of o (Pushing zero h) now ok on = middle_step middle o now ok h
  step_of o (Pushing (suc i) h) now ok on = push_step i o now ok h
  step_of o (InBody before since h) now ok on = body_step before since o now ok h
  step_of o (Popping p h) now ok on = by_last (p == 12) refl
    where
      by_last : (t : Bool) → (p == 12) ≡ t → Moved o now (14 - p)
      by_last true e = let last : p ≡ 12 = grind (arith, nat_tests) in subst (λ n. Moved o now (14 - n)) (sym last) (clear_step o now ok (subst (λ n. IsPopping n o) last h))
      by_last false e = let f = h.few in pop_step p o now ok (grind (arith, nat_tests)) h
  step_of o (Returning h) now ok on = return_step o now ok h
  step_of o (Over over b) now ok on = absurd (not_so (sym on ∙ over))

  open_one : (o : Open) (now : Moment) → is_over K.top o ≡ false → open_step K now o ≡ went K now o
  open_one o now on = ap (λ t. cond t o (went K now o)) on

  open_over : (o : Open) (now : Moment) → is_over K.top o ≡ true → open_step K now o ≡ o
  open_over o now over = ap (λ t. cond t o (went K now o)) over

  -- after any moments it is in a phase
  phase_after : (moments : List Moment) (o : Open) → Phase o → AllByRecursion IsMoment moments → Phase (open_all K moments o)
  phase_after [] o ph ok = ph
  phase_after (now ∷ more) o ph ok = phase_after more (open_step K now o) (by_over (is_over K.top o) refl) ok.1
    where
      by_over : (t : Bool) → is_over K.top o ≡ t → Phase (open_step K now o)
      by_over true e = subst Phase (sym (open_over o now e)) ph
      by_over false e = let m = step_of o ph now ok.0 e in subst Phase (sym (open_one o now e ∙ m.same)) m.next

  some_left : (o : Open) (ph : Phase o) → is_over K.top o ≡ false → 1 ≤ budget ph
  some_left o (Pushing n h) on = omega arith
  some_left o (InBody before since h) on = omega arith
  some_left o (Popping p h) on = let f = h.few in omega (arith, f)
  some_left o (Returning h) on = omega arith
  some_left o (Over over b) on = absurd (not_so (sym on ∙ over))

  -- where nothing is done for as long as may still come, it is over
  soon_over : (more : List Moment) (o : Open) (ph : Phase o) → AllByRecursion IsMoment more → budget ph ≤ length more → length (open_all K more o).done ≡ length o.done → is_over K.top (open_all K more o) ≡ true
  soon_over [] o ph ok few still = by_over (is_over K.top o) refl
    where
      by_over : (t : Bool) → is_over K.top o ≡ t → is_over K.top o ≡ true
      by_over true e = e
      by_over false e = let l = some_left o ph e in absurd (omega (arith, l, few))
  soon_over (now ∷ more) o ph ok few still =
      by_over (is_over K.top o) refl
      (λ e. soon_over more (step_of o ph now ok.0 e).to (step_of o ph now ok.0 e).next ok.1)
    where
      by_over : (t : Bool) → is_over K.top o ≡ t → ((e : is_over K.top o ≡ false) → budget (step_of o ph now ok.0 e).next ≤ length more → length (open_all K more (step_of o ph now ok.0 e).to).done ≡ length (step_of o ph now ok.0 e).to.done → is_over K.top (open_all K more (step_of o ph now ok.0 e).to) ≡ true) → is_over K.top (open_all K more (open_step K now o)) ≡ true
      by_over true e rest = ap (λ q. is_over K.top (open_all K more q)) (open_over o now e) ∙ ap (is_over K.top) (stays_over K more o e) ∙ e
      by_over false e rest =
          let m = step_of o ph now ok.0 e in
          let there : open_step K now o ≡ m.to = open_one o now e ∙ m.same in
          let end_same : length (open_all K more m.to).done ≡ length o.done = ap (λ q. length (open_all K more q).done) (sym there) ∙ still in
          let first : length o.done ≤ length m.to.done = subst (λ q. length o.done ≤ length q.done) m.same (longer o.done (silent (marks o.cpu.pc) ++ (instruction K now o).after.bus.ports)) in
          let then = grows K more m.to in
          let same_length : length m.to.done ≡ length o.done = omega (arith, first, then, end_same) in
          let l = m.less same_length in
          ap (λ q. is_over K.top (open_all K more q)) there ∙ rest e (omega (arith, l, few)) (end_same ∙ sym same_length)

  budget_low : (o : Open) (ph : Phase o) → budget ph ≤ bound + 28
  budget_low o (Pushing n h) = let f = h.few in omega (arith, f)
  budget_low o (InBody before since h) = omega arith
  budget_low o (Popping p h) = omega arith
  budget_low o (Returning h) = omega arith
  budget_low o (Over over b) = omega arith

  begins : Phase (open_start c ram)
  begins =
      let w = words in
      let none : bit c.sr 4 ≡ false = ap (λ n. bit n 4) no_sr in
      let none' : gie c ≡ false = ap (λ n. bit n 3) no_sr in
      Pushing 12 (record {
        piece = record {
          pc = at_entry ∙ omega arith;
          sp = omega arith;
          sr = w.sr;
          off = none;
          closed = record { gate = shut; gie = none' };
          twelve = w.twelve;
          word = w.others;
          bytes = small_ram;
          base = λ a le lt. refl;
        };
        few = omega arith;
        others = refl;
        saved = λ k le lt. absurd (omega (arith, le, lt));
        status = refl;
        done = refl;
      })

  pub survival : IsOpenCode act K low (bound + 28) IsShut Back c ram
  survival = record {
    between = λ moments ok. phase_between (open_all K moments (open_start c ram)) (phase_after moments (open_start c ram) begins ok);
    fair = λ moments now ok ok_now on. (step_of (open_all K moments (open_start c ram)) (phase_after moments (open_start c ram) begins ok) now ok_now on).fair;
    soon = λ moments more ok ok_more full still.
        let o = open_all K moments (open_start c ram) in
        let e : open_all K (moments ++ more) (open_start c ram) ≡ open_all K more o = open_on K moments more (open_start c ram) in
        let ph = phase_after moments (open_start c ram) begins ok in
        let l = budget_low o ph in
        ap (is_over K.top) e ∙ soon_over more o ph ok_more (omega (arith, l, full)) (sym (ap (λ (q : Open). length q.done) e) ∙ still);
  }

pub survives : Survives
survives image end marks act start depth bound body low_end some line serves c ram at_entry no_sr shut words room high bytes =
    let w = line_words image marks end depth bound act start body line serves in
    survival image marks end start w.behind depth bound act low_end w.code w.middle some c ram at_entry no_sr shut words room high bytes
