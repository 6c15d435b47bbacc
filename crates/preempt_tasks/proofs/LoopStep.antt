-- One step of the base: the code of reset, the bodies, and the loop that starts tasks or sleeps.
use Rattle.std.proofs.Common.{◌≡◌, ◌≢◌, ◌⊎◌, ⊎_elim, ℕ, pos, negsuc, suc, ◌+◌, ◌-◌, ◌*◌, ◌<◌, ◌≤◌, ◌==◌, nat_lt, Bool, true, false, cond, List, [], length, Some, None, refl, sym, ap, subst, ◌∙◌, arith, append-nil, get_or-set_same, get_or-set_other, length-set}
use Rattle.std.proofs.lemmas.Bool.Decides.{nat_tests, eqb_tells}
use Rattle.std.specs.Prelude.{is_some, slice_index, slice_set, bit_and, bit_or}
use Rattle.nm_base.specs.Lists.{bit}
use Rattle.mote_devices.specs.Board.{line_of}
use Rattle.mote_devices.specs.Outside.{Outside}
use Rattle.mote_devices.specs.WordBoards.{IsWordBoard}
use Rattle.run_meaning.specs.State.{State}
use Rattle.run_meaning.specs.Runs as runs
use Rattle.msp_isa.specs.declared.instr.Cond.TheVariants.{Jmp, Jne}
use Rattle.msp_isa.specs.declared.instr.Instr.{Instr}
use Rattle.msp_isa.specs.declared.instr.Instr.TheVariants.{Two, Jump}
use Rattle.msp_isa.specs.declared.instr.Op2.TheVariants.{Mov}
use Rattle.msp_isa.specs.declared.instr.Operand.TheVariants.{Reg, Immediate}
use Rattle.msp_isa.specs.Stands.{IsAt}
use Rattle.msp430_cpu.specs.declared.cpu.Stepped.TheVariants.{Ran}
use Rattle.msp430_cpu.specs.Cpu.{Cpu, gie, is_open}
use Rattle.msp430_cpu.specs.Exec.{Joined, exec, run_or_idle, jumped}
use Rattle.msp430_cpu.specs.Memory.{Memory}
use Rattle.preempt_core.specs.Law.{Bounds}
use Rattle.preempt_core.proofs.Waiting.{waits_line}
use Rattle.open_law.specs.Open.{HoldsWords}
use Rattle.code_pieces.specs.Pieces.{nop, open_gate}
use Rattle.preempt_bodies.specs.Bodies.{awake_sr}
use Rattle.preempt_bodies.proofs.Carry.{ops, IsCommon}
use Rattle.preempt_bodies.proofs.Enter.{resumed}
use Rattle.preempt_bodies.proofs.BaseStep.{awake_off, awake_gie, awake_low}
use Rattle.loop_runs.specs.Loop.{LoopState}
use Rattle.preempt_tasks.specs.Bodies.{close_gate, compare, take, fall_asleep, stack_of}
use Rattle.preempt_tasks.specs.Steps.{IsSourceBody, WaitsThrough}
use Rattle.preempt_tasks.proofs.Instructions as instructions
use Rattle.preempt_tasks.proofs.Instructions.{loop_cpu, joined, Leads, IsNext, even_at, compared_is, opened_gie, opened_cpuoff, opened_small, asleep_gie, asleep_cpuoff, asleep_small}
use Rattle.open_law.proofs.Homes.{closed_gie, closed_cpuoff, closed_small}
use Rattle.preempt_tasks.proofs.Standing.{StandsFrom, IsBack, Near, Far, stands}
use Rattle.preempt_tasks.proofs.Places.{Setting, Base, AtLoop, AtPause, AtPop, AtTest, AtChoice, AtSleep, Asleep, AtWake, AtNone, AtCompare, AtSkip, AtTake, AtStart, AtBack, gave_at, IsThere, origin, count, program, chosen, IsBase, base_context, base_bounds, has_room, OnBase, Outcome}

not_so : false ≡ true → ⊥
not_so h = cc

pub make_there : (a b sr : ℕ) (others : List ℕ) (g g' gie off : Bool) → a ≡ b → g ≡ g' → sr < 0x10000 → length others ≡ 12 → ((i : ℕ) → slice_index others i < 0x10000) → bit sr 3 ≡ gie → bit sr 4 ≡ off → IsThere b g' gie off (loop_cpu a sr others g)
make_there a b sr others g g' gie off e f small twelve regs gie_is off_is = record {
  sr = sr;
  others = others;
  cpu = ap (λ p. loop_cpu p sr others g) e ∙ ap (λ t. loop_cpu b sr others t) f;
  small = small;
  twelve = twelve;
  regs = regs;
  gie_is = gie_is;
  off_is = off_is;
}

-- R13 is written
module _ (others : List ℕ) (v : ℕ) where
  pub set_taken : length others ≡ 12 → slice_index (slice_set others 9 v) 9 ≡ v
  set_taken e = get_or-set_same others 9 v 0 (omega (arith, e))

  pub set_given : slice_index (slice_set others 9 v) 8 ≡ slice_index others 8
  set_given = get_or-set_other others 9 8 v 0 (λ e. omega (arith, e))

  pub set_regs : length others ≡ 12 → v < 0x10000 → ((i : ℕ) → slice_index others i < 0x10000) → (i : ℕ) → slice_index (slice_set others 9 v) i < 0x10000
  set_regs e small regs i = ⊎_elim
      (λ t. subst (λ k. slice_index (slice_set others 9 v) k < 0x10000) (sym t.1) (subst (λ x. x < 0x10000) (sym (set_taken e)) small))
      (λ t. subst (λ x. x < 0x10000) (sym (get_or-set_other others 9 i v 0 t.1)) (regs i))
      (eqb_tells i 9)

pub resumed_words : (c : Cpu) → HoldsWords c → HoldsWords (resumed c)
resumed_words c w = record { pc = w.pc; even_pc = w.even_pc; even_sp = w.even_sp; sr = awake_low c.sr w.sr; twelve = w.twelve; others = w.others }

-- where it was interrupted in the loop
pub resumed_there : (at : ℕ) (g gie off : Bool) (c : Cpu) → IsThere at g gie off c → IsThere at gie gie false (resumed c)
resumed_there at g gie off c h = record {
  sr = awake_sr h.sr;
  others = h.others;
  cpu = ap resumed h.cpu ∙ ap (λ t. loop_cpu at (awake_sr h.sr) h.others t) (awake_gie h.sr ∙ h.gie_is);
  small = awake_low h.sr h.small;
  twelve = h.twelve;
  regs = h.regs;
  gie_is = awake_gie h.sr ∙ h.gie_is;
  off_is = awake_off h.sr;
}

pub there_words : (at : ℕ) (g gie off : Bool) (c : Cpu) (image : ℕ → ℕ) (i : Instr) → IsThere at g gie off c → IsAt image at i → HoldsWords c
there_words at g gie off c image i h is =
    let hi = is.high in
    subst HoldsWords (sym h.cpu) (record { pc = omega (arith, hi); even_pc = even_at at is.even; even_sp = refl; sr = h.small; twelve = h.twelve; others = h.regs })

pub open_of : (at : ℕ) (gie : Bool) (c : Cpu) → IsThere at true gie false c → is_open c ≡ true
open_of at gie c h = ap is_open h.cpu ∙ ap (λ t. cond t (bit h.sr 3) true) h.off_is

pub shut_of : (at : ℕ) (gie : Bool) (c : Cpu) → IsThere at false gie false c → is_open c ≡ false
shut_of at gie c h = ap is_open h.cpu ∙ ap (λ t. cond t (bit h.sr 3) false) h.off_is

module _ (S : Setting) where
  abbrev pub Common : State → Memory Outside → Type 0
  Common r m = IsCommon IsWordBoard S.image S.z.data_end r m

  pub low_end : S.z.data_end ≤ 0x3900
  low_end = let r = has_room S in omega (arith, r)

  pub T : StandsFrom S.image (origin S) S.z
  T = stands S.K S.pop S.image S.marks S.z S.built

  -- a step that is no move
  pub silent_step : (s : LoopState) (j j' : Joined (Memory Outside)) (q : Bounds) (base : Base) → exec ops j ≡ record { after = j'; stepped = Ran } → j'.bus.ports ≡ j.bus.ports → IsBase S base j'.cpu j'.bus.ram →
      s.run.base ≡ base_context S base → s.gave ≡ gave_at base → s.run.handler ≡ None → Common s.run j'.bus → 0x3900 ≤ j'.cpu.sp + stack_of S.z →
      1 + (base_bounds S base j'.cpu).left ≤ q.left → (base_bounds S base j'.cpu).effects ≡ 0 → ((v : ℕ) → WaitsThrough S.K S.pop v s [] → 1 + (base_bounds S base j'.cpu).closed ≤ q.closed) →
      (IsSourceBody S.pop s.run.base → q.closed ≡ 1 → (base_bounds S base j'.cpu).closed ≡ 0) → Outcome S s j q
  silent_step s j j' q base exec_is ports is context gave none common deep left effects closed soon = record {
    moves = [];
    next = j';
    stepped = Ran;
    later = base_bounds S base j'.cpu;
    exec_is = exec_is;
    legal = tt;
    shown = ap (λ (o : Outside). o.shown) ports ∙ sym (append-nil j.bus.ports.shown);
    single = omega arith;
    goes = λ n. OnBase (record { base = base; is = is; context = context; gave = gave; no_handler = none; common = common; bounds = refl });
    halts = λ n. absurd (not_so n);
    idle = λ n. absurd (not_so n);
    deep = deep;
    spent = omega (arith, left);
    few = λ n. record { low = omega (arith, effects); counted = omega arith; falls = λ v h. omega (arith, effects) };
    prompt = λ n v h out. closed v h;
    no_line = λ v h z. let c = closed v h in omega (arith, c, z);
    marks = omega arith;
    turns = λ t. absurd (omega (arith, t));
    soon = λ b n c. soon b c;
    settles = λ b n c i. absurd (omega (arith, c));
    apart = λ p. (effects, refl);
  }

  -- the facts that stay in the loop
  pub record IsFreeAt (s : LoopState) (j : Joined (Memory Outside)) : Type 0 where
    pub no_base : s.run.base ≡ None
    pub no_handler : s.run.handler ≡ None
    pub common : Common s.run j.bus

  pub at_cpu : (j : Joined (Memory Outside)) (c c' : Cpu) (m' : Memory Outside) → j.cpu ≡ c → Leads c j.bus c' m' → exec ops j ≡ record { after = joined c' m'; stepped = Ran }
  at_cpu j c c' m' e l = subst (λ (k : Cpu). exec ops (joined k j.bus) ≡ record { after = joined c' m'; stepped = Ran }) (sym e) l

  pub next_of : (s : LoopState) (j : Joined (Memory Outside)) (at : ℕ) (g gie : Bool) (h : IsThere at g gie false j.cpu) → Common s.run j.bus → exec ops j ≡ run_or_idle ops j → (i : Instr) → IsAt S.image at i → IsNext S.image (loop_cpu at h.sr h.others g) j.bus i
  next_of s j at g gie h common go i is = record {
    code = common.code;
    at = is;
    awake = h.off_is;
    fine = common.runs;
    go = subst (λ (c : Cpu). exec ops (joined c j.bus) ≡ run_or_idle ops (joined c j.bus)) h.cpu go;
  }

  -- a step within the loop: memory stays
  steady : (s : LoopState) (j : Joined (Memory Outside)) (q : Bounds) (base : Base) (at at' sr' : ℕ) (g g' gie : Bool) (others' : List ℕ) (h : IsThere at g gie false j.cpu) → IsFreeAt s j → Leads (loop_cpu at h.sr h.others g) j.bus (loop_cpu at' sr' others' g') j.bus →
      IsBase S base (loop_cpu at' sr' others' g') j.bus.ram → base_context S base ≡ None → s.gave ≡ gave_at base →
      1 + (base_bounds S base (loop_cpu at' sr' others' g')).left ≤ q.left → (base_bounds S base (loop_cpu at' sr' others' g')).effects ≡ 0 → ((v : ℕ) → WaitsThrough S.K S.pop v s [] → 1 + (base_bounds S base (loop_cpu at' sr' others' g')).closed ≤ q.closed) → Outcome S s j q
  steady s j q base at at' sr' g g' gie others' h f leads is none_there gave left effects closed =
      silent_step s j (joined (loop_cpu at' sr' others' g') j.bus) q base (at_cpu j (loop_cpu at h.sr h.others g) (loop_cpu at' sr' others' g') j.bus h.cpu leads) refl is (f.no_base ∙ sym none_there) gave f.no_handler f.common (omega arith) left effects closed (λ b c. absurd (subst (IsSourceBody S.pop) f.no_base b))

  -- where the gate is open no line waits
  pub unheard : (s : LoopState) (v : ℕ) → line_of s.run.board ≡ None → WaitsThrough S.K S.pop v s [] → ⊥
  unheard s v no_line w = not_so (sym (ap is_some no_line) ∙ waits_line (program S) v s.run [] w)

  -- BIC #8, SR: the gate is still open
  pub loop_step : (s : LoopState) (j : Joined (Memory Outside)) → IsThere (origin S + 10) true true false j.cpu → IsFreeAt s j → s.gave ≡ None → line_of s.run.board ≡ None → exec ops j ≡ run_or_idle ops j → Outcome S s j (base_bounds S AtLoop j.cpu)
  loop_step s j h f gave no_line go =
      let n = next_of s j (origin S + 10) true true h f.common go close_gate T.closes in
      let l = instructions.closes S.image (origin S + 10) h.sr h.others true j.bus n h.small in
      steady s j (base_bounds S AtLoop j.cpu) (AtPause true) (origin S + 10) (origin S + 10 + 2) (bit_and h.sr 0xFFF7) true (bit h.sr 3) true h.others h f l
      (make_there (origin S + 10 + 2) (origin S + 12) (bit_and h.sr 0xFFF7) h.others (bit h.sr 3) true false false (omega arith) h.gie_is (closed_small h.sr) h.twelve h.regs (closed_gie h.sr) (closed_cpuoff h.sr ∙ h.off_is))
      refl gave (omega arith) refl (λ v w. absurd (unheard s v no_line w))

  -- NOP
  pub pause_step : (s : LoopState) (j : Joined (Memory Outside)) (g : Bool) → IsThere (origin S + 12) g false false j.cpu → IsFreeAt s j → s.gave ≡ None → (g ≡ true → line_of s.run.board ≡ None) → exec ops j ≡ run_or_idle ops j → Outcome S s j (base_bounds S (AtPause g) j.cpu)
  pause_step s j g h f gave open_none go =
      let n = next_of s j (origin S + 12) g false h f.common go nop T.pauses in
      let l = instructions.pauses S.image (origin S + 12) h.sr h.others g j.bus n in
      steady s j (base_bounds S (AtPause g) j.cpu) AtPop (origin S + 12) (origin S + 12 + 2) h.sr g (bit h.sr 3) false h.others h f l
      (make_there (origin S + 12 + 2) (origin S + 14) h.sr h.others (bit h.sr 3) false false false (omega arith) h.gie_is h.small h.twelve h.regs h.gie_is h.off_is)
      refl gave (omega arith) refl (λ v w. shut_there v w g refl)
    where
      shut_there : (v : ℕ) → WaitsThrough S.K S.pop v s [] → (t : Bool) → g ≡ t → 1 + 2 ≤ cond {A = ℕ} g 0 3
      shut_there v w true e = absurd (unheard s v (open_none e) w)
      shut_there v w false e = let c : cond {A = ℕ} g 0 3 ≡ 3 = ap (λ t. cond {A = ℕ} t 0 3) e in omega (arith, c)

  -- CMP #255, R12
  pub test_step : (s : LoopState) (j : Joined (Memory Outside)) (k : ℕ) → IsBase S (AtTest k) j.cpu j.bus.ram → IsFreeAt s j → s.gave ≡ Some k → exec ops j ≡ run_or_idle ops j → Outcome S s j (base_bounds S (AtTest k) j.cpu)
  unfolding make_there
  test_step s j k h0 f gave go =
      let h = h0.there in
      let n = next_of s j (origin S + 18) false false h f.common go (compare 255) T.tests in
      let l = instructions.compares S.image (origin S + 18) h.sr h.others false j.bus 255 n in
      let sr' = instructions.compared S.image (origin S + 18) h.sr h.others false j.bus 255 in
      let c = compared_is h.sr 255 (slice_index h.others 8) (omega arith) (h.regs 8) in
      steady s j (base_bounds S (AtTest k) j.cpu) (AtChoice k) (origin S + 18) (origin S + 18 + 4) sr' false (bit h.sr 3) false h.others h f l
      (record {
        there = make_there (origin S + 18 + 4) (origin S + 22) sr' h.others (bit h.sr 3) false false false (omega arith) h.gie_is c.small h.twelve h.regs (c.gie ∙ h.gie_is) (c.off ∙ h.off_is);
        given = h0.given;
        low = h0.low;
        status = c.zero ∙ ap (λ x. x == 255) h0.given;
        registers = tt;
      })
      refl gave (omega arith) refl (λ v w. omega arith)

  -- JNE over sleep
  pub choice_step : (s : LoopState) (j : Joined (Memory Outside)) (k : ℕ) → IsBase S (AtChoice k) j.cpu j.bus.ram → IsFreeAt s j → s.gave ≡ Some k → exec ops j ≡ run_or_idle ops j → Outcome S s j (base_bounds S (AtChoice k) j.cpu)
  unfolding make_there
  choice_step s j k h0 f gave go = ⊎_elim sleeps starts (eqb_tells k 255)
    where
      sleeps : (((k == 255) ≡ true) × (k ≡ 255)) → Outcome S s j (base_bounds S (AtChoice k) j.cpu)
      sleeps t =
          let h = h0.there in
          let n = next_of s j (origin S + 22) false false h f.common go (Jump Jne (pos 3)) T.chooses in
          let l = instructions.passes S.image (origin S + 22) h.sr h.others false j.bus 3 n (h0.status ∙ t.0) in
          steady s j (base_bounds S (AtChoice k) j.cpu) AtSleep (origin S + 22) (origin S + 22 + 2) h.sr false (bit h.sr 3) false h.others h f l
          (make_there (origin S + 22 + 2) (origin S + 24) h.sr h.others (bit h.sr 3) false false false (omega arith) h.gie_is h.small h.twelve h.regs h.gie_is h.off_is)
          refl (gave ∙ ap (λ x. Some x) t.1) (omega arith) refl (λ v w. omega arith)

      starts : (((k == 255) ≡ false) × (k ≢ 255)) → Outcome S s j (base_bounds S (AtChoice k) j.cpu)
      starts t =
          let h = h0.there in
          let n = next_of s j (origin S + 22) false false h f.common go (Jump Jne (pos 3)) T.chooses in
          let hi = T.nones.high in
          let l = instructions.skips S.image (origin S + 22) h.sr h.others false j.bus 3 n (h0.status ∙ t.0) (omega (arith, hi)) in
          let low = h0.low in
          let apart = t.1 in
          steady s j (base_bounds S (AtChoice k) j.cpu) (AtNone k) (origin S + 22) (origin S + 22 + 2 + 2 * 3) h.sr false (bit h.sr 3) false h.others h f l
          (record {
            there = make_there (origin S + 22 + 2 + 2 * 3) (origin S + 30) h.sr h.others (bit h.sr 3) false false false (omega arith) h.gie_is h.small h.twelve h.regs h.gie_is h.off_is;
            given = h0.given;
            low = omega (arith, low, apart);
            status = tt;
            registers = tt;
          })
          refl gave (omega arith) refl (λ v w. omega arith)

  -- BIS #0x18, SR
  pub sleep_step : (s : LoopState) (j : Joined (Memory Outside)) → IsThere (origin S + 24) false false false j.cpu → IsFreeAt s j → s.gave ≡ Some 255 → exec ops j ≡ run_or_idle ops j → Outcome S s j (base_bounds S AtSleep j.cpu)
  sleep_step s j h f gave go =
      let n = next_of s j (origin S + 24) false false h f.common go fall_asleep T.sleeps in
      let l = instructions.falls_asleep S.image (origin S + 24) h.sr h.others false j.bus n h.small in
      steady s j (base_bounds S AtSleep j.cpu) Asleep (origin S + 24) (origin S + 24 + 4) (bit_or h.sr 0x18) false (bit h.sr 3) false h.others h f l
      (make_there (origin S + 24 + 4) (origin S + 28) (bit_or h.sr 0x18) h.others (bit h.sr 3) false true true (omega arith) h.gie_is (asleep_small h.sr h.small) h.twelve h.regs (asleep_gie h.sr) (asleep_cpuoff h.sr))
      refl gave (omega arith) refl (λ v w. omega arith)

  -- JMP to the loop behind sleep
  pub wake_step : (s : LoopState) (j : Joined (Memory Outside)) → IsThere (origin S + 28) true true false j.cpu → IsFreeAt s j → s.gave ≡ None → line_of s.run.board ≡ None → exec ops j ≡ run_or_idle ops j → Outcome S s j (base_bounds S AtWake j.cpu)
  wake_step s j h f gave no_line go =
      let n = next_of s j (origin S + 28) true true h f.common go (Jump Jmp (negsuc 9)) T.wakes in
      let hi = T.wakes.high in
      let to : jumped (origin S + 28 + 2) (negsuc 9) ≡ origin S + 10 = omega (arith, hi) in
      let l = instructions.jumps S.image (origin S + 28) h.sr h.others true j.bus (negsuc 9) (origin S + 10) n to in
      steady s j (base_bounds S AtWake j.cpu) AtLoop (origin S + 28) (origin S + 10) h.sr true (bit h.sr 3) true h.others h f l
      (make_there (origin S + 10) (origin S + 10) h.sr h.others (bit h.sr 3) true true false refl h.gie_is h.small h.twelve h.regs h.gie_is h.off_is)
      refl gave (omega arith) refl (λ v w. absurd (unheard s v no_line w))

  -- the jump behind a task
  pub back_step : (s : LoopState) (j : Joined (Memory Outside)) → IsThere (origin S + (38 + 10 * count S)) true true false j.cpu → IsFreeAt s j → s.gave ≡ None → line_of s.run.board ≡ None → exec ops j ≡ run_or_idle ops j → Outcome S s j (base_bounds S AtBack j.cpu)
  back_step s j h f gave no_line go = by_form T.back
    where
      leads : Leads (loop_cpu (origin S + (38 + 10 * count S)) h.sr h.others true) j.bus (loop_cpu (origin S + 10) h.sr h.others (bit h.sr 3)) j.bus → Outcome S s j (base_bounds S AtBack j.cpu)
      leads l =
          steady s j (base_bounds S AtBack j.cpu) AtLoop (origin S + (38 + 10 * count S)) (origin S + 10) h.sr true (bit h.sr 3) true h.others h f l
          (make_there (origin S + 10) (origin S + 10) h.sr h.others (bit h.sr 3) true true false refl h.gie_is h.small h.twelve h.regs h.gie_is h.off_is)
          refl gave (omega arith) refl (λ v w. absurd (unheard s v no_line w))

      by_form : IsBack S.image (origin S + (38 + 10 * count S)) (origin S + 10) → Outcome S s j (base_bounds S AtBack j.cpu)
      by_form (Near k is to) = leads (instructions.jumps S.image (origin S + (38 + 10 * count S)) h.sr h.others true j.bus k (origin S + 10) (next_of s j (origin S + (38 + 10 * count S)) true true h f.common go (Jump Jmp k) is) to)
      by_form (Far is) =
          let hi = T.closes.high in
          leads (instructions.goes_to S.image (origin S + (38 + 10 * count S)) h.sr h.others true j.bus (origin S + 10) (next_of s j (origin S + (38 + 10 * count S)) true true h f.common go (Two Mov false (Immediate (origin S + 10)) (Reg 0)) is) (even_at (origin S + 10) T.closes.even) (omega (arith, hi)))

  -- MOV #none, R13
  pub none_step : (s : LoopState) (j : Joined (Memory Outside)) (k : ℕ) → IsBase S (AtNone k) j.cpu j.bus.ram → IsFreeAt s j → s.gave ≡ Some k → exec ops j ≡ run_or_idle ops j → Outcome S s j (base_bounds S (AtNone k) j.cpu)
  unfolding make_there
  none_step s j k h0 f gave go =
      let h = h0.there in
      let hi = S.built.lone.high in
      let small : S.z.none < 0x10000 = omega (arith, hi) in
      let n = next_of s j (origin S + 30) false false h f.common go (take S.z.none) T.nones in
      let l = instructions.takes S.image (origin S + 30) h.sr h.others false j.bus S.z.none n small in
      let none_below : nat_lt k 0 ≡ false = grind (arith, nat_tests) in
      steady s j (base_bounds S (AtNone k) j.cpu) (AtCompare k 0) (origin S + 30) (origin S + 30 + 4) h.sr false (bit h.sr 3) false (slice_set h.others 9 S.z.none) h f l
      (record {
        there = make_there (origin S + 30 + 4) (origin S + (34 + 10 * 0)) h.sr (slice_set h.others 9 S.z.none) (bit h.sr 3) false false false (omega arith) h.gie_is h.small (length-set h.others 9 S.z.none ∙ h.twelve) (set_regs h.others S.z.none h.twelve small h.regs) h.gie_is h.off_is;
        given = set_given h.others S.z.none ∙ h0.given;
        low = h0.low;
        status = tt;
        registers = (omega arith, set_taken h.others S.z.none h.twelve ∙ sym (ap (λ t. cond t (slice_index S.z.tasks k) S.z.none) none_below));
      })
      refl gave (omega arith) refl (λ v w. omega arith)

  -- CMP #i, R12; behind the last one BIS #8, SR
  pub compare_step : (s : LoopState) (j : Joined (Memory Outside)) (k i : ℕ) → IsBase S (AtCompare k i) j.cpu j.bus.ram → IsFreeAt s j → s.gave ≡ Some k → exec ops j ≡ run_or_idle ops j → Outcome S s j (base_bounds S (AtCompare k i) j.cpu)
  unfolding make_there
  compare_step s j k i h0 f gave go = by_test (nat_lt i (count S)) refl
    where
      compares : i < count S → Outcome S s j (base_bounds S (AtCompare k i) j.cpu)
      compares lt =
          let h = h0.there in
          let is = (T.choices i lt).compares in
          let hi = is.high in
          let pc = origin S + (34 + 10 * i) in
          let n = next_of s j pc false false h f.common go (compare i) is in
          let l = instructions.compares S.image pc h.sr h.others false j.bus i n in
          let sr' = instructions.compared S.image pc h.sr h.others false j.bus i in
          let c = compared_is h.sr i (slice_index h.others 8) (omega (arith, hi)) (h.regs 8) in
          steady s j (base_bounds S (AtCompare k i) j.cpu) (AtSkip k i) pc (pc + 4) sr' false (bit h.sr 3) false h.others h f l
          (record {
            there = make_there (pc + 4) (pc + 4) sr' h.others (bit h.sr 3) false false false refl h.gie_is c.small h.twelve h.regs (c.gie ∙ h.gie_is) (c.off ∙ h.off_is);
            given = h0.given;
            low = h0.low;
            status = (lt, c.zero ∙ ap (λ x. x == i) h0.given);
            registers = h0.registers;
          })
          refl gave (omega arith) refl (λ v w. omega arith)

      opens : i ≡ count S → Outcome S s j (base_bounds S (AtCompare k i) j.cpu)
      opens e =
          let h = h0.there in
          let pc = origin S + (34 + 10 * i) in
          let is : IsAt S.image pc open_gate = subst (λ x. IsAt S.image (origin S + (34 + 10 * x)) open_gate) (sym e) T.reopens in
          let n = next_of s j pc false false h f.common go open_gate is in
          let l = instructions.opens S.image pc h.sr h.others false j.bus n h.small in
          steady s j (base_bounds S (AtCompare k i) j.cpu) (AtStart k) pc (pc + 2) (bit_or h.sr 8) false (bit h.sr 3) false h.others h f l
          (record {
            there = make_there (pc + 2) (origin S + (36 + 10 * count S)) (bit_or h.sr 8) h.others (bit h.sr 3) false true false (omega (arith, e)) h.gie_is (opened_small h.sr h.small) h.twelve h.regs (opened_gie h.sr) (opened_cpuoff h.sr ∙ h.off_is);
            given = h0.given;
            low = h0.low;
            status = tt;
            registers = (omega arith, h0.registers.1 ∙ ap (chosen S k) e);
          })
          refl gave (omega (arith, e)) refl (λ v w. omega (arith, e))

      by_test : (t : Bool) → nat_lt i (count S) ≡ t → Outcome S s j (base_bounds S (AtCompare k i) j.cpu)
      by_test true e = compares (grind (arith, nat_tests))
      by_test false e = let le = h0.registers.0 in let ge : count S ≤ i = grind (arith, nat_tests) in opens (omega (arith, le, ge))

  -- JNE to the next one
  pub skip_step : (s : LoopState) (j : Joined (Memory Outside)) (k i : ℕ) → IsBase S (AtSkip k i) j.cpu j.bus.ram → IsFreeAt s j → s.gave ≡ Some k → exec ops j ≡ run_or_idle ops j → Outcome S s j (base_bounds S (AtSkip k i) j.cpu)
  unfolding make_there
  skip_step s j k i h0 f gave go = ⊎_elim same other (eqb_tells k i)
    where
      same : (((k == i) ≡ true) × (k ≡ i)) → Outcome S s j (base_bounds S (AtSkip k i) j.cpu)
      same t =
          let h = h0.there in
          let lt = h0.status.0 in
          let pc = origin S + (34 + 10 * i) + 4 in
          let n = next_of s j pc false false h f.common go (Jump Jne (pos 2)) (T.choices i lt).skips in
          let l = instructions.passes S.image pc h.sr h.others false j.bus 2 n (h0.status.1 ∙ t.0) in
          steady s j (base_bounds S (AtSkip k i) j.cpu) (AtTake k i) pc (pc + 2) h.sr false (bit h.sr 3) false h.others h f l
          (record {
            there = make_there (pc + 2) (origin S + (34 + 10 * i) + 6) h.sr h.others (bit h.sr 3) false false false (omega arith) h.gie_is h.small h.twelve h.regs h.gie_is h.off_is;
            given = h0.given;
            low = h0.low;
            status = (lt, t.1);
            registers = h0.registers;
          })
          refl gave (omega arith) refl (λ v w. omega arith)

      other : (((k == i) ≡ false) × (k ≢ i)) → Outcome S s j (base_bounds S (AtSkip k i) j.cpu)
      other t =
          let h = h0.there in
          let lt = h0.status.0 in
          let apart = t.1 in
          let pc = origin S + (34 + 10 * i) + 4 in
          let hi = (T.choices i lt).takes.high in
          let n = next_of s j pc false false h f.common go (Jump Jne (pos 2)) (T.choices i lt).skips in
          let l = instructions.skips S.image pc h.sr h.others false j.bus 2 n (h0.status.1 ∙ t.0) (omega (arith, hi)) in
          let test : nat_lt k (suc i) ≡ nat_lt k i = below k i apart in
          steady s j (base_bounds S (AtSkip k i) j.cpu) (AtCompare k (suc i)) pc (pc + 2 + 2 * 2) h.sr false (bit h.sr 3) false h.others h f l
          (record {
            there = make_there (pc + 2 + 2 * 2) (origin S + (34 + 10 * suc i)) h.sr h.others (bit h.sr 3) false false false (omega arith) h.gie_is h.small h.twelve h.regs h.gie_is h.off_is;
            given = h0.given;
            low = h0.low;
            status = tt;
            registers = (omega (arith, lt), h0.registers.1 ∙ sym (ap (λ b. cond b (slice_index S.z.tasks k) S.z.none) test));
          })
          refl gave (omega (arith, lt)) refl (λ v w. omega (arith, lt))
        where
          below : (a b : ℕ) → a ≢ b → nat_lt a (suc b) ≡ nat_lt a b
          below a b ne = grind (arith, nat_tests, ne)

  -- MOV #task, R13
  pub take_step : (s : LoopState) (j : Joined (Memory Outside)) (k i : ℕ) → IsBase S (AtTake k i) j.cpu j.bus.ram → IsFreeAt s j → s.gave ≡ Some k → exec ops j ≡ run_or_idle ops j → Outcome S s j (base_bounds S (AtTake k i) j.cpu)
  unfolding make_there
  take_step s j k i h0 f gave go =
      let h = h0.there in
      let lt = h0.status.0 in
      let e = h0.status.1 in
      let pc = origin S + (34 + 10 * i) + 6 in
      let address = slice_index S.z.tasks i in
      let small = (S.built.tasks i lt).low_start in
      let n = next_of s j pc false false h f.common go (take address) (T.choices i lt).takes in
      let l = instructions.takes S.image pc h.sr h.others false j.bus address n small in
      let test : nat_lt k (suc i) ≡ true = grind (arith, nat_tests, e) in
      steady s j (base_bounds S (AtTake k i) j.cpu) (AtCompare k (suc i)) pc (pc + 4) h.sr false (bit h.sr 3) false (slice_set h.others 9 address) h f l
      (record {
        there = make_there (pc + 4) (origin S + (34 + 10 * suc i)) h.sr (slice_set h.others 9 address) (bit h.sr 3) false false false (omega arith) h.gie_is h.small (length-set h.others 9 address ∙ h.twelve) (set_regs h.others address h.twelve small h.regs) h.gie_is h.off_is;
        given = set_given h.others address ∙ h0.given;
        low = h0.low;
        status = tt;
        registers = (omega (arith, lt), set_taken h.others address h.twelve ∙ ap (slice_index S.z.tasks) (sym e) ∙ sym (ap (λ b. cond b (slice_index S.z.tasks k) S.z.none) test));
      })
      refl gave (omega (arith, lt)) refl (λ v w. omega (arith, lt))
