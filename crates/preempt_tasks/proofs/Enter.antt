-- The acceptance of a line, as a loop move.
use Rattle.std.proofs.Common.{◌≡◌, ℕ, zero, suc, ◌+◌, ◌-◌, ◌*◌, ◌<◌, ◌≤◌, Bool, true, false, not, cond, [], ◌∷◌, Some, None, refl, sym, ap, subst, ◌∙◌, arith}
use Rattle.std.proofs.lemmas.Bool.Decides.{nat_tests}
use Rattle.std.specs.Prelude.{IsNone, nat_le}
use Rattle.nm_base.specs.Lists.{bit, number_of}
use Rattle.mote_devices.specs.declared.state.BoardState.{BoardState}
use Rattle.mote_devices.specs.Board.{board_ack, line_of, line_below, is_requested}
use Rattle.mote_devices.specs.Outside.{Outside, outside_accept}
use Rattle.mote_devices.specs.WordBoards.{IsWordBoard}
use Rattle.run_meaning.specs.declared.Move.TheVariants.{Enter}
use Rattle.run_meaning.specs.State.{is_inside}
use Rattle.msp430_cpu.specs.declared.cpu.Stepped.TheVariants.{Entered}
use Rattle.msp430_cpu.specs.Cpu.{Cpu, even, is_open, wrap16}
use Rattle.msp430_cpu.specs.Exec.{Joined, entered, pushed}
use Rattle.msp430_cpu.specs.Memory.{Memory, word_at, with_word_at, with_ram}
use Rattle.preempt_core.specs.Law.{Bounds, is_waiting}
use Rattle.preempt_core.proofs.Instruction.{enters}
use Rattle.open_law.specs.Open.{HoldsWords, is_over, open_start}
use Rattle.msp_isa.specs.Stands.{word_in}
use Rattle.preempt_bodies.specs.Bodies.{awake_sr, resumed_by}
use Rattle.preempt_bodies.proofs.WordBoards.{answers_words}
use Rattle.preempt_bodies.proofs.Words.{StandsAt, vector_at}
use Rattle.preempt_bodies.proofs.Logged.{data_high}
use Rattle.preempt_bodies.proofs.Carry.{ops, stands, IsCommon}
use Rattle.preempt_bodies.proofs.Enter.{word_top, byte_above, byte_below, small_word, pushed_is, pushed_ram, entry_cpu, resumed}
use Rattle.loop_runs.specs.Loop.{LoopState, Plain, IsNotPop, woken}
use Rattle.preempt_tasks.specs.Bodies.{stack_of}
use Rattle.preempt_tasks.specs.Steps.{effects_of}
use Rattle.preempt_tasks.proofs.Places.{Setting, Base, IsBase, IsSuspended, base_context, has_room, has_data, OnHandler, Outcome}
use Rattle.preempt_tasks.proofs.HandlerStep.{base_kept}

not_so : false ≡ true → ⊥
not_so h = cc

line_below_low : (b : BoardState) (n v : ℕ) → line_below b n ≡ Some v → v < n
line_below_low b zero v h = absurd (let e : ⊥ = cc in e)
line_below_low b (suc n) v h = by_test (is_requested b n) (line_below_low b n v) h
  where
    by_test : (t : Bool) → (line_below b n ≡ Some v → v < n) → cond t (Some n) (line_below b n) ≡ Some v → v < suc n
    by_test true rec e = let k : n ≡ v = cc in omega arith
    by_test false rec e = let k = rec e in omega arith

entered_is : (j : Joined (Memory Outside)) (v : ℕ) (image : ℕ → ℕ) (entry : ℕ) → even j.cpu.sp ≡ j.cpu.sp → 0x1104 ≤ j.cpu.sp → j.cpu.sp ≤ 0x3900 → v < 8 → StandsAt image (0xFFE0 + 2 * v) entry → j.bus.code ≡ image →
    entered ops j v ≡ record { after = record { cpu = entry_cpu j entry; bus = record { ram = pushed_ram j; code = j.bus.code; ports = outside_accept j.bus.ports v } }; stepped = Entered v }
entered_is j v image entry e low high few there_stands code =
    let j1 : Joined (Memory Outside) = record { cpu = record j.cpu { sp = j.cpu.sp - 2 }; bus = with_ram j.bus (with_word_at j.bus.ram (j.cpu.sp - 2) j.cpu.pc) } in
    let s2 : j.cpu.sp - 2 - 2 ≡ j.cpu.sp - 4 = omega arith in
    let j2 : Joined (Memory Outside) = record { cpu = record j.cpu { sp = j.cpu.sp - 4 }; bus = record { ram = pushed_ram j; code = j.bus.code; ports = j.bus.ports } } in
    let p1 : pushed ops j false j.cpu.pc ≡ j1 = pushed_is j j.cpu.pc e (omega (arith, low)) high in
    let p2 : pushed ops j1 false j.cpu.sr ≡ record { cpu = record j1.cpu { sp = j1.cpu.sp - 2 }; bus = with_ram j1.bus (with_word_at j1.bus.ram (j1.cpu.sp - 2) j.cpu.sr) } = pushed_is j1 j.cpu.sr (omega (arith, e, low)) (omega (arith, low)) (omega (arith, high)) in
    let p3 : record { cpu = record j1.cpu { sp = j1.cpu.sp - 2 }; bus = with_ram j1.bus (with_word_at j1.bus.ram (j1.cpu.sp - 2) j.cpu.sr) } ≡ j2 = ap (λ s. record { cpu = record j.cpu { sp = s }; bus = record { ram = with_word_at (with_word_at j.bus.ram (j.cpu.sp - 2) j.cpu.pc) s j.cpu.sr; code = j.bus.code; ports = j.bus.ports } }) s2 in
    let there : pushed ops (pushed ops j false j.cpu.pc) false j.cpu.sr ≡ j2 = ap (λ (t : Joined (Memory Outside)). pushed ops t false j.cpu.sr) p1 ∙ p2 ∙ p3 in
    let vec : wrap16 (0xFFE0 + 2 * v) ≡ 0xFFE0 + 2 * v = omega (arith, few) in
    let f : word_at j2.bus (wrap16 (0xFFE0 + 2 * v)) ≡ entry = ap (word_at j2.bus) vec ∙ stands there_stands j2.bus code in
    ap (λ (a : Joined (Memory Outside)). record {
      after = record {
        cpu = record { pc = even (ops.fetch a.bus (wrap16 (0xFFE0 + 2 * v))); sp = a.cpu.sp; sr = 0; others = a.cpu.others; gate = false };
        bus = ops.accept a.bus v;
      };
      stepped = Entered v;
    }) there
    ∙ ap (λ x. record {
      after = record {
        cpu = record { pc = even x; sp = j.cpu.sp - 4; sr = 0; others = j.cpu.others; gate = false };
        bus = record { ram = pushed_ram j; code = j.bus.code; ports = outside_accept j.bus.ports v };
      };
      stepped = Entered v;
    }) f

resumed_is : (j : Joined (Memory Outside)) (entry : ℕ) → HoldsWords j.cpu → 4 ≤ j.cpu.sp → resumed_by (entry_cpu j entry) (pushed_ram j) ≡ resumed j.cpu
resumed_is j entry words high =
    let a = j.cpu.sp - 4 in
    let under = with_word_at j.bus.ram (j.cpu.sp - 2) j.cpu.pc in
    let up : a + 2 ≡ j.cpu.sp - 2 = omega (arith, high) in
    let sp : a + 4 ≡ j.cpu.sp = omega (arith, high) in
    let sr : word_in (pushed_ram j) a ≡ j.cpu.sr = word_top under a j.cpu.sr words.sr in
    let b0 : pushed_ram j (a + 2) ≡ under (a + 2) = byte_above under a j.cpu.sr (a + 2) (omega arith) in
    let b1 : pushed_ram j (a + 2 + 1) ≡ under (a + 2 + 1) = byte_above under a j.cpu.sr (a + 2 + 1) (omega arith) in
    let pc : word_in (pushed_ram j) (a + 2) ≡ j.cpu.pc = ap (λ x. x + 256 * pushed_ram j (a + 2 + 1)) b0 ∙ ap (λ x. under (a + 2) + 256 * x) b1 ∙ ap (word_in under) up ∙ word_top j.bus.ram (j.cpu.sp - 2) j.cpu.pc words.pc in
    ap (λ x. record { pc = even x; sp = a + 4; sr = awake_sr (word_in (pushed_ram j) a); others = j.cpu.others; gate = bit (awake_sr (word_in (pushed_ram j) a)) 3 }) pc
    ∙ ap (λ x. record { pc = x; sp = a + 4; sr = awake_sr (word_in (pushed_ram j) a); others = j.cpu.others; gate = bit (awake_sr (word_in (pushed_ram j) a)) 3 }) words.even_pc
    ∙ ap (λ x. record { pc = j.cpu.pc; sp = x; sr = awake_sr (word_in (pushed_ram j) a); others = j.cpu.others; gate = bit (awake_sr (word_in (pushed_ram j) a)) 3 }) sp
    ∙ ap (λ x. record { pc = j.cpu.pc; sp = j.cpu.sp; sr = awake_sr x; others = j.cpu.others; gate = bit (awake_sr x) 3 }) sr

enter_counts : (w i : Bool) (n : ℕ) → i ≡ false → cond w (cond i n 0) 0 + 0 ≡ 0
enter_counts w true n e = absurd (not_so (sym e))
enter_counts true false n e = refl
enter_counts false false n e = refl

not_above : (a : ℕ) → cond (nat_le (a + 4) a) true false ≡ false
not_above a = let t : nat_le (a + 4) a ≡ false = grind (arith, nat_tests) in ap (λ t. cond t true false) t

module _ (S : Setting) where
  low_end : S.z.data_end ≤ 0x3900
  low_end = let r = has_room S in omega (arith, r)

  -- the base's code can be interrupted here
  pub record CanEnter (s : LoopState) (j : Joined (Memory Outside)) : Type 0 where
    pub words : HoldsWords j.cpu
    pub room : S.z.data_end + S.z.handler_depth + 4 ≤ j.cpu.sp
    pub high : j.cpu.sp ≤ 0x3900
    pub deep : 0x3900 ≤ (j.cpu.sp - 4 - S.z.handler_depth) + stack_of S.z
    pub outside : is_inside s.run.base ≡ false
    pub base : Base
    pub waits : IsSuspended base
    pub is : IsBase S base (resumed j.cpu) j.bus.ram
    pub context : s.run.base ≡ base_context S base
    pub gave : woken s.gave ≡ None
    pub not_pop : IsNotPop S.K S.pop s.run.base
    pub no_handler : s.run.handler ≡ None
    pub common : IsCommon IsWordBoard S.image S.z.data_end s.run j.bus

  pub enter_step : (s : LoopState) (j : Joined (Memory Outside)) (q : Bounds) (v : ℕ) → CanEnter s j → is_open j.cpu ≡ true → line_of s.run.board ≡ Some v → Outcome S s j q
  enter_step s j q v e gate line =
      let few = line_below_low s.run.board 8 v line in
      let V = S.built.handlers v few in
      let low_data = has_data S in
      let room = e.room in
      let high = e.high in
      let line_there : line_of j.bus.ports.board ≡ Some v = ap line_of e.common.board ∙ line in
      let ram = pushed_ram j in
      let c = entry_cpu j V.entry in
      let words : HoldsWords c = let w = V.word in let es = e.words.even_sp in record { pc = omega (arith, w); even_pc = omega arith; even_sp = omega (arith, es, room); sr = omega arith; twelve = e.words.twelve; others = e.words.others } in
      let bytes : (x : ℕ) → ram x < 0x100 = small_word (with_word_at j.bus.ram (j.cpu.sp - 2) j.cpu.pc) (j.cpu.sp - 4) j.cpu.sr (small_word j.bus.ram (j.cpu.sp - 2) j.cpu.pc e.common.bytes) in
      let law = V.law c ram refl refl refl words (omega (arith, room)) (omega (arith, room, high)) bytes in
      let not_over : is_over (c.sp + 4) (open_start c ram) ≡ false = not_above (j.cpu.sp - 4) in
      let above : (x : ℕ) → j.cpu.sp ≤ x → ram x ≡ j.bus.ram x = λ x le. byte_above (with_word_at j.bus.ram (j.cpu.sp - 2) j.cpu.pc) (j.cpu.sp - 4) j.cpu.sr x (omega (arith, le, room)) ∙ byte_above j.bus.ram (j.cpu.sp - 2) j.cpu.pc x (omega (arith, le, room)) in
      let below : (x : ℕ) → x < S.z.data_end → ram x ≡ j.bus.ram x = λ x lt. byte_below (with_word_at j.bus.ram (j.cpu.sp - 2) j.cpu.pc) (j.cpu.sp - 4) j.cpu.sr x (omega (arith, lt, room)) ∙ byte_below j.bus.ram (j.cpu.sp - 2) j.cpu.pc x (omega (arith, lt, room)) in
      let back : resumed_by c ram ≡ resumed j.cpu = resumed_is j V.entry e.words (omega (arith, room)) in
      let is_there = base_kept S e.base (resumed j.cpu) j.bus.ram ram e.waits e.is (λ x le lt. above x le) in
      let no_count : effects_of S.K S.pop s (Plain (Enter v) ∷ []) ≡ 0 = enter_counts (is_waiting s.run) (is_inside s.run.base) (number_of (not (is_inside s.run.base))) e.outside in
      record {
        moves = Plain (Enter v) ∷ [];
        next = record { cpu = c; bus = record { ram = ram; code = j.bus.code; ports = outside_accept j.bus.ports v } };
        stepped = Entered v;
        later = record { left = S.z.bound - 0; effects = 0; closed = 0 };
        exec_is = enters ops j v line_there gate ∙ entered_is j v S.image V.entry e.words.even_sp (omega (arith, room, low_data)) high few (vector_at S.image v V.entry few V.stands) e.common.code;
        legal = (((e.common.going, (line, subst IsNone (sym e.no_handler) refl, e.outside)), e.not_pop), tt);
        shown = refl;
        single = omega arith;
        goes = λ n. OnHandler (record {
          v = v;
          c = c;
          ram = ram;
          before = [];
          since = [];
          law = law;
          runs = record { before_ok = tt; since_ok = tt; going = not_over; quiet = refl; few = S.built.some };
          cpu = refl;
          stack = λ x le lt. refl;
          base = e.base;
          waits = e.waits;
          is = subst (λ (k : Cpu). IsBase S e.base k ram) (sym back) is_there;
          base_room = omega (arith, room);
          deep = e.deep;
          base_context_is = e.context;
          gave = e.gave;
          not_pop = e.not_pop;
          handler = refl;
          common = record {
            code = e.common.code;
            board = ap (λ b. board_ack b v) e.common.board;
            store = λ x d. e.common.store x d ∙ sym (below x (data_high S.z.data_end S.built.even_end low_end x d));
            words = answers_words.ack j.bus.ports.board v e.common.words;
            bytes = bytes;
            no_task = e.common.no_task;
            going = e.common.going;
            runs = e.common.runs;
          };
          bounds = refl;
        });
        halts = λ n. absurd (not_so n);
        idle = λ n. absurd (not_so n);
        deep = let d = e.deep in omega (arith, d);
        spent = omega arith;
        few = λ n. record { low = omega (arith, no_count); counted = omega (arith, no_count); falls = λ w h. omega (arith, no_count) };
        prompt = λ n w h out. omega arith;
        no_line = λ w h z. h.2 tt;
        marks = omega arith;
        turns = λ t. refl;
        soon = λ b n c. refl;
        settles = λ b n c i. omega arith;
        apart = λ p. (refl, refl);
      }
