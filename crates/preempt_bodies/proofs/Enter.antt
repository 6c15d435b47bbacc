-- The acceptance of a line, as a move.
use Rattle.std.proofs.Common.{◌≡◌, ℕ, zero, suc, ◌+◌, ◌-◌, ◌*◌, ◌/◌, ◌%◌, ◌<◌, ◌≤◌, ◌==◌, Bool, true, false, not, cond, List, [], ◌∷◌, length, Some, None, refl, sym, ap, subst, ◌∙◌, arith}
use Rattle.std.proofs.lemmas.Bool.Decides.{nat_tests}
use Rattle.std.specs.Prelude.{IsNone, nat_le}
use Rattle.nm_base.specs.Lists.{bit, number_of}
use Rattle.nm_base.specs.declared.action.Action.{Action}
use Rattle.mote_devices.specs.declared.state.BoardState.{BoardState}
use Rattle.mote_devices.specs.declared.shown.Given.{Given}
use Rattle.mote_devices.specs.Board.{board_ack, line_of, line_below, is_requested}
use Rattle.mote_devices.specs.Outside.{Outside, board_ports, outside_accept}
use Rattle.core_meaning.specs.Source.{Source}
use Rattle.run_meaning.specs.declared.Move.TheVariants.{Enter}
use Rattle.run_meaning.specs.State.{State, is_inside}
use Rattle.msp430_cpu.specs.declared.cpu.Stepped.TheVariants.{Entered}
use Rattle.msp430_cpu.specs.Cpu.{Cpu, even, is_open, wrap16, changed_at}
use Rattle.msp430_cpu.specs.Exec.{Joined, entered, pushed}
use Rattle.msp430_cpu.specs.Memory.{Memory, is_ram, is_port, word_at, with_word_at, with_ram, with_ports, memory_write}
use Rattle.preempt_core.specs.Law.{Bounds, is_waiting, waiting_effects}
use Rattle.preempt_core.proofs.Instruction.{enters}
use Rattle.open_law.specs.Open.{HoldsWords, is_over, open_start}
use Rattle.msp_isa.specs.Stands.{word_in}
use Rattle.preempt_bodies.specs.Boards.{AnswersWords}
use Rattle.preempt_bodies.specs.Bodies.{Sizes, awake_sr, resumed_by, stack_of}
use Rattle.preempt_bodies.proofs.Words.{StandsAt, IsSpelled, vector_at}
use Rattle.preempt_bodies.proofs.Logged.{data_high}
use Rattle.preempt_bodies.proofs.Carry.{ops, stands, IsCommon}
use Rattle.preempt_bodies.proofs.HandlerStep.{base_kept}
use Rattle.preempt_bodies.proofs.Places.{Base, IsBase, IsSuspended, base_context, OnHandler, Outcome}

not_so : false ≡ true → ⊥
not_so h = cc

line_below_low : (b : BoardState) (n v : ℕ) → line_below b n ≡ Some v → v < n
line_below_low b zero v h = absurd (let e : ⊥ = cc in e)
line_below_low b (suc n) v h = by_test (is_requested b n) (line_below_low b n v) h
  where
    by_test : (t : Bool) → (line_below b n ≡ Some v → v < n) → cond t (Some n) (line_below b n) ≡ Some v → v < suc n
    by_test true rec e = let k : n ≡ v = cc in omega arith
    by_test false rec e = let k = rec e in omega arith

-- words in memory
same_test : (a : ℕ) → (a == a) ≡ true
same_test a = grind (arith, nat_tests)

other_test : (a b : ℕ) → (a ≡ b → ⊥) → (a == b) ≡ false
other_test a b h = grind (arith, nat_tests, h)

pub word_top : (f : ℕ → ℕ) (a v : ℕ) → v < 0x10000 → word_in (with_word_at f a v) a ≡ v
word_top f a v h =
    ap (λ t. cond t (v / 256 % 256) (cond (a == a) (v % 256) (f a)) + 256 * with_word_at f a v (a + 1)) (other_test a (a + 1) (λ e. omega (arith, e)))
    ∙ ap (λ t. cond t (v % 256) (f a) + 256 * with_word_at f a v (a + 1)) (same_test a)
    ∙ ap (λ t. v % 256 + 256 * cond t (v / 256 % 256) (changed_at f a (v % 256) (a + 1))) (same_test (a + 1))
    ∙ omega (arith, h)

pub byte_above : (f : ℕ → ℕ) (a v x : ℕ) → a + 2 ≤ x → with_word_at f a v x ≡ f x
byte_above f a v x h =
    ap (λ t. cond t (v / 256 % 256) (cond (x == a) (v % 256) (f x))) (other_test x (a + 1) (λ e. omega (arith, e, h)))
    ∙ ap (λ t. cond t (v % 256) (f x)) (other_test x a (λ e. omega (arith, e, h)))

pub byte_below : (f : ℕ → ℕ) (a v x : ℕ) → x < a → with_word_at f a v x ≡ f x
byte_below f a v x h =
    ap (λ t. cond t (v / 256 % 256) (cond (x == a) (v % 256) (f x))) (other_test x (a + 1) (λ e. omega (arith, e, h)))
    ∙ ap (λ t. cond t (v % 256) (f x)) (other_test x a (λ e. omega (arith, e, h)))

pub small_word : (f : ℕ → ℕ) (a v : ℕ) → ((x : ℕ) → f x < 0x100) → (x : ℕ) → with_word_at f a v x < 0x100
small_word f a v h x = by_tests (x == a + 1) (x == a)
  where
    by_tests : (s t : Bool) → cond s (v / 256 % 256) (cond t (v % 256) (f x)) < 0x100
    by_tests true t = omega arith
    by_tests false true = omega arith
    by_tests false false = h x

-- a word written to the stack
write_stack : (m : Memory Outside) (a v : ℕ) → even a ≡ a → 0x1100 ≤ a → a < 0x3900 → memory_write board_ports m a true v ≡ with_ram m (with_word_at m.ram a v)
write_stack m a v e low high =
    let p : is_port a ≡ false = grind (arith, nat_tests) in
    let i : is_ram a ≡ true = grind (arith, nat_tests) in
    ap (λ t. cond t (with_ports m (board_ports.put m.ports (even a) v)) (cond (is_ram a) (with_ram m (with_word_at m.ram (even a) v)) m)) p
    ∙ ap (λ t. cond t (with_ram m (with_word_at m.ram (even a) v)) m) i
    ∙ ap (λ x. with_ram m (with_word_at m.ram x v)) e

pub pushed_is : (j : Joined (Memory Outside)) (v : ℕ) → even j.cpu.sp ≡ j.cpu.sp → 0x1102 ≤ j.cpu.sp → j.cpu.sp ≤ 0x3900 →
    pushed ops j false v ≡ record { cpu = record j.cpu { sp = j.cpu.sp - 2 }; bus = with_ram j.bus (with_word_at j.bus.ram (j.cpu.sp - 2) v) }
pushed_is j v e low high =
    let w : wrap16 (j.cpu.sp + 0xFFFE) ≡ j.cpu.sp - 2 = omega (arith, low, high) in
    let ee : even (j.cpu.sp - 2) ≡ j.cpu.sp - 2 = omega (arith, e, low) in
    ap (λ s. record { cpu = record j.cpu { sp = s }; bus = memory_write board_ports j.bus s true v }) w
    ∙ ap (λ b. record { cpu = record j.cpu { sp = j.cpu.sp - 2 }; bus = b }) (write_stack j.bus (j.cpu.sp - 2) v ee (omega (arith, low)) (omega (arith, low, high)))

-- the processor and memory behind an acceptance
abbrev pub pushed_ram : Joined (Memory Outside) → ℕ → ℕ
pushed_ram j = with_word_at (with_word_at j.bus.ram (j.cpu.sp - 2) j.cpu.pc) (j.cpu.sp - 4) j.cpu.sr

abbrev pub entry_cpu : Joined (Memory Outside) → ℕ → Cpu
entry_cpu j entry = record { pc = even entry; sp = j.cpu.sp - 4; sr = 0; others = j.cpu.others; gate = false }

entered_is : (j : Joined (Memory Outside)) (v : ℕ) (image : ℕ → ℕ) (entry : ℕ) → even j.cpu.sp ≡ j.cpu.sp → 0x1104 ≤ j.cpu.sp → j.cpu.sp ≤ 0x3900 → v < 8 → StandsAt image (0xFFE0 + 2 * v) entry → j.bus.code ≡ image →
    entered ops j v ≡ record { after = record { cpu = entry_cpu j entry; bus = record { ram = pushed_ram j; code = j.bus.code; ports = outside_accept j.bus.ports v } }; stepped = Entered v }
entered_is j v image entry e low high few there_stands code =
    let j1 : Joined (Memory Outside) = record { cpu = record j.cpu { sp = j.cpu.sp - 2 }; bus = with_ram j.bus (with_word_at j.bus.ram (j.cpu.sp - 2) j.cpu.pc) } in
    let s2 : j.cpu.sp - 2 - 2 ≡ j.cpu.sp - 4 = omega arith in
    let j2 : Joined (Memory Outside) = record { cpu = record j.cpu { sp = j.cpu.sp - 4 }; bus = record { ram = pushed_ram j; code = j.bus.code; ports = j.bus.ports } } in
    let p1 : pushed ops j false j.cpu.pc ≡ j1 = pushed_is j j.cpu.pc e (omega (arith, low)) high in
    let p2 : pushed ops j1 false j.cpu.sr ≡ record { cpu = record j1.cpu { sp = j1.cpu.sp - 2 }; bus = with_ram j1.bus (with_word_at j1.bus.ram (j1.cpu.sp - 2) j.cpu.sr) } = pushed_is j1 j.cpu.sr (omega (arith, e, low)) (omega (arith, low)) (omega (arith, high)) in
    let p3 : record { cpu = record j1.cpu { sp = j1.cpu.sp - 2 }; bus = with_ram j1.bus (with_word_at j1.bus.ram (j1.cpu.sp - 2) j.cpu.sr) } ≡ j2 = ap (λ s. record { cpu = record j.cpu { sp = s }; bus = record { ram = with_word_at (with_word_at j.bus.ram (j.cpu.sp - 2) j.cpu.pc) s j.cpu.sr; code = j.bus.code; ports = j.bus.ports } }) s2 in
    let there : pushed ops (pushed ops j false j.cpu.pc) false j.cpu.sr ≡ j2 = ap (λ (t : Joined (Memory Outside)). pushed ops t false j.cpu.sr) p1 ∙ p2 ∙ p3 in
    let vec : wrap16 (0xFFE0 + 2 * v) ≡ 0xFFE0 + 2 * v = omega (arith, few) in
    let f : word_at j2.bus (wrap16 (0xFFE0 + 2 * v)) ≡ entry = ap (word_at j2.bus) vec ∙ stands there_stands j2.bus code in
    ap (λ (a : Joined (Memory Outside)). record {
      after = record {
        cpu = record { pc = even (ops.fetch a.bus (wrap16 (0xFFE0 + 2 * v))); sp = a.cpu.sp; sr = 0; others = a.cpu.others; gate = false };
        bus = ops.accept a.bus v;
      };
      stepped = Entered v;
    }) there
    ∙ ap (λ x. record {
      after = record {
        cpu = record { pc = even x; sp = j.cpu.sp - 4; sr = 0; others = j.cpu.others; gate = false };
        bus = record { ram = pushed_ram j; code = j.bus.code; ports = outside_accept j.bus.ports v };
      };
      stepped = Entered v;
    }) f

-- the processor that comes back
abbrev pub resumed : Cpu → Cpu
resumed c = record { pc = c.pc; sp = c.sp; sr = awake_sr c.sr; others = c.others; gate = bit (awake_sr c.sr) 3 }

resumed_is : (j : Joined (Memory Outside)) (entry : ℕ) → HoldsWords j.cpu → 4 ≤ j.cpu.sp → resumed_by (entry_cpu j entry) (pushed_ram j) ≡ resumed j.cpu
resumed_is j entry words high =
    let a = j.cpu.sp - 4 in
    let under = with_word_at j.bus.ram (j.cpu.sp - 2) j.cpu.pc in
    let up : a + 2 ≡ j.cpu.sp - 2 = omega (arith, high) in
    let sp : a + 4 ≡ j.cpu.sp = omega (arith, high) in
    let sr : word_in (pushed_ram j) a ≡ j.cpu.sr = word_top under a j.cpu.sr words.sr in
    let b0 : pushed_ram j (a + 2) ≡ under (a + 2) = byte_above under a j.cpu.sr (a + 2) (omega arith) in
    let b1 : pushed_ram j (a + 2 + 1) ≡ under (a + 2 + 1) = byte_above under a j.cpu.sr (a + 2 + 1) (omega arith) in
    let pc : word_in (pushed_ram j) (a + 2) ≡ j.cpu.pc = ap (λ x. x + 256 * pushed_ram j (a + 2 + 1)) b0 ∙ ap (λ x. under (a + 2) + 256 * x) b1 ∙ ap (word_in under) up ∙ word_top j.bus.ram (j.cpu.sp - 2) j.cpu.pc words.pc in
    ap (λ x. record { pc = even x; sp = a + 4; sr = awake_sr (word_in (pushed_ram j) a); others = j.cpu.others; gate = bit (awake_sr (word_in (pushed_ram j) a)) 3 }) pc
    ∙ ap (λ x. record { pc = x; sp = a + 4; sr = awake_sr (word_in (pushed_ram j) a); others = j.cpu.others; gate = bit (awake_sr (word_in (pushed_ram j) a)) 3 }) words.even_pc
    ∙ ap (λ x. record { pc = j.cpu.pc; sp = x; sr = awake_sr (word_in (pushed_ram j) a); others = j.cpu.others; gate = bit (awake_sr (word_in (pushed_ram j) a)) 3 }) sp
    ∙ ap (λ x. record { pc = j.cpu.pc; sp = j.cpu.sp; sr = awake_sr x; others = j.cpu.others; gate = bit (awake_sr x) 3 }) sr

enter_counts : (w i : Bool) (n : ℕ) → i ≡ false → cond w (cond i n 0) 0 + 0 ≡ 0
enter_counts w true n e = absurd (not_so (sym e))
enter_counts true false n e = refl
enter_counts false false n e = refl

module _ (P : Source) (image : ℕ → ℕ) (marks : ℕ → List Action) (z : Sizes) (built : IsSpelled P image marks z) (Sound : BoardState → Type 0) (IsWord : Given → Type 0) (sound : AnswersWords Sound IsWord) (pace : ℕ) (wide : z.bound + 3 ≤ pace) where
  low_end : z.data_end ≤ 0x3900
  low_end = let r = built.room in omega (arith, r)

  -- the base's code can be interrupted here
  pub record CanEnter (r : State) (j : Joined (Memory Outside)) : Type 0 where
    pub words : HoldsWords j.cpu
    pub room : z.data_end + z.handler_depth + 4 ≤ j.cpu.sp
    pub high : j.cpu.sp ≤ 0x3900
    pub deep : 0x3900 ≤ (j.cpu.sp - 4 - z.handler_depth) + stack_of z
    pub outside : is_inside r.base ≡ false
    pub base : Base
    pub waits : IsSuspended base
    pub is : IsBase P image marks z built Sound IsWord sound pace wide base (resumed j.cpu) j.bus.ram
    pub context : r.base ≡ base_context P image marks z built Sound IsWord sound pace wide base
    pub no_handler : r.handler ≡ None
    pub common : IsCommon Sound image z.data_end r j.bus

  pub enter_step : (r : State) (j : Joined (Memory Outside)) (q : Bounds) (v : ℕ) → CanEnter r j → is_open j.cpu ≡ true → line_of r.board ≡ Some v → Outcome P image marks z built Sound IsWord sound pace wide r j q
  enter_step r j q v e gate line =
      let few = line_below_low r.board 8 v line in
      let V = built.handlers v few in
      let low_data = built.low_end in
      let room = e.room in
      let high = e.high in
      let line_there : line_of j.bus.ports.board ≡ Some v = ap line_of e.common.board ∙ line in
      let ram = pushed_ram j in
      let c = entry_cpu j V.entry in
      let words : HoldsWords c = let w = V.word in let es = e.words.even_sp in record { pc = omega (arith, w); even_pc = omega arith; even_sp = omega (arith, es, room); sr = omega arith; twelve = e.words.twelve; others = e.words.others } in
      let bytes : (x : ℕ) → ram x < 0x100 = small_word (with_word_at j.bus.ram (j.cpu.sp - 2) j.cpu.pc) (j.cpu.sp - 4) j.cpu.sr (small_word j.bus.ram (j.cpu.sp - 2) j.cpu.pc e.common.bytes) in
      let law = V.law c ram refl refl refl words (omega (arith, room)) (omega (arith, room, high)) bytes in
      let start = law.between [] tt in
      let not_over : is_over (c.sp + 4) (open_start c ram) ≡ false = not_above (j.cpu.sp - 4) in
      let above : (x : ℕ) → j.cpu.sp ≤ x → ram x ≡ j.bus.ram x = λ x le. byte_above (with_word_at j.bus.ram (j.cpu.sp - 2) j.cpu.pc) (j.cpu.sp - 4) j.cpu.sr x (omega (arith, le, room)) ∙ byte_above j.bus.ram (j.cpu.sp - 2) j.cpu.pc x (omega (arith, le, room)) in
      let below : (x : ℕ) → x < z.data_end → ram x ≡ j.bus.ram x = λ x lt. byte_below (with_word_at j.bus.ram (j.cpu.sp - 2) j.cpu.pc) (j.cpu.sp - 4) j.cpu.sr x (omega (arith, lt, room)) ∙ byte_below j.bus.ram (j.cpu.sp - 2) j.cpu.pc x (omega (arith, lt, room)) in
      let back : resumed_by c ram ≡ resumed j.cpu = resumed_is j V.entry e.words (omega (arith, room)) in
      let is_there = base_kept P image marks z built Sound IsWord sound pace wide e.base (resumed j.cpu) j.bus.ram ram e.waits e.is (λ x le lt. above x le) in
      let no_count : waiting_effects P r (Enter v ∷ []) ≡ 0 = enter_counts (is_waiting r) (is_inside r.base) (number_of (not (is_inside r.base))) e.outside in
      record {
        acts = Enter v ∷ [];
        next = record { cpu = c; bus = record { ram = ram; code = j.bus.code; ports = outside_accept j.bus.ports v } };
        stepped = Entered v;
        later = record { left = z.bound - 0; effects = 0; closed = 0 };
        exec_is = enters ops j v line_there gate ∙ entered_is j v image V.entry e.words.even_sp (omega (arith, room, low_data)) high few (vector_at image v V.entry few V.stands) e.common.code;
        legal = ((e.common.going, (line, subst IsNone (sym e.no_handler) refl, e.outside)), tt);
        shown = refl;
        goes = λ n. OnHandler (record {
          v = v;
          c = c;
          ram = ram;
          before = [];
          since = [];
          law = law;
          runs = record { before_ok = tt; since_ok = tt; going = not_over; quiet = refl; few = built.some };
          cpu = refl;
          stack = λ x le lt. refl;
          base = e.base;
          waits = e.waits;
          is = subst (λ (k : Cpu). IsBase P image marks z built Sound IsWord sound pace wide e.base k ram) (sym back) is_there;
          base_room = omega (arith, room);
          deep = e.deep;
          base_context_is = e.context;
          handler = refl;
          common = record {
            code = e.common.code;
            board = ap (λ b. board_ack b v) e.common.board;
            store = λ x d. e.common.store x d ∙ sym (below x (data_high z.data_end built.even_end low_end x d));
            words = sound.ack j.bus.ports.board v e.common.words;
            bytes = bytes;
            no_task = e.common.no_task;
            going = e.common.going;
            runs = e.common.runs;
          };
          bounds = refl;
        });
        halts = λ n. absurd (not_so n);
        idle = λ n. absurd (not_so n);
        deep = let d = e.deep in omega (arith, d);
        quiet = λ n. absurd (nothing n);
        paid = λ n. omega (arith, wide);
        few = record { low = omega (arith, no_count); counted = omega (arith, no_count); falls = λ w h. omega (arith, no_count) };
        prompt = λ w h s. omega arith;
      }
    where
      nothing : Enter v ∷ [] ≡ [] → ⊥
      nothing n = let h : 1 ≡ 0 = ap length n in omega (arith, h)

      not_above : (a : ℕ) → cond (nat_le (a + 4) a) true false ≡ false
      not_above a = let t : nat_le (a + 4) a ≡ false = grind (arith, nat_tests) in ap (λ t. cond t true false) t
