-- Instructions that move values between registers and the frame.
use Rattle.std.proofs.Common.{◌≡◌, ◌≢◌, ◌⊎◌, ⊎_elim, ℕ, zero, suc, ◌+◌, ◌-◌, ◌/◌, ◌%◌, ◌<◌, ◌≤◌, ◌==◌, true, false, cond, List, refl, ap, ◌∙◌, arith, get_or-set_same, get_or-set_other}
use Rattle.std.specs.Prelude.{slice_index, slice_set}
use Rattle.std.proofs.Math.ListN.{length-set}
use Rattle.std.proofs.lemmas.Bool.Decides.{nat_tests, eqb_tells}
use Rattle.nm_base.specs.Lists.{bit}
use Rattle.msp_isa.specs.declared.instr.Op2.TheVariants as op2
use Rattle.msp_isa.specs.declared.instr.Operand.{Operand}
use Rattle.msp_isa.specs.declared.instr.Instr.TheVariants.{Two}
use Rattle.msp430_cpu.specs.Cpu.{Cpu, even, wrap16, reg, with_reg, changed_at}
use Rattle.msp430_cpu.specs.Bus.{Bus}
use Rattle.msp430_cpu.specs.Exec.{Joined, place_of, value_at, ran, further, finished, told, gated}
use Rattle.msp430_cpu.specs.Operate.{plain_result}
use Rattle.msp430_cpu.specs.Memory.{is_ram, is_port, byte_at, word_at, with_word_at}
use Rattle.open_law.specs.Homes.{Home, InRegister, InFrame, Source, Of, Number, Made, StackPointer, at_home, operand_of}
use Rattle.open_law.specs.Open.{Logged, Moment, is_data, logged_bus, logged_write, logged_read}
use Rattle.msp_isa.specs.Stands.{word_in, IsAt}
use Rattle.open_law.proofs.View.{View, even_at, cpu_of, memory_of, state_of, Fits, Leads, IsRoom, runs, behind, word_bytes}

-- a register from R4 on; an even place below the end of the stack
abbrev pub IsHomeAt : ℕ → ℕ → Home → Type 0
IsHomeAt top sp (InRegister r) = (4 ≤ r) × (r < 16)
IsHomeAt top sp (InFrame x) = (even x ≡ x) × (sp + x + 2 ≤ top)

abbrev pub held_at : ℕ → (ℕ → ℕ) → (ℕ → ℕ) → Home → ℕ
held_at sp regs stack (InRegister r) = regs r
held_at sp regs stack (InFrame x) = word_in stack (sp + x)

abbrev pub HasAt : ℕ → ℕ → (ℕ → ℕ) → (ℕ → ℕ) → Source → ℕ → Type 0
HasAt top sp regs stack (Of h) n = IsHomeAt top sp h × (held_at sp regs stack h ≡ n) × (n < 0x10000)
HasAt top sp regs stack (Number k) n = (k ≡ n) × (n < 0x10000)
HasAt top sp regs stack (Made k) n = (k ≡ n) × (n < 0x10000)
HasAt top sp regs stack StackPointer n = (sp ≡ n) × (n < 0x10000)

abbrev pub IsHome : ℕ → View → Home → Type 0
IsHome top v h = IsHomeAt top v.sp h

-- the source has this value
abbrev pub Has : ℕ → View → Source → ℕ → Type 0
Has top v s n = HasAt top v.sp v.regs v.stack s n

pub small_of : (top : ℕ) (v : View) (s : Source) (n : ℕ) → Has top v s n → n < 0x10000
small_of top v (Of h) n has = has.2
small_of top v (Number k) n has = has.1
small_of top v (Made k) n has = has.1
small_of top v StackPointer n has = has.1

abbrev pub put_regs : Home → ℕ → (ℕ → ℕ) → ℕ → ℕ
put_regs (InRegister r) n regs = changed_at regs r n
put_regs (InFrame x) n regs = regs

abbrev pub put_stack : Home → ℕ → ℕ → (ℕ → ℕ) → ℕ → ℕ
put_stack (InRegister r) n sp stack = stack
put_stack (InFrame x) n sp stack = with_word_at stack (sp + x) n

abbrev pub put_home : View → Home → ℕ → View
put_home v h n = record v { regs = put_regs h n v.regs; stack = put_stack h n v.sp v.stack }

-- behind an instruction of so many bytes
abbrev pub passed : View → ℕ → View
passed v bytes = record v { pc = v.pc + bytes; gate = bit v.sr 3 }

pub with_plain : (c : Cpu) (r v : ℕ) → 4 ≤ r → with_reg c r v ≡ record c { others = slice_set c.others (r - 4) v }
with_plain c zero v h = absurd (omega arith)
with_plain c (suc zero) v h = absurd (omega arith)
with_plain c (suc (suc zero)) v h = absurd (omega arith)
with_plain c (suc (suc (suc zero))) v h = absurd (omega arith)
with_plain c (suc (suc (suc (suc r)))) v h = let e : suc (suc (suc (suc r))) - 4 ≡ r = omega arith in rw e refl

pub reg_plain : (c : Cpu) (r : ℕ) → 4 ≤ r → reg c r ≡ slice_index c.others (r - 4)
reg_plain c zero h = absurd (omega arith)
reg_plain c (suc zero) h = absurd (omega arith)
reg_plain c (suc (suc zero)) h = absurd (omega arith)
reg_plain c (suc (suc (suc zero))) h = absurd (omega arith)
reg_plain c (suc (suc (suc (suc r)))) h = let e : suc (suc (suc (suc r))) - 4 ≡ r = omega arith in rw e refl

pub few : (s : Source) → further (operand_of s) ≤ 2
few (Of (InRegister r)) = omega arith
few (Of (InFrame x)) = omega arith
few (Number k) = omega arith
few (Made k) = omega arith
few StackPointer = omega arith

pub little : (h : Home) → further (at_home h) ≤ 2
little (InRegister r) = omega arith
little (InFrame x) = omega arith

module _ (image : ℕ → ℕ) (data_end top : ℕ) (now : Moment) where
  abbrev ops : Bus Logged
  ops = logged_bus data_end now.answer

  -- a word and a byte of the stack are read
  pub stack_word : (v : View) (others : List ℕ) (ram : ℕ → ℕ) (a : ℕ) → IsRoom data_end top v → Fits top v others ram → even a ≡ a → v.sp ≤ a → a + 2 ≤ top →
      logged_read data_end now.answer (memory_of image v ram) a true ≡ (word_in v.stack a, memory_of image v ram)
  stack_word v others ram a room fits e lo hi =
      let d = room.objects in let l = room.low in let t = room.high in
      let p : is_port a ≡ false = grind (arith, nat_tests) in
      let n : is_data data_end a ≡ false = grind (arith, nat_tests) in
      let r : is_ram a ≡ true = grind (arith, nat_tests) in
      let r' : is_ram (a + 1) ≡ true = grind (arith, nat_tests) in
      let b : byte_at (memory_of image v ram) a ≡ v.stack a = rw r (fits.stack a (omega arith) (omega arith)) in
      let b' : byte_at (memory_of image v ram) (a + 1) ≡ v.stack (a + 1) = rw r' (fits.stack (a + 1) (omega arith) (omega arith)) in
      let value : word_at (memory_of image v ram) a ≡ word_in v.stack a = rw (e, b, b') refl in
      rw (p, n) (ap (λ q. (q, memory_of image v ram)) value)

  pub stack_byte : (v : View) (others : List ℕ) (ram : ℕ → ℕ) (a : ℕ) → IsRoom data_end top v → Fits top v others ram → v.sp ≤ a → a < top →
      logged_read data_end now.answer (memory_of image v ram) a false ≡ (v.stack a, memory_of image v ram)
  stack_byte v others ram a room fits lo hi =
      let d = room.objects in let l = room.low in let t = room.high in
      let p : is_port a ≡ false = grind (arith, nat_tests) in
      let n : is_data data_end a ≡ false = grind (arith, nat_tests) in
      let r : is_ram a ≡ true = grind (arith, nat_tests) in
      rw (p, n, r) (ap (λ q. (q, memory_of image v ram)) (fits.stack a lo hi))

  -- a word of the frame is read
  pub frame_word : (v : View) (others : List ℕ) (ram : ℕ → ℕ) (x : ℕ) → IsRoom data_end top v → Fits top v others ram → even x ≡ x → v.sp + x + 2 ≤ top →
      logged_read data_end now.answer (memory_of image v ram) (wrap16 (v.sp + x)) true ≡ (word_in v.stack (v.sp + x), memory_of image v ram)
  frame_word v others ram x room fits ev hi =
      let t = room.high in let s = room.even_sp in
      let w : wrap16 (v.sp + x) ≡ v.sp + x = omega arith in
      ap (λ a. logged_read data_end now.answer (memory_of image v ram) a true) w ∙ stack_word v others ram (v.sp + x) room fits (omega arith) (omega arith) hi

  -- a source is read, with PC behind the first word
  pub reads : (v : View) (others : List ℕ) (ram : ℕ → ℕ) (s : Source) (n at : ℕ) → IsRoom data_end top v → Fits top v others ram → Has top v s n →
      value_at ops (state_of image v others ram) false (place_of (cpu_of v others) at (operand_of s)) ≡ (n, memory_of image v ram)
  reads v others ram (Of (InRegister r)) n at room fits h =
      let lo = h.0.0 in let hi = h.0.1 in let small = h.2 in
      let e : reg (cpu_of v others) r ≡ n = reg_plain (cpu_of v others) r lo ∙ fits.regs r lo hi ∙ h.1 in
      let w : n % 0x10000 ≡ n = omega arith in
      ap (λ x. (x % 0x10000, memory_of image v ram)) e ∙ ap (λ x. (x, memory_of image v ram)) w
  reads v others ram (Of (InFrame x)) n at room fits h =
      frame_word v others ram x room fits h.0.0 h.0.1 ∙ ap (λ q. (q, memory_of image v ram)) h.1
  reads v others ram (Number k) n at room fits h =
      let small = h.1 in let is = h.0 in
      let w : k % 0x10000 ≡ n = omega arith in
      ap (λ x. (x, memory_of image v ram)) w
  reads v others ram (Made k) n at room fits h =
      let small = h.1 in let is = h.0 in
      let w : k % 0x10000 ≡ n = omega arith in
      ap (λ x. (x, memory_of image v ram)) w
  reads v others ram StackPointer n at room fits h =
      let small = h.1 in let is = h.0 in
      let w : v.sp % 0x10000 ≡ n = omega arith in
      ap (λ x. (x, memory_of image v ram)) w

  pub put_plain : (v : View) (others : List ℕ) (ram : ℕ → ℕ) (r n : ℕ) → 4 ≤ r → r < 16 → n < 0x10000 → Fits top v others ram → Fits top (put_home v (InRegister r) n) (slice_set others (r - 4) n) ram
  put_plain v others ram r n lo hi small fits = record {
    long = length-set others (r - 4) n ∙ fits.long;
    regs = λ q lo' hi'. by_test q lo' hi' (eqb_tells q r);
    words = λ q lo' hi'. word_by q (fits.words q lo' hi') (eqb_tells q r);
    stack = fits.stack;
  }
    where
      word_by : (q : ℕ) → v.regs q < 0x10000 → (((q == r) ≡ true) × (q ≡ r)) ⊎ (((q == r) ≡ false) × (q ≢ r)) → changed_at v.regs r n q < 0x10000
      word_by q old t = ⊎_elim (λ y. rw (y.0) small) (λ y. rw (y.0) old) t

      same : (q : ℕ) → (q == r) ≡ true → q ≡ r → slice_index (slice_set others (r - 4) n) (q - 4) ≡ changed_at v.regs r n q
      same q t e =
          let d = fits.long in
          rw t (ap (λ k. slice_index (slice_set others (r - 4) n) (k - 4)) e ∙ get_or-set_same others (r - 4) n 0 (omega arith))

      other : (q : ℕ) → 4 ≤ q → q < 16 → (q == r) ≡ false → q ≢ r → slice_index (slice_set others (r - 4) n) (q - 4) ≡ changed_at v.regs r n q
      other q lo' hi' t ne = rw t (get_or-set_other others (r - 4) (q - 4) n 0 (λ e. ne (omega arith)) ∙ fits.regs q lo' hi')

      by_test : (q : ℕ) → 4 ≤ q → q < 16 → (((q == r) ≡ true) × (q ≡ r)) ⊎ (((q == r) ≡ false) × (q ≢ r)) → slice_index (slice_set others (r - 4) n) (q - 4) ≡ changed_at v.regs r n q
      by_test q lo' hi' t = ⊎_elim (λ y. same q y.0 y.1) (λ y. other q lo' hi' y.0 y.1) t

  pub put_word : (v : View) (others : List ℕ) (ram : ℕ → ℕ) (x n : ℕ) → Fits top v others ram → Fits top (put_home v (InFrame x) n) others (with_word_at ram (v.sp + x) n)
  put_word v others ram x n fits = record {
    long = fits.long;
    regs = fits.regs;
    words = fits.words;
    stack = λ a lo hi. ap (λ b. cond (a == v.sp + x + 1) (n / 256 % 256) (cond (a == v.sp + x) (n % 256) b)) (fits.stack a lo hi);
  }

  -- a word and a byte of the stack are written
  pub stack_write : (v : View) (ram : ℕ → ℕ) (a n : ℕ) → IsRoom data_end top v → even a ≡ a → v.sp ≤ a → a + 2 ≤ top →
      logged_write data_end now.answer (memory_of image v ram) a true n ≡ memory_of image v (with_word_at ram a n)
  stack_write v ram a n room e lo hi =
      let d = room.objects in let l = room.low in let t = room.high in
      let p : is_port a ≡ false = grind (arith, nat_tests) in
      let n' : is_data data_end a ≡ false = grind (arith, nat_tests) in
      let r : is_ram a ≡ true = grind (arith, nat_tests) in
      rw (p, n', r, e) refl

  pub stack_write_byte : (v : View) (ram : ℕ → ℕ) (a n : ℕ) → IsRoom data_end top v → v.sp ≤ a → a < top →
      logged_write data_end now.answer (memory_of image v ram) a false n ≡ memory_of image v (changed_at ram a (n % 256))
  stack_write_byte v ram a n room lo hi =
      let d = room.objects in let l = room.low in let t = room.high in
      let p : is_port a ≡ false = grind (arith, nat_tests) in
      let n' : is_data data_end a ≡ false = grind (arith, nat_tests) in
      let r : is_ram a ≡ true = grind (arith, nat_tests) in
      rw (p, n', r) refl

  -- a word of the frame is written
  pub frame_write : (v : View) (ram : ℕ → ℕ) (x n : ℕ) → IsRoom data_end top v → even x ≡ x → v.sp + x + 2 ≤ top →
      logged_write data_end now.answer (memory_of image v ram) (wrap16 (v.sp + x)) true n ≡ memory_of image v (with_word_at ram (v.sp + x) n)
  frame_write v ram x n room ev hi =
      let t = room.high in let s = room.even_sp in
      let w : wrap16 (v.sp + x) ≡ v.sp + x = omega arith in
      ap (λ a. logged_write data_end now.answer (memory_of image v ram) a true n) w ∙ stack_write v ram (v.sp + x) n room (omega arith) (omega arith) hi

  pub kept_above : (ram : ℕ → ℕ) (b n a : ℕ) → b + 2 ≤ a → with_word_at ram b n a ≡ ram a
  kept_above ram b n a le =
      let n0 : (a == b) ≡ false = grind (arith, nat_tests) in
      let n1 : (a == b + 1) ≡ false = grind (arith, nat_tests) in
      rw (n1, n0) refl

  abbrev pub after_source : View → List ℕ → (ℕ → ℕ) → ℕ → Operand → ℕ → Joined Logged
  after_source v others ram k d n =
      let at = wrap16 (v.pc + 2 + k) in
      finished ops (record { cpu = cpu_of (record v { pc = wrap16 (at + further d) }) others; bus = memory_of image v ram }) false (place_of (cpu_of (behind v) others) at d) (plain_result v.sr n)

  -- the same from what reading the source gave
  abbrev pub put_source : View → List ℕ → ℕ → Operand → ℕ × Logged → Joined Logged
  put_source v others k d q =
      let at = wrap16 (v.pc + 2 + k) in
      finished ops (record { cpu = cpu_of (record v { pc = wrap16 (at + further d) }) others; bus = q.1 }) false (place_of (cpu_of (behind v) others) at d) (plain_result v.sr q.0)

  pub record Lands (v w : View) (old : ℕ → ℕ) (j : Joined Logged) : Type 0 where
    pub others : List ℕ
    pub ram : ℕ → ℕ
    pub same : record { cpu = record j.cpu { gate = bit v.sr 3 }; bus = j.bus } ≡ state_of image w others ram
    pub fits : Fits top w others ram
    pub above : (a : ℕ) → top ≤ a → ram a ≡ old a
    pub bytes : ((a : ℕ) → old a < 0x100) → (a : ℕ) → ram a < 0x100

  pub lands : (v : View) (others : List ℕ) (ram : ℕ → ℕ) (k : ℕ) (h : Home) (n : ℕ) → IsRoom data_end top v → Fits top v others ram → v.pc + 6 < 0x10000 → k ≤ 2 → v.pc + 2 + k + further (at_home h) < 0x10000 → IsHome top v h → n < 0x10000 →
      Lands v (passed (put_home v h n) (2 + k + further (at_home h))) ram (after_source v others ram k (at_home h) n)
  lands v others ram k (InRegister r) n room fits hi few end home small =
      let lo = home.0 in
      let t : (r == 2) ≡ false = grind (arith, nat_tests) in
      let e : wrap16 (wrap16 (v.pc + 2 + k) + 0) ≡ v.pc + (2 + k + 0) = omega arith in
      record {
        others = slice_set others (r - 4) n;
        ram = ram;
        same = rw (t, with_plain (cpu_of (record v { pc = wrap16 (wrap16 (v.pc + 2 + k) + 0) }) others) r n lo, e) refl;
        fits = record { long = (put_plain v others ram r n lo home.1 small fits).long; regs = (put_plain v others ram r n lo home.1 small fits).regs; words = (put_plain v others ram r n lo home.1 small fits).words; stack = fits.stack };
        above = λ a le. refl;
        bytes = λ b. b;
      }
  lands v others ram k (InFrame x) n room fits hi few end home small =
      let e : wrap16 (wrap16 (v.pc + 2 + k) + 2) ≡ v.pc + (2 + k + 2) = omega arith in
      record {
        others = others;
        ram = with_word_at ram (v.sp + x) n;
        same = rw (frame_write v ram x n room home.0 home.1, e) refl;
        fits = record { long = fits.long; regs = fits.regs; words = fits.words; stack = (put_word v others ram x n fits).stack };
        above = λ a le. kept_above ram (v.sp + x) n a (let z = home.1 in omega arith);
        bytes = word_bytes ram (v.sp + x) n;
      }

  -- MOV from a home or a number, up to its destination
  pub sourced : (v : View) (others : List ℕ) (ram : ℕ → ℕ) (s : Source) (d : Operand) (n : ℕ) → IsRoom data_end top v → Fits top v others ram → Has top v s n →
      ran ops (Two op2.Mov false (operand_of s) d) (state_of image (behind v) others ram) ≡ after_source v others ram (further (operand_of s)) d n
  sourced v others ram (Of (InRegister r)) d n room fits has = ap (put_source v others 0 d) (reads (behind v) others ram (Of (InRegister r)) n (v.pc + 2) room fits has)
  sourced v others ram (Of (InFrame x)) d n room fits has = ap (put_source v others 2 d) (reads (behind v) others ram (Of (InFrame x)) n (v.pc + 2) room fits has)
  sourced v others ram (Number k) d n room fits has = ap (put_source v others 2 d) (reads (behind v) others ram (Number k) n (v.pc + 2) room fits has)
  sourced v others ram (Made k) d n room fits has = ap (put_source v others 0 d) (reads (behind v) others ram (Made k) n (v.pc + 2) room fits has)
  sourced v others ram StackPointer d n room fits has = ap (put_source v others 0 d) (reads (behind v) others ram StackPointer n (v.pc + 2) room fits has)

  -- MOV from a home or a number to a home
  pub moves : (v : View) (others : List ℕ) (ram : ℕ → ℕ) (s : Source) (h : Home) (n : ℕ) → IsRoom data_end top v → Fits top v others ram → bit v.sr 4 ≡ false →
      IsAt image v.pc (Two op2.Mov false (operand_of s) (at_home h)) → v.pc + 2 + further (operand_of s) + further (at_home h) < 0x10000 → Has top v s n → IsHome top v h →
      Leads image data_end top now v (passed (put_home v h n) (2 + further (operand_of s) + further (at_home h))) others ram
  moves v others ram s h n room fits awake at end has home =
      let i = Two op2.Mov false (operand_of s) (at_home h) in
      let l = lands v others ram (further (operand_of s)) h n room fits at.high (few s) end home (small_of top v s n has) in
      record {
        others' = l.others;
        ram' = l.ram;
        same = runs image data_end now v others ram i at awake
            ∙ ap (λ j. told ops (gated ops (bit v.sr 3) i j)) (sourced v others ram s (at_home h) n room fits has)
            ∙ ap (told ops) l.same;
        fits = l.fits;
        above = l.above;
        bytes = l.bytes;
        gate = refl;
        even_pc = even_at v.pc at.even;
        small_pc = let z = at.high in omega arith;
      }
