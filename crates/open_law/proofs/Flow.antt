-- Instructions that move PC and SP.
use Rattle.std.proofs.Common.{◌≡◌, ◌≢◌, ◌⊎◌, ⊎_elim, ℕ, ℤ, ◌+◌, ◌-◌, ◌%◌, ◌<◌, ◌≤◌, ◌==◌, Bool, true, false, cond, List, refl, sym, ap, ◌∙◌, arith}
use Rattle.std.proofs.lemmas.Bool.Decides.{nat_tests, eqb_tells}
use Rattle.nm_base.specs.Lists.{bit}
use Rattle.msp_isa.specs.declared.instr.Op2.TheVariants as op2
use Rattle.msp_isa.specs.declared.instr.Operand.TheVariants.{Reg, Increment, Immediate}
use Rattle.msp_isa.specs.declared.instr.Instr.TheVariants.{Two, One, Jump}
use Rattle.msp430_cpu.specs.Cpu.{even, wrap16}
use Rattle.msp430_cpu.specs.Bus.{Bus}
use Rattle.msp430_cpu.specs.Exec.{Joined, InRegister as AtRegister, ran, further, finished, pushed, told, gated, jumped}
use Rattle.msp430_cpu.specs.Operate.{is_taken, operate}
use Rattle.msp430_cpu.specs.Memory.{is_ram, is_port, with_word_at}
use Rattle.open_law.specs.Open.{Logged, Moment, is_data, logged_bus, logged_write, logged_read}
use Rattle.msp_isa.specs.Stands.{word_in, IsAt}
use Rattle.open_law.proofs.View.{View, even_at, cpu_of, memory_of, state_of, Fits, Leads, IsRoom, runs, behind, word_bytes}
use Rattle.open_law.specs.Homes.{InRegister, InFrame, Source, Of, Number, Made, StackPointer, operand_of}
use Rattle.open_law.proofs.Quiet.{Has, few, reads, passed, frame_word, kept_above}
use Rattle.msp_isa.specs.declared.instr.Cond.{Cond}
use Rattle.msp_isa.specs.declared.instr.Op1.TheVariants as op1

-- a word is put below SP
abbrev pub pushing : View → ℕ → View
pushing v n = record v { sp = v.sp - 2; stack = with_word_at v.stack (v.sp - 2) n }

module _ (image : ℕ → ℕ) (data_end top : ℕ) (now : Moment) where
  abbrev ops : Bus Logged
  ops = logged_bus data_end now.answer

  jumps_by : (v : View) (others : List ℕ) (ram : ℕ → ℕ) (c : Cond) (k : ℤ) (taken : Bool) → is_taken c v.sr ≡ taken →
      ran ops (Jump c k) (state_of image (behind v) others ram) ≡ state_of image (record v { pc = cond taken (jumped (v.pc + 2) k) (v.pc + 2) }) others ram
  jumps_by v others ram c k true e = rw e refl
  jumps_by v others ram c k false e = rw e refl

  -- a jump
  pub jumps : (v : View) (others : List ℕ) (ram : ℕ → ℕ) (c : Cond) (k : ℤ) (taken : Bool) → Fits top v others ram → bit v.sr 4 ≡ false →
      IsAt image v.pc (Jump c k) → is_taken c v.sr ≡ taken →
      Leads image data_end top now v (record v { pc = cond taken (jumped (v.pc + 2) k) (v.pc + 2); gate = bit v.sr 3 }) others ram
  jumps v others ram c k taken fits awake at e = record {
    others' = others;
    ram' = ram;
    same = runs image data_end now v others ram (Jump c k) at awake ∙ ap (λ j. told ops (gated ops (bit v.sr 3) (Jump c k) j)) (jumps_by v others ram c k taken e);
    fits = record { long = fits.long; regs = fits.regs; words = fits.words; stack = fits.stack };
    above = λ a le. refl;
    bytes = λ b. b;
    gate = refl;
    even_pc = even_at v.pc at.even;
    small_pc = let z = at.high in omega arith;
  }

  push_word : (v : View) (ram : ℕ → ℕ) (n : ℕ) → IsRoom data_end top v → data_end + 2 ≤ v.sp →
      logged_write data_end now.answer (memory_of image v ram) (wrap16 (v.sp + 0xFFFE)) true n ≡ memory_of image v (with_word_at ram (v.sp - 2) n)
  push_word v ram n room deep =
      let d = room.objects in let i = room.inside in let t = room.high in let s = room.even_sp in
      let a = v.sp - 2 in
      let w : wrap16 (v.sp + 0xFFFE) ≡ a = omega arith in
      let e : even a ≡ a = omega arith in
      let p : is_port a ≡ false = grind (arith, nat_tests) in
      let n' : is_data data_end a ≡ false = grind (arith, nat_tests) in
      let r : is_ram a ≡ true = grind (arith, nat_tests) in
      rw (w, p, n', r, e) refl

  pushed_word : (v : View) (ram : ℕ → ℕ) (n a : ℕ) → 2 ≤ v.sp → v.sp - 2 ≤ a → (v.sp ≤ a → ram a ≡ v.stack a) →
      (((a == v.sp - 2 + 1) ≡ true) × (a ≡ v.sp - 2 + 1)) ⊎ (((a == v.sp - 2 + 1) ≡ false) × (a ≢ v.sp - 2 + 1)) →
      (((a == v.sp - 2) ≡ true) × (a ≡ v.sp - 2)) ⊎ (((a == v.sp - 2) ≡ false) × (a ≢ v.sp - 2)) →
      with_word_at ram (v.sp - 2) n a ≡ with_word_at v.stack (v.sp - 2) n a
  pushed_word v ram n a deep lo above one nought =
      ⊎_elim
      (λ t. rw (t.0) refl)
      (λ t. ⊎_elim
      (λ u. rw (t.0, u.0) refl)
      (λ u. rw (t.0, u.0) (above (let p = t.1 in let q = u.1 in omega arith)))
      nought)
      one

  pushed_fits : (v : View) (others : List ℕ) (ram : ℕ → ℕ) (n : ℕ) → 2 ≤ v.sp → Fits top v others ram → Fits top (pushing v n) others (with_word_at ram (v.sp - 2) n)
  pushed_fits v others ram n deep fits = record {
    long = fits.long;
    regs = fits.regs;
    words = fits.words;
    stack = λ a lo hi. pushed_word v ram n a deep lo (λ from. fits.stack a from hi) (eqb_tells a (v.sp - 2 + 1)) (eqb_tells a (v.sp - 2));
  }

  -- CALL #target
  pub calls : (v : View) (others : List ℕ) (ram : ℕ → ℕ) (target : ℕ) → IsRoom data_end top v → data_end + 2 ≤ v.sp → Fits top v others ram → bit v.sr 4 ≡ false →
      IsAt image v.pc (One op1.Call false (Immediate target)) → v.pc + 4 < 0x10000 → even target ≡ target → target < 0x10000 →
      Leads image data_end top now v (record (pushing v (v.pc + 4)) { pc = target; gate = bit v.sr 3 }) others ram
  calls v others ram target room deep fits awake at end ev small =
      let d = room.objects in let u = room.inside in let t = room.high in
      let e : wrap16 (v.pc + 2 + 2) ≡ v.pc + 4 = omega arith in
      let s : wrap16 (v.sp + 0xFFFE) ≡ v.sp - 2 = omega arith in
      let m : target % 0x10000 ≡ target = omega arith in
      let does : ran ops (One op1.Call false (Immediate target)) (state_of image (behind v) others ram) ≡ state_of image (record (pushing v (v.pc + 4)) { pc = target }) others (with_word_at ram (v.sp - 2) (v.pc + 4)) =
      rw (e, push_word v ram (v.pc + 4) room deep, s, m, ev) refl in
      let f = pushed_fits v others ram (v.pc + 4) (omega arith) fits in
      record {
        others' = others;
        ram' = with_word_at ram (v.sp - 2) (v.pc + 4);
        same = runs image data_end now v others ram (One op1.Call false (Immediate target)) at awake ∙ ap (λ j. told ops (gated ops (bit v.sr 3) (One op1.Call false (Immediate target)) j)) does;
        fits = record { long = f.long; regs = f.regs; words = f.words; stack = f.stack };
        above = λ a le. kept_above image data_end top now ram (v.sp - 2) (v.pc + 4) a (let z = room.inside in omega arith);
        bytes = word_bytes ram (v.sp - 2) (v.pc + 4);
        gate = refl;
        even_pc = even_at v.pc at.even;
        small_pc = let z = at.high in omega arith;
      }

  -- from what reading the source gave
  abbrev push_source : View → List ℕ → ℕ → ℕ × Logged → Joined Logged
  push_source v others k q = pushed ops (record { cpu = cpu_of (record v { pc = wrap16 (v.pc + 2 + k) }) others; bus = q.1 }) false q.0

  push_read : (v : View) (others : List ℕ) (ram : ℕ → ℕ) (s : Source) (n : ℕ) → IsRoom data_end top v → Fits top v others ram → Has top v s n →
      ran ops (One op1.Push false (operand_of s)) (state_of image (behind v) others ram) ≡ push_source v others (further (operand_of s)) (n, memory_of image v ram)
  push_read v others ram (Of (InRegister r)) n room fits has = ap (push_source v others 0) (reads image data_end top now (behind v) others ram (Of (InRegister r)) n (v.pc + 2) room fits has)
  push_read v others ram (Of (InFrame x)) n room fits has = ap (push_source v others 2) (reads image data_end top now (behind v) others ram (Of (InFrame x)) n (v.pc + 2) room fits has)
  push_read v others ram (Number k) n room fits has = ap (push_source v others 2) (reads image data_end top now (behind v) others ram (Number k) n (v.pc + 2) room fits has)
  push_read v others ram (Made k) n room fits has = ap (push_source v others 0) (reads image data_end top now (behind v) others ram (Made k) n (v.pc + 2) room fits has)
  push_read v others ram StackPointer n room fits has = ap (push_source v others 0) (reads image data_end top now (behind v) others ram StackPointer n (v.pc + 2) room fits has)

  -- PUSH
  pub pushes : (v : View) (others : List ℕ) (ram : ℕ → ℕ) (s : Source) (n : ℕ) → IsRoom data_end top v → data_end + 2 ≤ v.sp → Fits top v others ram → bit v.sr 4 ≡ false →
      IsAt image v.pc (One op1.Push false (operand_of s)) → Has top v s n →
      Leads image data_end top now v (passed (pushing v n) (2 + further (operand_of s))) others ram
  pushes v others ram s n room deep fits awake at has =
      let d = room.objects in let u = room.inside in let t = room.high in let f2 = few s in let up = at.high in
      let k = further (operand_of s) in
      let e : wrap16 (v.pc + 2 + k) ≡ v.pc + (2 + k) = omega arith in
      let p : wrap16 (v.sp + 0xFFFE) ≡ v.sp - 2 = omega arith in
      let does : push_source v others k (n, memory_of image v ram) ≡ state_of image (record (pushing v n) { pc = v.pc + (2 + k) }) others (with_word_at ram (v.sp - 2) n) =
      rw (e, push_word v ram n room deep, p) refl in
      let f = pushed_fits v others ram n (omega arith) fits in
      record {
        others' = others;
        ram' = with_word_at ram (v.sp - 2) n;
        same = runs image data_end now v others ram (One op1.Push false (operand_of s)) at awake
            ∙ ap (λ j. told ops (gated ops (bit v.sr 3) (One op1.Push false (operand_of s)) j)) (push_read v others ram s n room fits has ∙ does);
        fits = record { long = f.long; regs = f.regs; words = f.words; stack = f.stack };
        above = λ a le. kept_above image data_end top now ram (v.sp - 2) n a (let z = room.inside in omega arith);
        bytes = word_bytes ram (v.sp - 2) n;
        gate = refl;
        even_pc = even_at v.pc at.even;
        small_pc = let z = at.high in omega arith;
      }

  -- ADD of a number to SP, from what reading the number gave
  abbrev raise_source : View → List ℕ → ℕ → ℕ × Logged → Joined Logged
  raise_source v others k q =
      finished ops (record { cpu = cpu_of (record v { pc = wrap16 (wrap16 (v.pc + 2 + k) + 0) }) others; bus = q.1 }) false (AtRegister 1) (operate op2.Add false v.sr q.0 (v.sp % 0x10000))

  raise_read : (v : View) (others : List ℕ) (ram : ℕ → ℕ) (s : Source) (n : ℕ) → IsRoom data_end top v → Fits top v others ram → Has top v s n →
      ran ops (Two op2.Add false (operand_of s) (Reg 1)) (state_of image (behind v) others ram) ≡ raise_source v others (further (operand_of s)) (n, memory_of image v ram)
  raise_read v others ram (Of (InRegister r)) n room fits has = ap (raise_source v others 0) (reads image data_end top now (behind v) others ram (Of (InRegister r)) n (v.pc + 2) room fits has)
  raise_read v others ram (Of (InFrame x)) n room fits has = ap (raise_source v others 2) (reads image data_end top now (behind v) others ram (Of (InFrame x)) n (v.pc + 2) room fits has)
  raise_read v others ram (Number k) n room fits has = ap (raise_source v others 2) (reads image data_end top now (behind v) others ram (Number k) n (v.pc + 2) room fits has)
  raise_read v others ram (Made k) n room fits has = ap (raise_source v others 0) (reads image data_end top now (behind v) others ram (Made k) n (v.pc + 2) room fits has)
  raise_read v others ram StackPointer n room fits has = ap (raise_source v others 0) (reads image data_end top now (behind v) others ram StackPointer n (v.pc + 2) room fits has)

  -- ADD of a number to SP
  pub adds_sp : (v : View) (others : List ℕ) (ram : ℕ → ℕ) (s : Source) (n : ℕ) → IsRoom data_end top v → Fits top v others ram → bit v.sr 4 ≡ false →
      IsAt image v.pc (Two op2.Add false (operand_of s) (Reg 1)) → Has top v s n → v.sp + n ≤ top → even n ≡ n →
      Leads image data_end top now v (record (passed v (2 + further (operand_of s))) { sp = v.sp + n; sr = (operate op2.Add false v.sr n v.sp).sr }) others ram
  adds_sp v others ram s n room fits awake at has hi ev =
      let t = room.high in let p = room.even_sp in let f2 = few s in let up = at.high in
      let k = further (operand_of s) in
      let e : wrap16 (wrap16 (v.pc + 2 + k) + 0) ≡ v.pc + (2 + k) = omega arith in
      let w : v.sp % 0x10000 ≡ v.sp = omega arith in
      let sum : even ((v.sp + n + 0) % 0x10000) ≡ v.sp + n = omega arith in
      let does : raise_source v others k (n, memory_of image v ram) ≡ state_of image (record v { pc = v.pc + (2 + k); sp = v.sp + n; sr = (operate op2.Add false v.sr n v.sp).sr }) others ram =
      rw (e, w, sum) refl in
      record {
        others' = others;
        ram' = ram;
        same = runs image data_end now v others ram (Two op2.Add false (operand_of s) (Reg 1)) at awake
            ∙ ap (λ j. told ops (gated ops (bit v.sr 3) (Two op2.Add false (operand_of s) (Reg 1)) j)) (raise_read v others ram s n room fits has ∙ does);
        fits = record { long = fits.long; regs = fits.regs; words = fits.words; stack = λ a lo below. fits.stack a (omega arith) below };
        above = λ a le. refl;
        bytes = λ b. b;
        gate = refl;
        even_pc = even_at v.pc at.even;
        small_pc = let z = at.high in omega arith;
      }

  -- MOV #target, PC
  pub goes_to : (v : View) (others : List ℕ) (ram : ℕ → ℕ) (target : ℕ) → Fits top v others ram → bit v.sr 4 ≡ false →
      IsAt image v.pc (Two op2.Mov false (Immediate target) (Reg 0)) → even target ≡ target → target < 0x10000 →
      Leads image data_end top now v (record v { pc = target; gate = bit v.sr 3 }) others ram
  goes_to v others ram target fits awake at ev small =
      let m : target % 0x10000 ≡ target = omega arith in
      let does : ran ops (Two op2.Mov false (Immediate target) (Reg 0)) (state_of image (behind v) others ram) ≡ state_of image (record v { pc = target }) others ram = rw (m, ev) refl in
      record {
        others' = others;
        ram' = ram;
        same = runs image data_end now v others ram (Two op2.Mov false (Immediate target) (Reg 0)) at awake ∙ ap (λ j. told ops (gated ops (bit v.sr 3) (Two op2.Mov false (Immediate target) (Reg 0)) j)) does;
        fits = record { long = fits.long; regs = fits.regs; words = fits.words; stack = fits.stack };
        above = λ a le. refl;
        bytes = λ b. b;
        gate = refl;
        even_pc = even_at v.pc at.even;
        small_pc = let z = at.high in omega arith;
      }

  -- RET
  pub returns : (v : View) (others : List ℕ) (ram : ℕ → ℕ) → IsRoom data_end top v → v.sp + 2 ≤ top → Fits top v others ram → bit v.sr 4 ≡ false →
      IsAt image v.pc (Two op2.Mov false (Increment 1) (Reg 0)) →
      Leads image data_end top now v (record v { pc = even (word_in v.stack v.sp); sp = v.sp + 2; gate = bit v.sr 3 }) others ram
  returns v others ram room hi fits awake at =
      let t = room.high in let s = room.even_sp in
      let z : even 0 ≡ 0 = refl in
      let a : wrap16 (v.sp + 0) ≡ v.sp = omega arith in
      let b : v.sp + 0 ≡ v.sp = omega arith in
      let read : logged_read data_end now.answer (memory_of image v ram) v.sp true ≡ (word_in v.stack v.sp, memory_of image v ram) =
      ap (λ x. logged_read data_end now.answer (memory_of image v ram) x true) (sym a)
      ∙ frame_word image data_end top now v others ram 0 room fits z (omega arith)
      ∙ ap (λ x. (word_in v.stack x, memory_of image v ram)) b in
      let e : even (wrap16 (v.sp + 2)) ≡ v.sp + 2 = omega arith in
      let does : ran ops (Two op2.Mov false (Increment 1) (Reg 0)) (state_of image (behind v) others ram) ≡ state_of image (record v { pc = even (word_in v.stack v.sp); sp = v.sp + 2 }) others ram =
      rw (e) (ap (λ q. record { cpu = record { pc = even q.0; sp = v.sp + 2; sr = v.sr; others = others; gate = v.gate }; bus = q.1 }) read) in
      record {
        others' = others;
        ram' = ram;
        same = runs image data_end now v others ram (Two op2.Mov false (Increment 1) (Reg 0)) at awake ∙ ap (λ j. told ops (gated ops (bit v.sr 3) (Two op2.Mov false (Increment 1) (Reg 0)) j)) does;
        fits = record { long = fits.long; regs = fits.regs; words = fits.words; stack = λ x lo below. fits.stack x (omega arith) below };
        above = λ a le. refl;
        bytes = λ b. b;
        gate = refl;
        even_pc = even_at v.pc at.even;
        small_pc = let z = at.high in omega arith;
      }
