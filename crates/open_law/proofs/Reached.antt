-- Instructions that read and write memory where a register leads: bytes of objects, and words and bytes of the frame.
use Rattle.std.proofs.Common.{Option, ◌≡◌, ◌≢◌, ◌⊎◌, ⊎_elim, ℕ, zero, suc, ◌+◌, ◌/◌, ◌%◌, ◌<◌, ◌≤◌, ◌==◌, Bool, true, false, cond, not, List, [], ◌∷◌, ◌++◌, refl, ap, ◌∙◌, arith}
use Rattle.std.proofs.lemmas.Bool.Decides.{nat_tests, eqb_tells}
use Rattle.nm_base.specs.Lists.{bit}
use Rattle.nm_base.specs.declared.action.Action.{Action}
use Rattle.nm_base.specs.declared.action.Action.TheVariants as action
use Rattle.msp_isa.specs.declared.instr.Op2.TheVariants as op2
use Rattle.msp_isa.specs.declared.instr.Operand.{Operand}
use Rattle.msp_isa.specs.declared.instr.Operand.TheVariants.{Reg, Indexed, Indirect}
use Rattle.msp_isa.specs.declared.instr.Instr.TheVariants.{Two}
use Rattle.msp_isa.specs.Stands.{word_in, IsAt}
use Rattle.msp430_cpu.specs.Cpu.{Cpu, even, wrap16, reg, changed_at}
use Rattle.msp430_cpu.specs.Bus.{Bus}
use Rattle.msp430_cpu.specs.Exec.{Joined, AtAddress, place_of, value_at, ran, further, finished, told, gated}
use Rattle.msp430_cpu.specs.Operate.{plain_result}
use Rattle.msp430_cpu.specs.Memory.{is_ram, is_port, with_word_at}
use Rattle.open_law.specs.Homes.{Home, InRegister, InFrame, Source, Of, Number, Made, StackPointer, at_home, operand_of, IsByte}
use Rattle.open_law.specs.Open.{Done, Logged, Moment, is_data, logged_bus, logged_write, logged_read}
use Rattle.open_law.proofs.View.{View, even_at, cpu_of, memory_of, state_of, Fits, Leads, IsRoom, runs, behind, word_bytes}
use Rattle.open_law.proofs.Quiet.{Has, IsHome, put_home, passed, few, little, reg_plain, sourced, put_source, lands, kept_above, stack_word, stack_byte, stack_write, stack_write_byte}
use Rattle.open_law.proofs.Acting.{noted_doing, address_in}

module _ (image : ℕ → ℕ) (data_end top : ℕ) (now : Moment) where
  abbrev ops : Bus Logged
  ops = logged_bus data_end now.answer

  -- the low byte of a source is read
  reads_byte : (v : View) (others : List ℕ) (ram : ℕ → ℕ) (s : Source) (n at : ℕ) → IsRoom data_end top v → Fits top v others ram → ((b : ℕ) → ram b < 0x100) → Has top v s n →
      value_at ops (state_of image v others ram) true (place_of (cpu_of v others) at (operand_of s)) ≡ (n % 256, memory_of image v ram)
  reads_byte v others ram (Of (InRegister r)) n at room fits bytes h =
      let e : reg (cpu_of v others) r ≡ n = reg_plain (cpu_of v others) r h.0.0 ∙ fits.regs r h.0.0 h.0.1 ∙ h.1 in
      ap (λ x. (x % 0x100, memory_of image v ram)) e
  reads_byte v others ram (Of (InFrame x)) n at room fits bytes h =
      let t = room.high in let hi = h.0.1 in
      let w : wrap16 (v.sp + x) ≡ v.sp + x = omega arith in
      let b = bytes (v.sp + x) in
      let same = fits.stack (v.sp + x) (omega arith) (omega arith) in
      let is = h.1 in
      let low : v.stack (v.sp + x) ≡ n % 256 = omega (arith, b, same, is) in
      ap (λ a. logged_read data_end now.answer (memory_of image v ram) a false) w
      ∙ stack_byte image data_end top now v others ram (v.sp + x) room fits (omega arith) (omega arith)
      ∙ ap (λ q. (q, memory_of image v ram)) low
  reads_byte v others ram (Number k) n at room fits bytes h = ap (λ x. (x % 256, memory_of image v ram)) h.0
  reads_byte v others ram (Made k) n at room fits bytes h = ap (λ x. (x % 256, memory_of image v ram)) h.0
  reads_byte v others ram StackPointer n at room fits bytes h = ap (λ x. (x % 256, memory_of image v ram)) h.0

  -- MOV up to its destination, from what reading the source gave
  abbrev from_source : View → List ℕ → Bool → ℕ → Operand → ℕ × Logged → Joined Logged
  from_source v others byte k d q =
      let at = wrap16 (v.pc + 2 + k) in
      finished ops (record { cpu = cpu_of (record v { pc = wrap16 (at + further d) }) others; bus = q.1 }) byte (place_of (cpu_of (behind v) others) at d) (plain_result v.sr q.0)

  sourced_byte : (v : View) (others : List ℕ) (ram : ℕ → ℕ) (s : Source) (d : Operand) (n : ℕ) → IsRoom data_end top v → Fits top v others ram → ((b : ℕ) → ram b < 0x100) → Has top v s n →
      ran ops (Two op2.Mov true (operand_of s) d) (state_of image (behind v) others ram) ≡ from_source v others true (further (operand_of s)) d (n % 256, memory_of image v ram)
  sourced_byte v others ram (Of (InRegister r)) d n room fits bytes has = ap (from_source v others true 0 d) (reads_byte (behind v) others ram (Of (InRegister r)) n (v.pc + 2) room fits bytes has)
  sourced_byte v others ram (Of (InFrame x)) d n room fits bytes has = ap (from_source v others true 2 d) (reads_byte (behind v) others ram (Of (InFrame x)) n (v.pc + 2) room fits bytes has)
  sourced_byte v others ram (Number k) d n room fits bytes has = ap (from_source v others true 2 d) (reads_byte (behind v) others ram (Number k) n (v.pc + 2) room fits bytes has)
  sourced_byte v others ram (Made k) d n room fits bytes has = ap (from_source v others true 0 d) (reads_byte (behind v) others ram (Made k) n (v.pc + 2) room fits bytes has)
  sourced_byte v others ram StackPointer d n room fits bytes has = ap (from_source v others true 0 d) (reads_byte (behind v) others ram StackPointer n (v.pc + 2) room fits bytes has)

  base_at : (c : Cpu) (at r a : ℕ) → 4 ≤ r → a < 0x10000 → reg c r ≡ a → place_of c at (Indexed r 0) ≡ AtAddress a
  base_at c at zero a lo small e = absurd (omega arith)
  base_at c at (suc r) a lo small e = let w : wrap16 (a + 0) ≡ a = omega arith in ap (λ x. AtAddress (wrap16 (x + 0))) e ∙ ap AtAddress w

  -- MOV of a word or a byte to where a register leads
  writes_at : (v : View) (others : List ℕ) (ram ram' : ℕ → ℕ) (byte : Bool) (s : Source) (r m a : ℕ) (stack' : ℕ → ℕ) (made' : List Action) (faulted' : Option ℕ) (noted' : List Done) → IsRoom data_end top v → Fits top v others ram → bit v.sr 4 ≡ false →
      IsAt image v.pc (Two op2.Mov byte (operand_of s) (Indexed r 0)) → v.pc + 4 + further (operand_of s) < 0x10000 → a < 0x10000 → Has top v (Of (InRegister r)) a →
      ran ops (Two op2.Mov byte (operand_of s) (Indexed r 0)) (state_of image (behind v) others ram) ≡ from_source v others byte (further (operand_of s)) (Indexed r 0) (m, memory_of image v ram) →
      logged_write data_end now.answer (memory_of image v ram) a (not byte) m ≡ memory_of image (record v { stack = stack'; made = made'; faulted = faulted'; noted = noted' }) ram' →
      ((b : ℕ) → v.sp ≤ b → b < top → ram' b ≡ stack' b) → ((b : ℕ) → top ≤ b → ram' b ≡ ram b) → (((b : ℕ) → ram b < 0x100) → (b : ℕ) → ram' b < 0x100) →
      Leads image data_end top now v (passed (record v { stack = stack'; made = made'; faulted = faulted'; noted = noted' }) (4 + further (operand_of s))) others ram
  writes_at v others ram ram' byte s r m a stack' made' faulted' noted' room fits awake at end small base source write keeps over bytes =
      let k = further (operand_of s) in
      let f2 = few s in
      let u = record v { stack = stack'; made = made'; faulted = faulted'; noted = noted' } in
      let e : wrap16 (wrap16 (v.pc + 2 + k) + 2) ≡ v.pc + (4 + k) = omega arith in
      let place = base_at (cpu_of (behind v) others) (wrap16 (v.pc + 2 + k)) r a base.0.0 small (address_in image data_end top now v others ram r a fits base) in
      let landed : gated ops (bit v.sr 3) (Two op2.Mov byte (operand_of s) (Indexed r 0)) (from_source v others byte k (Indexed r 0) (m, memory_of image v ram)) ≡ state_of image (passed u (4 + k)) others ram' = rw (place, write, e) refl in
      record {
        others' = others;
        ram' = ram';
        same = runs image data_end now v others ram (Two op2.Mov byte (operand_of s) (Indexed r 0)) at awake
            ∙ ap (λ j. told ops (gated ops (bit v.sr 3) (Two op2.Mov byte (operand_of s) (Indexed r 0)) j)) source
            ∙ ap (told ops) landed;
        fits = record { long = fits.long; regs = fits.regs; words = fits.words; stack = keeps };
        above = over;
        bytes = bytes;
        gate = refl;
        even_pc = even_at v.pc at.even;
        small_pc = let z = at.high in omega arith;
      }

  byte_kept : (ram : ℕ → ℕ) (a n b : ℕ) → a ≢ b → changed_at ram a n b ≡ ram b
  byte_kept ram a n b ne = by (eqb_tells b a)
    where
      by : (((b == a) ≡ true) × (b ≡ a)) ⊎ (((b == a) ≡ false) × (b ≢ a)) → changed_at ram a n b ≡ ram b
      by t = ⊎_elim (λ y. absurd (ne (let e = y.1 in omega arith))) (λ y. rw (y.0) refl) t

  changed_bytes : (ram : ℕ → ℕ) (a n : ℕ) → n < 0x100 → ((b : ℕ) → ram b < 0x100) → (b : ℕ) → changed_at ram a n b < 0x100
  changed_bytes ram a n small bytes b = by (b == a)
    where
      by : (t : Bool) → cond t n (ram b) < 0x100
      by true = small
      by false = bytes b

  -- MOV.B s, 0(r), to an object
  pub stores_byte : (v : View) (others : List ℕ) (ram : ℕ → ℕ) (s : Source) (r n a : ℕ) → IsRoom data_end top v → Fits top v others ram → ((b : ℕ) → ram b < 0x100) → bit v.sr 4 ≡ false →
      IsAt image v.pc (Two op2.Mov true (operand_of s) (Indexed r 0)) → v.pc + 4 + further (operand_of s) < 0x10000 → Has top v s n → Has top v (Of (InRegister r)) a → IsByte data_end a →
      Leads image data_end top now v (passed (noted_doing v (action.Store a false (n % 256)) v.faulted) (4 + further (operand_of s))) others ram
  stores_byte v others ram s r n a room fits bytes awake at end has base byte =
      let lo = byte.low in let hi = byte.high in
      let l = room.low in let i = room.inside in let t = room.high in
      let p : is_port a ≡ false = grind (arith, nat_tests) in
      let d : is_data data_end a ≡ true = grind (arith, nat_tests) in
      let m : is_ram a ≡ true = grind (arith, nat_tests) in
      let did = action.Store a false (n % 256) in
      let write : logged_write data_end now.answer (memory_of image v ram) a false (n % 256) ≡ memory_of image (noted_doing v did v.faulted) (changed_at ram a (n % 256 % 256)) = rw (p, d, m) refl in
      writes_at v others ram (changed_at ram a (n % 256 % 256)) true s r (n % 256) a v.stack (v.made ++ (did ∷ [])) v.faulted (v.noted ++ (record { action = did; answers = [] } ∷ [])) room fits awake at end (omega arith) base
      (sourced_byte v others ram s (Indexed r 0) n room fits bytes has) write
      (λ b from below. byte_kept ram a (n % 256 % 256) b (λ e. omega (arith, e, from, hi, l)) ∙ fits.stack b from below)
      (λ b le. byte_kept ram a (n % 256 % 256) b (λ e. omega (arith, e, le, hi, l, i))) (changed_bytes ram a (n % 256 % 256) (omega arith))

  -- MOV s, 0(r), to the frame
  pub pokes : (v : View) (others : List ℕ) (ram : ℕ → ℕ) (s : Source) (r n a : ℕ) → IsRoom data_end top v → Fits top v others ram → bit v.sr 4 ≡ false →
      IsAt image v.pc (Two op2.Mov false (operand_of s) (Indexed r 0)) → v.pc + 4 + further (operand_of s) < 0x10000 → Has top v s n → Has top v (Of (InRegister r)) a → even a ≡ a → v.sp ≤ a → a + 2 ≤ top →
      Leads image data_end top now v (passed (record v { stack = with_word_at v.stack a n }) (4 + further (operand_of s))) others ram
  pokes v others ram s r n a room fits awake at end has base ev lo hi =
      let t = room.high in
      writes_at v others ram (with_word_at ram a n) false s r n a (with_word_at v.stack a n) v.made v.faulted v.noted room fits awake at end (omega arith) base
      (sourced image data_end top now v others ram s (Indexed r 0) n room fits has) (stack_write image data_end top now v ram a n room ev lo hi)
      (λ b from below. ap (λ x. cond (b == a + 1) (n / 256 % 256) (cond (b == a) (n % 256) x)) (fits.stack b from below))
      (λ b le. kept_above image data_end top now ram a n b (omega arith)) (word_bytes ram a n)

  -- MOV.B s, 0(r), to the frame
  pub pokes_byte : (v : View) (others : List ℕ) (ram : ℕ → ℕ) (s : Source) (r n a : ℕ) → IsRoom data_end top v → Fits top v others ram → ((b : ℕ) → ram b < 0x100) → bit v.sr 4 ≡ false →
      IsAt image v.pc (Two op2.Mov true (operand_of s) (Indexed r 0)) → v.pc + 4 + further (operand_of s) < 0x10000 → Has top v s n → Has top v (Of (InRegister r)) a → v.sp ≤ a → a < top →
      Leads image data_end top now v (passed (record v { stack = changed_at v.stack a (n % 256) }) (4 + further (operand_of s))) others ram
  pokes_byte v others ram s r n a room fits bytes awake at end has base lo hi =
      let t = room.high in
      let once : n % 256 % 256 ≡ n % 256 = omega arith in
      let write = stack_write_byte image data_end top now v ram a (n % 256) room lo hi ∙ ap (λ x. memory_of image v (changed_at ram a x)) once in
      writes_at v others ram (changed_at ram a (n % 256)) true s r (n % 256) a (changed_at v.stack a (n % 256)) v.made v.faulted v.noted room fits awake at end (omega arith) base
      (sourced_byte v others ram s (Indexed r 0) n room fits bytes has) write
      (λ b from below. ap (λ x. cond (b == a) (n % 256) x) (fits.stack b from below))
      (λ b le. byte_kept ram a (n % 256) b (λ e. omega (arith, e, le, hi))) (changed_bytes ram a (n % 256) (omega arith))

  -- MOV @r, to a home, and MOV.B @r, to a register, from the frame
  peeked : (v : View) (others : List ℕ) (ram : ℕ → ℕ) (byte : Bool) (r : ℕ) (h : Home) (x : ℕ) → IsRoom data_end top v → Fits top v others ram → bit v.sr 4 ≡ false →
      IsAt image v.pc (Two op2.Mov byte (Indirect r) (at_home h)) → IsHome top v h → x < 0x10000 →
      ran ops (Two op2.Mov byte (Indirect r) (at_home h)) (state_of image (behind v) others ram) ≡ put_source image data_end top now v others 0 (at_home h) (x, memory_of image v ram) →
      Leads image data_end top now v (passed (put_home v h x) (2 + 0 + further (at_home h))) others ram
  peeked v others ram byte r h x room fits awake at plain small source =
      let up = at.high in
      let f = little h in
      let l = lands image data_end top now v others ram 0 h x room fits at.high (omega arith) (omega arith) plain small in
      record {
        others' = l.others;
        ram' = l.ram;
        same = runs image data_end now v others ram (Two op2.Mov byte (Indirect r) (at_home h)) at awake
            ∙ ap (λ j. told ops (gated ops (bit v.sr 3) (Two op2.Mov byte (Indirect r) (at_home h)) j)) source
            ∙ ap (told ops) l.same;
        fits = l.fits;
        above = l.above;
        bytes = l.bytes;
        gate = refl;
        even_pc = even_at v.pc at.even;
        small_pc = omega arith;
      }

  pub peeks : (v : View) (others : List ℕ) (ram : ℕ → ℕ) (r : ℕ) (h : Home) (a : ℕ) → IsRoom data_end top v → Fits top v others ram → ((b : ℕ) → ram b < 0x100) → bit v.sr 4 ≡ false →
      IsAt image v.pc (Two op2.Mov false (Indirect r) (at_home h)) → Has top v (Of (InRegister r)) a → IsHome top v h → even a ≡ a → v.sp ≤ a → a + 2 ≤ top →
      Leads image data_end top now v (passed (put_home v h (word_in v.stack a)) (2 + 0 + further (at_home h))) others ram
  peeks v others ram r h a room fits bytes awake at has plain ev lo hi =
      let b0 = bytes a in let b1 = bytes (a + 1) in
      let s0 = fits.stack a lo (omega arith) in let s1 = fits.stack (a + 1) (omega arith) (omega arith) in
      peeked v others ram false r h (word_in v.stack a) room fits awake at plain (omega (arith, b0, b1, s0, s1))
      (ap (put_source image data_end top now v others 0 (at_home h))
      (ap (λ b. logged_read data_end now.answer (memory_of image v ram) b true) (address_in image data_end top now v others ram r a fits has) ∙ stack_word image data_end top now v others ram a room fits ev lo hi))

  pub peeks_byte : (v : View) (others : List ℕ) (ram : ℕ → ℕ) (r q a : ℕ) → IsRoom data_end top v → Fits top v others ram → ((b : ℕ) → ram b < 0x100) → bit v.sr 4 ≡ false →
      IsAt image v.pc (Two op2.Mov true (Indirect r) (Reg q)) → Has top v (Of (InRegister r)) a → (4 ≤ q) × (q < 16) → v.sp ≤ a → a < top →
      Leads image data_end top now v (passed (put_home v (InRegister q) (v.stack a)) (2 + 0 + 0)) others ram
  peeks_byte v others ram r q a room fits bytes awake at has plain lo hi =
      let b0 = bytes a in
      let s0 = fits.stack a lo hi in
      peeked v others ram true r (InRegister q) (v.stack a) room fits awake at plain (omega (arith, b0, s0))
      (ap (put_source image data_end top now v others 0 (Reg q))
      (ap (λ b. logged_read data_end now.answer (memory_of image v ram) b false) (address_in image data_end top now v others ram r a fits has) ∙ stack_byte image data_end top now v others ram a room fits lo hi))
