-- Instructions that make an action.
use Rattle.std.proofs.Common.{Option, Some, ◌≡◌, ◌≢◌, ℕ, zero, suc, ◌+◌, ◌%◌, ◌<◌, ◌≤◌, ◌==◌, Bool, true, false, List, [], ◌∷◌, ◌++◌, refl, ap, ◌∙◌, arith}
use Rattle.std.proofs.lemmas.Bool.Decides.{nat_tests}
use Rattle.nm_base.specs.Lists.{bit}
use Rattle.msp_isa.specs.declared.instr.Op2.TheVariants as op2
use Rattle.msp_isa.specs.declared.instr.Operand.{Operand}
use Rattle.msp_isa.specs.declared.instr.Operand.TheVariants.{Reg, Indexed, Absolute, Indirect, Immediate}
use Rattle.msp_isa.specs.declared.instr.Instr.TheVariants.{Two}
use Rattle.msp430_cpu.specs.Cpu.{Cpu, wrap16, reg}
use Rattle.msp430_cpu.specs.Bus.{Bus}
use Rattle.msp430_cpu.specs.Exec.{AtAddress, place_of, ran, further, told, gated}
use Rattle.msp430_cpu.specs.Memory.{is_ram, is_port, word_at, with_word_at}
use Rattle.open_law.specs.Homes.{Home, InRegister, Source, Of, Number, at_home, operand_of, IsByte, IsWord, IsPort}
use Rattle.open_law.specs.Open.{AreWordOuts, Logged, Moment, IsMoment, is_data, logged_bus, logged_write, logged_read}
use Rattle.msp_isa.specs.Stands.{word_in, IsAt}
use Rattle.open_law.proofs.View.{View, even_at, cpu_of, memory_of, state_of, Fits, Leads, IsRoom, runs, behind, word_bytes}
use Rattle.open_law.proofs.Quiet.{Has, IsHome, little, put_home, passed, few, sourced, after_source, put_source, lands, kept_above, reg_plain}
use Rattle.nm_base.specs.declared.action.Action.{Action}
use Rattle.nm_base.specs.declared.action.Action.TheVariants as action

-- an action was answered
abbrev pub having_got : View → Action → ℕ → View
having_got v a x = record v { made = v.made ++ (a ∷ []); answers = v.answers ++ (x ∷ []) }

-- what was done, and whether FAULT was written
abbrev pub doing : View → Action → Option ℕ → View
doing v a f = record v { made = v.made ++ (a ∷ []); faulted = f }

-- the same, as the instruction notes it
abbrev pub noted_got : View → Action → ℕ → View
noted_got v a x = record (having_got v a x) { noted = v.noted ++ (record { action = a; answers = x ∷ [] } ∷ []) }

abbrev pub noted_doing : View → Action → Option ℕ → View
noted_doing v a f = record (doing v a f) { noted = v.noted ++ (record { action = a; answers = [] } ∷ []) }

module _ (image : ℕ → ℕ) (data_end top : ℕ) (now : Moment) where
  abbrev ops : Bus Logged
  ops = logged_bus data_end now.answer

  -- an answer, and where it leads
  pub record Gets (v : View) (w : ℕ → View) (others : List ℕ) (ram : ℕ → ℕ) : Type 0 where
    pub answer : ℕ
    pub small : answer < 0x10000
    pub leads : Leads image data_end top now v (w answer) others ram

  -- the same for a byte
  pub record GetsByte (v : View) (w : ℕ → View) (others : List ℕ) (ram : ℕ → ℕ) : Type 0 where
    pub answer : ℕ
    pub small : answer < 0x100
    pub leads : Leads image data_end top now v (w answer) others ram

  data_word : (v : View) (ram : ℕ → ℕ) (a : ℕ) → IsRoom data_end top v → IsWord data_end a →
      logged_read data_end now.answer (memory_of image v ram) a true ≡ (word_in ram a, memory_of image (noted_got v (action.Load a true) (word_in ram a)) ram)
  data_word v ram a room word =
      let e = word.even in let lo = word.low in let hi = word.high in
      let l = room.low in let s = room.inside in let t = room.high in
      let p : is_port a ≡ false = grind (arith, nat_tests) in
      let n : is_data data_end a ≡ true = grind (arith, nat_tests) in
      let r : is_ram a ≡ true = grind (arith, nat_tests) in
      let r' : is_ram (a + 1) ≡ true = grind (arith, nat_tests) in
      let value : word_at (memory_of image v ram) a ≡ word_in ram a = rw (e, r, r') refl in
      rw (p, n) (ap (λ b. (word_at (memory_of image v ram) a, memory_of image (noted_got v (action.Load b true) (word_at (memory_of image v ram) a)) ram)) e ∙ ap (λ x. (x, memory_of image (noted_got v (action.Load a true) x) ram)) value)

  -- MOV from what gives an answer to a home
  gets : (v : View) (others : List ℕ) (ram : ℕ → ℕ) (byte : Bool) (s : Operand) (k : ℕ) (h : Home) (x : ℕ) (a : Action) → IsRoom data_end top v → Fits top v others ram → bit v.sr 4 ≡ false →
      IsAt image v.pc (Two op2.Mov byte s (at_home h)) → k ≤ 2 → v.pc + 2 + k + further (at_home h) < 0x10000 → IsHome top v h → x < 0x10000 →
      ran ops (Two op2.Mov byte s (at_home h)) (state_of image (behind v) others ram) ≡ after_source image data_end top now (noted_got v a x) others ram k (at_home h) x →
      Leads image data_end top now v (passed (put_home (noted_got v a x) h x) (2 + k + further (at_home h))) others ram
  gets v others ram byte s k h x a room fits awake at short end plain small source =
      let v' = noted_got v a x in
      let room' : IsRoom data_end top v' = record { objects = room.objects; low = room.low; inside = room.inside; high = room.high; even_sp = room.even_sp } in
      let fits' : Fits top v' others ram = record { long = fits.long; regs = fits.regs; words = fits.words; stack = fits.stack } in
      let l = lands image data_end top now v' others ram k h x room' fits' at.high short end plain small in
      record {
        others' = l.others;
        ram' = l.ram;
        same = runs image data_end now v others ram (Two op2.Mov byte s (at_home h)) at awake
            ∙ ap (λ j. told ops (gated ops (bit v.sr 3) (Two op2.Mov byte s (at_home h)) j)) source
            ∙ ap (told ops) l.same;
        fits = record { long = l.fits.long; regs = l.fits.regs; words = l.fits.words; stack = l.fits.stack };
        above = l.above;
        bytes = l.bytes;
        gate = refl;
        even_pc = even_at v.pc at.even;
        small_pc = let z = at.high in omega arith;
      }

  pub address_in : (v : View) (others : List ℕ) (ram : ℕ → ℕ) (r a : ℕ) → Fits top v others ram → Has top v (Of (InRegister r)) a → reg (cpu_of (behind v) others) r ≡ a
  address_in v others ram r a fits has = reg_plain (cpu_of (behind v) others) r has.0.0 ∙ fits.regs r has.0.0 has.0.1 ∙ has.1

  -- MOV @r, h
  pub loads : (v : View) (others : List ℕ) (ram : ℕ → ℕ) (r : ℕ) (h : Home) (a : ℕ) → IsRoom data_end top v → Fits top v others ram → bit v.sr 4 ≡ false →
      IsAt image v.pc (Two op2.Mov false (Indirect r) (at_home h)) → Has top v (Of (InRegister r)) a → IsHome top v h → IsWord data_end a → ((b : ℕ) → ram b < 0x100) →
      Gets v (λ x. passed (put_home (noted_got v (action.Load a true) x) h x) (2 + 0 + further (at_home h))) others ram
  loads v others ram r h a room fits awake at has plain word bytes =
      let l = room.low in let hi = word.high in let up = at.high in
      let b0 = bytes a in
      let b1 = bytes (a + 1) in
      let f = little h in
      let small : word_in ram a < 0x10000 = omega (arith, b0, b1) in
      let read = ap (λ b. logged_read data_end now.answer (memory_of image v ram) b true) (address_in v others ram r a fits has) ∙ data_word v ram a room word in
      record {
        answer = word_in ram a;
        small = small;
        leads = gets v others ram false (Indirect r) 0 h (word_in ram a) (action.Load a true) room fits awake at (omega arith) (omega arith) plain small (ap (put_source image data_end top now v others 0 (at_home h)) read);
      }

  data_byte : (v : View) (ram : ℕ → ℕ) (a : ℕ) → IsRoom data_end top v → IsByte data_end a →
      logged_read data_end now.answer (memory_of image v ram) a false ≡ (ram a, memory_of image (noted_got v (action.Load a false) (ram a)) ram)
  data_byte v ram a room byte =
      let lo = byte.low in let hi = byte.high in
      let l = room.low in let s = room.inside in let t = room.high in
      let p : is_port a ≡ false = grind (arith, nat_tests) in
      let n : is_data data_end a ≡ true = grind (arith, nat_tests) in
      let r : is_ram a ≡ true = grind (arith, nat_tests) in
      rw (p, n, r) refl

  -- MOV.B @r, q
  pub loads_byte : (v : View) (others : List ℕ) (ram : ℕ → ℕ) (r q a : ℕ) → IsRoom data_end top v → Fits top v others ram → bit v.sr 4 ≡ false →
      IsAt image v.pc (Two op2.Mov true (Indirect r) (Reg q)) → Has top v (Of (InRegister r)) a → (4 ≤ q) × (q < 16) → IsByte data_end a → ((b : ℕ) → ram b < 0x100) →
      GetsByte v (λ x. passed (put_home (noted_got v (action.Load a false) x) (InRegister q) x) (2 + 0 + 0)) others ram
  loads_byte v others ram r q a room fits awake at has plain byte bytes =
      let up = at.high in
      let b0 = bytes a in
      let read = ap (λ b. logged_read data_end now.answer (memory_of image v ram) b false) (address_in v others ram r a fits has) ∙ data_byte v ram a room byte in
      record {
        answer = ram a;
        small = b0;
        leads = gets v others ram true (Indirect r) 0 (InRegister q) (ram a) (action.Load a false) room fits awake at (omega arith) (omega arith) plain (omega (arith, b0)) (ap (put_source image data_end top now v others 0 (Reg q)) read);
      }

  -- MOV &p, h
  pub takes : (v : View) (others : List ℕ) (ram : ℕ → ℕ) (p : ℕ) (h : Home) → IsMoment now → AreWordOuts v.noted → IsRoom data_end top v → Fits top v others ram → bit v.sr 4 ≡ false →
      IsAt image v.pc (Two op2.Mov false (Absolute p) (at_home h)) → v.pc + 4 + further (at_home h) < 0x10000 → IsHome top v h → IsPort p →
      Gets v (λ x. passed (put_home (noted_got v (action.In p) x) h x) (2 + 2 + further (at_home h))) others ram
  takes v others ram p h moment outs room fits awake at end plain port =
      let lo = port.low in let hi = port.high in let e = port.even in
      let x = now.answer v.noted p in
      let t : is_port p ≡ true = grind (arith, nat_tests) in
      let none : is_data data_end p ≡ false = grind (arith, nat_tests) in
      let read : logged_read data_end now.answer (memory_of image v ram) p true ≡ (x, memory_of image (noted_got v (action.In p) x) ram) = rw (t, none) (ap (λ a. (now.answer v.noted a, memory_of image (noted_got v (action.In a) (now.answer v.noted a)) ram)) e) in
      record {
        answer = x;
        small = moment.answer v.noted p outs;
        leads = gets v others ram false (Absolute p) 2 h x (action.In p) room fits awake at (omega arith) (omega arith) plain (moment.answer v.noted p outs) (ap (put_source image data_end top now v others 2 (at_home h)) read);
      }

  -- MOV to an address
  puts : (v : View) (others : List ℕ) (ram ram' : ℕ → ℕ) (s : Source) (d : Operand) (n a : ℕ) (did : Action) (f : Option ℕ) → IsRoom data_end top v → Fits top v others ram → bit v.sr 4 ≡ false →
      IsAt image v.pc (Two op2.Mov false (operand_of s) d) → further d ≡ 2 → v.pc + 4 + further (operand_of s) < 0x10000 → Has top v s n →
      place_of (cpu_of (behind v) others) (wrap16 (v.pc + 2 + further (operand_of s))) d ≡ AtAddress a →
      logged_write data_end now.answer (memory_of image v ram) a true n ≡ memory_of image (noted_doing v did f) ram' → ((b : ℕ) → v.sp ≤ b → b < top → ram' b ≡ v.stack b) → ((b : ℕ) → top ≤ b → ram' b ≡ ram b) → (((b : ℕ) → ram b < 0x100) → (b : ℕ) → ram' b < 0x100) →
      Leads image data_end top now v (passed (noted_doing v did f) (4 + further (operand_of s))) others ram
  puts v others ram ram' s d n a did f room fits awake at two end has place write keeps over small =
      let i = Two op2.Mov false (operand_of s) d in
      let k = further (operand_of s) in
      let short = few s in
      let e : wrap16 (wrap16 (v.pc + 2 + k) + 2) ≡ v.pc + (4 + k) = omega arith in
      let landed : record (after_source image data_end top now v others ram k d n) { cpu = record (after_source image data_end top now v others ram k d n).cpu { gate = bit v.sr 3 } } ≡ state_of image (passed (noted_doing v did f) (4 + k)) others ram' = rw (place, two, write, e) refl in
      record {
        others' = others;
        ram' = ram';
        same = runs image data_end now v others ram i at awake
            ∙ ap (λ j. told ops (gated ops (bit v.sr 3) i j)) (sourced image data_end top now v others ram s d n room fits has)
            ∙ ap (told ops) landed;
        fits = record { long = fits.long; regs = fits.regs; words = fits.words; stack = keeps };
        above = over;
        bytes = small;
        gate = refl;
        even_pc = even_at v.pc at.even;
        small_pc = let z = at.high in omega arith;
      }

  -- MOV s, 0(r)
  pub stores : (v : View) (others : List ℕ) (ram : ℕ → ℕ) (s : Source) (r n a : ℕ) → IsRoom data_end top v → Fits top v others ram → bit v.sr 4 ≡ false →
      IsAt image v.pc (Two op2.Mov false (operand_of s) (Indexed r 0)) → v.pc + 4 + further (operand_of s) < 0x10000 → Has top v s n → Has top v (Of (InRegister r)) a → IsWord data_end a →
      Leads image data_end top now v (passed (noted_doing v (action.Store a true n) v.faulted) (4 + further (operand_of s))) others ram
  stores v others ram s r n a room fits awake at end has base word =
      let ev = word.even in let lo = word.low in let hi = word.high in
      let l = room.low in let i = room.inside in let t = room.high in
      let p : is_port a ≡ false = grind (arith, nat_tests) in
      let d : is_data data_end a ≡ true = grind (arith, nat_tests) in
      let m : is_ram a ≡ true = grind (arith, nat_tests) in
      let write : logged_write data_end now.answer (memory_of image v ram) a true n ≡ memory_of image (noted_doing v (action.Store a true n) v.faulted) (with_word_at ram a n) = rw (p, d, m, ev) refl in
      puts v others ram (with_word_at ram a n) s (Indexed r 0) n a (action.Store a true n) v.faulted room fits awake at refl end has
      (base_at (cpu_of (behind v) others) (wrap16 (v.pc + 2 + further (operand_of s))) r a base.0.0 (omega arith) (reg_plain (cpu_of (behind v) others) r base.0.0 ∙ fits.regs r base.0.0 base.0.1 ∙ base.1)) write
      (λ b from below.
      let n1 : (b == a + 1) ≡ false = grind (arith, nat_tests) in
      let n0 : (b == a) ≡ false = grind (arith, nat_tests) in
      rw (n1, n0) (fits.stack b from below))
      (λ b le. kept_above image data_end top now ram a n b (omega arith)) (word_bytes ram a n)
    where
      base_at : (c : Cpu) (at r a : ℕ) → 4 ≤ r → a < 0x10000 → reg c r ≡ a → place_of c at (Indexed r 0) ≡ AtAddress a
      base_at c at zero a lo small e = absurd (omega arith)
      base_at c at (suc r) a lo small e = let w : wrap16 (a + 0) ≡ a = omega arith in ap (λ x. AtAddress (wrap16 (x + 0))) e ∙ ap AtAddress w

  -- MOV s, &p
  pub gives : (v : View) (others : List ℕ) (ram : ℕ → ℕ) (s : Source) (p n : ℕ) → IsRoom data_end top v → Fits top v others ram → bit v.sr 4 ≡ false →
      IsAt image v.pc (Two op2.Mov false (operand_of s) (Absolute p)) → v.pc + 4 + further (operand_of s) < 0x10000 → Has top v s n → IsPort p → p ≢ 0x104 →
      Leads image data_end top now v (passed (noted_doing v (action.Out p n) v.faulted) (4 + further (operand_of s))) others ram
  gives v others ram s p n room fits awake at end has port other =
      let lo = port.low in let hi = port.high in let ev = port.even in
      let t : is_port p ≡ true = grind (arith, nat_tests) in
      let f : (p == 0x104) ≡ false = grind (arith, nat_tests) in
      let none : is_data data_end p ≡ false = grind (arith, nat_tests) in
      puts v others ram ram s (Absolute p) n p (action.Out p n) v.faulted room fits awake at refl end has refl (rw (t, none, ev, f) refl) fits.stack (λ b le. refl) (λ b. b)

  -- MOV #code, &0x0104
  pub faults : (v : View) (others : List ℕ) (ram : ℕ → ℕ) (code : ℕ) → IsRoom data_end top v → Fits top v others ram → bit v.sr 4 ≡ false →
      IsAt image v.pc (Two op2.Mov false (Immediate code) (Absolute 0x104)) → v.pc + 6 < 0x10000 → code < 0x100 →
      Leads image data_end top now v (passed (noted_doing v (action.Fault code) (Some code)) 6) others ram
  faults v others ram code room fits awake at end small =
      let e : code % 256 ≡ code = omega arith in
      puts v others ram ram (Number code) (Absolute 0x104) code 0x104 (action.Fault code) (Some code) room fits awake at refl (omega arith) (refl, omega arith) refl (rw e refl) fits.stack (λ b le. refl) (λ b. b)
