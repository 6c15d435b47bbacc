-- The instructions of the loop, each as the mote runs it.
use Rattle.std.proofs.Common.{◌≡◌, ◌≢◌, ℕ, ℤ, pos, ◌+◌, ◌-◌, ◌*◌, ◌/◌, ◌%◌, ◌^◌, ◌<◌, ◌≤◌, ◌==◌, Bool, true, false, cond, List, [], ◌∷◌, ◌++◌, length, None, refl, sym, ap, ◌∙◌, arith}
use Rattle.std.proofs.lemmas.Bool.Decides.{nat_tests}
use Rattle.std.proofs.lemmas.Bool.{eq-eqb, ne_eqb, cases_eq}
use Rattle.std.proofs.lemmas.Nat.{or_of_16}
use Rattle.std.proofs.lemmas.Nat.Bits.{bit_at_or}
use Rattle.std.proofs.Common.{⊎_elim}
use Rattle.std.specs.Prelude.{slice_index, slice_set, bit_and, bit_or, max}
use Rattle.nm_base.specs.Lists.{bit}
use Rattle.mote_devices.specs.Outside.{Outside}
use Rattle.msp_isa.specs.declared.instr.Cond.TheVariants.{Jmp, Jne}
use Rattle.msp_isa.specs.declared.instr.Instr.{Instr}
use Rattle.msp_isa.specs.declared.instr.Instr.TheVariants.{Two, One, Jump}
use Rattle.msp_isa.specs.declared.instr.Op1.TheVariants.{Call}
use Rattle.msp_isa.specs.declared.instr.Op2.TheVariants.{Cmp, Mov}
use Rattle.msp_isa.specs.declared.instr.Operand.TheVariants.{Reg, Immediate}
use Rattle.msp_isa.specs.declared.decoder.Decoded.TheVariants.{Is}
use Rattle.msp_isa.specs.Decode.{decode}
use Rattle.msp_isa.specs.Encode.{encoded}
use Rattle.msp_isa.specs.Stands.{word_in, goto, IsAt}
use Rattle.msp_isa.proofs.Spelled.{spelled}
use Rattle.msp430_cpu.specs.declared.cpu.Stepped.TheVariants.{Ran, Idle}
use Rattle.msp430_cpu.specs.Cpu.{Cpu, even, gie, wrap16}
use Rattle.msp430_cpu.specs.Exec.{Joined, exec, run_or_idle, run_decoded, told, gated, ran, is_reti, words_at, stepped_of, jumped}
use Rattle.msp430_cpu.specs.Memory.{Memory, is_ram, is_code, byte_at, word_at, with_word_at, with_ram}
use Rattle.msp430_cpu.specs.Operate.{operate}
use Rattle.open_law.proofs.Homes.{flags_gie, flags_cpuoff, flags_zero, small_flags}
use Rattle.code_pieces.specs.Pieces.{nop, open_gate}
use Rattle.preempt_bodies.specs.Bodies.{call}
use Rattle.preempt_bodies.proofs.Carry.{ops}
use Rattle.preempt_tasks.specs.Bodies.{close_gate, compare, take, fall_asleep, ret}

byte_of_code : (m : Memory Outside) (a : ℕ) → 0x4000 ≤ a → a < 0x10000 → byte_at m a ≡ m.code a
byte_of_code m a h k =
    let r : is_ram a ≡ false = grind (arith, nat_tests) in
    let c : is_code a ≡ true = grind (arith, nat_tests) in
    rw (r, c) refl

word_of_code : (m : Memory Outside) (a : ℕ) → even a ≡ a → 0x4000 ≤ a → a + 1 < 0x10000 → word_at m a ≡ word_in m.code a
word_of_code m a e h k =
    ap (λ x. byte_at m x + 256 * byte_at m (x + 1)) e
    ∙ ap (λ x. x + 256 * byte_at m (a + 1)) (byte_of_code m a h (omega arith))
    ∙ ap (λ x. m.code a + 256 * x) (byte_of_code m (a + 1) (omega arith) k)

pub even_at : (n : ℕ) → n % 2 ≡ 0 → even n ≡ n
even_at n h = omega (arith, h)

-- the processor in the loop, and in a body called from there
abbrev pub loop_cpu : ℕ → ℕ → List ℕ → Bool → Cpu
loop_cpu pc sr others gate = record { pc = pc; sp = 0x3900; sr = sr; others = others; gate = gate }

abbrev pub called_cpu : ℕ → ℕ → List ℕ → Bool → Cpu
called_cpu pc sr others gate = record { pc = pc; sp = 0x38FE; sr = sr; others = others; gate = gate }

abbrev pub joined : Cpu → Memory Outside → Joined (Memory Outside)
joined c m = record { cpu = c; bus = m }

-- what one step leads to
abbrev pub Leads : Cpu → Memory Outside → Cpu → Memory Outside → Type 0
Leads c m c' m' = exec ops (joined c m) ≡ record { after = joined c' m'; stepped = Ran }

module _ (image : ℕ → ℕ) where
  fetched : (c : Cpu) (m : Memory Outside) (i : Instr) → m.code ≡ image → (at : IsAt image c.pc i) → words_at ops (joined c m) ≡ encoded i ++ at.rest
  fetched c m i code at =
      let lo = at.low in let hi = at.high in let ev = even_at c.pc at.even in
      let e2 : wrap16 (c.pc + 2) ≡ c.pc + 2 = omega arith in
      let e4 : wrap16 (c.pc + 4) ≡ c.pc + 4 = omega arith in
      let v2 : even (c.pc + 2) ≡ c.pc + 2 = omega arith in
      let v4 : even (c.pc + 4) ≡ c.pc + 4 = omega arith in
      let f0 : word_at m c.pc ≡ word_in image c.pc = word_of_code m c.pc ev lo (omega arith) ∙ ap (λ (f : ℕ → ℕ). word_in f c.pc) code in
      let f2 : word_at m (wrap16 (c.pc + 2)) ≡ word_in image (c.pc + 2) = ap (λ a. word_at m a) e2 ∙ word_of_code m (c.pc + 2) v2 (omega arith) (omega arith) ∙ ap (λ (f : ℕ → ℕ). word_in f (c.pc + 2)) code in
      let f4 : word_at m (wrap16 (c.pc + 4)) ≡ word_in image (c.pc + 4) = ap (λ a. word_at m a) e4 ∙ word_of_code m (c.pc + 4) v4 (omega arith) (omega arith) ∙ ap (λ (f : ℕ → ℕ). word_in f (c.pc + 4)) code in
      ap (λ x. x ∷ word_at m (wrap16 (c.pc + 2)) ∷ word_at m (wrap16 (c.pc + 4)) ∷ []) f0
      ∙ ap (λ x. word_in image c.pc ∷ x ∷ word_at m (wrap16 (c.pc + 4)) ∷ []) f2
      ∙ ap (λ x. word_in image c.pc ∷ word_in image (c.pc + 2) ∷ x ∷ []) f4
      ∙ at.words

  -- the instruction that stands at PC is run
  pub runs : (c : Cpu) (m : Memory Outside) (i : Instr) → m.code ≡ image → IsAt image c.pc i → bit c.sr 4 ≡ false →
      run_or_idle ops (joined c m) ≡ told ops (gated ops (bit c.sr 3) i (ran ops i (joined (record c { pc = c.pc + 2 }) m)))
  runs c m i code at awake =
      let hi = at.high in
      let j = joined c m in
      let e2 : wrap16 (c.pc + 2) ≡ c.pc + 2 = omega arith in
      let d : decode (words_at ops j) ≡ Is i (length (encoded i)) = ap decode (fetched c m i code at) ∙ spelled i at.rest at.written in
      ap (λ b. cond b (record { after = j; stepped = Idle }) (run_decoded ops j (decode (words_at ops j)))) awake
      ∙ ap (run_decoded ops j) d
      ∙ ap (λ p. told ops (gated ops (bit c.sr 3) i (ran ops i (joined (record c { pc = p }) m)))) e2

  -- it stands there and is run, whichever line is requested
  pub record IsNext (c : Cpu) (m : Memory Outside) (i : Instr) : Type 0 where
    pub code : m.code ≡ image
    pub at : IsAt image c.pc i
    pub awake : bit c.sr 4 ≡ false
    pub fine : m.ports.stopped ≡ None
    pub go : exec ops (joined c m) ≡ run_or_idle ops (joined c m)

  did : (c c' : Cpu) (m m' : Memory Outside) (i : Instr) → IsNext c m i → is_reti ops i ≡ false → m'.ports.stopped ≡ None → ran ops i (joined (record c { pc = c.pc + 2 }) m) ≡ joined c' m' → Leads c m (record c' { gate = bit c.sr 3 }) m'
  did c c' m m' i n plain fine e =
      n.go
      ∙ runs c m i n.code n.at n.awake
      ∙ ap (λ j. told ops (gated ops (bit c.sr 3) i j)) e
      ∙ ap (λ t. record { after = joined (record c' { gate = cond t (gie c') (bit c.sr 3) }) m'; stepped = stepped_of ops m'.ports.stopped }) plain
      ∙ ap (λ o. record { after = joined (record c' { gate = bit c.sr 3 }) m'; stepped = stepped_of ops o }) fine

  module _ (pc sr : ℕ) (others : List ℕ) (g : Bool) (m : Memory Outside) where
    abbrev c : Cpu
    c = loop_cpu pc sr others g

    -- BIC #8, SR
    pub closes : IsNext c m close_gate → sr < 0x10000 → Leads c m (loop_cpu (pc + 2) (bit_and sr 0xFFF7) others (bit sr 3)) m
    closes n small =
        let hi = n.at.high in
        let e : wrap16 (wrap16 (pc + 2 + 0) + 0) ≡ pc + 2 = omega arith in
        let w : sr % 0x10000 ≡ sr = omega arith in
        did c (loop_cpu (pc + 2) (bit_and sr 0xFFF7) others g) m m close_gate n refl n.fine (rw (e, w) refl)

    -- NOP
    pub pauses : IsNext c m nop → Leads c m (loop_cpu (pc + 2) sr others (bit sr 3)) m
    pauses n =
        let hi = n.at.high in
        let e : wrap16 (wrap16 (pc + 2 + 0) + 0) ≡ pc + 2 = omega arith in
        did c (loop_cpu (pc + 2) sr others g) m m nop n refl n.fine (rw e refl)

    -- BIS #8, SR
    pub opens : IsNext c m open_gate → sr < 0x10000 → Leads c m (loop_cpu (pc + 2) (bit_or sr 8) others (bit sr 3)) m
    opens n small =
        let hi = n.at.high in
        let e : wrap16 (wrap16 (pc + 2 + 0) + 0) ≡ pc + 2 = omega arith in
        let w : sr % 0x10000 ≡ sr = omega arith in
        did c (loop_cpu (pc + 2) (bit_or sr 8) others g) m m open_gate n refl n.fine (rw (e, w) refl)

    -- BIS #0x18, SR
    pub falls_asleep : IsNext c m fall_asleep → sr < 0x10000 → Leads c m (loop_cpu (pc + 4) (bit_or sr 0x18) others (bit sr 3)) m
    falls_asleep n small =
        let hi = n.at.high in
        let e : wrap16 (wrap16 (pc + 2 + 2) + 0) ≡ pc + 4 = omega arith in
        let w : sr % 0x10000 ≡ sr = omega arith in
        did c (loop_cpu (pc + 4) (bit_or sr 0x18) others g) m m fall_asleep n refl n.fine (rw (e, w) refl)

    -- CMP #k, R12
    abbrev pub compared : ℕ → ℕ
    compared k = (operate Cmp false sr (k % 0x10000) (slice_index others 8 % 0x10000)).sr

    pub compares : (k : ℕ) → IsNext c m (compare k) → Leads c m (loop_cpu (pc + 4) (compared k) others (bit sr 3)) m
    compares k n =
        let hi = n.at.high in
        let e : wrap16 (wrap16 (pc + 2 + 2) + 0) ≡ pc + 4 = omega arith in
        did c (loop_cpu (pc + 4) (compared k) others g) m m (compare k) n refl n.fine (rw e refl)

    -- JNE
    pub passes : (k : ℕ) → IsNext c m (Jump Jne (pos k)) → bit sr 1 ≡ true → Leads c m (loop_cpu (pc + 2) sr others (bit sr 3)) m
    passes k n z = did c (loop_cpu (pc + 2) sr others g) m m (Jump Jne (pos k)) n refl n.fine (rw z refl)

    pub skips : (k : ℕ) → IsNext c m (Jump Jne (pos k)) → bit sr 1 ≡ false → pc + 2 + 2 * k < 0x10000 → Leads c m (loop_cpu (pc + 2 + 2 * k) sr others (bit sr 3)) m
    skips k n z small =
        let e : wrap16 (pc + 2 + 2 * k) ≡ pc + 2 + 2 * k = omega arith in
        did c (loop_cpu (pc + 2 + 2 * k) sr others g) m m (Jump Jne (pos k)) n refl n.fine (rw (z, e) refl)

    -- MOV #address, R13
    pub takes : (address : ℕ) → IsNext c m (take address) → address < 0x10000 → Leads c m (loop_cpu (pc + 4) sr (slice_set others 9 address) (bit sr 3)) m
    takes address n small =
        let hi = n.at.high in
        let e : wrap16 (wrap16 (pc + 2 + 2) + 0) ≡ pc + 4 = omega arith in
        let w : address % 0x10000 ≡ address = omega arith in
        did c (loop_cpu (pc + 4) sr (slice_set others 9 address) g) m m (take address) n refl n.fine (rw (e, w) refl)

    -- JMP
    pub jumps : (k : ℤ) (to : ℕ) → IsNext c m (Jump Jmp k) → jumped (pc + 2) k ≡ to → Leads c m (loop_cpu to sr others (bit sr 3)) m
    jumps k to n e = did c (loop_cpu to sr others g) m m (Jump Jmp k) n refl n.fine (rw e refl)

    -- MOV #target, PC
    pub goes_to : (to : ℕ) → IsNext c m (goto to) → even to ≡ to → to < 0x10000 → Leads c m (loop_cpu to sr others (bit sr 3)) m
    goes_to to n ev small =
        let w : to % 0x10000 ≡ to = omega arith in
        did c (loop_cpu to sr others g) m m (goto to) n refl n.fine (rw (w, ev) refl)

    -- CALL #address
    pub calls : (address : ℕ) → IsNext c m (call address) → even address ≡ address → address < 0x10000 → Leads c m (called_cpu address sr others (bit sr 3)) (with_ram m (with_word_at m.ram 0x38FE (pc + 4)))
    calls address n ev small =
        let hi = n.at.high in
        let e : wrap16 (pc + 2 + 2) ≡ pc + 4 = omega arith in
        let w : address % 0x10000 ≡ address = omega arith in
        did c (called_cpu address sr others g) m (with_ram m (with_word_at m.ram 0x38FE (pc + 4))) (call address) n refl n.fine (rw (e, w, ev) refl)

    -- CALL R13
    pub calls_taken : (address : ℕ) → IsNext c m (One Call false (Reg 13)) → slice_index others 9 ≡ address → even address ≡ address → address < 0x10000 → Leads c m (called_cpu address sr others (bit sr 3)) (with_ram m (with_word_at m.ram 0x38FE (pc + 2)))
    calls_taken address n r ev small =
        let hi = n.at.high in
        let e : wrap16 (pc + 2 + 0) ≡ pc + 2 = omega arith in
        let w : address % 0x10000 ≡ address = omega arith in
        did c (called_cpu address sr others g) m (with_ram m (with_word_at m.ram 0x38FE (pc + 2))) (One Call false (Reg 13)) n refl n.fine (rw (e, r, w, ev) refl)

    -- MOV #0x3900, SP
    pub sets_stack : IsNext c m (Two Mov false (Immediate 0x3900) (Reg 1)) → Leads c m (loop_cpu (pc + 4) sr others (bit sr 3)) m
    sets_stack n =
        let hi = n.at.high in
        let e : wrap16 (wrap16 (pc + 2 + 2) + 0) ≡ pc + 4 = omega arith in
        did c (loop_cpu (pc + 4) sr others g) m m (Two Mov false (Immediate 0x3900) (Reg 1)) n refl n.fine (rw e refl)

    -- RET
    pub returns : IsNext (called_cpu pc sr others g) m ret → Leads (called_cpu pc sr others g) m (loop_cpu (even (word_in m.ram 0x38FE)) sr others (bit sr 3)) m
    returns n = did (called_cpu pc sr others g) (loop_cpu (even (word_in m.ram 0x38FE)) sr others g) m m ret n refl n.fine refl

-- ---- SR

-- BIS #8
or_one : (sr k : ℕ) (mask : ℕ) → mask / 2 ^ k % 2 ≡ 1 → bit (bit_or sr mask) k ≡ true
or_one sr k mask h =
    let f : bit_or sr mask / 2 ^ k % 2 ≡ 1 = bit_at_or sr mask k ∙ ap (max (sr / 2 ^ k % 2)) h ∙ at_most (sr / 2 ^ k % 2) (omega arith) in
    ap (λ n. n == 1) f
  where
    at_most : (n : ℕ) → n < 2 → max n 1 ≡ 1
    at_most n l = omega (arith, l)

pub opened_gie : (sr : ℕ) → bit (bit_or sr 8) 3 ≡ true
opened_gie sr = or_one sr 3 8 refl

pub opened_cpuoff : (sr : ℕ) → bit (bit_or sr 8) 4 ≡ bit sr 4
opened_cpuoff sr = ap (λ n. n == 1) (bit_at_or sr 8 4 ∙ none (sr / 16 % 2))
  where
    none : (n : ℕ) → max n 0 ≡ n
    none n = omega arith

pub opened_small : (sr : ℕ) → sr < 0x10000 → bit_or sr 8 < 0x10000
opened_small sr h = or_of_16 sr 8 h (omega arith)

pub asleep_gie : (sr : ℕ) → bit (bit_or sr 0x18) 3 ≡ true
asleep_gie sr = or_one sr 3 0x18 refl

pub asleep_cpuoff : (sr : ℕ) → bit (bit_or sr 0x18) 4 ≡ true
asleep_cpuoff sr = or_one sr 4 0x18 refl

pub asleep_small : (sr : ℕ) → sr < 0x10000 → bit_or sr 0x18 < 0x10000
asleep_small sr h = or_of_16 sr 0x18 h (omega arith)

-- CMP
pub record IsCompared (sr sr' : ℕ) (same : Bool) : Type 0 where
  pub gie : bit sr' 3 ≡ bit sr 3
  pub off : bit sr' 4 ≡ bit sr 4
  pub zero : bit sr' 1 ≡ same
  pub small : sr' < 0x10000

pub compared_is : (sr k x : ℕ) → k < 0x10000 → x < 0x10000 → IsCompared sr (operate Cmp false sr (k % 0x10000) (x % 0x10000)).sr (x == k)
compared_is sr k x lk lx =
    let wk : k % 0x10000 ≡ k = omega arith in
    let wx : x % 0x10000 ≡ x = omega arith in
    record {
      gie = flags_gie sr _ _ _ _;
      off = flags_cpuoff sr _ _ _ _;
      zero = flags_zero sr _ _ _ _ ∙ none;
      small = small_flags sr _ _ _ _;
    }
  where
    none : ((x % 0x10000 + (0x10000 - 1 - k % 0x10000) + 1) % 0x10000 == 0) ≡ (x == k)
    none = ⊎_elim
        (λ (e : x ≡ k). eq-eqb _ 0 (omega (arith, e, lk, lx)) ∙ sym (eq-eqb x k e))
        (λ (n : x ≢ k). ne_eqb _ 0 (λ z. n (omega (arith, z, lk, lx))) ∙ sym (ne_eqb x k n))
        (cases_eq x k)
