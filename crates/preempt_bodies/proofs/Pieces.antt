-- The instructions of entry and exit, in open code.
use Rattle.std.proofs.Common.{◌≡◌, ℕ, zero, suc, ◌+◌, ◌-◌, ◌*◌, ◌/◌, ◌%◌, ◌^◌, ◌<◌, ◌≤◌, ◌==◌, Bool, true, false, cond, List, [], ◌∷◌, refl, sym, ap, ◌∙◌, arith}
use Rattle.std.proofs.lemmas.Bool.Decides.{nat_tests}
use Rattle.std.proofs.lemmas.Nat.{and-not, and_comm}
use Rattle.std.proofs.lemmas.Nat.Bits.{and_pow}
use Rattle.std.specs.Prelude.{slice_index, slice_set, bit_and}
use Rattle.nm_base.specs.Lists.{bit}
use Rattle.msp_isa.specs.declared.instr.Op2.TheVariants as op2
use Rattle.msp_isa.specs.declared.instr.Op1.TheVariants as op1
use Rattle.msp_isa.specs.declared.instr.Operand.TheVariants.{Reg, Indexed, Increment, Immediate}
use Rattle.msp_isa.specs.declared.instr.Instr.TheVariants.{Two, One, Reti}
use Rattle.msp_isa.specs.declared.decoder.Decoded.TheVariants.{Is}
use Rattle.msp_isa.specs.Decode.{decode}
use Rattle.msp430_cpu.specs.declared.cpu.Stepped.TheVariants.{Ran}
use Rattle.msp430_cpu.specs.Cpu.{Cpu, even, gie, cpuoff, wrap16}
use Rattle.msp430_cpu.specs.Bus.{Bus}
use Rattle.msp430_cpu.specs.Exec.{Joined, Step, run_or_idle, told, gated, stepped_of}
use Rattle.msp430_cpu.specs.Memory.{is_ram, is_code, is_port, byte_at, word_at, with_word_at, with_ram, with_ports, memory_read, memory_write}
use Rattle.preempt_core.proofs.Instruction.{runs_on}
use Rattle.open_law.specs.Open.{Done, fault_of, Logged, doing, noted_ports, address_of, is_data, logged_read, logged_write, logged_bus}
use Rattle.msp_isa.specs.Stands.{word_in}
use Rattle.preempt_bodies.specs.Bodies.{awake_sr}
use Rattle.nm_base.specs.declared.action.Action.TheVariants as action

not_so : false ≡ true → ⊥
not_so h = cc

-- the words of entry and exit, for each register
pub push_decodes : (i w1 w2 : ℕ) → i < 12 → decode ((0x1204 + i) ∷ w1 ∷ w2 ∷ []) ≡ Is (One op1.Push false (Reg (suc (suc (suc (suc i)))))) 1
push_decodes zero w1 w2 h = refl
push_decodes (suc zero) w1 w2 h = refl
push_decodes (suc (suc zero)) w1 w2 h = refl
push_decodes (suc (suc (suc zero))) w1 w2 h = refl
push_decodes (suc (suc (suc (suc zero)))) w1 w2 h = refl
push_decodes (suc (suc (suc (suc (suc zero))))) w1 w2 h = refl
push_decodes (suc (suc (suc (suc (suc (suc zero)))))) w1 w2 h = refl
push_decodes (suc (suc (suc (suc (suc (suc (suc zero))))))) w1 w2 h = refl
push_decodes (suc (suc (suc (suc (suc (suc (suc (suc zero)))))))) w1 w2 h = refl
push_decodes (suc (suc (suc (suc (suc (suc (suc (suc (suc zero))))))))) w1 w2 h = refl
push_decodes (suc (suc (suc (suc (suc (suc (suc (suc (suc (suc zero)))))))))) w1 w2 h = refl
push_decodes (suc (suc (suc (suc (suc (suc (suc (suc (suc (suc (suc zero))))))))))) w1 w2 h = refl
push_decodes (suc (suc (suc (suc (suc (suc (suc (suc (suc (suc (suc (suc k)))))))))))) w1 w2 h = absurd (omega (arith, h))

pub pop_decodes : (i w1 w2 : ℕ) → i < 12 → decode ((0x4134 + i) ∷ w1 ∷ w2 ∷ []) ≡ Is (Two op2.Mov false (Increment 1) (Reg (suc (suc (suc (suc i)))))) 1
pop_decodes zero w1 w2 h = refl
pop_decodes (suc zero) w1 w2 h = refl
pop_decodes (suc (suc zero)) w1 w2 h = refl
pop_decodes (suc (suc (suc zero))) w1 w2 h = refl
pop_decodes (suc (suc (suc (suc zero)))) w1 w2 h = refl
pop_decodes (suc (suc (suc (suc (suc zero))))) w1 w2 h = refl
pop_decodes (suc (suc (suc (suc (suc (suc zero)))))) w1 w2 h = refl
pop_decodes (suc (suc (suc (suc (suc (suc (suc zero))))))) w1 w2 h = refl
pop_decodes (suc (suc (suc (suc (suc (suc (suc (suc zero)))))))) w1 w2 h = refl
pop_decodes (suc (suc (suc (suc (suc (suc (suc (suc (suc zero))))))))) w1 w2 h = refl
pop_decodes (suc (suc (suc (suc (suc (suc (suc (suc (suc (suc zero)))))))))) w1 w2 h = refl
pop_decodes (suc (suc (suc (suc (suc (suc (suc (suc (suc (suc (suc zero))))))))))) w1 w2 h = refl
pop_decodes (suc (suc (suc (suc (suc (suc (suc (suc (suc (suc (suc (suc k)))))))))))) w1 w2 h = absurd (omega (arith, h))

-- BIC #16 clears CPUOFF
pub cleared : (v : ℕ) → v < 0x10000 → bit_and v (0x10000 - 1 - 16) ≡ awake_sr v
cleared v h =
    let a : bit_and (2 ^ 16 - 1 - 16) v + bit_and 16 v ≡ v = and-not 16 16 v (omega arith) h in
    let b : bit_and v (2 ^ 4) ≡ v / 2 ^ 4 % 2 * 2 ^ 4 = and_pow v 4 in
    let c : bit_and 16 v ≡ bit_and v 16 = and_comm 16 v in
    let d : bit_and v (0x10000 - 1 - 16) ≡ bit_and (2 ^ 16 - 1 - 16) v = and_comm v (0x10000 - 1 - 16) in
    by_bit (bit v 4) refl (bit_and v (0x10000 - 1 - 16)) (bit_and v 16) (omega (arith, a, c, d)) b
  where
    by_bit : (t : Bool) → bit v 4 ≡ t → (x y : ℕ) → x + y ≡ v → y ≡ v / 2 ^ 4 % 2 * 2 ^ 4 → x ≡ cond t (v - 16) v
    by_bit true e x y s p = let one : v / 16 % 2 ≡ 1 = grind (arith, nat_tests) in omega (arith, s, p, one)
    by_bit false e x y s p = let none : v / 16 % 2 ≡ 0 = by_two (v / 16 % 2) (omega arith) e in omega (arith, s, p, none)
      where
        by_two : (n : ℕ) → n < 2 → (n == 1) ≡ false → n ≡ 0
        by_two zero l f = refl
        by_two (suc zero) l f = absurd (not_so (sym f))
        by_two (suc (suc n)) l f = absurd (omega (arith, l))

module _ (end : ℕ) (answer : List Done → ℕ → ℕ) where
  abbrev pub bus : Bus Logged
  bus = logged_bus end answer

  -- a word written to the stack
  pub write_stack : (m : Logged) (a v : ℕ) → even a ≡ a → 0x1100 ≤ a → a < 0x3900 → end ≤ a → logged_write end answer m a true v ≡ with_ram m (with_word_at m.ram a v)
  write_stack m a v e low high above =
      let d : is_data end a ≡ false = grind (arith, nat_tests) in
      let p : is_port a ≡ false = grind (arith, nat_tests) in
      let i : is_ram a ≡ true = grind (arith, nat_tests) in
      ap (λ t. cond t (with_ports (memory_write (noted_ports answer) m a true v) (doing m.ports (action.Store (address_of a true) true v) [])) (memory_write (noted_ports answer) m a true v)) d
      ∙ ap (λ t. cond t (with_ports m ((noted_ports answer).put m.ports (even a) v)) (cond (is_ram a) (with_ram m (with_word_at m.ram (even a) v)) m)) p
      ∙ ap (λ t. cond t (with_ram m (with_word_at m.ram (even a) v)) m) i
      ∙ ap (λ x. with_ram m (with_word_at m.ram x v)) e

  in_ram : (m : Logged) (a : ℕ) → 0x1100 ≤ a → a < 0x3900 → byte_at m a ≡ m.ram a
  in_ram m a low high = let i : is_ram a ≡ true = grind (arith, nat_tests) in ap (λ t. cond t (m.ram a) (cond (is_code a) (m.code a) 0)) i

  -- and read from it
  pub read_stack : (m : Logged) (a : ℕ) → even a ≡ a → 0x1100 ≤ a → a < 0x38FF → end ≤ a → logged_read end answer m a true ≡ (word_in m.ram a, m)
  read_stack m a e low high above =
      let d : is_data end a ≡ false = grind (arith, nat_tests) in
      let p : is_port a ≡ false = grind (arith, nat_tests) in
      let w : word_at m a ≡ word_in m.ram a =
      ap (λ x. byte_at m x + 256 * byte_at m (x + 1)) e
      ∙ ap (λ x. x + 256 * byte_at m (a + 1)) (in_ram m a low (omega (arith, high)))
      ∙ ap (λ x. m.ram a + 256 * x) (in_ram m (a + 1) (omega (arith, low)) (omega (arith, high))) in
      let r = memory_read (noted_ports answer) m a true in
      ap (λ t. cond t (r.0, with_ports m (doing m.ports (action.Load (address_of a true) true) (r.0 ∷ []))) r) d
      ∙ ap (λ t. cond {A = ℕ × Logged} t (answer m.ports (even a), with_ports m (doing m.ports (action.In (even a)) (answer m.ports (even a) ∷ []))) (word_at m a, m)) p
      ∙ ap (λ x. (x, m)) w

  -- the processor behind an instruction of one word
  abbrev pub next_pc : Cpu → ℕ
  next_pc c = wrap16 (wrap16 (c.pc + 2) + 0)

  -- what a step leaves, with the memory that it wrote
  abbrev left_by : Cpu → Logged → Step bus
  left_by c m = record { after = record { cpu = c; bus = m }; stepped = stepped_of bus (fault_of m.ports) }

  no_fault : (c : Cpu) (m : Logged) → m.ports ≡ [] → left_by c m ≡ record { after = record { cpu = c; bus = record { ram = m.ram; code = m.code; ports = [] } }; stepped = Ran }
  no_fault c m e = ap (λ l. record { after = record { cpu = c; bus = record { ram = m.ram; code = m.code; ports = l } }; stepped = stepped_of bus (fault_of l) }) e

  -- PUSH Rn, for register 4 + i
  pub pushes : (j : Joined Logged) (i : ℕ) → i < 12 → cpuoff j.cpu ≡ false → word_at j.bus j.cpu.pc ≡ 0x1204 + i → even j.cpu.sp ≡ j.cpu.sp → 0x1102 ≤ j.cpu.sp → j.cpu.sp ≤ 0x3900 → end + 2 ≤ j.cpu.sp → j.bus.ports ≡ [] →
      run_or_idle bus j ≡ record { after = record { cpu = record { pc = next_pc j.cpu; sp = j.cpu.sp - 2; sr = j.cpu.sr; others = j.cpu.others; gate = gie j.cpu }; bus = record { ram = with_word_at j.bus.ram (j.cpu.sp - 2) (slice_index j.cpu.others i % 0x10000); code = j.bus.code; ports = [] } }; stepped = Ran }
  pushes j i few on f0 e low high above none =
      let c : ℕ → Cpu = λ s. record { pc = next_pc j.cpu; sp = s; sr = j.cpu.sr; others = j.cpu.others; gate = gie j.cpu } in
      let v = slice_index j.cpu.others i % 0x10000 in
      let w : wrap16 (j.cpu.sp + 0xFFFE) ≡ j.cpu.sp - 2 = omega (arith, low, high) in
      let ee : even (j.cpu.sp - 2) ≡ j.cpu.sp - 2 = omega (arith, e, low) in
      let raw : run_or_idle bus j ≡ left_by (c (wrap16 (j.cpu.sp + 0xFFFE))) (logged_write end answer j.bus (wrap16 (j.cpu.sp + 0xFFFE)) true v) = runs_on bus j (0x1204 + i) (word_at j.bus (wrap16 (j.cpu.pc + 2))) (word_at j.bus (wrap16 (j.cpu.pc + 4))) (One op1.Push false (Reg (suc (suc (suc (suc i)))))) 1 refl on f0 refl refl (push_decodes i (word_at j.bus (wrap16 (j.cpu.pc + 2))) (word_at j.bus (wrap16 (j.cpu.pc + 4))) few) in
      raw
      ∙ ap (λ s. left_by (c s) (logged_write end answer j.bus s true v)) w
      ∙ ap (left_by (c (j.cpu.sp - 2))) (write_stack j.bus (j.cpu.sp - 2) v ee (omega (arith, low)) (omega (arith, low, high)) (omega (arith, above)))
      ∙ no_fault (c (j.cpu.sp - 2)) (with_ram j.bus (with_word_at j.bus.ram (j.cpu.sp - 2) v)) none

  -- CALL #body
  pub calls : (j : Joined Logged) (body : ℕ) → cpuoff j.cpu ≡ false → word_at j.bus j.cpu.pc ≡ 0x12B0 → word_at j.bus (wrap16 (j.cpu.pc + 2)) ≡ body → even j.cpu.sp ≡ j.cpu.sp → 0x1102 ≤ j.cpu.sp → j.cpu.sp ≤ 0x3900 → end + 2 ≤ j.cpu.sp → j.bus.ports ≡ [] →
      run_or_idle bus j ≡ record { after = record { cpu = record { pc = even (body % 0x10000); sp = j.cpu.sp - 2; sr = j.cpu.sr; others = j.cpu.others; gate = gie j.cpu }; bus = record { ram = with_word_at j.bus.ram (j.cpu.sp - 2) (wrap16 (wrap16 (j.cpu.pc + 2) + 2)); code = j.bus.code; ports = [] } }; stepped = Ran }
  calls j body on f0 f1 e low high above none =
      let c : ℕ → Cpu = λ s. record { pc = even (body % 0x10000); sp = s; sr = j.cpu.sr; others = j.cpu.others; gate = gie j.cpu } in
      let v = wrap16 (wrap16 (j.cpu.pc + 2) + 2) in
      let w : wrap16 (j.cpu.sp + 0xFFFE) ≡ j.cpu.sp - 2 = omega (arith, low, high) in
      let ee : even (j.cpu.sp - 2) ≡ j.cpu.sp - 2 = omega (arith, e, low) in
      let raw : run_or_idle bus j ≡ left_by (c (wrap16 (j.cpu.sp + 0xFFFE))) (logged_write end answer j.bus (wrap16 (j.cpu.sp + 0xFFFE)) true v) = runs_on bus j 0x12B0 body (word_at j.bus (wrap16 (j.cpu.pc + 4))) (One op1.Call false (Immediate body)) 2 refl on f0 f1 refl refl in
      raw
      ∙ ap (λ s. left_by (c s) (logged_write end answer j.bus s true v)) w
      ∙ ap (left_by (c (j.cpu.sp - 2))) (write_stack j.bus (j.cpu.sp - 2) v ee (omega (arith, low)) (omega (arith, low, high)) (omega (arith, above)))
      ∙ no_fault (c (j.cpu.sp - 2)) (with_ram j.bus (with_word_at j.bus.ram (j.cpu.sp - 2) v)) none

  -- POP Rn
  pub pops : (j : Joined Logged) (i : ℕ) → i < 12 → cpuoff j.cpu ≡ false → word_at j.bus j.cpu.pc ≡ 0x4134 + i → even j.cpu.sp ≡ j.cpu.sp → 0x1100 ≤ j.cpu.sp → j.cpu.sp < 0x38FF → end ≤ j.cpu.sp → j.bus.ports ≡ [] →
      run_or_idle bus j ≡ record { after = record { cpu = record { pc = wrap16 (next_pc j.cpu + 0); sp = j.cpu.sp + 2; sr = j.cpu.sr; others = slice_set j.cpu.others i (word_in j.bus.ram j.cpu.sp); gate = gie j.cpu }; bus = record { ram = j.bus.ram; code = j.bus.code; ports = [] } }; stepped = Ran }
  pops j i few on f0 e low high above none =
      let c : ℕ → ℕ → Cpu = λ s v. record { pc = wrap16 (next_pc j.cpu + 0); sp = s; sr = j.cpu.sr; others = slice_set j.cpu.others i v; gate = gie j.cpu } in
      let r = logged_read end answer j.bus j.cpu.sp true in
      let w : even (wrap16 (j.cpu.sp + 2)) ≡ j.cpu.sp + 2 = omega (arith, e, high) in
      let put : Joined Logged = record { cpu = record { pc = wrap16 (next_pc j.cpu + 0); sp = even (wrap16 (j.cpu.sp + 2)); sr = j.cpu.sr; others = slice_set j.cpu.others i r.0; gate = j.cpu.gate }; bus = r.1 } in
      let no_sr : (suc (suc (suc (suc i))) == 2) ≡ false = grind (arith, nat_tests) in
      let step : run_or_idle bus j ≡ told bus (gated bus (gie j.cpu) (Two op2.Mov false (Increment 1) (Reg (suc (suc (suc (suc i)))))) (cond (suc (suc (suc (suc i))) == 2) put put)) = runs_on bus j (0x4134 + i) (word_at j.bus (wrap16 (j.cpu.pc + 2))) (word_at j.bus (wrap16 (j.cpu.pc + 4))) (Two op2.Mov false (Increment 1) (Reg (suc (suc (suc (suc i)))))) 1 refl on f0 refl refl (pop_decodes i (word_at j.bus (wrap16 (j.cpu.pc + 2))) (word_at j.bus (wrap16 (j.cpu.pc + 4))) few) in
      let raw : run_or_idle bus j ≡ left_by (c (even (wrap16 (j.cpu.sp + 2))) r.0) r.1 = step ∙ ap (λ t. told bus (gated bus (gie j.cpu) (Two op2.Mov false (Increment 1) (Reg (suc (suc (suc (suc i)))))) (cond t put put))) no_sr in
      raw
      ∙ ap (λ (x : ℕ × Logged). left_by (c (even (wrap16 (j.cpu.sp + 2))) x.0) x.1) (read_stack j.bus j.cpu.sp e low high above)
      ∙ ap (λ s. left_by (c s (word_in j.bus.ram j.cpu.sp)) j.bus) w
      ∙ no_fault (c (j.cpu.sp + 2) (word_in j.bus.ram j.cpu.sp)) j.bus none

  -- BIC #16, 0(SP)
  pub clears : (j : Joined Logged) → cpuoff j.cpu ≡ false → word_at j.bus j.cpu.pc ≡ 0xC0B1 → word_at j.bus (wrap16 (j.cpu.pc + 2)) ≡ 0x0010 → word_at j.bus (wrap16 (j.cpu.pc + 4)) ≡ 0 → even j.cpu.sp ≡ j.cpu.sp → 0x1100 ≤ j.cpu.sp → j.cpu.sp < 0x38FF → end ≤ j.cpu.sp → j.bus.ports ≡ [] →
      run_or_idle bus j ≡ record { after = record { cpu = record { pc = wrap16 (wrap16 (wrap16 (j.cpu.pc + 2) + 2) + 2); sp = j.cpu.sp; sr = j.cpu.sr; others = j.cpu.others; gate = gie j.cpu }; bus = record { ram = with_word_at j.bus.ram j.cpu.sp (bit_and (word_in j.bus.ram j.cpu.sp) (0x10000 - 1 - 16)); code = j.bus.code; ports = [] } }; stepped = Ran }
  clears j on f0 f1 f2 e low high above none =
      let c : Cpu = record { pc = wrap16 (wrap16 (wrap16 (j.cpu.pc + 2) + 2) + 2); sp = j.cpu.sp; sr = j.cpu.sr; others = j.cpu.others; gate = gie j.cpu } in
      let w : wrap16 (j.cpu.sp + 0) ≡ j.cpu.sp = omega (arith, high) in
      let by : ℕ → ℕ × Logged → Step bus = λ s x. left_by c (logged_write end answer x.1 s true (bit_and x.0 (0x10000 - 1 - 16))) in
      let raw : run_or_idle bus j ≡ by (wrap16 (j.cpu.sp + 0)) (logged_read end answer j.bus (wrap16 (j.cpu.sp + 0)) true) = runs_on bus j 0xC0B1 0x0010 0 (Two op2.Bic false (Immediate 0x0010) (Indexed 1 0)) 3 refl on f0 f1 f2 refl in
      raw
      ∙ ap (λ s. by s (logged_read end answer j.bus s true)) w
      ∙ ap (by j.cpu.sp) (read_stack j.bus j.cpu.sp e low high above)
      ∙ ap (left_by c) (write_stack j.bus j.cpu.sp (bit_and (word_in j.bus.ram j.cpu.sp) (0x10000 - 1 - 16)) e low (omega (arith, high)) above)
      ∙ no_fault c (with_ram j.bus (with_word_at j.bus.ram j.cpu.sp (bit_and (word_in j.bus.ram j.cpu.sp) (0x10000 - 1 - 16)))) none

  -- RETI
  pub returns : (j : Joined Logged) → cpuoff j.cpu ≡ false → word_at j.bus j.cpu.pc ≡ 0x1300 → even j.cpu.sp ≡ j.cpu.sp → 0x1100 ≤ j.cpu.sp → j.cpu.sp < 0x38FD → end ≤ j.cpu.sp → j.bus.ports ≡ [] →
      run_or_idle bus j ≡ record { after = record { cpu = record { pc = even (word_in j.bus.ram (j.cpu.sp + 2)); sp = j.cpu.sp + 4; sr = word_in j.bus.ram j.cpu.sp; others = j.cpu.others; gate = bit (word_in j.bus.ram j.cpu.sp) 3 }; bus = record { ram = j.bus.ram; code = j.bus.code; ports = [] } }; stepped = Ran }
  returns j on f0 e low high above none =
      let c : ℕ → ℕ → ℕ → Cpu = λ s a p. record { pc = even p; sp = s; sr = a; others = j.cpu.others; gate = bit a 3 } in
      let w : wrap16 (j.cpu.sp + 2) ≡ j.cpu.sp + 2 = omega (arith, high) in
      let w' : wrap16 (j.cpu.sp + 2 + 2) ≡ j.cpu.sp + 4 = omega (arith, high) in
      let by : ℕ → ℕ × Logged → Step bus = λ s x. left_by (c (wrap16 (s + 2)) x.0 (logged_read end answer x.1 s true).0) (logged_read end answer x.1 s true).1 in
      let raw : run_or_idle bus j ≡ by (wrap16 (j.cpu.sp + 2)) (logged_read end answer j.bus j.cpu.sp true) = runs_on bus j 0x1300 (word_at j.bus (wrap16 (j.cpu.pc + 2))) (word_at j.bus (wrap16 (j.cpu.pc + 4))) Reti 1 refl on f0 refl refl refl in
      let a = word_in j.bus.ram j.cpu.sp in
      let s2 = j.cpu.sp + 2 in
      raw
      ∙ ap (λ s. by s (logged_read end answer j.bus j.cpu.sp true)) w
      ∙ ap (by s2) (read_stack j.bus j.cpu.sp e low (omega (arith, high)) above)
      ∙ ap (λ (x : ℕ × Logged). left_by (c (wrap16 (s2 + 2)) a x.0) x.1) (read_stack j.bus s2 (omega (arith, e)) (omega (arith, low)) (omega (arith, high)) (omega (arith, above)))
      ∙ ap (λ s. left_by (c s a (word_in j.bus.ram s2)) j.bus) w'
      ∙ no_fault (c (j.cpu.sp + 4) a (word_in j.bus.ram s2)) j.bus none

  -- RET
  pub rets : (j : Joined Logged) → cpuoff j.cpu ≡ false → word_at j.bus j.cpu.pc ≡ 0x4130 → even j.cpu.sp ≡ j.cpu.sp → 0x1100 ≤ j.cpu.sp → j.cpu.sp < 0x38FF → end ≤ j.cpu.sp → j.bus.ports ≡ [] →
      run_or_idle bus j ≡ record { after = record { cpu = record { pc = even (word_in j.bus.ram j.cpu.sp); sp = j.cpu.sp + 2; sr = j.cpu.sr; others = j.cpu.others; gate = gie j.cpu }; bus = record { ram = j.bus.ram; code = j.bus.code; ports = [] } }; stepped = Ran }
  rets j on f0 e low high above none =
      let c : ℕ → ℕ → Cpu = λ s v. record { pc = even v; sp = s; sr = j.cpu.sr; others = j.cpu.others; gate = gie j.cpu } in
      let r = logged_read end answer j.bus j.cpu.sp true in
      let w : even (wrap16 (j.cpu.sp + 2)) ≡ j.cpu.sp + 2 = omega (arith, e, high) in
      let raw : run_or_idle bus j ≡ left_by (c (even (wrap16 (j.cpu.sp + 2))) r.0) r.1 = runs_on bus j 0x4130 (word_at j.bus (wrap16 (j.cpu.pc + 2))) (word_at j.bus (wrap16 (j.cpu.pc + 4))) (Two op2.Mov false (Increment 1) (Reg 0)) 1 refl on f0 refl refl refl in
      raw
      ∙ ap (λ (x : ℕ × Logged). left_by (c (even (wrap16 (j.cpu.sp + 2))) x.0) x.1) (read_stack j.bus j.cpu.sp e low high above)
      ∙ ap (λ s. left_by (c s (word_in j.bus.ram j.cpu.sp)) j.bus) w
      ∙ no_fault (c (j.cpu.sp + 2) (word_in j.bus.ram j.cpu.sp)) j.bus none
