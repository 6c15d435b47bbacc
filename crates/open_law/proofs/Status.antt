-- Instructions on SR, and the NOP.
use Rattle.std.proofs.Common.{◌≡◌, ℕ, ◌+◌, ◌%◌, ◌<◌, ◌≤◌, false, List, refl, ap, ◌∙◌, arith}
use Rattle.nm_base.specs.Lists.{bit}
use Rattle.msp_isa.specs.declared.instr.Op2.TheVariants as op2
use Rattle.msp_isa.specs.declared.instr.Operand.TheVariants.{Reg, Indexed, Constant}
use Rattle.msp_isa.specs.declared.instr.Instr.TheVariants.{Two}
use Rattle.msp430_cpu.specs.Cpu.{even, wrap16}
use Rattle.msp430_cpu.specs.Bus.{Bus}
use Rattle.msp430_cpu.specs.Exec.{ran, told, gated}
use Rattle.msp430_cpu.specs.Memory.{with_word_at}
use Rattle.open_law.specs.Homes.{InFrame}
use Rattle.open_law.specs.Open.{Logged, Moment, logged_bus}
use Rattle.msp_isa.specs.Stands.{word_in, IsAt}
use Rattle.open_law.proofs.View.{View, even_at, state_of, Fits, Leads, IsRoom, runs, behind, word_bytes}
use Rattle.open_law.proofs.Quiet.{put_home, passed, put_word, frame_word, frame_write, kept_above}
use Rattle.std.specs.Prelude.{bit_and}

module _ (image : ℕ → ℕ) (data_end top : ℕ) (now : Moment) where
  abbrev ops : Bus Logged
  ops = logged_bus data_end now.answer

  -- MOV #0, R3
  pub idles : (v : View) (others : List ℕ) (ram : ℕ → ℕ) → Fits top v others ram → bit v.sr 4 ≡ false → IsAt image v.pc (Two op2.Mov false (Constant 0) (Reg 3)) →
      Leads image data_end top now v (passed v 2) others ram
  idles v others ram fits awake at =
      let up = at.high in
      let e : wrap16 (wrap16 (v.pc + 2 + 0) + 0) ≡ v.pc + 2 = omega arith in
      record {
        others' = others;
        ram' = ram;
        same = runs image data_end now v others ram (Two op2.Mov false (Constant 0) (Reg 3)) at awake ∙ ap (λ p. told ops (state_of image (record v { pc = p; gate = bit v.sr 3 }) others ram)) e;
        fits = record { long = fits.long; regs = fits.regs; words = fits.words; stack = fits.stack };
        above = λ a le. refl;
        bytes = λ b. b;
        gate = refl;
        even_pc = even_at v.pc at.even;
        small_pc = let z = at.high in omega arith;
      }

  -- BIC #8, SR
  pub closes : (v : View) (others : List ℕ) (ram : ℕ → ℕ) → Fits top v others ram → bit v.sr 4 ≡ false → v.sr < 0x10000 → IsAt image v.pc (Two op2.Bic false (Constant 8) (Reg 2)) →
      Leads image data_end top now v (record (passed v 2) { sr = bit_and v.sr 0xFFF7 }) others ram
  closes v others ram fits awake small at =
      let up = at.high in
      let e : wrap16 (wrap16 (v.pc + 2 + 0) + 0) ≡ v.pc + 2 = omega arith in
      let m : v.sr % 0x10000 ≡ v.sr = omega arith in
      let does : ran ops (Two op2.Bic false (Constant 8) (Reg 2)) (state_of image (behind v) others ram) ≡ state_of image (record v { pc = v.pc + 2; sr = bit_and v.sr 0xFFF7 }) others ram = rw (e, m) refl in
      record {
        others' = others;
        ram' = ram;
        same = runs image data_end now v others ram (Two op2.Bic false (Constant 8) (Reg 2)) at awake ∙ ap (λ j. told ops (gated ops (bit v.sr 3) (Two op2.Bic false (Constant 8) (Reg 2)) j)) does;
        fits = record { long = fits.long; regs = fits.regs; words = fits.words; stack = fits.stack };
        above = λ a le. refl;
        bytes = λ b. b;
        gate = refl;
        even_pc = even_at v.pc at.even;
        small_pc = let z = at.high in omega arith;
      }

  -- MOV SR, x(SP)
  pub saves : (v : View) (others : List ℕ) (ram : ℕ → ℕ) (x : ℕ) → IsRoom data_end top v → Fits top v others ram → bit v.sr 4 ≡ false → v.sr < 0x10000 →
      IsAt image v.pc (Two op2.Mov false (Reg 2) (Indexed 1 x)) → even x ≡ x → v.sp + x + 2 ≤ top →
      Leads image data_end top now v (passed (put_home v (InFrame x) v.sr) 4) others ram
  saves v others ram x room fits awake small at ev hi =
      let up = at.high in
      let e : wrap16 (wrap16 (v.pc + 2 + 0) + 2) ≡ v.pc + 4 = omega arith in
      let m : v.sr % 0x10000 ≡ v.sr = omega arith in
      let does : ran ops (Two op2.Mov false (Reg 2) (Indexed 1 x)) (state_of image (behind v) others ram) ≡ state_of image (record (put_home v (InFrame x) v.sr) { pc = v.pc + 4 }) others (with_word_at ram (v.sp + x) v.sr) =
      rw (m, frame_write image data_end top now v ram x v.sr room ev hi, e) refl in
      record {
        others' = others;
        ram' = with_word_at ram (v.sp + x) v.sr;
        same = runs image data_end now v others ram (Two op2.Mov false (Reg 2) (Indexed 1 x)) at awake ∙ ap (λ j. told ops (gated ops (bit v.sr 3) (Two op2.Mov false (Reg 2) (Indexed 1 x)) j)) does;
        fits = record { long = fits.long; regs = fits.regs; words = fits.words; stack = (put_word image data_end top now v others ram x v.sr fits).stack };
        above = λ a le. kept_above image data_end top now ram (v.sp + x) v.sr a (omega arith);
        bytes = word_bytes ram (v.sp + x) v.sr;
        gate = refl;
        even_pc = even_at v.pc at.even;
        small_pc = let z = at.high in omega arith;
      }

  -- MOV x(SP), SR
  pub restores : (v : View) (others : List ℕ) (ram : ℕ → ℕ) (x : ℕ) → IsRoom data_end top v → Fits top v others ram → bit v.sr 4 ≡ false →
      IsAt image v.pc (Two op2.Mov false (Indexed 1 x) (Reg 2)) → even x ≡ x → v.sp + x + 2 ≤ top →
      Leads image data_end top now v (record (passed v 4) { sr = word_in v.stack (v.sp + x) }) others ram
  restores v others ram x room fits awake at ev hi =
      let up = at.high in
      let e : wrap16 (wrap16 (v.pc + 2 + 2) + 0) ≡ v.pc + 4 = omega arith in
      let does : ran ops (Two op2.Mov false (Indexed 1 x) (Reg 2)) (state_of image (behind v) others ram) ≡ state_of image (record v { pc = v.pc + 4; sr = word_in v.stack (v.sp + x) }) others ram =
      rw (e, frame_word image data_end top now v others ram x room fits ev hi) refl in
      record {
        others' = others;
        ram' = ram;
        same = runs image data_end now v others ram (Two op2.Mov false (Indexed 1 x) (Reg 2)) at awake ∙ ap (λ j. told ops (gated ops (bit v.sr 3) (Two op2.Mov false (Indexed 1 x) (Reg 2)) j)) does;
        fits = record { long = fits.long; regs = fits.regs; words = fits.words; stack = fits.stack };
        above = λ a le. refl;
        bytes = λ b. b;
        gate = refl;
        even_pc = even_at v.pc at.even;
        small_pc = let z = at.high in omega arith;
      }
