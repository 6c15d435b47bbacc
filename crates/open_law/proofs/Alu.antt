-- Operations on a home.
use Rattle.std.proofs.Common.{◌≡◌, ℕ, ◌+◌, ◌-◌, ◌<◌, ◌≤◌, ◌==◌, Bool, true, false, cond, List, refl, ap, ◌∙◌, arith}
use Rattle.std.specs.Prelude.{slice_set}
use Rattle.std.proofs.lemmas.Bool.Decides.{nat_tests}
use Rattle.nm_base.specs.Lists.{bit}
use Rattle.msp_isa.specs.declared.instr.Op2.{Op2}
use Rattle.msp_isa.specs.declared.instr.Instr.TheVariants.{Two}
use Rattle.msp430_cpu.specs.Cpu.{wrap16}
use Rattle.msp430_cpu.specs.Bus.{Bus}
use Rattle.msp430_cpu.specs.Exec.{Joined, place_of, value_at, ran, further, finished, told, gated}
use Rattle.msp430_cpu.specs.Memory.{with_word_at}
use Rattle.msp430_cpu.specs.Operate.{Result2, operate, reads_destination}
use Rattle.open_law.specs.Homes.{Home, InRegister, InFrame, Source, Of, Number, Made, StackPointer, at_home, operand_of}
use Rattle.open_law.specs.Open.{Logged, Moment, logged_bus}
use Rattle.msp_isa.specs.Stands.{IsAt}
use Rattle.open_law.proofs.View.{View, even_at, cpu_of, memory_of, state_of, Fits, Leads, IsRoom, runs, behind, word_bytes}
use Rattle.open_law.proofs.Quiet.{Has, IsHome, put_regs, put_stack, passed, few, with_plain, Lands, reads, put_plain, put_word, frame_write, kept_above}

-- what a result leaves
abbrev pub with_result : View → Home → Result2 → View
with_result v h result = record v {
  regs = cond result.is_written (put_regs h result.result v.regs) v.regs;
  stack = cond result.is_written (put_stack h result.result v.sp v.stack) v.stack;
  sr = result.sr;
}

module _ (image : ℕ → ℕ) (data_end top : ℕ) (now : Moment) where
  abbrev ops : Bus Logged
  ops = logged_bus data_end now.answer

  abbrev before : View → ℕ → Home → View
  before v k h = record v { pc = wrap16 (wrap16 (v.pc + 2 + k) + further (at_home h)) }

  -- from what reading the destination gave
  abbrev put_result : View → List ℕ → ℕ → Op2 → Home → ℕ → ℕ × Logged → Joined Logged
  put_result v others k op h n q =
      let c = cpu_of (before v k h) others in
      finished ops (record { cpu = c; bus = q.1 }) false (place_of (cpu_of (behind v) others) (wrap16 (v.pc + 2 + k)) (at_home h)) (operate op false v.sr n q.0)

  -- from what reading the source gave
  abbrev put_source : View → List ℕ → ℕ → Op2 → Home → ℕ × Logged → Joined Logged
  put_source v others k op h q =
      let c = cpu_of (before v k h) others in
      put_result v others k op h q.0 (value_at ops (record { cpu = c; bus = q.1 }) false (place_of (cpu_of (behind v) others) (wrap16 (v.pc + 2 + k)) (at_home h)))

  lands : (v : View) (others : List ℕ) (ram : ℕ → ℕ) (k : ℕ) (h : Home) (n sr : ℕ) (is_written : Bool) → IsRoom data_end top v → Fits top v others ram → k ≤ 2 → v.pc + 2 + k + further (at_home h) < 0x10000 → IsHome top v h → n < 0x10000 →
      Lands image data_end top now v (with_result (passed v (2 + k + further (at_home h))) h (record { result = n; is_written = is_written; sr = sr })) ram
      (finished ops (state_of image (before v k h) others ram) false (place_of (cpu_of (behind v) others) (wrap16 (v.pc + 2 + k)) (at_home h)) (record { result = n; is_written = is_written; sr = sr }))
  lands v others ram k (InRegister r) n sr true room fits few end home small =
      let lo = home.0 in
      let t : (r == 2) ≡ false = grind (arith, nat_tests) in
      let e : wrap16 (wrap16 (v.pc + 2 + k) + 0) ≡ v.pc + (2 + k + 0) = omega arith in
      let f = put_plain image data_end top now v others ram r n lo home.1 small fits in
      record {
        others = slice_set others (r - 4) n;
        ram = ram;
        same = rw (t, with_plain (cpu_of (before v k (InRegister r)) others) r n lo, e) refl;
        fits = record { long = f.long; regs = f.regs; words = f.words; stack = f.stack };
        above = λ a le. refl;
        bytes = λ b. b;
      }
  lands v others ram k (InRegister r) n sr false room fits few end home small =
      let lo = home.0 in
      let t : (r == 2) ≡ false = grind (arith, nat_tests) in
      let e : wrap16 (wrap16 (v.pc + 2 + k) + 0) ≡ v.pc + (2 + k + 0) = omega arith in
      record {
        others = others;
        ram = ram;
        same = rw (t, e) refl;
        fits = record { long = fits.long; regs = fits.regs; words = fits.words; stack = fits.stack };
        above = λ a le. refl;
        bytes = λ b. b;
      }
  lands v others ram k (InFrame x) n sr true room fits few end home small =
      let e : wrap16 (wrap16 (v.pc + 2 + k) + 2) ≡ v.pc + (2 + k + 2) = omega arith in
      record {
        others = others;
        ram = with_word_at ram (v.sp + x) n;
        same = rw (frame_write image data_end top now v ram x n room home.0 home.1, e) refl;
        fits = record { long = fits.long; regs = fits.regs; words = fits.words; stack = (put_word image data_end top now v others ram x n fits).stack };
        above = λ a le. kept_above image data_end top now ram (v.sp + x) n a (let z = home.1 in omega arith);
        bytes = word_bytes ram (v.sp + x) n;
      }
  lands v others ram k (InFrame x) n sr false room fits few end home small =
      let e : wrap16 (wrap16 (v.pc + 2 + k) + 2) ≡ v.pc + (2 + k + 2) = omega arith in
      record {
        others = others;
        ram = ram;
        same = rw (e) refl;
        fits = record { long = fits.long; regs = fits.regs; words = fits.words; stack = fits.stack };
        above = λ a le. refl;
        bytes = λ b. b;
      }

  -- the destination is read
  second : (v : View) (others : List ℕ) (ram : ℕ → ℕ) (k d : ℕ) (h : Home) → IsRoom data_end top v → Fits top v others ram → Has top v (Of h) d →
      value_at ops (state_of image (before v k h) others ram) false (place_of (cpu_of (behind v) others) (wrap16 (v.pc + 2 + k)) (at_home h)) ≡ (d, memory_of image v ram)
  second v others ram k d (InRegister r) room fits old = reads image data_end top now (before v k (InRegister r)) others ram (Of (InRegister r)) d (wrap16 (v.pc + 2 + k)) room fits old
  second v others ram k d (InFrame x) room fits old = reads image data_end top now (before v k (InFrame x)) others ram (Of (InFrame x)) d (wrap16 (v.pc + 2 + k)) room fits old

  -- an operation of a home or a number on a home
  pub operates : (v : View) (others : List ℕ) (ram : ℕ → ℕ) (op : Op2) (s : Source) (h : Home) (n d : ℕ) → reads_destination op ≡ true → (operate op false v.sr n d).result < 0x10000 → IsRoom data_end top v → Fits top v others ram → bit v.sr 4 ≡ false →
      IsAt image v.pc (Two op false (operand_of s) (at_home h)) → v.pc + 2 + further (operand_of s) + further (at_home h) < 0x10000 → Has top v s n → Has top v (Of h) d →
      Leads image data_end top now v (with_result (passed v (2 + further (operand_of s) + further (at_home h))) h (operate op false v.sr n d)) others ram
  operates v others ram op s h n d reading word room fits awake at end has old =
      let i = Two op false (operand_of s) (at_home h) in
      let k = further (operand_of s) in
      let o = operate op false v.sr n d in
      let l = lands v others ram k h o.result o.sr o.is_written room fits (few s) end old.0 word in
      record {
        others' = l.others;
        ram' = l.ram;
        same = runs image data_end now v others ram i at awake
            ∙ ap (λ j. told ops (gated ops (bit v.sr 3) i j)) (source s has)
            ∙ ap (λ q. told ops (gated ops (bit v.sr 3) i (put_result v others k op h n q))) (second v others ram k d h room fits old)
            ∙ ap (told ops) l.same;
        fits = l.fits;
        above = l.above;
        bytes = l.bytes;
        gate = refl;
        even_pc = even_at v.pc at.even;
        small_pc = let z = at.high in omega arith;
      }
    where
      source : (s : Source) → Has top v s n → ran ops (Two op false (operand_of s) (at_home h)) (state_of image (behind v) others ram) ≡ put_source v others (further (operand_of s)) op h (n, memory_of image v ram)
      source (Of (InRegister q)) has = rw reading (ap (put_source v others 0 op h) (reads image data_end top now (behind v) others ram (Of (InRegister q)) n (v.pc + 2) room fits has))
      source (Of (InFrame x)) has = rw reading (ap (put_source v others 2 op h) (reads image data_end top now (behind v) others ram (Of (InFrame x)) n (v.pc + 2) room fits has))
      source (Number k) has = rw reading (ap (put_source v others 2 op h) (reads image data_end top now (behind v) others ram (Number k) n (v.pc + 2) room fits has))
      source (Made k) has = rw reading (ap (put_source v others 0 op h) (reads image data_end top now (behind v) others ram (Made k) n (v.pc + 2) room fits has))
      source StackPointer has = rw reading (ap (put_source v others 0 op h) (reads image data_end top now (behind v) others ram StackPointer n (v.pc + 2) room fits has))
