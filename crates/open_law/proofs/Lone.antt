-- The least code that meets the law: a lone RET.
use Rattle.std.proofs.Common.{None, ◌≡◌, ℕ, ◌+◌, ◌-◌, ◌≤◌, Bool, true, false, List, [], refl, sym, ◌∙◌, arith}
use mathlib.Core.Logic.{inl, inr}
use Rattle.std.specs.Prelude.{slice_index}
use Rattle.nm_base.specs.declared.action.Action.{Action}
use Rattle.nm_base.specs.Lists.{bit}
use Rattle.msp_isa.specs.declared.instr.Op2.TheVariants.{Mov}
use Rattle.msp_isa.specs.declared.instr.Operand.TheVariants.{Reg, Increment}
use Rattle.msp_isa.specs.declared.instr.Instr.TheVariants.{Two}
use Rattle.msp_isa.specs.Stands.{word_in}
use Rattle.msp430_cpu.specs.Cpu.{Cpu, even, gie}
use Rattle.open_law.specs.Stands.{IsMarked}
use Rattle.open_law.specs.Laws.{nothing, LoneReturnIsOpen}
use Rattle.open_law.proofs.View.{View}
use Rattle.open_law.proofs.Chain.{Chain, step, ret}
use Rattle.open_law.proofs.Law.{IsStart, Follows, Good, NextOf, Over, Post, Keeps, open_law}

clash : (b : Bool) → b ≡ false → b ≡ true → ⊥
clash b f t = cc

module _ (image : ℕ → ℕ) (data_end : ℕ) (marks : ℕ → List Action) (entry : ℕ) (objects : 0x1100 ≤ data_end) (at : IsMarked image marks entry [] (Two Mov false (Increment 1) (Reg 0))) (c : Cpu) (ram : ℕ → ℕ) where
  -- the state at the start
  abbrev first : View
  first = record { pc = c.pc; sp = c.sp; sr = c.sr; gate = c.gate; regs = λ r. slice_index c.others (r - 4); stack = ram; made = []; answers = []; faulted = None; noted = [] }

  abbrev pub AtStart : ℕ → View → Type 0
  AtStart m v = v ≡ first

  module _ (s : IsStart data_end entry 0 c ram) where
    goes : Follows 0 nothing 0 marks c ram first
    goes = record {
      low = omega arith;
      high = omega arith;
      even_sp = s.words.even_sp;
      word = s.words.sr;
      awake = s.awake;
      closed = λ k. (k, s.level ∙ k);
      inside = λ k. absurd (clash false refl k);
      outside = λ o h g. absurd (clash (gie c) g o);
      back = λ l. absurd (omega (arith, l));
    }

    last : View
    last = record first { pc = even (word_in ram c.sp); sp = c.sp + 2; gate = bit c.sr 3 }

    there : Follows 0 nothing 0 marks c ram last
    unfolding last
    there = record {
      low = omega arith;
      high = omega arith;
      even_sp = let e = s.words.even_sp in omega (arith, e);
      word = s.words.sr;
      awake = s.awake;
      closed = λ k. (k, k);
      inside = λ k. absurd (clash false refl k);
      outside = λ o h g. absurd (clash (gie c) g o);
      back = λ l. record { sp = refl; pc = refl; gate = sym s.level; gie = refl; outside = refl; no_fault = refl; value = 0; turns = 0; ended = refl; result = refl };
    }

    over : Over 0 nothing image data_end 0 marks c ram last
    unfolding last
    over = (there, inr (omega arith), omega arith, (let b0 = s.bytes c.sp in let b1 = s.bytes (c.sp + 1) in omega (arith, b0, b1)))

    one : Chain image data_end marks c.sp (Good 0 nothing image data_end 0 marks c ram) (NextOf 0 nothing image data_end 0 marks c ram) (Post 0 nothing image data_end 0 marks c ram 0 AtStart 0 []) 1 first
    unfolding last
    one =
        let low = s.room in let high = s.high in
        step image data_end marks c.sp (Good 0 nothing image data_end 0 marks c ram) (NextOf 0 nothing image data_end 0 marks c ram) (Post 0 nothing image data_end 0 marks c ram 0 AtStart 0 []) 0 first last
        (goes, refl, omega arith)
        (ret image data_end marks c.sp first (record { objects = objects; low = omega arith; inside = omega arith; high = high; even_sp = s.words.even_sp }, s.awake, refl) (omega arith)
        (rw (s.pc) at))
        (0, ([], refl)) (inl over)

    pub keeps : Keeps 0 nothing image data_end 0 marks c ram 0 1 AtStart
    keeps = record {
      first = (
        0,
        first,
        omega arith,
        refl,
        record { others = c.others; ram = ram; done = []; same = refl; fits = record { long = s.words.twelve; regs = λ q lo hi. refl; words = λ q lo hi. s.words.others (q - 4); stack = λ a lo hi. refl }; bytes = s.bytes; log = record { made = refl; answers = refl; fault = refl } },
      );
      next = λ m v le rel. let z : m ≡ 0 = omega arith in (0, omega arith, rw (rel, z) one);
    }

pub lone_return : LoneReturnIsOpen
lone_return image data_end marks entry objects at =
    open_law 0 nothing image data_end entry 0 0 1 marks (AtStart image data_end marks entry objects at) (λ c ram s. keeps image data_end marks entry objects at c ram s)
