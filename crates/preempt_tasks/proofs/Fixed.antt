-- The least function that gives a number: it is put into R12, and RET.
use Rattle.std.proofs.Common.{None, ◌≡◌, ℕ, ◌+◌, ◌-◌, ◌≤◌, ◌<◌, Bool, true, false, List, [], refl, sym, ◌∙◌, arith}
use mathlib.Core.Logic.{inl, inr}
use Rattle.std.specs.Prelude.{slice_index}
use Rattle.nm_base.specs.declared.action.Action.{Action}
use Rattle.nm_base.specs.Behaviour.{Trace, Returned}
use Rattle.nm_base.specs.Lists.{bit}
use Rattle.msp_isa.specs.declared.instr.Op2.TheVariants.{Mov}
use Rattle.msp_isa.specs.declared.instr.Operand.TheVariants.{Reg, Immediate, Increment}
use Rattle.msp_isa.specs.declared.instr.Instr.TheVariants.{Two}
use Rattle.msp_isa.specs.Stands.{word_in}
use Rattle.msp430_cpu.specs.Cpu.{Cpu, even, gie, changed_at}
use Rattle.open_law.specs.Homes.{InRegister, Number}
use Rattle.open_law.specs.Open.{IsShut}
use Rattle.open_law.specs.Body.{IsFunctionLaw, StartsShut}
use Rattle.open_law.specs.Stands.{IsMarked}
use Rattle.open_law.proofs.View.{View}
use Rattle.open_law.proofs.Chain.{Chain, step, move, ret}
use Rattle.open_law.proofs.Law.{IsStart, Follows, Good, NextOf, Over, Post, Keeps, open_law}

abbrev pub gives_it : ℕ → List ℕ → ℕ → Trace
gives_it k answers n = record { actions = []; why = Returned k }

clash : (b : Bool) → b ≡ false → b ≡ true → ⊥
clash b f t = cc

module _ (image : ℕ → ℕ) (data_end : ℕ) (marks : ℕ → List Action) (entry k : ℕ) (word : k < 0x10000) (objects : 0x1100 ≤ data_end) (at : IsMarked image marks entry [] (Two Mov false (Immediate k) (Reg 12))) (at_ret : IsMarked image marks (entry + 4) [] (Two Mov false (Increment 1) (Reg 0))) (c : Cpu) (ram : ℕ → ℕ) where
  -- the state at the start
  abbrev first : View
  first = record { pc = c.pc; sp = c.sp; sr = c.sr; gate = c.gate; regs = λ r. slice_index c.others (r - 4); stack = ram; made = []; answers = []; faulted = None; noted = [] }

  abbrev pub AtStart : ℕ → View → Type 0
  AtStart m v = v ≡ first

  -- R12 holds the number
  abbrev second : View
  second = record { pc = c.pc + 4; sp = c.sp; sr = c.sr; gate = bit c.sr 3; regs = changed_at (λ r. slice_index c.others (r - 4)) 12 k; stack = ram; made = []; answers = []; faulted = None; noted = [] }

  abbrev last : View
  last = record { pc = even (word_in ram c.sp); sp = c.sp + 2; sr = c.sr; gate = bit c.sr 3; regs = changed_at (λ r. slice_index c.others (r - 4)) 12 k; stack = ram; made = []; answers = []; faulted = None; noted = [] }

  module _ (s : IsStart data_end entry 0 c ram) where
    at_first : Follows 1 (gives_it k) 0 marks c ram first
    at_first = record {
      low = omega arith;
      high = omega arith;
      even_sp = s.words.even_sp;
      word = s.words.sr;
      awake = s.awake;
      closed = λ q. (q, s.level ∙ q);
      inside = λ q. absurd (clash false refl q);
      outside = λ o h g. absurd (clash (gie c) g o);
      back = λ l. absurd (omega (arith, l));
    }

    at_second : Follows 1 (gives_it k) 0 marks c ram second
    at_second = record {
      low = omega arith;
      high = omega arith;
      even_sp = s.words.even_sp;
      word = s.words.sr;
      awake = s.awake;
      closed = λ q. (q, q);
      inside = λ q. absurd (clash false refl q);
      outside = λ o h g. absurd (clash (gie c) g o);
      back = λ l. absurd (omega (arith, l));
    }

    at_last : Follows 1 (gives_it k) 0 marks c ram last
    at_last = record {
      low = omega arith;
      high = omega arith;
      even_sp = let e = s.words.even_sp in omega (arith, e);
      word = s.words.sr;
      awake = s.awake;
      closed = λ q. (q, q);
      inside = λ q. absurd (clash false refl q);
      outside = λ o h g. absurd (clash (gie c) g o);
      back = λ l. record { sp = refl; pc = refl; gate = sym s.level; gie = refl; outside = refl; no_fault = refl; value = k; turns = 0; ended = refl; result = refl };
    }

    over : Over 1 (gives_it k) image data_end 0 marks c ram last
    over = (at_last, inr (omega arith), omega arith, (let b0 = s.bytes c.sp in let b1 = s.bytes (c.sp + 1) in omega (arith, b0, b1)))

    rear : (m : ℕ) → Chain image data_end marks c.sp (Good 1 (gives_it k) image data_end 0 marks c ram) (NextOf 1 (gives_it k) image data_end 0 marks c ram) (Post 1 (gives_it k) image data_end 0 marks c ram 13 AtStart m []) 1 second
    rear m =
        let low = s.room in let high = s.high in
        step image data_end marks c.sp (Good 1 (gives_it k) image data_end 0 marks c ram) (NextOf 1 (gives_it k) image data_end 0 marks c ram) (Post 1 (gives_it k) image data_end 0 marks c ram 13 AtStart m []) 0 second last
        (at_second, refl, omega arith)
        (ret image data_end marks c.sp second (record { objects = objects; low = omega arith; inside = omega arith; high = high; even_sp = s.words.even_sp }, s.awake, refl) (omega arith)
        (rw (s.pc) at_ret))
        (0, ([], refl)) (inl over)

    all : (m : ℕ) → Chain image data_end marks c.sp (Good 1 (gives_it k) image data_end 0 marks c ram) (NextOf 1 (gives_it k) image data_end 0 marks c ram) (Post 1 (gives_it k) image data_end 0 marks c ram 13 AtStart m []) 2 first
    all m =
        let low = s.room in let high = s.high in
        step image data_end marks c.sp (Good 1 (gives_it k) image data_end 0 marks c ram) (NextOf 1 (gives_it k) image data_end 0 marks c ram) (Post 1 (gives_it k) image data_end 0 marks c ram 13 AtStart m []) 1 first second
        (at_first, refl, omega arith)
        (move image data_end marks c.sp first (Number k) (InRegister 12) k (record { objects = objects; low = omega arith; inside = omega arith; high = high; even_sp = s.words.even_sp }, s.awake, refl)
        (rw (s.pc) at) (refl, word) (omega arith, omega arith))
        (0, ([], refl)) (rear m)

    pub keeps : Keeps 1 (gives_it k) image data_end 0 marks c ram 13 2 AtStart
    keeps = record {
      first = (
        0,
        first,
        omega arith,
        refl,
        record { others = c.others; ram = ram; done = []; same = refl; fits = record { long = s.words.twelve; regs = λ q lo hi. refl; words = λ q lo hi. s.words.others (q - 4); stack = λ a lo hi. refl }; bytes = s.bytes; log = record { made = refl; answers = refl; fault = refl } },
      );
      next = λ m v le rel. (1, omega arith, rw (rel) (all m));
    }

-- called with the gate closed
pub fixed_shut : (image : ℕ → ℕ) (data_end : ℕ) (marks : ℕ → List Action) (entry k : ℕ) → k < 0x10000 → 0x1100 ≤ data_end → IsMarked image marks entry [] (Two Mov false (Immediate k) (Reg 12)) → IsMarked image marks (entry + 4) [] (Two Mov false (Increment 1) (Reg 0)) →
    IsFunctionLaw image data_end marks (λ code o. IsShut o) 1 (gives_it k) entry 0 30 StartsShut
fixed_shut image data_end marks entry k word objects at at_ret =
    (open_law 1 (gives_it k) image data_end entry 0 13 2 marks (AtStart image data_end marks entry k word objects at at_ret) (λ c ram s. keeps image data_end marks entry k word objects at at_ret c ram s)).1
