-- Code over registers with a RET behind it is a routine.
use Rattle.std.proofs.Common.{Some, ◌≡◌, Option, ℕ, zero, suc, ◌+◌, ◌-◌, ◌⊎◌, ◌<◌, ◌≤◌, true, false, List, [], length, refl, sym, ap, ◌∙◌, subst, arith}
use mathlib.Core.Logic.{inl, inr}
use Rattle.std.specs.Prelude.{slice_index}
use Rattle.std.proofs.Math.ListN.{get_or-eq_default}
use Rattle.std.proofs.lemmas.Bool.{cases_lt}
use Rattle.nm_base.specs.Lists.{bit}
use Rattle.nm_base.specs.declared.action.Action.{Action}
use Rattle.msp_isa.specs.declared.instr.Instr.TheVariants.{Two}
use Rattle.msp_isa.specs.declared.instr.Op2.TheVariants.{Mov}
use Rattle.msp_isa.specs.declared.instr.Operand.TheVariants.{Reg, Increment}
use Rattle.msp_isa.specs.Stands.{word_in}
use Rattle.msp430_cpu.specs.Cpu.{Cpu, cpuoff, even, gie, reg}
use Rattle.open_law.specs.Body.{code_below}
use Rattle.open_law.specs.Open.{Code as OpenCode, HoldsWords, Open, open_start}
use Rattle.open_law.specs.Stands.{IsMarked}
use Rattle.open_law.proofs.Chain.{ret}
use Rattle.open_law.proofs.Quiet.{reg_plain}
use Rattle.open_law.proofs.View.{Shows, View, cpu_of}
use Rattle.msp_select.specs.Routine.{Ends, Hold, IsBack, IsGoing, IsInside, Turns}
use Rattle.msp_select.proofs.Helping.{hold_on}
use Rattle.msp_select.proofs.Turning.{turns_of}
use Rattle.msp_runtime.specs.Code.{Code, Registers, IsBounded, depth, is_formed, leaves, leaves_others, meaning, weight}
use Rattle.msp_runtime.proofs.Running.{Good, IsSettled, Reach, SameFrom, Stand, at, both, code_leaves, one, ready, run, settled_on, sp_on, word_on}

-- what a state has that a view shows
words_of : (top : ℕ) (v : View) (o : Open) → Shows top v o → even v.pc ≡ v.pc → v.pc < 0x10000 → even v.sp ≡ v.sp → v.sr < 0x10000 → HoldsWords o.cpu
words_of top v o s ep lp es lr = subst HoldsWords (sym (ap (λ (x : Open). x.cpu) s.same)) (record { pc = lp; even_pc = ep; even_sp = es; sr = lr; twelve = s.fits.long; others = small })
  where
    small : (i : ℕ) → slice_index s.others i < 0x10000
    small i = by (cases_lt i 12)
      where
        by : (i < 12) ⊎ (12 ≤ i) → slice_index s.others i < 0x10000
        by (inl l) = let z : i + 4 - 4 ≡ i = omega arith in subst (λ n. slice_index s.others n < 0x10000) z (subst (λ n. n < 0x10000) (sym (s.fits.regs (i + 4) (omega arith) (omega (arith, l)))) (s.fits.words (i + 4) (omega arith) (omega (arith, l))))
        by (inr l) = let z : slice_index s.others i ≡ 0 = get_or-eq_default s.others 0 (let m = s.fits.long in omega (arith, m, l)) in subst (λ n. n < 0x10000) (sym z) (omega arith)

-- what code gives in registers from R12 on, wherever it is called with such values
pub record Gives (c : Code) (Takes : List ℕ → Type 0) (gives : List ℕ → Option (List ℕ)) (values : List ℕ) (st : Registers) : Type 0 where
  pub bounded : IsBounded c st
  pub given : List ℕ
  pub few : length given ≤ 4
  pub some : gives values ≡ Some given
  pub held : Hold 12 given (meaning c st).regs

abbrev pub Meets : Code → (List ℕ → Type 0) → (List ℕ → Option (List ℕ)) → Type 0
Meets c Takes gives = (values : List ℕ) → Takes values → (st : Registers) → ((r : ℕ) → 4 ≤ r → r < 16 → st.regs r < 0x10000) → Hold 12 values st.regs → Gives c Takes gives values st

pub others_left : (c : Code) → leaves_others c ≡ true → (r : ℕ) → 4 ≤ r → r < 12 → leaves r c ≡ true
others_left c e r lo hi =
    let a = both (leaves 4 c) _ e in let b = both (leaves 5 c) _ a.1 in let d = both (leaves 6 c) _ b.1 in let f = both (leaves 7 c) _ d.1 in let g = both (leaves 8 c) _ f.1 in let h = both (leaves 9 c) _ g.1 in let i = both (leaves 10 c) (leaves 11 c) h.1 in
    by r lo hi a.0 b.0 d.0 f.0 g.0 h.0 i.0 i.1
  where
    by : (r : ℕ) → 4 ≤ r → r < 12 → leaves 4 c ≡ true → leaves 5 c ≡ true → leaves 6 c ≡ true → leaves 7 c ≡ true → leaves 8 c ≡ true → leaves 9 c ≡ true → leaves 10 c ≡ true → leaves 11 c ≡ true → leaves r c ≡ true
    by zero lo hi h4 h5 h6 h7 h8 h9 h10 h11 = absurd (omega (arith, lo))
    by (suc zero) lo hi h4 h5 h6 h7 h8 h9 h10 h11 = absurd (omega (arith, lo))
    by (suc (suc zero)) lo hi h4 h5 h6 h7 h8 h9 h10 h11 = absurd (omega (arith, lo))
    by (suc (suc (suc zero))) lo hi h4 h5 h6 h7 h8 h9 h10 h11 = absurd (omega (arith, lo))
    by (suc (suc (suc (suc zero)))) lo hi h4 h5 h6 h7 h8 h9 h10 h11 = h4
    by (suc (suc (suc (suc (suc zero))))) lo hi h4 h5 h6 h7 h8 h9 h10 h11 = h5
    by (suc (suc (suc (suc (suc (suc zero)))))) lo hi h4 h5 h6 h7 h8 h9 h10 h11 = h6
    by (suc (suc (suc (suc (suc (suc (suc zero))))))) lo hi h4 h5 h6 h7 h8 h9 h10 h11 = h7
    by (suc (suc (suc (suc (suc (suc (suc (suc zero)))))))) lo hi h4 h5 h6 h7 h8 h9 h10 h11 = h8
    by (suc (suc (suc (suc (suc (suc (suc (suc (suc zero))))))))) lo hi h4 h5 h6 h7 h8 h9 h10 h11 = h9
    by (suc (suc (suc (suc (suc (suc (suc (suc (suc (suc zero)))))))))) lo hi h4 h5 h6 h7 h8 h9 h10 h11 = h10
    by (suc (suc (suc (suc (suc (suc (suc (suc (suc (suc (suc zero))))))))))) lo hi h4 h5 h6 h7 h8 h9 h10 h11 = h11
    by (suc (suc (suc (suc (suc (suc (suc (suc (suc (suc (suc (suc r)))))))))))) lo hi h4 h5 h6 h7 h8 h9 h10 h11 = absurd (omega (arith, hi))

module _ (image : ℕ → ℕ) (data_end : ℕ) (marks : ℕ → List Action) (sp0 : ℕ) (start : Cpu) (ram : ℕ → ℕ) (objects : 0x1100 ≤ data_end) (room : data_end + 60 ≤ start.sp + 2) (within : start.sp + 2 ≤ sp0 + 2) (high : sp0 + 2 ≤ 0x3900)
    (words : HoldsWords start) (awake : cpuoff start ≡ false) (level : start.gate ≡ gie start) (bytes : (a : ℕ) → ram a < 0x100) where
  abbrev code : OpenCode
  code = code_below image data_end marks (sp0 + 2)

  abbrev first : Registers
  first = record { regs = λ r. slice_index start.others (r - 4); sr = start.sr; sp = start.sp }

  -- what is so before each instruction
  pub record IsCalm (v : View) : Type 0 where
    pub even_pc : even v.pc ≡ v.pc
    pub small_pc : v.pc < 0x10000
    pub small : v.sr < 0x10000
    pub even_sp : even v.sp ≡ v.sp
    pub low : start.sp + 2 ≤ v.sp + 60
    pub below : v.sp ≤ start.sp
    pub is_awake : bit v.sr 4 ≡ false
    pub gate : v.gate ≡ gie start
    pub gie : bit v.sr 3 ≡ gie start

  -- behind RET
  pub record IsEnd (given : List ℕ) (v : View) : Type 0 where
    pub pc : v.pc ≡ even (word_in ram start.sp)
    pub sp : v.sp ≡ start.sp + 2
    pub small : v.sr < 0x10000
    pub is_awake : bit v.sr 4 ≡ false
    pub gate : v.gate ≡ gie start
    pub gie : bit v.sr 3 ≡ gie start
    pub stack : (a : ℕ) → start.sp + 2 ≤ a → v.stack a ≡ ram a
    pub kept : (r : ℕ) → 4 ≤ r → r < 12 → v.regs r ≡ slice_index start.others (r - 4)
    pub result : Hold 12 given v.regs
    pub few : length given ≤ 4

  pub is_inside : (v : View) (o : Open) → Shows (sp0 + 2) v o → IsCalm v → IsInside code start ram o
  is_inside v o s g =
      let cpu : o.cpu ≡ cpu_of v s.others = ap (λ (x : Open). x.cpu) s.same in
      let sp : o.cpu.sp ≡ v.sp = ap (λ (x : Cpu). x.sp) cpu in
      let d = g.low in let b = g.below in record {
        low = omega (arith, sp, d);
        high = omega (arith, sp, b);
        words = words_of (sp0 + 2) v o s g.even_pc g.small_pc g.even_sp g.small;
        bytes = subst (λ (x : Open). (a : ℕ) → x.ram a < 0x100) (sym s.same) s.bytes;
        awake = ap cpuoff cpu ∙ g.is_awake;
        gate = ap (λ (x : Cpu). x.gate) cpu ∙ g.gate;
        gie = ap gie cpu ∙ g.gie;
      }

  pub is_going : (Post : View → Type 0) (v : View) (o : Open) → Shows (sp0 + 2) v o → Good image data_end marks sp0 start objects room within high Post v → IsGoing code start ram o
  is_going Post v o t g =
      let x = g.settled.deep in (
        is_inside v o t (record { even_pc = g.even_pc; small_pc = g.small_pc; small = g.settled.small; even_sp = g.settled.even_sp; low = omega (arith, x); below = g.settled.below; is_awake = g.settled.awake; gate = g.gate; gie = g.settled.gie }),
        ap (λ (x : Open). marks x.cpu.pc) t.same ∙ g.unmarked,
      )

  pub is_back : (given : List ℕ) (v : View) (o : Open) → Shows (sp0 + 2) v o → IsEnd given v → IsBack code start ram given o
  is_back given v o s e =
      let cpu : o.cpu ≡ cpu_of v s.others = ap (λ (x : Open). x.cpu) s.same in
      let b0 = bytes start.sp in let b1 = bytes (start.sp + 1) in let es = words.even_sp in
      let pc = e.pc in let sp = e.sp in
      let regs : (r : ℕ) → 4 ≤ r → r < 16 → reg o.cpu r ≡ v.regs r = λ r lo hi. reg_plain o.cpu r lo ∙ ap (λ (x : Cpu). slice_index x.others (r - 4)) cpu ∙ s.fits.regs r lo hi in
      record {
        sp = ap (λ (x : Cpu). x.sp) cpu ∙ e.sp;
        pc = ap (λ (x : Cpu). x.pc) cpu ∙ e.pc;
        words = words_of (sp0 + 2) v o s (omega (arith, pc)) (omega (arith, pc, b0, b1)) (omega (arith, sp, es)) e.small;
        bytes = subst (λ (x : Open). (a : ℕ) → x.ram a < 0x100) (sym s.same) s.bytes;
        awake = ap cpuoff cpu ∙ e.is_awake;
        gate = ap (λ (x : Cpu). x.gate) cpu ∙ e.gate;
        gie = ap gie cpu ∙ e.gie;
        kept = λ r lo hi. regs r lo (omega (arith, hi)) ∙ e.kept r lo hi ∙ sym (reg_plain start r lo);
        above = λ a lo hi. ap (λ (x : Open). x.ram a) s.same ∙ s.fits.stack a (omega (arith, sp, lo)) hi ∙ e.stack a lo;
        result = hold_on 12 given v.regs (reg o.cpu) (λ q le lt. regs q (omega (arith, le)) lt) (let f = e.few in omega (arith, f)) e.result;
      }

  -- what a call shows first
  pub shows_start : Shows (sp0 + 2) (at image data_end marks sp0 start objects room within high (λ v. Unit {0}) start.pc first ram) (open_start start ram)
  shows_start = record {
    others = start.others;
    ram = ram;
    done = [];
    same = ap (λ g. record { cpu = record start { gate = g }; ram = ram; done = [] }) level;
    fits = record { long = words.twelve; regs = λ q lo hi. refl; words = λ q lo hi. words.others (q - 4); stack = λ a lo hi. refl };
    bytes = bytes;
    log = record { made = refl; answers = refl; fault = refl };
  }

  module _ (Post : View → Type 0) (c : Code) (formed : is_formed c ≡ true) (shallow : depth c ≤ 58) where
    pub settled_first : IsSettled image data_end marks sp0 start objects room within high Post (depth c) first
    settled_first = record { gie = refl; awake = awake; small = words.sr; words = λ r lo hi. words.others (r - 4); even_sp = words.even_sp; below = omega arith; deep = omega (arith, shallow) }

    pub settled_behind : IsSettled image data_end marks sp0 start objects room within high Post (depth c) (meaning c first)
    settled_behind = settled_on image data_end marks sp0 start objects room within high Post c (depth c) first formed (omega arith) settled_first

    -- behind code, RET leads back
    pub returns : (end : ℕ) → leaves_others c ≡ true → IsMarked image marks end [] (Two Mov false (Increment 1) (Reg 0)) → (given : List ℕ) → length given ≤ 4 → Hold 12 given (meaning c first).regs → ((v : View) → IsEnd given v → Post v) →
        (stack' : ℕ → ℕ) → SameFrom start.sp ram stack' → Reach image data_end marks sp0 start objects room within high Post 1 (at image data_end marks sp0 start objects room within high Post end (meaning c first) stack')
    returns end others ret_stands given few held last stack' same =
        one image data_end marks sp0 start objects room within high Post 0 v w
        (record {
          even_pc = let z = ret_stands.at.even in omega (arith, z);
          small_pc = let z = ret_stands.at.high in omega (arith, z);
          unmarked = ret_stands.table;
          settled = record { gie = s.gie; awake = s.awake; small = s.small; words = s.words; even_sp = s.even_sp; below = s.below; deep = let x = s.deep in omega (arith, x) };
          gate = refl;
        })
        (ret image data_end marks sp0 v (ready image data_end marks sp0 start objects room within high Post (depth c) end after stack' s) (omega (arith, sp, within)) ret_stands) refl
        (0, omega arith, last w is_end)
      where
        after : Registers
        after = meaning c first

        s : IsSettled image data_end marks sp0 start objects room within high Post (depth c) after
        s = settled_behind

        sp : after.sp ≡ start.sp
        sp = sp_on c first

        v : View
        v = at image data_end marks sp0 start objects room within high Post end after stack'

        w : View
        w = record v { pc = even (word_in stack' after.sp); sp = after.sp + 2; gate = bit after.sr 3 }

        read : word_in stack' after.sp ≡ word_in ram start.sp
        read = ap (λ n. word_in stack' n) sp ∙ word_on ram stack' start.sp (same start.sp (omega arith)) (same (start.sp + 1) (omega arith))

        is_end : IsEnd given w
        is_end = record {
          pc = ap even read;
          sp = ap (λ n. n + 2) sp;
          small = s.small;
          is_awake = s.awake;
          gate = s.gie;
          gie = s.gie;
          stack = λ a le. same a (omega (arith, le));
          kept = λ r lo hi. code_leaves c r (others_left c others r lo hi) first;
          result = held;
          few = few;
        }

  module _ (c : Code) (end : ℕ) (formed : is_formed c ≡ true) (shallow : depth c ≤ 58) (others : leaves_others c ≡ true) (stands : Stand image data_end marks sp0 c start.pc end) (ret_stands : IsMarked image marks end [] (Two Mov false (Increment 1) (Reg 0))) (given : List ℕ)
      (bounded : IsBounded c first) (few : length given ≤ 4) (held : Hold 12 given (meaning c first).regs) where
    goes : Reach image data_end marks sp0 start objects room within high (IsEnd given) (weight c + 1) (at image data_end marks sp0 start objects room within high (IsEnd given) start.pc first ram)
    goes = run image data_end marks sp0 start objects room within high (IsEnd given) c start.pc end (depth c) first ram 1 formed bounded stands (omega arith) (settled_first (IsEnd given) c formed shallow)
        (returns (IsEnd given) c formed shallow end others ret_stands given few held (λ v e. e))

    pub turns : (n : ℕ) × (n < weight c + 2) × Turns code (IsGoing code start ram) (Ends code start ram (Some given)) n (open_start start ram)
    turns =
        let n = goes.0 in let l = goes.1 in
        let v = at image data_end marks sp0 start objects room within high (IsEnd given) start.pc first ram in (
          n,
          omega (arith, l),
          turns_of image data_end marks sp0 (Good image data_end marks sp0 start objects room within high (IsEnd given)) (λ v w. w.made ≡ v.made) (IsEnd given) (IsGoing code start ram) (IsBack code start ram given) (is_going (IsEnd given)) (is_back given) (λ v w x. x) (λ v g. g.unmarked)
              n v (open_start start ram) shows_start goes.2,
        )
