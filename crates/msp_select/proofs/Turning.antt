-- A chain from a state on is so many instructions of a routine; and a lone RET is one.
use Rattle.std.proofs.Common.{None, Some, ◌≡◌, ◌⊎◌, ℕ, zero, suc, ◌+◌, ◌-◌, ◌<◌, ◌≤◌, false, List, [], ◌∷◌, ◌++◌, length, length-append, refl, sym, ap, ◌∙◌, subst, arith}
use mathlib.Core.Logic.{inl, inr}
use Rattle.std.specs.Prelude.{slice_index}
use Rattle.std.proofs.Math.ListN.{get_or-eq_default}
use Rattle.std.proofs.lemmas.Bool.{cases_lt}
use Rattle.nm_base.specs.Lists.{bit}
use Rattle.nm_base.specs.declared.action.Action.{Action}
use Rattle.msp_isa.specs.declared.instr.Instr.TheVariants.{Two}
use Rattle.msp_isa.specs.declared.instr.Op2.TheVariants.{Mov}
use Rattle.msp_isa.specs.declared.instr.Operand.TheVariants.{Reg, Increment}
use Rattle.msp_isa.specs.Stands.{word_in}
use Rattle.msp430_cpu.specs.Cpu.{Cpu, cpuoff, even, gie, reg}
use Rattle.open_law.specs.Body.{code_below}
use Rattle.open_law.specs.Open.{Code, Done, HoldsWords, Moment, Open, actions_of, instruction, open_start, silent, went}
use Rattle.open_law.specs.Stands.{IsMarked}
use Rattle.open_law.proofs.Chain.{Chain, ret, step}
use Rattle.open_law.proofs.Log.{actions_on}
use Rattle.open_law.proofs.Quiet.{reg_plain}
use Rattle.open_law.proofs.View.{IsLog, Shows, View, cpu_of}
use Rattle.msp_select.specs.Routine.{Ends, Hold, IsBack, IsGoing, LoneReturnGivesBack, Turns}
use Rattle.msp_select.proofs.Helping.{hold_on}

no_more : (xs ys : List Action) → xs ++ ys ≡ xs → length ys ≡ 0
no_more xs ys e = let l : length (xs ++ ys) ≡ length xs + length ys = length-append xs ys in let k = ap length e in omega (arith, l, k)

none_done : (ds : List Done) → length (actions_of ds) ≡ 0 → ds ≡ []
none_done [] e = refl
none_done (d ∷ ds) e = absurd (omega (arith, e))

module _ (image : ℕ → ℕ) (data_end : ℕ) (marks : ℕ → List Action) (sp0 : ℕ) where
  abbrev code : Code
  code = code_below image data_end marks (sp0 + 2)

  log_of : (v : View) (o : Open) → Shows (sp0 + 2) v o → IsLog v.made v.answers v.faulted o.done
  log_of v o s = subst (λ (x : Open). IsLog v.made v.answers v.faulted x.done) (sym s.same) s.log

  module _ (Good : View → Type 0) (Next : View → View → Type 0) (Post : View → Type 0) (Going End : Open → Type 0) (going : (v : View) (o : Open) → Shows (sp0 + 2) v o → Good v → Going o) (ending : (v : View) (o : Open) → Shows (sp0 + 2) v o → Post v → End o)
      (quiet : (v w : View) → Next v w → w.made ≡ v.made) (unmarked : (v : View) → Good v → marks v.pc ≡ []) where
    nothing_noted : (v w : View) (o : Open) (now : Moment) → Shows (sp0 + 2) v o → Shows (sp0 + 2) w (went code now o) → w.made ≡ v.made → marks v.pc ≡ [] → (instruction code now o).after.bus.ports ≡ []
    nothing_noted v w o now s t e none =
        let ports = (instruction code now o).after.bus.ports in
        let pc : marks o.cpu.pc ≡ [] = ap (λ (x : Open). marks x.cpu.pc) s.same ∙ none in
        let grown : actions_of (o.done ++ ports) ≡ v.made = ap (λ l. actions_of (o.done ++ (silent l ++ ports))) (sym pc) ∙ (log_of w (went code now o) t).made ∙ e in
        let joined' : v.made ++ actions_of ports ≡ v.made = ap (λ l. l ++ actions_of ports) (sym (log_of v o s).made) ∙ sym (actions_on o.done ports) ∙ grown in
        none_done ports (no_more v.made (actions_of ports) joined')

    pub turns_of : (n : ℕ) (v : View) (o : Open) → Shows (sp0 + 2) v o → Chain image data_end marks sp0 Good Next Post n v → Turns code Going End n o
    turns_of zero v o s chain = ending v o s chain
    turns_of (suc n) v o s chain = (
      going v o s chain.0,
      λ now moment.
          let r = chain.1 now o moment s in (
            record { fair = r.2.fair; noted = nothing_noted v r.0 o now s r.2.shows (quiet v r.0 r.3) (unmarked v chain.0) },
            turns_of n r.0 (went code now o) r.2.shows r.1,
          ),
    )

  -- what a state has that a view shows
  words_of : (v : View) (o : Open) → Shows (sp0 + 2) v o → even v.pc ≡ v.pc → v.pc < 0x10000 → even v.sp ≡ v.sp → v.sr < 0x10000 → HoldsWords o.cpu
  words_of v o s ep lp es lr =
      subst HoldsWords (sym (ap (λ (x : Open). x.cpu) s.same)) (record { pc = lp; even_pc = ep; even_sp = es; sr = lr; twelve = s.fits.long; others = small })
    where
      small : (i : ℕ) → slice_index s.others i < 0x10000
      small i = by (cases_lt i 12)
        where
          by : (i < 12) ⊎ (12 ≤ i) → slice_index s.others i < 0x10000
          by (inl l) = let z : i + 4 - 4 ≡ i = omega arith in subst (λ n. slice_index s.others n < 0x10000) z (subst (λ n. n < 0x10000) (sym (s.fits.regs (i + 4) (omega arith) (omega (arith, l)))) (s.fits.words (i + 4) (omega arith) (omega (arith, l))))
          by (inr l) = let z : slice_index s.others i ≡ 0 = get_or-eq_default s.others 0 (let m = s.fits.long in omega (arith, m, l)) in subst (λ n. n < 0x10000) (sym z) (omega arith)

module _ (image : ℕ → ℕ) (data_end : ℕ) (marks : ℕ → List Action) (entry : ℕ) (objects : 0x1100 ≤ data_end) (at : IsMarked image marks entry [] (Two Mov false (Increment 1) (Reg 0))) (values : List ℕ) (few : length values ≤ 4) (sp0 : ℕ) (start : Cpu) (ram : ℕ → ℕ)
    (pc : start.pc ≡ entry) (words : HoldsWords start) (awake : cpuoff start ≡ false) (level : start.gate ≡ gie start) (held : Hold 12 values (reg start)) (bytes : (a : ℕ) → ram a < 0x100) (room : data_end + 60 ≤ start.sp + 2) (within : start.sp + 2 ≤ sp0 + 2) (high : sp0 + 2 ≤ 0x3900) where
  abbrev code' : Code
  code' = code_below image data_end marks (sp0 + 2)

  abbrev first : View
  first = record { pc = start.pc; sp = start.sp; sr = start.sr; gate = start.gate; regs = λ r. slice_index start.others (r - 4); stack = ram; made = []; answers = []; faulted = None; noted = [] }

  abbrev last : View
  last = record first { pc = even (word_in ram start.sp); sp = start.sp + 2; gate = bit start.sr 3 }

  is_going : (v : View) (o : Open) → Shows (sp0 + 2) v o → v ≡ first → IsGoing code' start ram o
  is_going v o s e = by v e s
    where
      by : (v : View) → v ≡ first → Shows (sp0 + 2) v o → IsGoing code' start ram o
      by v e s =
          let t = subst (λ x. Shows (sp0 + 2) x o) e s in
          let cpu : o.cpu ≡ cpu_of first t.others = ap (λ (x : Open). x.cpu) t.same in
          let sp : o.cpu.sp ≡ start.sp = ap (λ (x : Cpu). x.sp) cpu in (
            record {
              low = omega (arith, sp);
              high = omega (arith, sp);
              words = words_of image data_end marks sp0 first o t words.even_pc words.pc words.even_sp words.sr;
              bytes = subst (λ (x : Open). (a : ℕ) → x.ram a < 0x100) (sym t.same) t.bytes;
              awake = ap cpuoff cpu ∙ awake;
              gate = ap (λ (x : Cpu). x.gate) cpu ∙ level;
              gie = ap gie cpu;
            },
            ap (λ (x : Cpu). marks x.pc) cpu ∙ ap marks pc ∙ at.table,
          )

  is_back : (v : View) (o : Open) → Shows (sp0 + 2) v o → v ≡ last → IsBack code' start ram values o
  is_back v o s e =
      let t = subst (λ x. Shows (sp0 + 2) x o) e s in
      let cpu : o.cpu ≡ cpu_of last t.others = ap (λ (x : Open). x.cpu) t.same in
      let b0 = bytes start.sp in let b1 = bytes (start.sp + 1) in let es = words.even_sp in
      let regs : (r : ℕ) → 4 ≤ r → r < 16 → reg o.cpu r ≡ reg start r = λ r lo hi. reg_plain o.cpu r lo ∙ ap (λ (x : Cpu). slice_index x.others (r - 4)) cpu ∙ t.fits.regs r lo hi ∙ sym (reg_plain start r lo) in
      record {
        sp = ap (λ (x : Cpu). x.sp) cpu;
        pc = ap (λ (x : Cpu). x.pc) cpu;
        words = words_of image data_end marks sp0 last o t (omega arith) (omega (arith, b0, b1)) (omega (arith, es)) words.sr;
        bytes = subst (λ (x : Open). (a : ℕ) → x.ram a < 0x100) (sym t.same) t.bytes;
        awake = ap cpuoff cpu ∙ awake;
        gate = ap (λ (x : Cpu). x.gate) cpu;
        gie = ap gie cpu;
        kept = λ r lo hi. regs r lo (omega (arith, hi));
        above = λ a lo hi. ap (λ (x : Open). x.ram a) t.same ∙ t.fits.stack a lo hi;
        result = hold_on 12 values (reg start) (reg o.cpu) (λ q le lt. regs q (omega (arith, le)) lt) (omega (arith, few)) held;
      }

  goes : Chain image data_end marks sp0 (λ v. v ≡ first) (λ v w. w.made ≡ v.made) (λ v. v ≡ last) 1 first
  goes =
      step image data_end marks sp0 (λ v. v ≡ first) (λ v w. w.made ≡ v.made) (λ v. v ≡ last) 0 first last refl
      (ret image data_end marks sp0 first (record { objects = objects; low = omega (arith, room); inside = omega (arith, within); high = high; even_sp = words.even_sp }, awake, refl) (omega (arith, within)) (rw pc at)) refl refl

  pub gives_back : Turns code' (IsGoing code' start ram) (Ends code' start ram (Some values)) 1 (open_start start ram)
  gives_back =
      turns_of image data_end marks sp0 (λ v. v ≡ first) (λ v w. w.made ≡ v.made) (λ v. v ≡ last) (IsGoing code' start ram) (IsBack code' start ram values) is_going is_back (λ v w x. x) (λ v e. ap (λ (x : View). marks x.pc) e ∙ ap marks pc ∙ at.table)
      1 first (open_start start ram)
      (record { others = start.others; ram = ram; done = []; same = refl; fits = record { long = words.twelve; regs = λ q lo hi. refl; words = λ q lo hi. words.others (q - 4); stack = λ a lo hi. refl }; bytes = bytes; log = record { made = refl; answers = refl; fault = refl } }) goes

pub lone_return_gives_back : LoneReturnGivesBack
lone_return_gives_back image data_end marks entry objects at = record {
  even_entry = let e = at.at.even in omega (arith, e);
  small_entry = let h = at.at.high in omega (arith, h);
  runs = λ values top start ram few pc words awake level held bytes room within high.
      let two : top - 2 + 2 ≡ top = omega (arith, within) in
      subst (λ t. (n : ℕ) × (n < 2) × Turns (code_below image data_end marks t) (IsGoing (code_below image data_end marks t) start ram) (Ends (code_below image data_end marks t) start ram (Some values)) n (open_start start ram)) two
      (1, omega arith, gives_back image data_end marks entry objects at values few (top - 2) start ram pc words awake level held bytes room (omega (arith, within)) (omega (arith, high)));
}
