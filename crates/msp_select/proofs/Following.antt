-- A routine's instructions, seen from the code that called it, are a chain.
use Rattle.std.proofs.Common.{None, ◌≡◌, ℕ, zero, suc, ◌+◌, ◌-◌, ◌<◌, ◌≤◌, ◌&&◌, Bool, true, false, cond, nat_le, nat_lt, List, [], ◌++◌, length, Option, refl, sym, ap, ◌∙◌, subst, arith, append-nil}
use Rattle.std.proofs.Math.Path.{fun_ext}
use Rattle.std.specs.Prelude.{slice_index}
use Rattle.std.proofs.lemmas.Bool.Decides.{nat_tests}
use Rattle.std.proofs.lemmas.List.{ext_get_or}
use Rattle.nm_base.specs.declared.action.Action.{Action}
use Rattle.msp430_cpu.specs.Cpu.{Cpu, even, gie}
use Rattle.msp430_cpu.specs.Exec.{Step, run_or_idle, stepped_of}
use Rattle.open_law.specs.Body.{code_below}
use Rattle.open_law.specs.Open.{AreMarks, AreWordOuts, Code, Done, HoldsWords, IsFair, Moment, Open, actions_of, answers_of, disturbed, fault_of, instruction, joined_now, logged_bus, silent, went}
use Rattle.open_law.proofs.Chain.{Chain, Goes}
use Rattle.open_law.proofs.Log.{actions_on, answers_on, fault_on}
use Rattle.open_law.proofs.View.{View, IsLog, Shows, cpu_of}
use Rattle.msp_select.specs.Routine.{Does, Turns}

no_marks : AreMarks []
no_marks = record { silent = tt; few = omega arith }

module _ (image : ℕ → ℕ) (data_end : ℕ) (marks : ℕ → List Action) (start_sp : ℕ) where
  abbrev top : ℕ
  top = start_sp + 2

  abbrev code : Code
  code = code_below image data_end marks (start_sp + 2)

  -- a view and a state with the same processor and stack
  pub record Agrees (w : View) (o : Open) : Type 0 where
    pub pc : o.cpu.pc ≡ w.pc
    pub sp : o.cpu.sp ≡ w.sp
    pub sr : o.cpu.sr ≡ w.sr
    pub gate : o.cpu.gate ≡ w.gate
    pub regs : (r : ℕ) → 4 ≤ r → r < 16 → slice_index o.cpu.others (r - 4) ≡ w.regs r
    pub stack : (a : ℕ) → w.sp ≤ a → a < start_sp + 2 → o.ram a ≡ w.stack a

  -- what a view knows of registers and stack
  abbrev pub plain_regs : (ℕ → ℕ) → Open → ℕ → ℕ
  plain_regs low q r = cond (nat_lt r 4) (low r) (slice_index q.cpu.others (r - 4))

  abbrev pub kept_stack : (ℕ → ℕ) → Open → ℕ → ℕ
  kept_stack far q a = cond (nat_lt a (start_sp + 2)) (q.ram a) (far a)

  pub regs_at : (low : ℕ → ℕ) (q : Open) (r : ℕ) → 4 ≤ r → slice_index q.cpu.others (r - 4) ≡ plain_regs low q r
  regs_at low q r le = let t : nat_lt r 4 ≡ false = grind (arith, nat_tests) in rw t refl

  pub stack_at : (far : ℕ → ℕ) (q : Open) (a : ℕ) → a < start_sp + 2 → q.ram a ≡ kept_stack far q a
  stack_at far q a lt = let t : nat_lt a (start_sp + 2) ≡ true = grind (arith, nat_tests) in rw t refl

  -- below R4 and from the top on a view is as it was
  pub record Beyond (low far : ℕ → ℕ) (w : View) : Type 0 where
    pub regs : (r : ℕ) → r < 4 → w.regs r ≡ low r
    pub stack : (a : ℕ) → start_sp + 2 ≤ a → w.stack a ≡ far a

  pub regs_low : (low : ℕ → ℕ) (q : Open) (r : ℕ) → r < 4 → plain_regs low q r ≡ low r
  regs_low low q r lt = let t : nat_lt r 4 ≡ true = grind (arith, nat_tests) in rw t refl

  pub stack_far : (far : ℕ → ℕ) (q : Open) (a : ℕ) → start_sp + 2 ≤ a → kept_stack far q a ≡ far a
  stack_far far q a le = let t : nat_lt a (start_sp + 2) ≡ false = grind (arith, nat_tests) in rw t refl

  others_same : (xs ys : List ℕ) (regs : ℕ → ℕ) → length xs ≡ 12 → length ys ≡ 12 → ((r : ℕ) → 4 ≤ r → r < 16 → slice_index xs (r - 4) ≡ regs r) → ((r : ℕ) → 4 ≤ r → r < 16 → slice_index ys (r - 4) ≡ regs r) → xs ≡ ys
  others_same xs ys regs lx ly hx hy = ext_get_or 0 xs ys (lx ∙ sym ly) (λ i lt.
      let e : i + 4 - 4 ≡ i = omega arith in
      let small : i + 4 < 16 = omega (arith, lt, lx) in
      ap (slice_index xs) (sym e) ∙ hx (i + 4) (omega arith) small ∙ sym (hy (i + 4) (omega arith) small) ∙ ap (slice_index ys) e)

  cpu_same : (x y : Cpu) → x.pc ≡ y.pc → x.sp ≡ y.sp → x.sr ≡ y.sr → x.others ≡ y.others → x.gate ≡ y.gate → x ≡ y
  cpu_same x y p s r o g =
      ap (λ n. record { pc = n; sp = x.sp; sr = x.sr; others = x.others; gate = x.gate }) p
      ∙ ap (λ n. record { pc = y.pc; sp = n; sr = x.sr; others = x.others; gate = x.gate }) s
      ∙ ap (λ n. record { pc = y.pc; sp = y.sp; sr = n; others = x.others; gate = x.gate }) r
      ∙ ap (λ l. record { pc = y.pc; sp = y.sp; sr = y.sr; others = l; gate = x.gate }) o
      ∙ ap (λ b. record { pc = y.pc; sp = y.sp; sr = y.sr; others = y.others; gate = b }) g

  module _ (w : View) (o : Open) (agrees : Agrees w o) (words : HoldsWords o.cpu) (now : Moment) (p : Open) (s : Shows top w p) where
    pub same_cpu : p.cpu ≡ o.cpu
    same_cpu =
        ap (λ (x : Open). x.cpu) s.same
        ∙ cpu_same (cpu_of w s.others) o.cpu (sym agrees.pc) (sym agrees.sp) (sym agrees.sr) (others_same s.others o.cpu.others w.regs s.fits.long words.twelve s.fits.regs agrees.regs) (sym agrees.gate)

    same_ram : disturbed now.bytes o.cpu.sp top p.ram ≡ disturbed now.bytes o.cpu.sp top o.ram
    same_ram = fun_ext (λ a. by a (nat_le o.cpu.sp a) refl (nat_lt a top) refl)
      where
        by : (a : ℕ) (lo : Bool) → nat_le o.cpu.sp a ≡ lo → (hi : Bool) → nat_lt a top ≡ hi → cond (lo && hi) (p.ram a) (now.bytes a) ≡ cond (lo && hi) (o.ram a) (now.bytes a)
        by a false e hi f = refl
        by a true e false f = refl
        by a true e true f =
            let lo : w.sp ≤ a = let q = agrees.sp in grind (arith, nat_tests) in
            let up : a < top = grind (arith, nat_tests) in
            ap (λ (x : Open). x.ram a) s.same ∙ s.fits.stack a lo up ∙ sym (agrees.stack a lo up)

    same_joined : joined_now code now p ≡ joined_now code now o
    same_joined =
        ap (λ (x : Cpu). record { cpu = record x { gate = cond now.interrupted (x.gate && gie x) x.gate }; bus = record { ram = disturbed now.bytes x.sp top p.ram; code = image; ports = [] } }) same_cpu
        ∙ ap (λ (m : ℕ → ℕ). record { cpu = record o.cpu { gate = cond now.interrupted (o.cpu.gate && gie o.cpu) o.cpu.gate }; bus = record { ram = m; code = image; ports = [] } }) same_ram

    pub same_step : instruction code now p ≡ instruction code now o
    same_step = ap (run_or_idle (logged_bus data_end now.answer)) same_joined

    same_fair : IsFair code now o → IsFair code now p
    same_fair f = record {
      runs = subst (λ (x : Step (logged_bus data_end now.answer)). x.stepped ≡ stepped_of (logged_bus data_end now.answer) (fault_of x.after.bus.ports)) (sym same_step) f.runs;
      outs = subst (λ (x : Step (logged_bus data_end now.answer)). AreWordOuts x.after.bus.ports) (sym same_step) f.outs;
      alone = subst (λ (x : Step (logged_bus data_end now.answer)). length x.after.bus.ports ≤ 1) (sym same_step) f.alone;
      leaves = λ a le object. ap (λ (x : Step (logged_bus data_end now.answer)). x.after.bus.ram a) same_step ∙ f.leaves a le object;
      gate = λ b. ap (λ (x : Step (logged_bus data_end now.answer)). x.after.cpu.gate) same_step ∙ f.gate (ap (λ (x : Step (logged_bus data_end now.answer)). nat_le top x.after.cpu.sp) (sym same_step) ∙ b) ∙ ap gie (sym same_cpu);
    }

    -- the view behind an instruction, with these registers below R4 and this stack from the top on
    abbrev pub next_view : (low far : ℕ → ℕ) → List Action → List ℕ → (faulted : Option ℕ) → View
    next_view low far made answers faulted =
        let q = went code now o in
        record { pc = q.cpu.pc; sp = q.cpu.sp; sr = q.cpu.sr; gate = q.cpu.gate; regs = plain_regs low q; stack = kept_stack far q; made = made; answers = answers; faulted = faulted; noted = [] }

    -- it goes there
    pub goes_on : (low far : ℕ → ℕ) (did : List Done) (made : List Action) (answers : List ℕ) (faulted : Option ℕ) → Does code now o did → marks w.pc ≡ [] → length did ≤ 1 → HoldsWords (went code now o).cpu → ((a : ℕ) → (went code now o).ram a < 0x100) →
        w.faulted ≡ None → w.made ++ actions_of did ≡ made → w.answers ++ answers_of did ≡ answers → fault_of did ≡ faulted → Goes image data_end marks start_sp now w (next_view low far made answers faulted) p
    goes_on low far did made answers faulted d unmarked short words' bytes' going em ea ef = record {
      shows = record {
        others = (went code now o).cpu.others;
        ram = (went code now o).ram;
        done = p.done ++ (silent (marks w.pc) ++ did);
        same = ap (λ (x : Step (logged_bus data_end now.answer)). record { cpu = x.after.cpu; ram = x.after.bus.ram; done = p.done ++ (silent (marks p.cpu.pc) ++ x.after.bus.ports) }) same_step ∙ ap (λ l. record { cpu = (went code now o).cpu; ram = (went code now o).ram; done = l }) grown';
        fits = record { long = words'.twelve; regs = λ r lo hi. regs_at low (went code now o) r lo; words = λ r lo hi. subst (λ n. n < 0x10000) (regs_at low (went code now o) r lo) (words'.others (r - 4)); stack = λ a lo hi. stack_at far (went code now o) a hi };
        bytes = bytes';
        log = record {
          made = ap actions_of plain ∙ actions_on p.done did ∙ ap (λ l. l ++ actions_of did) (log_of.made) ∙ em;
          answers = ap answers_of plain ∙ answers_on p.done did ∙ ap (λ l. l ++ answers_of did) (log_of.answers) ∙ ea;
          fault = ap fault_of plain ∙ fault_on p.done did (log_of.fault ∙ going) ∙ ef;
        };
      };
      fair = same_fair d.fair;
      calm = subst AreMarks (sym unmarked) no_marks;
      even_pc = ap even (sym agrees.pc) ∙ words.even_pc ∙ agrees.pc;
      small_pc = subst (λ n. n < 0x10000) agrees.pc words.pc;
      noted = did;
      few = short;
      grown = ap (λ (x : Step (logged_bus data_end now.answer)). p.done ++ (silent (marks p.cpu.pc) ++ x.after.bus.ports)) same_step ∙ grown';
    }
      where
        grown' : p.done ++ (silent (marks p.cpu.pc) ++ (instruction code now o).after.bus.ports) ≡ p.done ++ (silent (marks w.pc) ++ did)
        grown' = ap (λ (c : Cpu). p.done ++ (silent (marks c.pc) ++ (instruction code now o).after.bus.ports)) same_cpu ∙ ap (λ n. p.done ++ (silent (marks n) ++ (instruction code now o).after.bus.ports)) agrees.pc ∙ ap (λ l. p.done ++ (silent (marks w.pc) ++ l)) d.noted

        plain : p.done ++ (silent (marks w.pc) ++ did) ≡ p.done ++ did
        plain = ap (λ l. p.done ++ (silent l ++ did)) unmarked

        log_of : IsLog w.made w.answers w.faulted p.done
        log_of = subst (λ (x : Open). IsLog w.made w.answers w.faulted x.done) (sym s.same) s.log

  -- so many more instructions
  abbrev pub later : ℕ → ℕ → ℕ
  later zero k = k
  later (suc n) k = suc (later n k)

  module _ (low far : ℕ → ℕ) (made : List Action) (answers : List ℕ) (GoodView : View → Type 0) (Next : View → View → Type 0) (Post : View → Type 0) (Going End : Open → Type 0)
      (holds : (o : Open) → Going o → HoldsWords o.cpu × ((a : ℕ) → o.ram a < 0x100) × (marks o.cpu.pc ≡ []))
      (ends : (o : Open) → End o → HoldsWords o.cpu × ((a : ℕ) → o.ram a < 0x100))
      (good : (o : Open) (w : View) → Agrees w o → w.made ≡ made → w.answers ≡ answers → w.faulted ≡ None → Going o → GoodView w)
      (next : (w w' : View) → w.answers ≡ answers → w'.made ≡ made → Next w w')
      (k : ℕ) (behind : (o : Open) (w : View) → Agrees w o → Beyond low far w → w.made ≡ made → w.answers ≡ answers → w.faulted ≡ None → End o → Chain image data_end marks start_sp GoodView Next Post k w) where
    front : (n : ℕ) (o : Open) → Turns code Going End n o → HoldsWords o.cpu × ((a : ℕ) → o.ram a < 0x100)
    front zero o t = ends o t
    front (suc n) o t = let h = holds o t.0 in (h.0, h.1)

    pub follows : (n : ℕ) (o : Open) (w : View) → Agrees w o → Beyond low far w → w.made ≡ made → w.answers ≡ answers → w.faulted ≡ None → Turns code Going End n o → Chain image data_end marks start_sp GoodView Next Post (later n k) w
    follows zero o w agrees beyond em ea ef t = behind o w agrees beyond em ea ef t
    follows (suc n) o w agrees beyond em ea ef t = (
      good o w agrees em ea ef t.0,
      λ now p moment s.
          let h = holds o t.0 in
          let d = t.1 now moment in
          let f = front n (went code now o) d.1 in
          let w' = next_view w o agrees h.0 now p s low far made answers None in (
            w',
            follows n (went code now o) w' (record { pc = refl; sp = refl; sr = refl; gate = refl; regs = λ r lo hi. regs_at low (went code now o) r lo; stack = λ a lo hi. stack_at far (went code now o) a hi })
                (record { regs = regs_low low (went code now o); stack = stack_far far (went code now o) }) refl refl refl d.1,
            goes_on w o agrees h.0 now p s low far [] made answers None d.0 (ap marks (sym agrees.pc) ∙ h.2) (omega arith) f.0 f.1 ef (append-nil w.made ∙ em) (append-nil w.answers ∙ ea) refl,
            next w w' ea refl,
          ),
    )
