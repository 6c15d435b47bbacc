-- Chains of instructions: from any state of a view, after exactly these instructions, whatever happens between them, a state
-- of another view; and what must be so in between is so.
use Rattle.std.proofs.Common.{Some, ◌≡◌, ◌≢◌, ℕ, zero, suc, ◌+◌, ◌%◌, ◌<◌, ◌≤◌, ◌&&◌, Bool, true, false, cond, nat_lt, nat_le, List, [], ◌∷◌, ◌++◌, refl, sym, ap, ◌∙◌, subst, arith, append-nil}
use Rattle.std.proofs.lemmas.Bool.Decides.{nat_tests}
use Rattle.nm_base.specs.Lists.{bit}
use Rattle.msp_isa.specs.declared.instr.Op2.{Op2}
use Rattle.msp_isa.specs.declared.instr.Op2.TheVariants as op2
use Rattle.msp_isa.specs.declared.instr.Operand.TheVariants.{Reg, Indexed, Absolute, Indirect, Increment, Constant, Immediate}
use Rattle.msp_isa.specs.declared.instr.Instr.TheVariants.{Two, One}
use Rattle.msp430_cpu.specs.Cpu.{even, changed_at}
use Rattle.msp430_cpu.specs.Memory.{with_word_at}
use Rattle.msp430_cpu.specs.Exec.{Step, stepped_of, further, jumped}
use Rattle.msp430_cpu.specs.Operate.{is_taken, operate, reads_destination}
use Rattle.open_law.specs.Homes.{Home, InRegister, InFrame, Source, Of, at_home, operand_of, IsByte, IsWord, IsPort}
use Rattle.open_law.specs.Open.{Done, actions_of, answers_of, fault_of, silent, Moment, IsMoment, Open, Code, AreMarks, AreWordOuts, IsFair, disturbed, instruction, went, logged_bus}
use Rattle.msp_isa.specs.Stands.{word_in}
use Rattle.open_law.specs.Stands.{IsMarked, JumpsTo}
use Rattle.nm_base.specs.declared.action.Action.{Action}
use Rattle.nm_base.specs.declared.action.Action.TheVariants as action
use Rattle.msp_isa.specs.declared.instr.Instr.{Instr}
use Rattle.msp_isa.specs.declared.instr.Op1.TheVariants as op1
use Rattle.msp_isa.specs.declared.instr.Cond.{Cond}
use Rattle.std.specs.Prelude.{bit_and, None, length}
use Rattle.open_law.proofs.View.{View, state_of, open_of, Fits, Leads, IsRoom, IsLog, Shows}
use Rattle.open_law.proofs.Log.{actions_on, answers_on, actions_silent, answers_silent, fault_on, fault_silent}
use Rattle.open_law.specs.Body.{code_below}
use Rattle.open_law.proofs.Quiet.{moves, small_of, IsHome, Has, put_home, passed, few, little}
use Rattle.open_law.proofs.Alu.{with_result, operates}
use Rattle.open_law.proofs.Acting.{having_got, doing, Gets, GetsByte, loads, loads_byte, takes as takes_in, stores, gives, faults}
use Rattle.open_law.proofs.Reached.{stores_byte, pokes, pokes_byte, peeks, peeks_byte}
use Rattle.open_law.proofs.Flow.{pushing, jumps, calls, pushes, adds_sp, goes_to, returns}
use Rattle.open_law.proofs.Status.{idles, closes, saves, restores}

-- as an instruction finds it
abbrev pub opened : View → Moment → List Action → View
opened v now made = record v { gate = cond now.interrupted (v.gate && bit v.sr 3) v.gate; made = made; noted = [] }

no_marks : AreMarks []
no_marks = record { silent = tt; few = omega arith }

module _ (image : ℕ → ℕ) (data_end : ℕ) (marks : ℕ → List Action) (start_sp : ℕ) where
  abbrev top : ℕ
  top = start_sp + 2

  abbrev pub code : Code
  code = code_below image data_end marks (start_sp + 2)

  -- what one instruction came to
  pub record Goes (now : Moment) (v w : View) (o : Open) : Type 0 where
    pub shows : Shows top w (went code now o)
    pub fair : IsFair code now o
    pub calm : AreMarks (marks v.pc)
    pub even_pc : even v.pc ≡ v.pc
    pub small_pc : v.pc < 0x10000
    pub noted : List Done
    pub few : length noted ≤ 1
    pub grown : (went code now o).done ≡ o.done ++ (silent (marks v.pc) ++ noted)

  -- one instruction leads from each state of v to one of w
  abbrev pub Takes : View → View → Type 0
  Takes v w = (now : Moment) (o : Open) → IsMoment now → Shows top v o → Goes now v w o

  -- and of w x, for an answer x
  abbrev pub Asks : View → (ℕ → View) → Type 0
  Asks v w = (now : Moment) (o : Open) → IsMoment now → Shows top v o → (x : ℕ) × (x < 0x10000) × Goes now v (w x) o

  -- where the answer is a byte
  abbrev pub AsksByte : View → (ℕ → View) → Type 0
  AsksByte v w = (now : Moment) (o : Open) → IsMoment now → Shows top v o → (x : ℕ) × (x < 0x100) × Goes now v (w x) o

  -- what an instruction may rely on
  abbrev FromEach : View → List Action → (Moment → List ℕ → (ℕ → ℕ) → View → Type 0) → Type 0
  FromEach v made F = (now : Moment) (others : List ℕ) (ram : ℕ → ℕ) → IsMoment now → Fits top v others ram → ((b : ℕ) → ram b < 0x100) → F now others ram (opened v now made)

  kept_fits : (v : View) (now : Moment) (others : List ℕ) (ram : ℕ → ℕ) → Fits top v others ram → Fits top v others (disturbed now.bytes v.sp top ram)
  kept_fits v now others ram fits = record {
    long = fits.long;
    regs = fits.regs;
    words = fits.words;
    stack = λ a lo hi. let t : (nat_le v.sp a && nat_lt a top) ≡ true = grind (arith, nat_tests) in rw t (fits.stack a lo hi);
  }

  kept_bytes : (v : View) (now : Moment) (ram : ℕ → ℕ) → IsMoment now → ((b : ℕ) → ram b < 0x100) → (b : ℕ) → disturbed now.bytes v.sp top ram b < 0x100
  kept_bytes v now ram moment small b = by (nat_le v.sp b && nat_lt b top)
    where
      by : (t : Bool) → cond t (ram b) (now.bytes b) < 0x100
      by true = small b
      by false = moment.bytes b

  left_above : (v : View) (now : Moment) (ram : ℕ → ℕ) (a : ℕ) → top ≤ a → disturbed now.bytes v.sp top ram a ≡ now.bytes a
  left_above v now ram a le = let t : (nat_le v.sp a && nat_lt a top) ≡ false = grind (arith, nat_tests) in rw t refl

  -- what the list of a view is, with marks and what was noted
  pub record Adds (v w : View) (noted : List Done) : Type 0 where
    pub going : v.faulted ≡ None
    pub calm : AreMarks (marks v.pc)
    pub few : length noted ≤ 1
    pub outs : AreWordOuts noted
    pub made : v.made ++ (marks v.pc ++ actions_of noted) ≡ w.made
    pub answers : v.answers ++ answers_of noted ≡ w.answers
    pub fault : fault_of noted ≡ w.faulted

  log_on : (v w : View) (noted done : List Done) → Adds v w noted → IsLog v.made v.answers v.faulted done → IsLog w.made w.answers w.faulted (done ++ (silent (marks v.pc) ++ noted))
  log_on v w noted done a log = record {
    made = actions_on done (silent (marks v.pc) ++ noted)
        ∙ ap (λ l. l ++ actions_of (silent (marks v.pc) ++ noted)) log.made
        ∙ ap (λ l. v.made ++ l) (actions_on (silent (marks v.pc)) noted ∙ ap (λ l. l ++ actions_of noted) (actions_silent (marks v.pc)))
        ∙ a.made;
    answers = answers_on done (silent (marks v.pc) ++ noted)
        ∙ ap (λ l. l ++ answers_of (silent (marks v.pc) ++ noted)) log.answers
        ∙ ap (λ l. v.answers ++ l) (answers_on (silent (marks v.pc)) noted ∙ ap (λ l. l ++ answers_of noted) (answers_silent (marks v.pc)))
        ∙ a.answers;
    fault = fault_on done (silent (marks v.pc) ++ noted) (log.fault ∙ a.going)
        ∙ fault_on (silent (marks v.pc)) noted (fault_silent (marks v.pc) a.calm.silent)
        ∙ a.fault;
  }

  one_goes : (v w : View) (noted : List Done) (made : List Action) (now : Moment) (others : List ℕ) (ram : ℕ → ℕ) (done : List Done) → IsMoment now → ((b : ℕ) → ram b < 0x100) → IsLog v.made v.answers v.faulted done → Adds v w noted →
      Leads image data_end top now (opened v now made) (record w { noted = noted }) others (disturbed now.bytes v.sp top ram) → Goes now v w (open_of v others ram done)
  one_goes v w noted made now others ram done moment small log a l =
      let o = open_of v others ram done in
      let same : instruction code now o ≡ record { after = state_of image (record w { noted = noted }) l.others' l.ram'; stepped = stepped_of (logged_bus data_end now.answer) (fault_of noted) } = l.same in
      record {
        shows = record {
          others = l.others';
          ram = l.ram';
          done = done ++ (silent (marks v.pc) ++ noted);
          same = ap (λ (s : Step (logged_bus data_end now.answer)). record { cpu = s.after.cpu; ram = s.after.bus.ram; done = done ++ (silent (marks v.pc) ++ s.after.bus.ports) }) same;
          fits = record { long = l.fits.long; regs = l.fits.regs; words = l.fits.words; stack = l.fits.stack };
          bytes = l.bytes (kept_bytes v now ram moment small);
          log = log_on v w noted done a log;
        };
        fair = record {
          runs = subst (λ (s : Step (logged_bus data_end now.answer)). s.stepped ≡ stepped_of (logged_bus data_end now.answer) (fault_of s.after.bus.ports)) (sym same) refl;
          outs = subst (λ (s : Step (logged_bus data_end now.answer)). AreWordOuts s.after.bus.ports) (sym same) a.outs;
          alone = subst (λ (s : Step (logged_bus data_end now.answer)). length s.after.bus.ports ≤ 1) (sym same) a.few;
          leaves = λ b le object. ap (λ (s : Step (logged_bus data_end now.answer)). s.after.bus.ram b) same ∙ l.above b le ∙ left_above v now ram b le;
          gate = λ back. ap (λ (s : Step (logged_bus data_end now.answer)). s.after.cpu.gate) same ∙ l.gate;
        };
        calm = a.calm;
        even_pc = l.even_pc;
        small_pc = l.small_pc;
        noted = noted;
        few = a.few;
        grown = ap (λ (s : Step (logged_bus data_end now.answer)). done ++ (silent (marks v.pc) ++ s.after.bus.ports)) same;
      }

  takes : (v w : View) (noted : List Done) (made : List Action) → Adds v w noted → FromEach v made (λ now others ram u. Leads image data_end top now u (record w { noted = noted }) others ram) → Takes v w
  takes v w noted made a f now o moment s =
      subst (λ x. Goes now v w x) (sym s.same)
      (one_goes v w noted made now s.others s.ram s.done moment s.bytes s.log a
      (f now s.others (disturbed now.bytes v.sp top s.ram) moment (kept_fits v now s.others s.ram s.fits) (kept_bytes v now s.ram moment s.bytes)))

  -- an answer, and what was noted with it
  asks : (v : View) (w : ℕ → View) (a : Action) → marks v.pc ≡ [] → ((x : ℕ) → Adds v (w x) (record { action = a; answers = x ∷ [] } ∷ [])) →
      FromEach v v.made (λ now others ram u. Gets image data_end top now u (λ x. record (w x) { noted = record { action = a; answers = x ∷ [] } ∷ [] }) others ram) → Asks v w
  asks v w a e adds f now o moment s =
      let g = f now s.others (disturbed now.bytes v.sp top s.ram) moment (kept_fits v now s.others s.ram s.fits) (kept_bytes v now s.ram moment s.bytes) in (
        g.answer,
        g.small,
        subst (λ x. Goes now v (w g.answer) x) (sym s.same)
            (one_goes v (w g.answer) (record { action = a; answers = g.answer ∷ [] } ∷ []) v.made now s.others s.ram s.done moment s.bytes s.log (adds g.answer) g.leads),
      )

  asks_byte : (v : View) (w : ℕ → View) (a : Action) → marks v.pc ≡ [] → ((x : ℕ) → Adds v (w x) (record { action = a; answers = x ∷ [] } ∷ [])) →
      FromEach v v.made (λ now others ram u. GetsByte image data_end top now u (λ x. record (w x) { noted = record { action = a; answers = x ∷ [] } ∷ [] }) others ram) → AsksByte v w
  asks_byte v w a e adds f now o moment s =
      let g = f now s.others (disturbed now.bytes v.sp top s.ram) moment (kept_fits v now s.others s.ram s.fits) (kept_bytes v now s.ram moment s.bytes) in (
        g.answer,
        g.small,
        subst (λ x. Goes now v (w g.answer) x) (sym s.same)
            (one_goes v (w g.answer) (record { action = a; answers = g.answer ∷ [] } ∷ []) v.made now s.others s.ram s.done moment s.bytes s.log (adds g.answer) g.leads),
      )

  calm_at : (pc : ℕ) (marked : List Action) → AreMarks marked → marks pc ≡ marked → AreMarks (marks pc)
  calm_at pc marked calm e = subst AreMarks (sym e) calm

  with_marks : (made more : List Action) (pc : ℕ) (marked : List Action) → marks pc ≡ marked → made ++ (marks pc ++ more) ≡ made ++ (marked ++ more)
  with_marks made more pc marked e = ap (λ l. made ++ (l ++ more)) e

  -- an instruction that notes nothing
  quiet : (v w : View) (marked : List Action) → v.faulted ≡ None → marks v.pc ≡ marked → AreMarks marked → w.made ≡ v.made ++ marked → w.answers ≡ v.answers → w.faulted ≡ v.faulted → Adds v w []
  quiet v w marked going e calm made answers faulted = record {
    going = going;
    calm = calm_at v.pc marked calm e;
    few = omega arith;
    outs = tt;
    made = with_marks v.made [] v.pc marked e ∙ ap (λ l. v.made ++ l) (append-nil marked) ∙ sym made;
    answers = append-nil v.answers ∙ sym answers;
    fault = sym (faulted ∙ going);
  }

  -- and one without marks
  still : (v w : View) → v.faulted ≡ None → marks v.pc ≡ [] → w.made ≡ v.made → w.answers ≡ v.answers → w.faulted ≡ v.faulted → Adds v w []
  still v w going e made answers faulted = quiet v w [] going e no_marks (made ∙ sym (append-nil v.made)) answers faulted

  -- one that notes an action that is no fault
  noting : (v w : View) (a : Action) (got : List ℕ) → v.faulted ≡ None → marks v.pc ≡ [] → AreWordOuts (record { action = a; answers = got } ∷ []) → fault_of (record { action = a; answers = got } ∷ []) ≡ w.faulted →
      w.made ≡ v.made ++ (a ∷ []) → w.answers ≡ v.answers ++ got → Adds v w (record { action = a; answers = got } ∷ [])
  noting v w a got going e outs fault made answers = record {
    going = going;
    calm = calm_at v.pc [] no_marks e;
    few = omega arith;
    outs = outs;
    made = with_marks v.made (a ∷ []) v.pc [] e ∙ sym made;
    answers = ap (λ l. v.answers ++ l) (append-nil got) ∙ sym answers;
    fault = fault;
  }

  -- n instructions; Good holds before each, Next of the views before and behind it, and Post behind the last
  abbrev pub Chain : (View → Type 0) → (View → View → Type 0) → (View → Type 0) → ℕ → View → Type 0
  Chain Good Next Post zero v = Post v
  Chain Good Next Post (suc n) v = Good v × ((now : Moment) (o : Open) → IsMoment now → Shows top v o → (w : View) × Chain Good Next Post n w × Goes now v w o × Next v w)

  module _ (Good : View → Type 0) (Next : View → View → Type 0) (Post : View → Type 0) where
    pub step : (n : ℕ) (v w : View) → Good v → Takes v w → Next v w → Chain Good Next Post n w → Chain Good Next Post (suc n) v
    step n v w good t x c = (good, λ now o moment s. (w, c, t now o moment s, x))

    pub ask : (n : ℕ) (v : View) (w : ℕ → View) → Good v → Asks v w → ((x : ℕ) → x < 0x10000 → Next v (w x) × Chain Good Next Post n (w x)) → Chain Good Next Post (suc n) v
    ask n v w good t c = (good, λ now o moment s. let g = t now o moment s in let r = c g.0 g.1 in (w g.0, r.1, g.2, r.0))

    pub ask_byte : (n : ℕ) (v : View) (w : ℕ → View) → Good v → AsksByte v w → ((x : ℕ) → x < 0x100 → Next v (w x) × Chain Good Next Post n (w x)) → Chain Good Next Post (suc n) v
    ask_byte n v w good t c = (good, λ now o moment s. let g = t now o moment s in let r = c g.0 g.1 in (w g.0, r.1, g.2, r.0))

  -- an instruction with these silent actions stands at PC
  abbrev At : View → List Action → Instr → Type 0
  At v marked i = IsMarked image marks v.pc marked i

  abbrev IsReady : View → Type 0
  IsReady v = IsRoom data_end top v × (bit v.sr 4 ≡ false) × (v.faulted ≡ None)

  -- MOV from a home or a number to a home
  pub move : (v : View) (s : Source) (h : Home) (n : ℕ) → IsReady v → At v [] (Two op2.Mov false (operand_of s) (at_home h)) → Has top v s n → IsHome top v h →
      Takes v (passed (put_home v h n) (2 + further (operand_of s) + further (at_home h)))
  move v s h n ready at has home =
      let hi = at.at.high in
      let k = few s in
      let l = little h in
      takes v (passed (put_home v h n) (2 + further (operand_of s) + further (at_home h))) [] v.made (still v (passed (put_home v h n) (2 + further (operand_of s) + further (at_home h))) ready.2 at.table refl refl refl)
      (λ now others ram moment fits bytes. moves image data_end top now (opened v now v.made) others ram s h n ready.0 fits ready.1 at.at (omega arith) has home)

  -- an operation on a home
  pub operation : (v : View) (op : Op2) (s : Source) (h : Home) (n d : ℕ) → reads_destination op ≡ true → (operate op false v.sr n d).result < 0x10000 → IsReady v → At v [] (Two op false (operand_of s) (at_home h)) → Has top v s n → Has top v (Of h) d →
      Takes v (with_result (passed v (2 + further (operand_of s) + further (at_home h))) h (operate op false v.sr n d))
  operation v op s h n d reading word ready at has old =
      let hi = at.at.high in
      let k = few s in
      let l = little h in
      takes v (with_result (passed v (2 + further (operand_of s) + further (at_home h))) h (operate op false v.sr n d)) [] v.made (still v (with_result (passed v (2 + further (operand_of s) + further (at_home h))) h (operate op false v.sr n d)) ready.2 at.table refl refl refl)
      (λ now others ram moment fits bytes. operates image data_end top now (opened v now v.made) others ram op s h n d reading word ready.0 fits ready.1 at.at (omega arith) has old)

  -- MOV @r, h
  pub load : (v : View) (r : ℕ) (h : Home) (a : ℕ) → IsReady v → At v [] (Two op2.Mov false (Indirect r) (at_home h)) → Has top v (Of (InRegister r)) a → IsHome top v h → IsWord data_end a →
      Asks v (λ x. passed (put_home (having_got v (action.Load a true) x) h x) (2 + 0 + further (at_home h)))
  load v r h a ready at has plain word =
      let w = λ (x : ℕ). passed (put_home (having_got v (action.Load a true) x) h x) (2 + 0 + further (at_home h)) in
      asks v w (action.Load a true) at.table (λ x. noting v (w x) (action.Load a true) (x ∷ []) ready.2 at.table (tt, tt) (sym ready.2) refl refl)
      (λ now others ram moment fits bytes. loads image data_end top now (opened v now v.made) others ram r h a ready.0 fits ready.1 at.at has plain word bytes)

  -- MOV.B @r, q
  pub load_byte : (v : View) (r q a : ℕ) → IsReady v → At v [] (Two op2.Mov true (Indirect r) (Reg q)) → Has top v (Of (InRegister r)) a → (4 ≤ q) × (q < 16) → IsByte data_end a →
      AsksByte v (λ x. passed (put_home (having_got v (action.Load a false) x) (InRegister q) x) (2 + 0 + 0))
  load_byte v r q a ready at has plain byte =
      let w = λ (x : ℕ). passed (put_home (having_got v (action.Load a false) x) (InRegister q) x) (2 + 0 + 0) in
      asks_byte v w (action.Load a false) at.table (λ x. noting v (w x) (action.Load a false) (x ∷ []) ready.2 at.table (tt, tt) (sym ready.2) refl refl)
      (λ now others ram moment fits bytes. loads_byte image data_end top now (opened v now v.made) others ram r q a ready.0 fits ready.1 at.at has plain byte bytes)

  -- MOV &p, h
  pub input : (v : View) (p : ℕ) (h : Home) → IsReady v → At v [] (Two op2.Mov false (Absolute p) (at_home h)) → IsHome top v h → IsPort p →
      Asks v (λ x. passed (put_home (having_got v (action.In p) x) h x) (2 + 2 + further (at_home h)))
  input v p h ready at plain port =
      let hi = at.at.high in
      let l = little h in
      let w = λ (x : ℕ). passed (put_home (having_got v (action.In p) x) h x) (2 + 2 + further (at_home h)) in
      asks v w (action.In p) at.table (λ x. noting v (w x) (action.In p) (x ∷ []) ready.2 at.table (tt, tt) (sym ready.2) refl refl)
      (λ now others ram moment fits bytes. takes_in image data_end top now (opened v now v.made) others ram p h moment tt ready.0 fits ready.1 at.at (omega arith) plain port)

  -- MOV s, 0(r)
  pub store : (v : View) (s : Source) (r n a : ℕ) → IsReady v → At v [] (Two op2.Mov false (operand_of s) (Indexed r 0)) → Has top v s n → Has top v (Of (InRegister r)) a → IsWord data_end a →
      Takes v (passed (doing v (action.Store a true n) v.faulted) (4 + further (operand_of s)))
  store v s r n a ready at has base word =
      let hi = at.at.high in
      let k = few s in
      takes v (passed (doing v (action.Store a true n) v.faulted) (4 + further (operand_of s))) (record { action = action.Store a true n; answers = [] } ∷ []) v.made (noting v (passed (doing v (action.Store a true n) v.faulted) (4 + further (operand_of s))) (action.Store a true n) [] ready.2 at.table (tt, tt) (sym ready.2) refl (sym (append-nil v.answers)))
      (λ now others ram moment fits bytes. stores image data_end top now (opened v now v.made) others ram s r n a ready.0 fits ready.1 at.at (omega arith) has base word)

  -- MOV.B s, 0(r), to an object
  pub store_byte : (v : View) (s : Source) (r n a : ℕ) → IsReady v → At v [] (Two op2.Mov true (operand_of s) (Indexed r 0)) → Has top v s n → Has top v (Of (InRegister r)) a → IsByte data_end a →
      Takes v (passed (doing v (action.Store a false (n % 256)) v.faulted) (4 + further (operand_of s)))
  store_byte v s r n a ready at has base byte =
      let hi = at.at.high in
      let k = few s in
      let did = action.Store a false (n % 256) in
      let w = passed (doing v did v.faulted) (4 + further (operand_of s)) in
      takes v w (record { action = did; answers = [] } ∷ []) v.made (noting v w did [] ready.2 at.table (tt, tt) (sym ready.2) refl (sym (append-nil v.answers)))
      (λ now others ram moment fits bytes. stores_byte image data_end top now (opened v now v.made) others ram s r n a ready.0 fits bytes ready.1 at.at (omega arith) has base byte)

  -- MOV and MOV.B of a source to the frame, where a register leads
  pub poke : (v : View) (s : Source) (r n a : ℕ) → IsReady v → At v [] (Two op2.Mov false (operand_of s) (Indexed r 0)) → Has top v s n → Has top v (Of (InRegister r)) a → even a ≡ a → v.sp ≤ a → a + 2 ≤ top →
      Takes v (passed (record v { stack = with_word_at v.stack a n }) (4 + further (operand_of s)))
  poke v s r n a ready at has base ev lo hi =
      let up = at.at.high in
      let k = few s in
      let w = passed (record v { stack = with_word_at v.stack a n }) (4 + further (operand_of s)) in
      takes v w [] v.made (still v w ready.2 at.table refl refl refl)
      (λ now others ram moment fits bytes. pokes image data_end top now (opened v now v.made) others ram s r n a ready.0 fits ready.1 at.at (omega arith) has base ev lo hi)

  pub poke_byte : (v : View) (s : Source) (r n a : ℕ) → IsReady v → At v [] (Two op2.Mov true (operand_of s) (Indexed r 0)) → Has top v s n → Has top v (Of (InRegister r)) a → v.sp ≤ a → a < top →
      Takes v (passed (record v { stack = changed_at v.stack a (n % 256) }) (4 + further (operand_of s)))
  poke_byte v s r n a ready at has base lo hi =
      let up = at.at.high in
      let k = few s in
      let w = passed (record v { stack = changed_at v.stack a (n % 256) }) (4 + further (operand_of s)) in
      takes v w [] v.made (still v w ready.2 at.table refl refl refl)
      (λ now others ram moment fits bytes. pokes_byte image data_end top now (opened v now v.made) others ram s r n a ready.0 fits bytes ready.1 at.at (omega arith) has base lo hi)

  -- MOV @r, to a home, and MOV.B @r, to a register, from the frame
  pub peek : (v : View) (r : ℕ) (h : Home) (a : ℕ) → IsReady v → At v [] (Two op2.Mov false (Indirect r) (at_home h)) → Has top v (Of (InRegister r)) a → IsHome top v h → even a ≡ a → v.sp ≤ a → a + 2 ≤ top →
      Takes v (passed (put_home v h (word_in v.stack a)) (2 + 0 + further (at_home h)))
  peek v r h a ready at has home ev lo hi =
      let w = passed (put_home v h (word_in v.stack a)) (2 + 0 + further (at_home h)) in
      takes v w [] v.made (still v w ready.2 at.table refl refl refl)
      (λ now others ram moment fits bytes. peeks image data_end top now (opened v now v.made) others ram r h a ready.0 fits bytes ready.1 at.at has home ev lo hi)

  pub peek_byte : (v : View) (r q a : ℕ) → IsReady v → At v [] (Two op2.Mov true (Indirect r) (Reg q)) → Has top v (Of (InRegister r)) a → (4 ≤ q) × (q < 16) → v.sp ≤ a → a < top →
      Takes v (passed (put_home v (InRegister q) (v.stack a)) (2 + 0 + 0))
  peek_byte v r q a ready at has plain lo hi =
      let w = passed (put_home v (InRegister q) (v.stack a)) (2 + 0 + 0) in
      takes v w [] v.made (still v w ready.2 at.table refl refl refl)
      (λ now others ram moment fits bytes. peeks_byte image data_end top now (opened v now v.made) others ram r q a ready.0 fits bytes ready.1 at.at has plain lo hi)

  -- MOV s, &p
  pub output : (v : View) (s : Source) (p n : ℕ) → IsReady v → At v [] (Two op2.Mov false (operand_of s) (Absolute p)) → Has top v s n → IsPort p → p ≢ 0x104 →
      Takes v (passed (doing v (action.Out p n) v.faulted) (4 + further (operand_of s)))
  output v s p n ready at has port other =
      let hi = at.at.high in
      let k = few s in
      takes v (passed (doing v (action.Out p n) v.faulted) (4 + further (operand_of s))) (record { action = action.Out p n; answers = [] } ∷ []) v.made (noting v (passed (doing v (action.Out p n) v.faulted) (4 + further (operand_of s))) (action.Out p n) [] ready.2 at.table (small_of top v s n has, tt) (sym ready.2) refl (sym (append-nil v.answers)))
      (λ now others ram moment fits bytes. gives image data_end top now (opened v now v.made) others ram s p n ready.0 fits ready.1 at.at (omega arith) has port other)

  -- MOV #code, &0x0104
  pub fault : (v : View) (code : ℕ) → IsReady v → At v [] (Two op2.Mov false (Immediate code) (Absolute 0x104)) → code < 0x100 →
      Takes v (passed (doing v (action.Fault code) (Some code)) 6)
  fault v code ready at small =
      let hi = at.at.high in
      takes v (passed (doing v (action.Fault code) (Some code)) 6) (record { action = action.Fault code; answers = [] } ∷ []) v.made (noting v (passed (doing v (action.Fault code) (Some code)) 6) (action.Fault code) [] ready.2 at.table (tt, tt) refl refl (sym (append-nil v.answers)))
      (λ now others ram moment fits bytes. faults image data_end top now (opened v now v.made) others ram code ready.0 fits ready.1 at.at (omega arith) small)

  -- a jump to an address, or past it
  pub jump : (v : View) (c : Cond) (target : ℕ) (taken : Bool) → IsReady v → JumpsTo image marks v.pc target c → is_taken c v.sr ≡ taken →
      Takes v (record v { pc = cond taken target (v.pc + 2); gate = bit v.sr 3 })
  jump v c target taken ready at e =
      subst (λ t. Takes v (record v { pc = cond taken t (v.pc + 2); gate = bit v.sr 3 })) at.leads
      (takes v (record v { pc = cond taken (jumped (v.pc + 2) at.offset) (v.pc + 2); gate = bit v.sr 3 }) [] v.made (still v (record v { pc = cond taken (jumped (v.pc + 2) at.offset) (v.pc + 2); gate = bit v.sr 3 }) ready.2 at.at.table refl refl refl)
      (λ now others ram moment fits bytes. jumps image data_end top now (opened v now v.made) others ram c at.offset taken fits ready.1 at.at.at e))

  -- CALL #target
  pub call : (v : View) (target : ℕ) → IsReady v → data_end + 2 ≤ v.sp → At v [] (One op1.Call false (Immediate target)) → even target ≡ target → target < 0x10000 →
      Takes v (record (pushing v (v.pc + 4)) { pc = target; gate = bit v.sr 3 })
  call v target ready deep at ev small =
      let hi = at.at.high in
      takes v (record (pushing v (v.pc + 4)) { pc = target; gate = bit v.sr 3 }) [] v.made (still v (record (pushing v (v.pc + 4)) { pc = target; gate = bit v.sr 3 }) ready.2 at.table refl refl refl)
      (λ now others ram moment fits bytes. calls image data_end top now (opened v now v.made) others ram target ready.0 deep fits ready.1 at.at (omega arith) ev small)

  -- PUSH
  pub push : (v : View) (s : Source) (n : ℕ) → IsReady v → data_end + 2 ≤ v.sp → At v [] (One op1.Push false (operand_of s)) → Has top v s n →
      Takes v (passed (pushing v n) (2 + further (operand_of s)))
  push v s n ready deep at has =
      takes v (passed (pushing v n) (2 + further (operand_of s))) [] v.made (still v (passed (pushing v n) (2 + further (operand_of s))) ready.2 at.table refl refl refl)
      (λ now others ram moment fits bytes. pushes image data_end top now (opened v now v.made) others ram s n ready.0 deep fits ready.1 at.at has)

  -- ADD of a number to SP
  pub drop_frame : (v : View) (s : Source) (n : ℕ) → IsReady v → At v [] (Two op2.Add false (operand_of s) (Reg 1)) → Has top v s n → v.sp + n ≤ top → even n ≡ n →
      Takes v (record (passed v (2 + further (operand_of s))) { sp = v.sp + n; sr = (operate op2.Add false v.sr n v.sp).sr })
  drop_frame v s n ready at has room ev =
      let w = record (passed v (2 + further (operand_of s))) { sp = v.sp + n; sr = (operate op2.Add false v.sr n v.sp).sr } in
      takes v w [] v.made (still v w ready.2 at.table refl refl refl)
      (λ now others ram moment fits bytes. adds_sp image data_end top now (opened v now v.made) others ram s n ready.0 fits ready.1 at.at has room ev)

  -- MOV #target, PC
  pub go_to : (v : View) (target : ℕ) → IsReady v → At v [] (Two op2.Mov false (Immediate target) (Reg 0)) → even target ≡ target → target < 0x10000 →
      Takes v (record v { pc = target; gate = bit v.sr 3 })
  go_to v target ready at ev small =
      takes v (record v { pc = target; gate = bit v.sr 3 }) [] v.made (still v (record v { pc = target; gate = bit v.sr 3 }) ready.2 at.table refl refl refl)
      (λ now others ram moment fits bytes. goes_to image data_end top now (opened v now v.made) others ram target fits ready.1 at.at ev small)

  -- RET
  pub ret : (v : View) → IsReady v → v.sp + 2 ≤ top → At v [] (Two op2.Mov false (Increment 1) (Reg 0)) →
      Takes v (record v { pc = even (word_in v.stack v.sp); sp = v.sp + 2; gate = bit v.sr 3 })
  ret v ready room at =
      takes v (record v { pc = even (word_in v.stack v.sp); sp = v.sp + 2; gate = bit v.sr 3 }) [] v.made (still v (record v { pc = even (word_in v.stack v.sp); sp = v.sp + 2; gate = bit v.sr 3 }) ready.2 at.table refl refl refl)
      (λ now others ram moment fits bytes. returns image data_end top now (opened v now v.made) others ram ready.0 room fits ready.1 at.at)

  -- a NOP, before which silent actions stand
  pub nop : (v : View) (marked : List Action) → AreMarks marked → IsReady v → At v marked (Two op2.Mov false (Constant 0) (Reg 3)) →
      Takes v (record (passed v 2) { made = v.made ++ marked })
  nop v marked calm ready at =
      takes v (record (passed v 2) { made = v.made ++ marked }) [] (v.made ++ marked) (quiet v (record (passed v 2) { made = v.made ++ marked }) marked ready.2 at.table calm refl refl refl)
      (λ now others ram moment fits bytes. idles image data_end top now (opened v now (v.made ++ marked)) others ram fits ready.1 at.at)

  -- BIC #8, SR
  pub close : (v : View) → IsReady v → v.sr < 0x10000 → At v [] (Two op2.Bic false (Constant 8) (Reg 2)) →
      Takes v (record (passed v 2) { sr = bit_and v.sr 0xFFF7 })
  close v ready small at =
      takes v (record (passed v 2) { sr = bit_and v.sr 0xFFF7 }) [] v.made (still v (record (passed v 2) { sr = bit_and v.sr 0xFFF7 }) ready.2 at.table refl refl refl)
      (λ now others ram moment fits bytes. closes image data_end top now (opened v now v.made) others ram fits ready.1 small at.at)

  -- MOV SR, x(SP)
  pub save : (v : View) (x : ℕ) → IsReady v → v.sr < 0x10000 → At v [] (Two op2.Mov false (Reg 2) (Indexed 1 x)) → even x ≡ x → v.sp + x + 2 ≤ top →
      Takes v (passed (put_home v (InFrame x) v.sr) 4)
  save v x ready small at ev room =
      takes v (passed (put_home v (InFrame x) v.sr) 4) [] v.made (still v (passed (put_home v (InFrame x) v.sr) 4) ready.2 at.table refl refl refl)
      (λ now others ram moment fits bytes. saves image data_end top now (opened v now v.made) others ram x ready.0 fits ready.1 small at.at ev room)

  -- MOV x(SP), SR, before which silent actions stand
  pub restore : (v : View) (x : ℕ) (marked : List Action) → AreMarks marked → IsReady v → At v marked (Two op2.Mov false (Indexed 1 x) (Reg 2)) → even x ≡ x → v.sp + x + 2 ≤ top →
      Takes v (record (passed v 4) { sr = word_in v.stack (v.sp + x); made = v.made ++ marked })
  restore v x marked calm ready at ev room =
      takes v (record (passed v 4) { sr = word_in v.stack (v.sp + x); made = v.made ++ marked }) [] (v.made ++ marked) (quiet v (record (passed v 4) { sr = word_in v.stack (v.sp + x); made = v.made ++ marked }) marked ready.2 at.table calm refl refl refl)
      (λ now others ram moment fits bytes. restores image data_end top now (opened v now (v.made ++ marked)) others ram x ready.0 fits ready.1 at.at ev room)
