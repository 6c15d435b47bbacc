-- A caller goes on behind its call.
use Rattle.std.proofs.Common.{◌≡◌, ◌≢◌, ◌⊎◌, ℕ, suc, ◌+◌, ◌*◌, ◌<◌, ◌≤◌, ◌==◌, Bool, true, false, List, [], ◌∷◌, ◌++◌, length, refl, sym, ap, ◌∙◌, subst, arith}
use mathlib.Core.Logic.{inl, inr}
use Rattle.std.specs.Prelude.{if◌then◌else◌}
use Rattle.std.proofs.lemmas.Bool.Decides.{nat_tests, eqb_tells}
use Rattle.std.proofs.lemmas.List.Elements.{All-head, All-tail}
use Rattle.nm_base.specs.Lists.{bit, IsPrefixOf}
use Rattle.nm_base.specs.declared.action.Action.{Action}
use Rattle.msp_isa.specs.declared.instr.Instr.TheVariants.{Two}
use Rattle.msp_isa.specs.declared.instr.Op2.TheVariants as op2
use Rattle.msp_isa.specs.declared.instr.Operand.TheVariants.{Reg}
use Rattle.msp430_cpu.specs.Exec.{further}
use Rattle.msp430_cpu.specs.Operate.{operate}
use Rattle.mid_code.specs.Form.{AreBelow}
use Rattle.mid_code.specs.Machine.{Activation, put, put_all}
use Rattle.open_law.specs.Homes.{Home, InRegister, InFrame, Of, at_home, literal, operand_of}
use Rattle.open_law.proofs.View.{View}
use Rattle.open_law.proofs.Quiet.{HasAt, passed, put_home, put_regs}
use Rattle.open_law.proofs.Chain.{Chain, step as chain_step, drop_frame, move, Takes}
use Rattle.open_law.proofs.Law.{NextOf, Post}
use Rattle.msp_select.specs.Select.{Part, plain, takes}
use Rattle.msp_select.proofs.Flags.{has_literal, tame}
use Rattle.msp_select.specs.Sound.{IsPlace}
use Rattle.msp_select.proofs.Nest.{nested}
use Rattle.msp_select.proofs.Reached.{Reached}
use Rattle.msp_select.proofs.Relation.{Setting, AreIn, Callers, GoodOne, Here, Placed, Resuming, Told, ToldAt, act, flagged, fn, good, moved, settled}
use Rattle.msp_select.proofs.Kept.{Premises, callers_wrote, home_of, placed_wrote, ready}
use Rattle.msp_select.proofs.Doing.{Stand, behind_two, few_left, marked}

module _ (S : Setting) (left : List Activation → ℕ) (most : ℕ) (P : Premises S left most) (a : Activation) (rest : List Activation) (v : View) (h : Resuming S a rest v) (m0 : ℕ) (made0 : List Action) (few : 2 * left (a ∷ rest) < m0) where
  -- the same call, at an instruction
  abbrev pub Same : ℕ → View → Type 0
  Same m w = Here S a rest w × (m ≡ 2 * left (a ∷ rest))

  abbrev pub After : View → Type 0
  After = Post S.gives (act S) S.image S.data_end (S.deep S.root) S.marks S.c S.ram (2 * most + 1) Same m0 made0

  abbrev pub Piece : ℕ → View → Type 0
  Piece n u = Chain S.image S.data_end S.marks S.c.sp (GoodOne S) (NextOf S.gives (act S) S.image S.data_end (S.deep S.root) S.marks S.c S.ram) After n u

  one : (n : ℕ) (u w : View) → Told S u → w.made ≡ u.made → Takes S.image S.data_end S.marks S.c.sp u w → Piece n w → Piece (suc n) u
  one n u w t same takes next = chain_step S.image S.data_end S.marks S.c.sp (GoodOne S) (NextOf S.gives (act S) S.image S.data_end (S.deep S.root) S.marks S.c S.ram) After n u w (good S u t) takes (t.told.0, subst (λ m. IsPrefixOf m (act S u.answers t.told.0).actions) (sym same) t.told.1) next

  abbrev end : ℕ
  end = S.places a.f a.at

  abbrev call_at : (ℕ → ℕ) → Activation
  call_at values = record { f = a.f; at = a.at; values = values; frame = a.frame }

  abbrev back_sp : ℕ
  back_sp = v.sp + 2 * h.words

  -- the call at its next instruction
  goes_on : (w : View) → Here S a rest w → After w
  goes_on w here =
      let bound = few_left S left most P (a ∷ rest) (here.opens ∷ here.outer) w.made w.answers here.reached in
      inr (2 * left (a ∷ rest), omega arith, (here, refl), inl (omega arith))

  -- what is still to be taken
  pub record Taking (taken given : List ℕ) (r : ℕ) (u : View) : Type 0 where
    pub values : ℕ → ℕ
    pub same : a.values ≡ put_all values taken given
    pub placed : Placed S (call_at values) h.opens (bit u.sr 3) h.first u.sp u.regs u.stack
    pub callers : Callers S u.stack h.first (u.sp + S.own a.f) a.f rest h.outer
    pub held : AreIn S r given u.regs
    pub told : Told S u
    pub made : u.made ≡ v.made
    pub answers : u.answers ≡ v.answers

  here_of : (u : View) (given : List ℕ) (r : ℕ) → Taking [] given r u → u.pc ≡ end → Here S a rest u
  here_of u given r t at = record {
    opens = h.opens;
    outer = h.outer;
    first = h.first;
    placed = let p = t.placed in record { function = p.function; values = λ w lt. subst (λ f. HasAt (S.c.sp + 2) u.sp u.regs u.stack (Of (S.homes a.f w)) (f w)) (sym t.same) (p.values w lt); bytes = p.bytes; saved = p.saved; low = p.low; room = p.room; even_sp = p.even_sp };
    callers = t.callers;
    place = h.place;
    pc = at;
    reached = subst (λ l. Reached S.code S.root (a ∷ rest) (h.opens ∷ h.outer) l u.answers) (sym t.made) (subst (λ l. Reached S.code S.root (a ∷ rest) (h.opens ∷ h.outer) v.made l) (sym t.answers) h.reached);
    nest = ap (nested 0) t.made ∙ h.nest;
    told = t.told;
  }

  -- a home from R4 on is none of R12 and R13
  other_register : (f : ℕ) (k : Home) (n q : ℕ) (regs : ℕ → ℕ) → IsPlace S.code S.homes S.own S.deep f k → 12 ≤ q → put_regs k n regs q ≡ regs q
  other_register f (InRegister r) n q regs place le = let hi = place.1 in let t : (q == r) ≡ false = grind (arith, nat_tests) in rw t refl
  other_register f (InFrame x) n q regs place le = refl

  are_on : (r : ℕ) (ys : List ℕ) (regs regs' : ℕ → ℕ) → ((q : ℕ) → 12 ≤ q → regs' q ≡ regs q) → 12 ≤ r → AreIn S r ys regs → AreIn S r ys regs'
  are_on r [] regs regs' same le are = tt
  are_on r (y ∷ ys) regs regs' same le are = (same r le ∙ are.0, are.1, are_on (suc r) ys regs regs' same (omega (arith, le)) are.2)

  taking : (taken given : List ℕ) (r : ℕ) (u : View) → length taken ≡ length given → 12 ≤ r → r + length taken ≤ 14 → AreBelow (fn S a).values taken → Taking taken given r u → Stand S a.f u.pc (takes S.code (S.homes a.f) (S.own a.f) r taken) end → Piece (length taken) u
  taking [] given r u many lo hi below t st = goes_on u (here_of u given r t st)
  taking (x ∷ xs) [] r u many lo hi below t st = absurd (omega (arith, many))
  taking (x ∷ xs) (y ∷ ys) r u many lo hi below t st =
      let k = S.homes a.f x in
      let lt = All-head (λ w. w < (fn S a).values) x xs below in
      let p = t.placed in
      let small = t.held.1 in
      let w = passed (put_home u k y) (2 + 0 + further (at_home k)) in
      let at = marked S a.f u.pc end [] (Two op2.Mov false (Reg r) (at_home k)) (takes S.code (S.homes a.f) (S.own a.f) (suc r) xs) st in
      let st1 = behind_two S a.f u.pc end [] op2.Mov false (Reg r) (at_home k) (takes S.code (S.homes a.f) (S.own a.f) (suc r) xs) st in
      one (length xs) u w t.told refl
      (move S.image S.data_end S.marks S.c.sp u (Of (InRegister r)) k y (ready S left most P u t.told) at ((omega (arith, lo), omega (arith, hi)), t.held.0, small) (home_of S left most P (call_at t.values) h.opens (bit u.sr 3) h.first u.sp u.regs u.stack p x lt))
      (taking xs ys (suc r) w (omega (arith, many)) (omega (arith, lo)) (omega (arith, hi)) (All-tail (λ w. w < (fn S a).values) x xs below)
      (record {
        values = put t.values x y;
        same = t.same;
        placed = placed_wrote S left most P (call_at t.values) h.opens (bit u.sr 3) h.first u.sp u.regs u.stack p x y a.at (bit u.sr 3) w.regs lt small (λ q lo'. refl) refl;
        callers = callers_wrote S left most P (call_at t.values) h.opens (bit u.sr 3) h.first u.sp u.regs u.stack p x y rest h.outer lt t.callers;
        held = are_on (suc r) ys u.regs w.regs (λ q le. other_register a.f k y q u.regs ((P.framed a.f p.function).kept x lt) le) (omega (arith, lo)) t.held.2;
        told = settled S t.told;
        made = t.made;
        answers = t.answers;
      }) st1)

  abbrev Result : Type 0
  Result = Here S a rest v ⊎ ((i : ℕ) × (i ≤ 2) × Piece (suc i) v)

  some_taken : (taken : List ℕ) → length taken ≤ 2 → Piece (length taken) v → (taken ≡ [] → Here S a rest v) → Result
  some_taken [] short p here = inl (here refl)
  some_taken (x ∷ xs) short p here = inr (length xs, omega (arith, short), p)

  abbrev tail : List Part
  tail = takes S.code (S.homes a.f) (S.own a.f) 12 h.taken

  taking_at : (sp : ℕ) → sp ≡ back_sp → (pc sr : ℕ) (gate : Bool) → bit sr 3 ≡ bit v.sr 3 → ToldAt S v.made v.answers sp sr gate v.faulted → Taking h.taken h.given 12 (record v { pc = pc; sp = sp; sr = sr; gate = gate })
  taking_at sp e pc sr gate gie' t = record {
    values = h.before;
    same = h.values;
    placed = subst (λ g. Placed S (call_at h.before) h.opens g h.first sp v.regs v.stack) (sym gie') (subst (λ s. Placed S (call_at h.before) h.opens (bit v.sr 3) h.first s v.regs v.stack) (sym e) h.placed);
    callers = subst (λ s. Callers S v.stack h.first (s + S.own a.f) a.f rest h.outer) (sym e) h.callers;
    held = h.in_registers;
    told = t;
    made = refl;
    answers = refl;
  }

  no_words : 2 * h.words ≡ 0 → Stand S a.f v.pc tail end → Result
  no_words z st =
      let same : v.sp ≡ back_sp = omega (arith, z) in
      let t = taking_at v.sp same v.pc v.sr v.gate refl h.told in
      some_taken h.taken h.few (taking h.taken h.given 12 v h.many (omega arith) (let f = h.few in omega (arith, f)) h.below t st)
      (λ none. here_of v h.given 12 (subst (λ l. Taking l h.given 12 v) none t) (subst (λ l. Stand S a.f v.pc (takes S.code (S.homes a.f) (S.own a.f) 12 l) end) none st))

  some_words : Stand S a.f v.pc (plain (Two op2.Add false (operand_of (literal (2 * h.words))) (Reg 1)) ∷ tail) end → Result
  some_words st =
      let n = 2 * h.words in
      let p = h.placed in
      let lo = p.low in let ro = p.room in let es = h.told.even_sp in let hi = P.start.high in let depth = (P.deep a.f p.function).least in
      let calm = tame v.sr _ _ _ _ in
      let sr = (operate op2.Add false v.sr n v.sp).sr in
      let w = record (passed v (2 + further (operand_of (literal n)))) { sp = v.sp + n; sr = sr } in
      let at = marked S a.f v.pc end [] (Two op2.Add false (operand_of (literal n)) (Reg 1)) tail st in
      let st0 = behind_two S a.f v.pc end [] op2.Add false (operand_of (literal n)) (Reg 1) tail st in
      let plus : v.pc + (2 + further (operand_of (literal n)) + 0) ≡ v.pc + (2 + further (operand_of (literal n))) = omega arith in
      let st1 = subst (λ m. Stand S a.f m tail end) plus st0 in
      let t1 = moved S (v.sp + n) (omega (arith, lo, depth)) (omega (arith, ro)) (omega (arith, es)) (flagged S sr calm.gie calm.off calm.small (settled S h.told)) in
      inr (
        length h.taken,
        h.few,
        one (length h.taken) v w h.told refl (drop_frame S.image S.data_end S.marks S.c.sp v (literal n) n (ready S left most P v h.told) at (has_literal (S.c.sp + 2) v.sp v.regs v.stack n (omega (arith, ro, hi))) (omega (arith, ro)) (omega arith))
            (taking h.taken h.given 12 w h.many (omega arith) (let f = h.few in omega (arith, f)) h.below (taking_at (v.sp + n) refl w.pc sr w.gate calm.gie t1) st1),
      )

  pub resume : Result
  resume = by (2 * h.words == 0) (eqb_tells (2 * h.words) 0) h.stands
    where
      by : (b : Bool) → ((b ≡ true) × (2 * h.words ≡ 0)) ⊎ ((b ≡ false) × (2 * h.words ≢ 0)) → Stand S a.f v.pc ((if b then [] else plain (Two op2.Add false (operand_of (literal (2 * h.words))) (Reg 1)) ∷ []) ++ tail) end → Result
      by true (inl y) st = no_words y.1 st
      by true (inr y) st = absurd (let q = y.0 in let z : ⊥ = cc in z)
      by false (inl y) st = absurd (let q = y.0 in let z : ⊥ = cc in z)
      by false (inr y) st = some_words st
