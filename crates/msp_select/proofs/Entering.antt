-- A function begins: its frame and its values are pushed as zeros, one after another or in a loop.
use Rattle.std.proofs.Common.{◌≡◌, ◌≢◌, ◌⊎◌, ⊎_elim, ℕ, negsuc, zero, suc, ◌+◌, ◌-◌, ◌*◌, ◌/◌, ◌%◌, ◌<◌, ◌≤◌, ◌==◌, Bool, true, false, not, nat_lt, List, [], ◌∷◌, length, refl, sym, ap, ◌∙◌, subst, arith}
use mathlib.Core.Logic.{inl, inr}
use Rattle.std.specs.Prelude.{if◌then◌else◌}
use Rattle.std.proofs.lemmas.Bool.{ne_eqb}
use Rattle.std.proofs.lemmas.Bool.Decides.{nat_tests, eqb_tells}
use Rattle.nm_base.specs.Lists.{bit, IsPrefixOf}
use Rattle.nm_base.specs.declared.action.Action.{Action}
use Rattle.msp_isa.specs.declared.instr.Cond.TheVariants.{Jne}
use Rattle.msp_isa.specs.declared.instr.Instr.TheVariants.{Two, One, Jump}
use Rattle.msp_isa.specs.declared.instr.Op1.TheVariants as op1
use Rattle.msp_isa.specs.declared.instr.Op2.TheVariants as op2
use Rattle.msp_isa.specs.declared.instr.Operand.TheVariants.{Reg, Constant}
use Rattle.msp_isa.specs.Stands.{word_in}
use Rattle.msp430_cpu.specs.Exec.{further}
use Rattle.msp430_cpu.specs.Memory.{with_word_at}
use Rattle.msp430_cpu.specs.Operate.{is_taken, operate}
use Rattle.mid_code.specs.Machine.{Activation}
use Rattle.mid_code.proofs.Calls.{some_code}
use Rattle.open_law.specs.Homes.{Made, Of, literal, operand_of, place_in}
use Rattle.open_law.specs.Stands.{JumpsTo}
use Rattle.open_law.proofs.View.{View}
use Rattle.open_law.proofs.Quiet.{HasAt, held_at, passed, put_home}
use Rattle.open_law.proofs.Alu.{with_result}
use Rattle.open_law.proofs.Flow.{pushing}
use Rattle.open_law.proofs.Homes.{flags_zero, word_above}
use Rattle.open_law.proofs.Chain.{Chain, step as chain_step, Takes, jump as jump_rule, move, operation, push}
use Rattle.open_law.proofs.Law.{NextOf, Post}
use Rattle.msp_select.specs.Frames.{is_among, pushed_behind}
use Rattle.msp_select.specs.Select.{Part, entry_of, plain, push_zero, scratch, zero_loop, zeros}
use Rattle.msp_select.specs.Sound.{IsFramed}
use Rattle.msp_select.proofs.Flags.{has_literal, tame}
use Rattle.msp_select.proofs.Relation.{total, Setting, Callers, Entering, GoodOne, Here, Told, ToldAt, act, flagged, fn, good, moved, settled}
use Rattle.msp_select.proofs.Kept.{Premises, callers_on, home_in, kept_of, ready, word_on, words_of}
use Rattle.msp_select.proofs.Doing.{Stand, behind_one, behind_two, few_left, marked}

abbrev pub many : ℕ → ℕ → ℕ
many zero r = r
many (suc n) r = suc (many n r)

pub many_is : (n r : ℕ) → many n r ≡ n + r
many_is zero r = omega arith
many_is (suc n) r = let h = many_is n r in omega (arith, h)

-- three instructions a turn
abbrev pub turns : ℕ → ℕ → ℕ
turns zero r = r
turns (suc n) r = suc (suc (suc (turns n r)))

pub turns_is : (n r : ℕ) → turns n r ≡ 3 * n + r
turns_is zero r = omega arith
turns_is (suc n) r = let h = turns_is n r in omega (arith, h)

module _ (S : Setting) (left : List Activation → ℕ) (most : ℕ) (P : Premises S left most) (a : Activation) (rest : List Activation) (v : View) (h : Entering S a rest v) (m0 : ℕ) (made0 : List Action) (few : 2 * left (a ∷ rest) < m0) where
  -- the same call, at an instruction
  abbrev pub Same : ℕ → View → Type 0
  Same m w = Here S a rest w × (m ≡ 2 * left (a ∷ rest))

  abbrev pub After : View → Type 0
  After = Post S.gives (act S) S.image S.data_end (S.deep S.root) S.marks S.c S.ram (2 * most + 1) Same m0 made0

  abbrev pub Piece : ℕ → View → Type 0
  Piece n u = Chain S.image S.data_end S.marks S.c.sp (GoodOne S) (NextOf S.gives (act S) S.image S.data_end (S.deep S.root) S.marks S.c S.ram) After n u

  one : (n : ℕ) (u w : View) → Told S u → w.made ≡ u.made → Takes S.image S.data_end S.marks S.c.sp u w → Piece n w → Piece (suc n) u
  one n u w t same takes next = chain_step S.image S.data_end S.marks S.c.sp (GoodOne S) (NextOf S.gives (act S) S.image S.data_end (S.deep S.root) S.marks S.c S.ram) After n u w (good S u t) takes (t.told.0, subst (λ m. IsPrefixOf m (act S u.answers t.told.0).actions) (sym same) t.told.1) next

  abbrev framed : IsFramed S.code S.homes S.own S.deep a.f
  framed = P.framed a.f h.function

  abbrev low_sp : ℕ
  low_sp = v.sp - S.own a.f

  abbrev end : ℕ
  end = S.places a.f 0

  -- the stack is zero from a place down to SP
  pub record IsCleared (sp : ℕ) (stack : ℕ → ℕ) : Type 0 where
    pub zero : (b : ℕ) → sp ≤ b → b < v.sp → stack b ≡ 0
    pub above : (b : ℕ) → v.sp ≤ b → stack b ≡ v.stack b

  cleared_byte : (sp : ℕ) (stack : ℕ → ℕ) (b : ℕ) → 2 ≤ sp → sp - 2 ≤ b → (sp ≤ b → stack b ≡ 0) →
      (((b == sp - 2 + 1) ≡ true) × (b ≡ sp - 2 + 1)) ⊎ (((b == sp - 2 + 1) ≡ false) × (b ≢ sp - 2 + 1)) →
      (((b == sp - 2) ≡ true) × (b ≡ sp - 2)) ⊎ (((b == sp - 2) ≡ false) × (b ≢ sp - 2)) →
      with_word_at stack (sp - 2) 0 b ≡ 0
  cleared_byte sp stack b deep_sp lo old first second =
      ⊎_elim
      (λ x. rw (x.0) refl)
      (λ x. ⊎_elim (λ y. rw (x.0, y.0) refl) (λ y. rw (x.0, y.0) (old (let p = x.1 in let q = y.1 in omega arith))) second)
      first

  cleared_on : (sp : ℕ) (stack : ℕ → ℕ) → 2 ≤ sp → sp ≤ v.sp → IsCleared sp stack → IsCleared (sp - 2) (with_word_at stack (sp - 2) 0)
  cleared_on sp stack deep_sp le k = record {
    zero = λ b lo hi. cleared_byte sp stack b deep_sp lo (λ from. k.zero b from hi) (eqb_tells b (sp - 2 + 1)) (eqb_tells b (sp - 2));
    above = λ b lo. word_above stack (sp - 2) 0 b (omega arith) ∙ k.above b lo;
  }

  -- the call at its first instruction
  here_of : (pc sr : ℕ) (gate : Bool) (regs stack : ℕ → ℕ) → pc ≡ end → bit sr 3 ≡ bit v.sr 3 → IsCleared low_sp stack → ToldAt S v.made v.answers low_sp sr gate v.faulted → Here S a rest (record v { pc = pc; sp = low_sp; sr = sr; gate = gate; regs = regs; stack = stack })
  here_of pc sr gate regs stack at gie' clear t =
      let lo = h.low in let ro = h.room in let es = h.told.even_sp in let own' = framed.even_own in let depth = (P.deep a.f h.function).least in let start = P.start.room in let objects = P.low_end in
      let back : low_sp + S.own a.f ≡ v.sp = omega (arith, lo, depth, start) in
      record {
        opens = [];
        outer = h.outer;
        first = bit v.sr 3;
        placed = record {
          function = h.function;
          values = λ w lt. has_value w lt (is_among (fn S a).params w) refl;
          bytes = λ o free. (clear.zero (low_sp + o) (omega arith) (let i = free.inside in let f = framed.frame in omega (arith, i, f, back)) ∙ sym (h.frame o), subst (λ n. n < 0x100) (sym (h.frame o)) (omega arith));
          saved = gie';
          low = omega (arith, lo, back);
          room = omega (arith, ro, back);
          even_sp = omega (arith, es, own', back);
        };
        callers = subst (λ s. Callers S stack (bit v.sr 3) s a.f rest h.outer) (sym back) (callers_on S v.stack stack (bit v.sr 3) v.sp a.f rest h.outer (λ b le far. clear.above b le) h.callers);
        place = subst (λ k. k < length (fn S a).code) (sym h.at) (some_code S.code P.form a.f h.function);
        pc = at ∙ ap (S.places a.f) (sym h.at);
        reached = h.reached;
        nest = h.nest ∙ (let z : total S h.outer ≡ 0 + total S h.outer = omega arith in z);
        told = t;
      }
    where
      has_value : (w : ℕ) → w < (fn S a).values → (b : Bool) → is_among (fn S a).params w ≡ b → HasAt (S.c.sp + 2) low_sp regs stack (Of (S.homes a.f w)) (a.values w)
      has_value w lt true is =
          let lo = h.low in let ro = h.room in let depth = (P.deep a.f h.function).least in let start = P.start.room in
          let back : low_sp + S.own a.f ≡ v.sp = omega (arith, lo, depth, start) in
          let place = framed.parameter w lt is in
          let stands = framed.in_frame w lt in
          let r = h.passed w is in
          let at : low_sp + place_in (S.homes a.f w) ≡ v.sp + 2 + 2 * pushed_behind (fn S a).params w = omega (arith, place, back) in (
            home_in S low_sp (S.own a.f + 2 + 2 * words_of S a.f) (S.homes a.f w) (kept_of S a.f (S.homes a.f w) (framed.kept w lt)) (omega (arith, ro, back)),
            ap (held_at low_sp regs stack) stands ∙ ap (word_in stack) at
                ∙ word_on v.stack stack (v.sp + 2 + 2 * pushed_behind (fn S a).params w) (clear.above (v.sp + 2 + 2 * pushed_behind (fn S a).params w) (omega arith)) (clear.above (v.sp + 2 + 2 * pushed_behind (fn S a).params w + 1) (omega arith)) ∙ r.0,
            r.1,
          )
      has_value w lt false none =
          let lo = h.low in let ro = h.room in let depth = (P.deep a.f h.function).least in let start = P.start.room in
          let back : low_sp + S.own a.f ≡ v.sp = omega (arith, lo, depth, start) in
          let below = framed.other w lt none in
          let stands = framed.in_frame w lt in
          let x = place_in (S.homes a.f w) in
          let z0 = clear.zero (low_sp + x) (omega arith) (omega (arith, below, back)) in
          let z1 = clear.zero (low_sp + x + 1) (omega arith) (omega (arith, below, back)) in
          let zero' = h.zero w none in (
            home_in S low_sp (S.own a.f + 2 + 2 * words_of S a.f) (S.homes a.f w) (kept_of S a.f (S.homes a.f w) (framed.kept w lt)) (omega (arith, ro, back)),
            ap (held_at low_sp regs stack) stands ∙ ap (λ n. n + 256 * stack (low_sp + x + 1)) z0 ∙ ap (λ n. 0 + 256 * n) z1 ∙ sym zero',
            subst (λ n. n < 0x10000) (sym zero') (omega arith),
          )

  goes_on : (w : View) → Here S a rest w → After w
  goes_on w here =
      let bound = few_left S left most P (a ∷ rest) (here.opens ∷ here.outer) w.made w.answers here.reached in
      inr (2 * left (a ∷ rest), omega arith, (here, refl), inl (omega arith))

  abbrev at_sp : ℕ → ℕ → ℕ → Bool → (ℕ → ℕ) → (ℕ → ℕ) → View
  at_sp pc sp sr gate regs stack = record v { pc = pc; sp = sp; sr = sr; gate = gate; regs = regs; stack = stack }

  -- PUSH #0
  push_one : (n pc sp sr : ℕ) (gate : Bool) (regs stack : ℕ → ℕ) (tail : List Part) → low_sp + 2 ≤ sp → sp ≤ v.sp → IsCleared sp stack → Stand S a.f pc (push_zero ∷ tail) end → ToldAt S v.made v.answers sp sr gate v.faulted →
      (Stand S a.f (pc + (2 + 0)) tail end → IsCleared (sp - 2) (with_word_at stack (sp - 2) 0) → ToldAt S v.made v.answers (sp - 2) sr (bit sr 3) v.faulted → Piece n (at_sp (pc + (2 + 0)) (sp - 2) sr (bit sr 3) regs (with_word_at stack (sp - 2) 0))) → Piece (suc n) (at_sp pc sp sr gate regs stack)
  push_one n pc sp sr gate regs stack tail lo hi clear st t next =
      let u = at_sp pc sp sr gate regs stack in
      let es = t.even_sp in let start = P.start.room in let below = h.low in let depth = (P.deep a.f h.function).least in
      let at = marked S a.f pc end [] (One op1.Push false (Constant 0)) tail st in
      let st1 = behind_one S a.f pc end [] op1.Push false (Constant 0) tail st in
      let t2 = settled S (moved S (sp - 2) (omega (arith, lo, below, depth)) (omega (arith, hi, (h.told.below))) (omega (arith, es, lo)) t) in
      one n u (passed (pushing u 0) (2 + 0)) t refl (push S.image S.data_end S.marks S.c.sp u (Made 0) 0 (ready S left most P u t) (omega (arith, lo, below, depth, start)) at (refl, omega arith))
      (next st1 (cleared_on sp stack (omega (arith, lo)) hi clear) t2)

  pushed_zeros : (n pc sp : ℕ) (gate : Bool) (stack : ℕ → ℕ) → sp ≡ low_sp + 2 * n → sp ≤ v.sp → IsCleared sp stack → Stand S a.f pc (zeros n) end → ToldAt S v.made v.answers sp v.sr gate v.faulted → Piece n (at_sp pc sp v.sr gate v.regs stack)
  pushed_zeros zero pc sp gate stack e hi clear st t =
      let z : low_sp ≡ sp = omega (arith, e) in
      let clear' = subst (λ s. IsCleared s stack) (sym z) clear in
      let t' = subst (λ s. ToldAt S v.made v.answers s v.sr gate v.faulted) (sym z) t in
      subst (λ s. After (at_sp pc s v.sr gate v.regs stack)) z (goes_on (at_sp pc low_sp v.sr gate v.regs stack) (here_of pc v.sr gate v.regs stack st refl clear' t'))
  pushed_zeros (suc n) pc sp gate stack e hi clear st t =
      push_one n pc sp v.sr gate v.regs stack (zeros n) (omega (arith, e)) hi clear st t
      (λ st1 clear1 t1. pushed_zeros n (pc + (2 + 0)) (sp - 2) (bit v.sr 3) (with_word_at stack (sp - 2) 0) (omega (arith, e)) (omega (arith, hi)) clear1 st1 t1)

  -- ---- the loop

  abbrev loop_tail : List Part
  loop_tail = plain (Two op2.Sub false (Constant 1) (Reg 12)) ∷ plain (Jump Jne (negsuc 2)) ∷ []

  -- before the jump of a turn that began at an address, with k words left
  pub record IsTurned (k pc : ℕ) (w : View) : Type 0 where
    pub held : w.regs 12 ≡ k
    pub sp : w.sp ≡ low_sp + 2 * k
    pub high : w.sp ≤ v.sp
    pub cleared : IsCleared w.sp w.stack
    pub gie : bit w.sr 3 ≡ bit v.sr 3
    pub told : ToldAt S v.made v.answers w.sp w.sr w.gate v.faulted
    pub jumps : JumpsTo S.image S.marks w.pc pc Jne
    pub taken : is_taken Jne w.sr ≡ not (k == 0)
    pub last : w.pc + 2 ≡ end

  turn : (k n pc sp sr : ℕ) (gate : Bool) (regs stack : ℕ → ℕ) → k + 1 < 0x10000 → regs 12 ≡ k + 1 → sp ≡ low_sp + 2 * (k + 1) → sp ≤ v.sp → IsCleared sp stack → Stand S a.f pc (push_zero ∷ loop_tail) end → bit sr 3 ≡ bit v.sr 3 → ToldAt S v.made v.answers sp sr gate v.faulted →
      ((pc2 sp2 sr2 : ℕ) (gate2 : Bool) (regs2 stack2 : ℕ → ℕ) → IsTurned k pc (at_sp pc2 sp2 sr2 gate2 regs2 stack2) → Piece n (at_sp pc2 sp2 sr2 gate2 regs2 stack2)) → Piece (suc (suc n)) (at_sp pc sp sr gate regs stack)
  turn k n pc sp sr gate regs stack small count e hi clear st gie' t next =
      push_one (suc n) pc sp sr gate regs stack loop_tail (omega (arith, e)) hi clear st t
      (λ st1 clear1 t1.
      let stack1 = with_word_at stack (sp - 2) 0 in
      let pc1 : ℕ = pc + (2 + 0) in
      let u = at_sp pc1 (sp - 2) sr (bit sr 3) regs stack1 in
      let r = operate op2.Sub false sr 1 (k + 1) in
      let left' : (k + 1 + (0x10000 - 1 - 1) + 1) % 0x10000 ≡ k = omega (arith, small) in
      let w = with_result (passed u (2 + 0 + 0)) scratch r in
      let at1 = marked S a.f pc1 end [] (Two op2.Sub false (Constant 1) (Reg 12)) (plain (Jump Jne (negsuc 2)) ∷ []) st1 in
      let st2 = behind_two S a.f pc1 end [] op2.Sub false (Constant 1) (Reg 12) (plain (Jump Jne (negsuc 2)) ∷ []) st1 in
      let pc2 : ℕ = pc1 + (2 + 0 + 0) in
      let at2 = marked S a.f pc2 end [] (Jump Jne (negsuc 2)) [] st2 in
      let calm = tame sr _ _ _ _ in
      let t2 = flagged S w.sr calm.gie calm.off calm.small (settled S t1) in
      let jumps : JumpsTo S.image S.marks pc2 pc Jne = record { offset = negsuc 2; at = at2; leads = (let up = at2.at.high in omega (arith, up)) } in
      let zero' : bit w.sr 1 ≡ (k == 0) = flags_zero sr _ _ _ _ ∙ ap (λ n. n == 0) left' in
      one n u w t1 refl (operation S.image S.data_end S.marks S.c.sp u op2.Sub (Made 1) scratch 1 (k + 1) refl (omega (arith, left', small)) (ready S left most P u t1) at1 (refl, omega arith) ((omega arith, omega arith), count, small))
      (next pc2 (sp - 2) w.sr w.gate w.regs stack1 (record { held = left'; sp = omega (arith, e); high = omega (arith, hi); cleared = clear1; gie = calm.gie ∙ gie'; told = t2; jumps = jumps; taken = ap not zero'; last = (let last' = st2.1.at.1 in let fin = st2.2 in omega (arith, last', fin)) })))

  loop : (k pc sp sr : ℕ) (gate : Bool) (regs stack : ℕ → ℕ) → k + 1 < 0x10000 → regs 12 ≡ k + 1 → sp ≡ low_sp + 2 * (k + 1) → sp ≤ v.sp → IsCleared sp stack → Stand S a.f pc (push_zero ∷ loop_tail) end → bit sr 3 ≡ bit v.sr 3 → ToldAt S v.made v.answers sp sr gate v.faulted → Piece (turns (suc k) 0) (at_sp pc sp sr gate regs stack)
  loop zero pc sp sr gate regs stack small count e hi clear st gie' t =
      turn 0 1 pc sp sr gate regs stack small count e hi clear st gie' t
      (λ pc2 sp2 sr2 gate2 regs2 stack2 i.
      let u = at_sp pc2 sp2 sr2 gate2 regs2 stack2 in
      let w = at_sp (pc2 + 2) sp2 sr2 (bit sr2 3) regs2 stack2 in
      let is = i.sp in
      let z : low_sp ≡ sp2 = omega (arith, is) in
      let t' = subst (λ s. ToldAt S v.made v.answers s sr2 (bit sr2 3) v.faulted) (sym z) (settled S i.told) in
      one 0 u w i.told refl (jump_rule S.image S.data_end S.marks S.c.sp u Jne pc false (ready S left most P u i.told) i.jumps i.taken)
      (subst (λ s. After (at_sp (pc2 + 2) s sr2 (bit sr2 3) regs2 stack2)) z
      (goes_on (at_sp (pc2 + 2) low_sp sr2 (bit sr2 3) regs2 stack2) (here_of (pc2 + 2) sr2 (bit sr2 3) regs2 stack2 i.last i.gie (subst (λ s. IsCleared s stack2) (sym z) i.cleared) t'))))
  loop (suc j) pc sp sr gate regs stack small count e hi clear st gie' t =
      turn (suc j) (suc (turns (suc j) 0)) pc sp sr gate regs stack small count e hi clear st gie' t
      (λ pc2 sp2 sr2 gate2 regs2 stack2 i.
      let u = at_sp pc2 sp2 sr2 gate2 regs2 stack2 in
      let is = i.sp in let hold = i.held in
      one (turns (suc j) 0) u (at_sp pc sp2 sr2 (bit sr2 3) regs2 stack2) i.told refl (jump_rule S.image S.data_end S.marks S.c.sp u Jne pc true (ready S left most P u i.told) i.jumps (i.taken ∙ ap not (ne_eqb (suc j) 0 (λ z. omega (arith, z)))))
      (loop j pc sp2 sr2 (bit sr2 3) regs2 stack2 (omega (arith, small)) (omega (arith, hold)) (omega (arith, is)) i.high i.cleared st i.gie (settled S i.told)))

  -- ---- the code before the first instruction

  abbrev Result : Type 0
  Result = Here S a rest v ⊎ ((i : ℕ) × (i ≤ 3 * (S.own a.f / 2)) × Piece (suc i) v)

  begins_by : (n : ℕ) → n ≡ S.own a.f / 2 → (b : Bool) → Stand S a.f v.pc (if b then zeros n else zero_loop n) end → b ≡ nat_lt n 6 → Result
  begins_by n e b st is = choose n e b st is
    where
      nothing_yet : IsCleared v.sp v.stack
      nothing_yet = record { zero = λ b from below. absurd (omega (arith, from, below)); above = λ b from. refl }

      choose : (n : ℕ) → n ≡ S.own a.f / 2 → (b : Bool) → Stand S a.f v.pc (if b then zeros n else zero_loop n) end → b ≡ nat_lt n 6 → Result
      choose zero e true st is =
          let ev = framed.even_own in
          let none : low_sp ≡ v.sp = omega (arith, e, ev) in
          inl (subst (λ s. Here S a rest (at_sp v.pc s v.sr v.gate v.regs v.stack)) none (here_of v.pc v.sr v.gate v.regs v.stack st refl (subst (λ s. IsCleared s v.stack) (sym none) nothing_yet) (subst (λ s. ToldAt S v.made v.answers s v.sr v.gate v.faulted) (sym none) h.told)))
      choose (suc n) e true st is =
          let ev = framed.even_own in let lo = h.low in let depth = (P.deep a.f h.function).least in let start = P.start.room in
          inr (n, omega (arith, e), pushed_zeros (suc n) v.pc v.sp v.gate v.stack (omega (arith, e, ev, lo, depth, start)) (omega arith) nothing_yet st h.told)
      choose n e false st is =
          let ev = framed.even_own in let lo = h.low in let depth = (P.deep a.f h.function).least in let start = P.start.room in let hi = P.start.high in let below = h.told.below in
          let many' : 6 ≤ n = grind (arith, nat_tests) in
          let k = n - 1 in
          let up : k + 1 ≡ n = omega (arith, many') in
          let size : n < 0x10000 = omega (arith, e, lo, depth, hi, below) in
          let u = passed (put_home v scratch n) (2 + further (operand_of (literal n)) + 0) in
          let at = marked S a.f v.pc end [] (Two op2.Mov false (operand_of (literal n)) (Reg 12)) (push_zero ∷ loop_tail) st in
          let st1 = behind_two S a.f v.pc end [] op2.Mov false (operand_of (literal n)) (Reg 12) (push_zero ∷ loop_tail) st in
          let count = turns_is n 0 in
          let same : turns (suc k) 0 ≡ turns n 0 = ap (λ m. turns m 0) (let z : suc k ≡ n = omega (arith, many') in z) in
          inr (
            turns n 0,
            omega (arith, count, e),
            subst (λ m. Piece (suc m) v) same (one (turns (suc k) 0) v u h.told refl (move S.image S.data_end S.marks S.c.sp v (literal n) scratch n (ready S left most P v h.told) at (has_literal (S.c.sp + 2) v.sp v.regs v.stack n size) (omega arith, omega arith))
                (loop k u.pc v.sp v.sr (bit v.sr 3) u.regs v.stack (omega (arith, up, size)) (sym up) (omega (arith, e, ev, up, lo, depth, start)) (omega arith) nothing_yet st1 refl (settled S h.told))),
          )

  pub begins : Result
  begins = begins_by (S.own a.f / 2) refl (nat_lt (S.own a.f / 2) 6) (subst (λ pc. Stand S a.f pc (entry_of (S.own a.f)) end) (sym h.pc) (P.standing.entry a.f h.function)) refl
