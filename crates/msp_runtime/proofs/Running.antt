-- Code over registers, where it stands, is a chain that leads from its start to its end and does what it means.
use Rattle.std.proofs.Common.{None, ◌≡◌, ◌≢◌, ◌⊎◌, ℕ, zero, suc, ◌+◌, ◌-◌, ◌*◌, ◌%◌, ◌<◌, ◌≤◌, ◌==◌, ◌&&◌, ◌||◌, not, Bool, true, false, cond, List, [], refl, sym, ap, ◌∙◌, subst, arith}
use mathlib.Core.Logic.{inl, inr}
use Rattle.std.specs.Prelude.{max}
use Rattle.std.proofs.lemmas.Bool.{eq-eqb}
use Rattle.std.proofs.lemmas.Bool.Decides.{nat_tests, eqb_tells}
use Rattle.std.proofs.lemmas.Nat.{and_le_r, mul-le, or_lt, xor_lt}
use Rattle.std.proofs.Math.Dec.{eqb-suc-zero}
use Rattle.nm_base.specs.Lists.{bit}
use Rattle.nm_base.specs.declared.action.Action.{Action}
use Rattle.msp_isa.specs.declared.instr.Cond.{Cond}
use Rattle.msp_isa.specs.declared.instr.Cond.TheVariants as jump_if
use Rattle.msp_isa.specs.declared.instr.Instr.TheVariants.{Two, One}
use Rattle.msp_isa.specs.declared.instr.Op1.TheVariants as op1
use Rattle.msp_isa.specs.declared.instr.Op2.{Op2}
use Rattle.msp_isa.specs.declared.instr.Op2.TheVariants as op2
use Rattle.msp_isa.specs.declared.instr.Operand.TheVariants.{Reg, Indexed, Constant}
use Rattle.msp_isa.specs.Stands.{goto, reversed, word_in}
use Rattle.msp430_cpu.specs.Cpu.{Cpu, changed_at, even, gie}
use Rattle.msp430_cpu.specs.Exec.{further}
use Rattle.msp430_cpu.specs.Memory.{with_word_at}
use Rattle.msp430_cpu.specs.Operate.{differ, is_taken, operate, reads_destination}
use Rattle.open_law.specs.Homes.{Source, Of, InRegister, InFrame, Number, Made, StackPointer, operand_of}
use Rattle.open_law.specs.Stands.{IsMarked, JumpsTo}
use Rattle.open_law.proofs.View.{View, IsRoom}
use Rattle.open_law.proofs.Quiet.{HasAt, passed}
use Rattle.open_law.proofs.Alu.{with_result}
use Rattle.open_law.proofs.Homes.{flags_zero, word_above, word_same}
use Rattle.open_law.proofs.Chain.{Chain, Takes, drop_frame, go_to, jump, move, operation, push, step}
use Rattle.msp_select.proofs.Flags.{Tame, tame}
use Rattle.msp_runtime.specs.Code.{Code, Nothing, Do, Then, Skip, Times, Keeping, Registers, IsBounded, depth, done, is_formed, is_general, is_operand, is_short, is_straight, leaves, meaning, popped, pushed, repeated, value_of, weight}

-- ---- tests

pub both : (a b : Bool) → (a && b) ≡ true → (a ≡ true) × (b ≡ true)
both true true e = (refl, refl)
both true false e = absurd (let z : ⊥ = cc in z)
both false b e = absurd (let z : ⊥ = cc in z)

general : (r : ℕ) → is_general r ≡ true → (4 ≤ r) × (r < 16)
general r e = (grind (arith, nat_tests), grind (arith, nat_tests))

-- ---- operations

word_of : (op : Op2) (sr s d : ℕ) → s < 0x10000 → d < 0x10000 → (operate op false sr s d).result < 0x10000
word_of op2.Mov sr s d ls ld = ls
word_of op2.Add sr s d ls ld = omega arith
word_of op2.Addc sr s d ls ld = omega arith
word_of op2.Subc sr s d ls ld = omega arith
word_of op2.Sub sr s d ls ld = omega arith
word_of op2.Cmp sr s d ls ld = omega arith
word_of op2.Bit sr s d ls ld = let b = and_le_r d s in omega arith
word_of op2.Bic sr s d ls ld = let b = and_le_r d (0x10000 - 1 - s) in omega arith
word_of op2.Bis sr s d ls ld = or_lt 16 d s ld ls
word_of op2.Xor sr s d ls ld = xor_lt 16 d s ld ls
word_of op2.And sr s d ls ld = let b = and_le_r d s in omega arith

tame_op : (op : Op2) (sr s d : ℕ) → sr < 0x10000 → Tame sr (operate op false sr s d).sr
tame_op op2.Mov sr s d small = record { gie = refl; off = refl; small = small }
tame_op op2.Add sr s d small = tame sr _ _ _ _
tame_op op2.Addc sr s d small = tame sr _ _ _ _
tame_op op2.Subc sr s d small = tame sr _ _ _ _
tame_op op2.Sub sr s d small = tame sr _ _ _ _
tame_op op2.Cmp sr s d small = tame sr _ _ _ _
tame_op op2.Bit sr s d small = tame sr _ _ _ false
tame_op op2.Bic sr s d small = record { gie = refl; off = refl; small = small }
tame_op op2.Bis sr s d small = record { gie = refl; off = refl; small = small }
tame_op op2.Xor sr s d small = tame sr _ _ _ _
tame_op op2.And sr s d small = tame sr _ _ _ false

-- ---- what code leaves

done_leaves : (op : Op2) (s : Source) (q r : ℕ) (st : Registers) → not (r == q) ≡ true → (done op s q st).regs r ≡ st.regs r
done_leaves op s q r st e = by (operate op false st.sr (value_of s st.regs) (st.regs q)).is_written (r == q) refl e
  where
    by : (w t : Bool) → (r == q) ≡ t → not t ≡ true → (cond w (changed_at st.regs q (operate op false st.sr (value_of s st.regs) (st.regs q)).result) st.regs) r ≡ st.regs r
    by false t f n = refl
    by true false f n = rw f refl
    by true true f n = absurd (let z : ⊥ = cc in z)

repeated_leaves : (f : Registers → Registers) (q r : ℕ) → ((st : Registers) → (f st).regs r ≡ st.regs r) → not (r == q) ≡ true → (k : ℕ) (st : Registers) → (repeated f q k st).regs r ≡ st.regs r
repeated_leaves f q r keeps ne zero st = refl
repeated_leaves f q r keeps ne (suc k) st = repeated_leaves f q r keeps ne k (done op2.Sub (Made 1) q (f st)) ∙ done_leaves op2.Sub (Made 1) q r (f st) ne ∙ keeps st

pub code_leaves : (c : Code) (r : ℕ) → leaves r c ≡ true → (st : Registers) → (meaning c st).regs r ≡ st.regs r
code_leaves Nothing r e st = refl
code_leaves (Do op s q) r e st = done_leaves op s q r st e
code_leaves (Then a b) r e st = let t = both (leaves r a) (leaves r b) e in code_leaves b r t.1 (meaning a st) ∙ code_leaves a r t.0 st
code_leaves (Skip c a) r e st = by (is_taken c st.sr) (code_leaves a r e st)
  where
    by : (t : Bool) → (meaning a st).regs r ≡ st.regs r → (cond t st (meaning a st)).regs r ≡ st.regs r
    by true h = refl
    by false h = h
code_leaves (Times most q a) r e st =
    let t = both (not (r == q)) (leaves r a) e in
    repeated_leaves (meaning a) q r (code_leaves a r t.1) t.0 (st.regs q) (done op2.Cmp (Made 0) q st) ∙ done_leaves op2.Cmp (Made 0) q r st t.0
code_leaves (Keeping q a) r e st = by (λ h. code_leaves a r h (pushed st)) (eqb_tells r q)
  where
    by : (leaves r a ≡ true → (meaning a (pushed st)).regs r ≡ st.regs r) → (((r == q) ≡ true) × (r ≡ q)) ⊎ (((r == q) ≡ false) × (r ≢ q)) → cond (r == q) (st.regs q) ((meaning a (pushed st)).regs r) ≡ st.regs r
    by h (inl x) = ap (λ b. cond b (st.regs q) ((meaning a (pushed st)).regs r)) x.0 ∙ ap st.regs (sym x.1)
    by h (inr x) = ap (λ b. cond b (st.regs q) ((meaning a (pushed st)).regs r)) x.0 ∙ h (ap (λ b. b || leaves r a) (sym x.0) ∙ e)

repeated_sp : (f : Registers → Registers) (q : ℕ) → ((st : Registers) → (f st).sp ≡ st.sp) → (k : ℕ) (st : Registers) → (repeated f q k st).sp ≡ st.sp
repeated_sp f q keeps zero st = refl
repeated_sp f q keeps (suc k) st = repeated_sp f q keeps k (done op2.Sub (Made 1) q (f st)) ∙ keeps st

pub sp_on : (c : Code) (st : Registers) → (meaning c st).sp ≡ st.sp
sp_on Nothing st = refl
sp_on (Do op s q) st = refl
sp_on (Then a b) st = sp_on b (meaning a st) ∙ sp_on a st
sp_on (Skip c a) st = by (is_taken c st.sr) (sp_on a st)
  where
    by : (t : Bool) → (meaning a st).sp ≡ st.sp → (cond t st (meaning a st)).sp ≡ st.sp
    by true h = refl
    by false h = h
sp_on (Times most r a) st = repeated_sp (meaning a) r (sp_on a) (st.regs r) (done op2.Cmp (Made 0) r st)
sp_on (Keeping r a) st = refl

pub straight_bounded : (c : Code) → is_straight c ≡ true → (st : Registers) → IsBounded c st
straight_bounded Nothing e st = tt
straight_bounded (Do op s q) e st = tt
straight_bounded (Then a b) e st = let t = both (is_straight a) (is_straight b) e in (straight_bounded a t.0 st, straight_bounded b t.1 (meaning a st))
straight_bounded (Skip c a) e st = straight_bounded a e st
straight_bounded (Times most r a) e st = absurd (let z : ⊥ = cc in z)
straight_bounded (Keeping r a) e st = straight_bounded a e (pushed st)

-- ---- jumps

pub turn_back : (b : Bool) → b ≡ not (not b)
turn_back true = refl
turn_back false = refl

pub reversed_not : (c : Cond) (sr : ℕ) → is_short c ≡ true → is_taken (reversed c) sr ≡ not (is_taken c sr)
reversed_not jump_if.Jne sr e = turn_back (bit sr 1)
reversed_not jump_if.Jeq sr e = refl
reversed_not jump_if.Jnc sr e = turn_back (bit sr 0)
reversed_not jump_if.Jc sr e = refl
reversed_not jump_if.Jge sr e = turn_back (differ (bit sr 2) (bit sr 8))
reversed_not jump_if.Jl sr e = refl
reversed_not jump_if.Jn sr e = absurd (let z : ⊥ = cc in z)
reversed_not jump_if.Jmp sr e = absurd (let z : ⊥ = cc in z)

-- ---- chains

-- what is so of a stack from SP on
abbrev pub SameFrom : ℕ → (ℕ → ℕ) → (ℕ → ℕ) → Type 0
SameFrom sp stack stack' = (a : ℕ) → sp ≤ a → stack' a ≡ stack a

pub word_on : (stack stack' : ℕ → ℕ) (a : ℕ) → stack' a ≡ stack a → stack' (a + 1) ≡ stack (a + 1) → word_in stack' a ≡ word_in stack a
word_on stack stack' a e f = ap (λ x. x + 256 * stack' (a + 1)) e ∙ ap (λ x. stack a + 256 * x) f

module _ (image : ℕ → ℕ) (data_end : ℕ) (marks : ℕ → List Action) (sp0 : ℕ) where
  -- a jump from one address to another, and behind it
  abbrev pub IsNear : (pc target next : ℕ) → Cond → Type 0
  IsNear pc target next c = JumpsTo image marks pc target c × (pc + 2 ≡ next)

  pub record IsFar (pc target next : ℕ) (c : Cond) : Type 0 where
    pub over : JumpsTo image marks pc (pc + 6) (reversed c)
    pub goes : IsMarked image marks (pc + 2) [] (goto target)
    pub behind : pc + 6 ≡ next
    pub even_target : even target ≡ target
    pub small_target : target < 0x10000

  abbrev pub Jumps : (pc target next : ℕ) → Cond → Type 0
  Jumps pc target next c = IsNear pc target next c ⊎ IsFar pc target next c

  abbrev pub Does : (pc next : ℕ) → Op2 → Source → ℕ → Type 0
  Does pc next op s r = IsMarked image marks pc [] (Two op false (operand_of s) (Reg r)) × (pc + (2 + further (operand_of s) + 0) ≡ next)

  -- where code stands from one address to another
  abbrev pub Stand : Code → (pc end : ℕ) → Type 0
  Stand Nothing pc end = pc ≡ end
  Stand (Do op s r) pc end = Does pc end op s r
  Stand (Then a b) pc end = (mid : ℕ) × Stand a pc mid × Stand b mid end
  Stand (Skip c a) pc end = (mid : ℕ) × Jumps pc end mid c × Stand a mid end
  Stand (Times most r a) pc end =
      (p1 : ℕ) × (p2 : ℕ) × (p3 : ℕ) × (p4 : ℕ) × Does pc p1 op2.Cmp (Made 0) r × Jumps p1 end p2 jump_if.Jeq × Stand a p2 p3 × Does p3 p4 op2.Sub (Made 1) r × Jumps p4 p2 end jump_if.Jne
  Stand (Keeping r a) pc end =
      (p1 : ℕ) × IsMarked image marks pc [] (One op1.Push false (Reg r)) × Stand a (pc + 2) p1
      × IsMarked image marks p1 [] (Two op2.Mov false (Indexed 1 0) (Reg r)) × IsMarked image marks (p1 + 4) [] (Two op2.Add false (Constant 2) (Reg 1)) × (p1 + 6 ≡ end)

  module _ (start : Cpu) (objects : 0x1100 ≤ data_end) (room : data_end + 60 ≤ start.sp + 2) (within : start.sp + 2 ≤ sp0 + 2) (high : sp0 + 2 ≤ 0x3900) (Post : View → Type 0) where
    abbrev pub at : (pc : ℕ) → Registers → (ℕ → ℕ) → View
    at pc st stack = record { pc = pc; sp = st.sp; sr = st.sr; gate = gie start; regs = st.regs; stack = stack; made = []; answers = []; faulted = None; noted = [] }

    -- what stays so while a routine runs, where it may push d bytes more
    pub record IsSettled (d : ℕ) (st : Registers) : Type 0 where
      pub gie : bit st.sr 3 ≡ gie start
      pub awake : bit st.sr 4 ≡ false
      pub small : st.sr < 0x10000
      pub words : (r : ℕ) → 4 ≤ r → r < 16 → st.regs r < 0x10000
      pub even_sp : even st.sp ≡ st.sp
      pub below : st.sp ≤ start.sp
      pub deep : start.sp + d ≤ st.sp + 58

    pub record Good (v : View) : Type 0 where
      pub even_pc : even v.pc ≡ v.pc
      pub small_pc : v.pc < 0x10000
      pub unmarked : marks v.pc ≡ []
      pub settled : IsSettled 0 (record { regs = v.regs; sr = v.sr; sp = v.sp })
      pub gate : v.gate ≡ gie start

    abbrev pub Next : View → View → Type 0
    Next v w = w.made ≡ v.made

    abbrev pub Reach : ℕ → View → Type 0
    Reach b v = (n : ℕ) × (n ≤ b) × Chain image data_end marks sp0 Good Next Post n v

    pub wider : (b b' : ℕ) (v : View) → b ≤ b' → Reach b v → Reach b' v
    wider b b' v le r = let l = r.1 in (r.0, omega (arith, l), r.2)

    less_deep : (d d' : ℕ) (st : Registers) → d' ≤ d → IsSettled d st → IsSettled d' st
    less_deep d d' st le s = let x = s.deep in record { gie = s.gie; awake = s.awake; small = s.small; words = s.words; even_sp = s.even_sp; below = s.below; deep = omega arith }

    good : (d pc : ℕ) (st : Registers) (stack : ℕ → ℕ) → IsSettled d st → even pc ≡ pc → pc < 0x10000 → marks pc ≡ [] → Good (at pc st stack)
    good d pc st stack s ev sm un = record { even_pc = ev; small_pc = sm; unmarked = un; settled = less_deep d 0 st (omega arith) s; gate = refl }

    pub one : (b : ℕ) (v w : View) → Good v → Takes image data_end marks sp0 v w → w.made ≡ v.made → Reach b w → Reach (suc b) v
    one b v w g t x r = let l = r.1 in (suc r.0, omega (arith, l), step image data_end marks sp0 Good Next Post r.0 v w g t x r.2)

    -- room, awake and no fault
    module _ (d pc : ℕ) (st : Registers) (stack : ℕ → ℕ) (s : IsSettled d st) where
      pub ready : IsRoom data_end (sp0 + 2) (at pc st stack) × (bit st.sr 4 ≡ false) × ((at pc st stack).faulted ≡ None)
      ready = (record { objects = objects; low = (let x = s.deep in omega (arith, room, x)); inside = (let y = s.below in omega (arith, within, y)); high = high; even_sp = s.even_sp }, s.awake, refl)

      has : (o : Source) → is_operand o ≡ true → HasAt (sp0 + 2) st.sp st.regs stack o (value_of o st.regs)
      has (Of (InRegister q)) e = let g = general q e in (g, refl, s.words q g.0 g.1)
      has (Of (InFrame x)) e = absurd (let z : ⊥ = cc in z)
      has (Number n) e = (refl, grind (arith, nat_tests))
      has (Made n) e = (refl, grind (arith, nat_tests))
      has StackPointer e = absurd (let z : ⊥ = cc in z)

    small_value : (d : ℕ) (st : Registers) (o : Source) → IsSettled d st → is_operand o ≡ true → value_of o st.regs < 0x10000
    small_value d st (Of (InRegister q)) s e = let g = general q e in s.words q g.0 g.1
    small_value d st (Of (InFrame x)) s e = absurd (let z : ⊥ = cc in z)
    small_value d st (Number n) s e = grind (arith, nat_tests)
    small_value d st (Made n) s e = grind (arith, nat_tests)
    small_value d st StackPointer s e = absurd (let z : ⊥ = cc in z)

    changed_words : (regs : ℕ → ℕ) (r n : ℕ) → n < 0x10000 → ((q : ℕ) → 4 ≤ q → q < 16 → regs q < 0x10000) → (q : ℕ) → 4 ≤ q → q < 16 → changed_at regs r n q < 0x10000
    changed_words regs r n small words q lo hi = by (q == r)
      where
        by : (t : Bool) → cond t n (regs q) < 0x10000
        by true = small
        by false = words q lo hi

    done_settled : (d : ℕ) (op : Op2) (o : Source) (r : ℕ) (st : Registers) → is_general r ≡ true → is_operand o ≡ true → IsSettled d st → IsSettled d (done op o r st)
    done_settled d op o r st g e s =
        let t = tame_op op st.sr (value_of o st.regs) (st.regs r) s.small in
        let lo = general r g in
        let small = word_of op st.sr (value_of o st.regs) (st.regs r) (small_value d st o s e) (s.words r lo.0 lo.1) in
        record { gie = t.gie ∙ s.gie; awake = t.off ∙ s.awake; small = t.small; words = by (operate op false st.sr (value_of o st.regs) (st.regs r)).is_written small; even_sp = s.even_sp; below = s.below; deep = s.deep }
      where
        by : (w : Bool) → (operate op false st.sr (value_of o st.regs) (st.regs r)).result < 0x10000 → (q : ℕ) → 4 ≤ q → q < 16 → (cond w (changed_at st.regs r (operate op false st.sr (value_of o st.regs) (st.regs r)).result) st.regs) q < 0x10000
        by true small = changed_words st.regs r (operate op false st.sr (value_of o st.regs) (st.regs r)).result small s.words
        by false small = s.words

    -- one operation
    does : (b d pc next : ℕ) (op : Op2) (o : Source) (r : ℕ) (st : Registers) (stack : ℕ → ℕ) → is_general r ≡ true → is_operand o ≡ true → Does pc next op o r → IsSettled d st → Reach b (at next (done op o r st) stack) → Reach (suc b) (at pc st stack)
    does b d pc next op o r st stack g e stands s more = by op stands more
      where
        lo : (4 ≤ r) × (r < 16)
        lo = general r g

        here : Good (at pc st stack)
        here = good d pc st stack s (let x = stands.0.at.even in omega (arith, x)) (let y = stands.0.at.high in omega (arith, y)) stands.0.table

        behind : (op' : Op2) → (pc + (2 + further (operand_of o) + 0) ≡ next) → Reach b (at next (done op' o r st) stack) → Reach b (record (at (pc + (2 + further (operand_of o) + 0)) (done op' o r st) stack) { gate = bit st.sr 3 })
        behind op' n more' = subst (λ x. Reach b (record (at x (done op' o r st) stack) { gate = bit st.sr 3 })) (sym n) (subst (λ x. Reach b (record (at next (done op' o r st) stack) { gate = x })) (sym s.gie) more')

        other : (op' : Op2) → reads_destination op' ≡ true → Does pc next op' o r → Reach b (at next (done op' o r st) stack) → Reach (suc b) (at pc st stack)
        other op' reading st' more' =
            one b (at pc st stack) (record (at (pc + (2 + further (operand_of o) + 0)) (done op' o r st) stack) { gate = bit st.sr 3 }) here
            (subst (λ x. Takes image data_end marks sp0 (at pc st stack) x) (by_written op' (operate op' false st.sr (value_of o st.regs) (st.regs r)).is_written refl)
            (operation image data_end marks sp0 (at pc st stack) op' o (InRegister r) (value_of o st.regs) (st.regs r) reading
            (word_of op' st.sr (value_of o st.regs) (st.regs r) (small_value d st o s e) (s.words r lo.0 lo.1)) (ready d pc st stack s) st'.0 (has d pc st stack s o e) (lo, refl, s.words r lo.0 lo.1)))
            refl (behind op' st'.1 more')
          where
            by_written : (op' : Op2) (w : Bool) → (operate op' false st.sr (value_of o st.regs) (st.regs r)).is_written ≡ w → with_result (passed (at pc st stack) (2 + further (operand_of o) + 0)) (InRegister r) (operate op' false st.sr (value_of o st.regs) (st.regs r)) ≡ record (at (pc + (2 + further (operand_of o) + 0)) (done op' o r st) stack) { gate = bit st.sr 3 }
            by_written op' true e = rw e refl
            by_written op' false e = rw e refl

        by : (op' : Op2) → Does pc next op' o r → Reach b (at next (done op' o r st) stack) → Reach (suc b) (at pc st stack)
        by op2.Mov st' more' =
            one b (at pc st stack) (record (at (pc + (2 + further (operand_of o) + 0)) (done op2.Mov o r st) stack) { gate = bit st.sr 3 }) here
            (move image data_end marks sp0 (at pc st stack) o (InRegister r) (value_of o st.regs) (ready d pc st stack s) st'.0 (has d pc st stack s o e) lo)
            refl (behind op2.Mov st'.1 more')
        by op2.Add st' more' = other op2.Add refl st' more'
        by op2.Addc st' more' = other op2.Addc refl st' more'
        by op2.Subc st' more' = other op2.Subc refl st' more'
        by op2.Sub st' more' = other op2.Sub refl st' more'
        by op2.Cmp st' more' = other op2.Cmp refl st' more'
        by op2.Bit st' more' = other op2.Bit refl st' more'
        by op2.Bic st' more' = other op2.Bic refl st' more'
        by op2.Bis st' more' = other op2.Bis refl st' more'
        by op2.Xor st' more' = other op2.Xor refl st' more'
        by op2.And st' more' = other op2.And refl st' more'

    -- a jump that is taken or not
    gated : (b pc : ℕ) (st : Registers) (stack : ℕ → ℕ) → bit st.sr 3 ≡ gie start → Reach b (at pc st stack) → Reach b (record (at pc st stack) { gate = bit st.sr 3 })
    gated b pc st stack e more = subst (λ x. Reach b (record (at pc st stack) { gate = x })) (sym e) more

    -- one that is not taken
    stays : (b d pc target next : ℕ) (c : Cond) (st : Registers) (stack : ℕ → ℕ) → is_short c ≡ true → Jumps pc target next c → IsSettled d st → is_taken c st.sr ≡ false → Reach b (at next st stack) → Reach (suc b) (at pc st stack)
    stays b d pc target next c st stack short (inl near) s e more =
        let here = good d pc st stack s (let x = near.0.at.at.even in omega (arith, x)) (let y = near.0.at.at.high in omega (arith, y)) near.0.at.table in
        one b (at pc st stack) (record (at (pc + 2) st stack) { gate = bit st.sr 3 }) here
        (jump image data_end marks sp0 (at pc st stack) c target false (ready d pc st stack s) near.0 e) refl
        (gated b (pc + 2) st stack s.gie (subst (λ n. Reach b (at n st stack)) (sym near.1) more))
    stays b d pc target next c st stack short (inr far) s e more =
        let here = good d pc st stack s (let x = far.over.at.at.even in omega (arith, x)) (let y = far.over.at.at.high in omega (arith, y)) far.over.at.table in
        one b (at pc st stack) (record (at (pc + 6) st stack) { gate = bit st.sr 3 }) here
        (jump image data_end marks sp0 (at pc st stack) (reversed c) (pc + 6) true (ready d pc st stack s) far.over (reversed_not c st.sr short ∙ ap not e)) refl
        (gated b (pc + 6) st stack s.gie (subst (λ n. Reach b (at n st stack)) (sym far.behind) more))

    pub leaps : (b d pc target next : ℕ) (c : Cond) (st : Registers) (stack : ℕ → ℕ) (taken : Bool) → is_short c ≡ true → Jumps pc target next c → IsSettled d st → is_taken c st.sr ≡ taken → Reach b (at (cond taken target next) st stack) → Reach (suc (suc b)) (at pc st stack)
    leaps b d pc target next c st stack taken short (inl near) s e more =
        let here = good d pc st stack s (let x = near.0.at.at.even in omega (arith, x)) (let y = near.0.at.at.high in omega (arith, y)) near.0.at.table in
        wider (suc b) (suc (suc b)) (at pc st stack) (omega arith)
        (one b (at pc st stack) (record (at (cond taken target (pc + 2)) st stack) { gate = bit st.sr 3 }) here
        (jump image data_end marks sp0 (at pc st stack) c target taken (ready d pc st stack s) near.0 e) refl
        (gated b (cond taken target (pc + 2)) st stack s.gie (subst (λ n. Reach b (at (cond taken target n) st stack)) (sym near.1) more)))
    leaps b d pc target next c st stack true short (inr far) s e more =
        let here = good d pc st stack s (let x = far.over.at.at.even in omega (arith, x)) (let y = far.over.at.at.high in omega (arith, y)) far.over.at.table in
        let there = good d (pc + 2) st stack s (let x = far.goes.at.even in omega (arith, x)) (let y = far.goes.at.high in omega (arith, y)) far.goes.table in
        one (suc b) (at pc st stack) (record (at (pc + 2) st stack) { gate = bit st.sr 3 }) here
        (jump image data_end marks sp0 (at pc st stack) (reversed c) (pc + 6) false (ready d pc st stack s) far.over (reversed_not c st.sr short ∙ ap not e)) refl
        (gated (suc b) (pc + 2) st stack s.gie
        (one b (at (pc + 2) st stack) (record (at target st stack) { gate = bit st.sr 3 }) there
        (go_to image data_end marks sp0 (at (pc + 2) st stack) target (ready d (pc + 2) st stack s) far.goes far.even_target far.small_target) refl
        (gated b target st stack s.gie more)))
    leaps b d pc target next c st stack false short (inr far) s e more = wider (suc b) (suc (suc b)) (at pc st stack) (omega arith) (stays b d pc target next c st stack short (inr far) s e more)

    -- ---- all code

    repeated_settled : (d : ℕ) (f : Registers → Registers) (r : ℕ) → is_general r ≡ true → ((st : Registers) → IsSettled d st → IsSettled d (f st)) → (k : ℕ) (st : Registers) → IsSettled d st → IsSettled d (repeated f r k st)
    repeated_settled d f r g h zero st s = s
    repeated_settled d f r g h (suc k) st s = repeated_settled d f r g h k (done op2.Sub (Made 1) r (f st)) (done_settled d op2.Sub (Made 1) r (f st) g refl (h st s))

    pushed_settled : (d : ℕ) (st : Registers) → 2 ≤ d → IsSettled d st → IsSettled (d - 2) (pushed st)
    pushed_settled d st le s = let x = s.deep in let y = s.below in let e = s.even_sp in
        record { gie = s.gie; awake = s.awake; small = s.small; words = s.words; even_sp = omega (arith, e, x, room); below = omega (arith, y); deep = omega (arith, x, room) }

    popped_settled : (d r : ℕ) (st st1 : Registers) → is_general r ≡ true → IsSettled d st → IsSettled (d - 2) st1 → IsSettled d (popped r (st.regs r) st.sp st1)
    popped_settled d r st st1 g s s1 =
        let t = tame_op op2.Add st1.sr 2 st1.sp s1.small in let lo = general r g in
        record { gie = t.gie ∙ s1.gie; awake = t.off ∙ s1.awake; small = t.small; words = changed_words st1.regs r (st.regs r) (s.words r lo.0 lo.1) s1.words; even_sp = s.even_sp; below = s.below; deep = s.deep }

    pub settled_on : (c : Code) (d : ℕ) (st : Registers) → is_formed c ≡ true → depth c ≤ d → IsSettled d st → IsSettled d (meaning c st)
    settled_on Nothing d st f le s = s
    settled_on (Do op o r) d st f le s = let t = both (is_general r) (is_operand o) f in done_settled d op o r st t.0 t.1 s
    settled_on (Then a b) d st f le s = let t = both (is_formed a) (is_formed b) f in settled_on b d (meaning a st) t.1 (omega (arith, le)) (settled_on a d st t.0 (omega (arith, le)) s)
    settled_on (Skip c a) d st f le s = by (is_taken c st.sr) (settled_on a d st (both (is_short c) (is_formed a) f).1 le s)
      where
        by : (t : Bool) → IsSettled d (meaning a st) → IsSettled d (cond t st (meaning a st))
        by true h = s
        by false h = h
    settled_on (Times most r a) d st f le s =
        let t = both (is_general r) (leaves r a && (is_straight a && is_formed a)) f in let u = both (leaves r a) (is_straight a && is_formed a) t.1 in let w = both (is_straight a) (is_formed a) u.1 in
        repeated_settled d (meaning a) r t.0 (λ st' s'. settled_on a d st' w.1 le s') (st.regs r) (done op2.Cmp (Made 0) r st) (done_settled d op2.Cmp (Made 0) r st t.0 refl s)
    settled_on (Keeping r a) d st f le s =
        let t = both (is_general r) (is_formed a) f in
        popped_settled d r st (meaning a (pushed st)) t.0 s (settled_on a (d - 2) (pushed st) t.1 (omega (arith, le)) (pushed_settled d st (omega (arith, le)) s))

    abbrev pub Behind : Code → (end : ℕ) → Registers → (ℕ → ℕ) → ℕ → Type 0
    Behind c end st stack b = (stack' : ℕ → ℕ) → SameFrom st.sp stack stack' → Reach b (at end (meaning c st) stack')

    -- what the count is behind SUB #1, and whether it is 0
    counted : (r j : ℕ) (st : Registers) → st.regs r ≡ suc j → suc j < 0x10000 → (done op2.Sub (Made 1) r st).regs r ≡ j
    counted r j st e lt = ap (λ b. cond b ((st.regs r + (0x10000 - 1 - 1) + 1) % 0x10000) (st.regs r)) (eq-eqb r r refl) ∙ omega (arith, e)

    ends_at : (r j : ℕ) (st : Registers) → st.regs r ≡ suc j → suc j < 0x10000 → is_taken jump_if.Jne (done op2.Sub (Made 1) r st).sr ≡ not (j == 0)
    ends_at r j st e lt = ap not (flags_zero st.sr _ _ _ _ ∙ ap (λ x. x == 0) (let z : (st.regs r + (0x10000 - 1 - 1) + 1) % 0x10000 ≡ j = omega (arith, e) in z))

    is_none : (r : ℕ) (st : Registers) → st.regs r < 0x10000 → is_taken jump_if.Jeq (done op2.Cmp (Made 0) r st).sr ≡ (st.regs r == 0)
    is_none r st lt = flags_zero st.sr _ _ _ _ ∙ ap (λ x. x == 0) (let z : (st.regs r + (0x10000 - 1 - 0) + 1) % 0x10000 ≡ st.regs r = omega (arith, lt) in z)

    same_trans : (sp : ℕ) (s0 s1 s2 : ℕ → ℕ) → SameFrom sp s0 s1 → SameFrom sp s1 s2 → SameFrom sp s0 s2
    same_trans sp s0 s1 s2 h k a le = k a le ∙ h a le

    module _ (d r p2 p3 p4 end : ℕ) (a : Code) (g : is_general r ≡ true) (lv : leaves r a ≡ true) (less : Does p3 p4 op2.Sub (Made 1) r) (back : Jumps p4 p2 end jump_if.Jne)
        (body : (st : Registers) (stack : ℕ → ℕ) (b : ℕ) → IsSettled d st → Behind a p3 st stack b → Reach (weight a + b) (at p2 st stack)) (settles : (st : Registers) → IsSettled d st → IsSettled d (meaning a st)) where
      looped : (j : ℕ) (st : Registers) (stack : ℕ → ℕ) (b : ℕ) → suc j < 0x10000 → st.regs r ≡ suc j → IsSettled d st →
          ((stack' : ℕ → ℕ) → SameFrom st.sp stack stack' → Reach b (at end (repeated (meaning a) r (suc j) st) stack')) → Reach (suc j * (weight a + 3) + b) (at p2 st stack)
      looped zero st stack b lt e s more =
          let st1 = meaning a st in let s1 = settles st s in let e1 = code_leaves a r lv st ∙ e in
          subst (λ n. Reach n (at p2 st stack)) (omega arith)
          (body st stack (suc (suc (suc b))) s
          (λ stack' same. does (suc (suc b)) d p3 p4 op2.Sub (Made 1) r st1 stack' g refl less s1
          (leaps b d p4 p2 end jump_if.Jne (done op2.Sub (Made 1) r st1) stack' false refl back (done_settled d op2.Sub (Made 1) r st1 g refl s1) (ends_at r zero st1 e1 lt) (more stack' same))))
      looped (suc j) st stack b lt e s more =
          let st1 = meaning a st in let s1 = settles st s in let e1 = code_leaves a r lv st ∙ e in
          let st2 = done op2.Sub (Made 1) r st1 in let s2 = done_settled d op2.Sub (Made 1) r st1 g refl s1 in
          let again = λ (stack' : ℕ → ℕ) (same : SameFrom st.sp stack stack'). looped j st2 stack' b (omega (arith, lt)) (counted r (suc j) st1 e1 lt) s2
          (λ stack2 same2. more stack2 (same_trans st.sp stack stack' stack2 same (subst (λ x. SameFrom x stack' stack2) (sp_on a st) same2))) in
          subst (λ n. Reach n (at p2 st stack)) (omega arith)
          (body st stack (suc (suc (suc (suc j * (weight a + 3) + b)))) s
          (λ stack' same. does (suc (suc (suc j * (weight a + 3) + b))) d p3 p4 op2.Sub (Made 1) r st1 stack' g refl less s1
          (leaps (suc j * (weight a + 3) + b) d p4 p2 end jump_if.Jne st2 stack' true refl back s2 (ends_at r (suc j) st1 e1 lt ∙ ap not (eqb-suc-zero j)) (again stack' same))))

    pub run : (c : Code) (pc end d : ℕ) (st : Registers) (stack : ℕ → ℕ) (b : ℕ) → is_formed c ≡ true → IsBounded c st → Stand c pc end → depth c ≤ d → IsSettled d st → Behind c end st stack b → Reach (weight c + b) (at pc st stack)
    run Nothing pc end d st stack b f bounded stands le s more = wider b (0 + b) (at pc st stack) (omega arith) (subst (λ p. Reach b (at p st stack)) (sym stands) (more stack (λ a l. refl)))
    run (Do op o r) pc end d st stack b f bounded stands le s more =
        let t = both (is_general r) (is_operand o) f in
        wider (suc b) (1 + b) (at pc st stack) (omega arith) (does b d pc end op o r st stack t.0 t.1 stands s (more stack (λ a l. refl)))
    run (Then x y) pc end d st stack b f bounded stands le s more =
        let t = both (is_formed x) (is_formed y) f in
        subst (λ n. Reach n (at pc st stack)) (let z : weight x + (weight y + b) ≡ weight x + weight y + b = omega arith in z)
        (run x pc stands.0 d st stack (weight y + b) t.0 bounded.0 stands.1 (omega (arith, le)) s
        (λ stack' same. run y stands.0 end d (meaning x st) stack' b t.1 bounded.1 stands.2 (omega (arith, le)) (settled_on x d st t.0 (omega (arith, le)) s)
        (λ stack2 same2. more stack2 (same_trans st.sp stack stack' stack2 same (subst (λ n. SameFrom n stack' stack2) (sp_on x st) same2)))))
    run (Skip c a) pc end d st stack b f bounded stands le s more = by (is_taken c st.sr) refl (run a stands.0 end d st stack b t.1 bounded stands.2 le s) more
      where
        t : (is_short c ≡ true) × (is_formed a ≡ true)
        t = both (is_short c) (is_formed a) f

        by : (taken : Bool) → is_taken c st.sr ≡ taken → (Behind a end st stack b → Reach (weight a + b) (at stands.0 st stack)) →
            ((stack' : ℕ → ℕ) → SameFrom st.sp stack stack' → Reach b (at end (cond taken st (meaning a st)) stack')) → Reach (max 2 (1 + weight a) + b) (at pc st stack)
        by true e inner more' =
            wider (suc (suc b)) (max 2 (1 + weight a) + b) (at pc st stack) (omega arith)
            (leaps b d pc end stands.0 c st stack true t.0 stands.1 s e (more' stack (λ a l. refl)))
        by false e inner more' = wider (suc (weight a + b)) (max 2 (1 + weight a) + b) (at pc st stack) (omega arith) (stays (weight a + b) d pc end stands.0 c st stack t.0 stands.1 s e (inner more'))
    run (Times most r a) pc end d st stack b f bounded stands le s more =
        by (st.regs r) refl (λ st' stack' b' s' more'. run a stands.1 stands.2 d st' stack' b' w.1 (straight_bounded a w.0 st') stands.6 le s' more') more
      where
        t : (is_general r ≡ true) × ((leaves r a && (is_straight a && is_formed a)) ≡ true)
        t = both (is_general r) (leaves r a && (is_straight a && is_formed a)) f

        u : (leaves r a ≡ true) × ((is_straight a && is_formed a) ≡ true)
        u = both (leaves r a) (is_straight a && is_formed a) t.1

        w : (is_straight a ≡ true) × (is_formed a ≡ true)
        w = both (is_straight a) (is_formed a) u.1

        st0 : Registers
        st0 = done op2.Cmp (Made 0) r st

        s0 : IsSettled d st0
        s0 = done_settled d op2.Cmp (Made 0) r st t.0 refl s

        few : st.regs r < 0x10000
        few = let lo = general r t.0 in s.words r lo.0 lo.1

        whole : (k : ℕ) → k ≤ most → suc (suc (suc (k * (weight a + 3) + b))) ≤ 3 + most * (weight a + 3) + b
        whole k le' = let z = mul-le k (weight a + 3) most (weight a + 3) le' (omega arith) in omega (arith, z)

        by : (n : ℕ) → st.regs r ≡ n → ((st' : Registers) (stack' : ℕ → ℕ) (b' : ℕ) → IsSettled d st' → Behind a stands.2 st' stack' b' → Reach (weight a + b') (at stands.1 st' stack')) →
            ((stack' : ℕ → ℕ) → SameFrom st.sp stack stack' → Reach b (at end (repeated (meaning a) r (st.regs r) st0) stack')) → Reach (3 + most * (weight a + 3) + b) (at pc st stack)
        by zero e body more' =
            wider (suc (suc (suc b))) (3 + most * (weight a + 3) + b) (at pc st stack) (omega arith)
            (does (suc (suc b)) d pc stands.0 op2.Cmp (Made 0) r st stack t.0 refl stands.4 s
            (leaps b d stands.0 end stands.1 jump_if.Jeq st0 stack true refl stands.5 s0 (is_none r st few ∙ ap (λ x. x == 0) e)
            (subst (λ n. Reach b (at end (repeated (meaning a) r n st0) stack)) e (more' stack (λ x l. refl)))))
        by (suc j) e body more' =
            wider (suc (suc (suc (suc j * (weight a + 3) + b)))) (3 + most * (weight a + 3) + b) (at pc st stack) (whole (suc j) (omega (arith, e, bounded)))
            (does (suc (suc (suc j * (weight a + 3) + b))) d pc stands.0 op2.Cmp (Made 0) r st stack t.0 refl stands.4 s
            (leaps (suc j * (weight a + 3) + b) d stands.0 end stands.1 jump_if.Jeq st0 stack false refl stands.5 s0 (is_none r st few ∙ ap (λ x. x == 0) e ∙ eqb-suc-zero j)
            (looped d r stands.1 stands.2 stands.3 end a t.0 u.0 stands.7 stands.8 body (λ st' s'. settled_on a d st' w.1 le s') j st0 stack b (omega (arith, e, few)) e s0
            (λ stack' same. subst (λ n. Reach b (at end (repeated (meaning a) r n st0) stack')) e (more' stack' same)))))
    run (Keeping r a) pc end d st stack b f bounded stands le s more =
        subst (λ n. Reach n (at pc st stack)) (let z : suc (weight a + suc (suc b)) ≡ 3 + weight a + b = omega arith in z)
        (one (weight a + suc (suc b)) (at pc st stack) (record (at (pc + 2) (pushed st) (with_word_at stack (st.sp - 2) (st.regs r))) { gate = bit st.sr 3 }) (good d pc st stack s (let x = stands.1.at.even in omega (arith, x)) (let y = stands.1.at.high in omega (arith, y)) stands.1.table)
        (push image data_end marks sp0 (at pc st stack) (Of (InRegister r)) (st.regs r) (ready d pc st stack s) (let x = s.deep in omega (arith, room, x, le)) stands.1 (has d pc st stack s (Of (InRegister r)) t.0))
        refl
        (gated (weight a + suc (suc b)) (pc + 2) (pushed st) (with_word_at stack (st.sp - 2) (st.regs r)) s.gie
        (run a (pc + 2) stands.0 (d - 2) (pushed st) (with_word_at stack (st.sp - 2) (st.regs r)) (suc (suc b)) t.1 bounded stands.2 (omega (arith, le)) s1 restored)))
      where
        t : (is_general r ≡ true) × (is_formed a ≡ true)
        t = both (is_general r) (is_formed a) f

        lo : (4 ≤ r) × (r < 16)
        lo = general r t.0

        s1 : IsSettled (d - 2) (pushed st)
        s1 = pushed_settled d st (omega (arith, le)) s

        st1 : Registers
        st1 = meaning a (pushed st)

        s2 : IsSettled (d - 2) st1
        s2 = settled_on a (d - 2) (pushed st) t.1 (omega (arith, le)) s1

        -- the word is read back
        word : ℕ
        word = st.regs r

        st2 : Registers
        st2 = record { regs = changed_at st1.regs r word; sr = st1.sr; sp = st1.sp }

        s3 : IsSettled (d - 2) st2
        s3 = record { gie = s2.gie; awake = s2.awake; small = s2.small; words = changed_words st1.regs r word (s.words r lo.0 lo.1) s2.words; even_sp = s2.even_sp; below = s2.below; deep = s2.deep }

        sp1 : st1.sp ≡ st.sp - 2
        sp1 = sp_on a (pushed st)

        restored : (stack' : ℕ → ℕ) → SameFrom (st.sp - 2) (with_word_at stack (st.sp - 2) word) stack' → Reach (suc (suc b)) (at stands.0 st1 stack')
        restored stack' same =
            let x = s.deep in let y = s.below in
            let there : st.sp - 2 + 2 ≡ st.sp = omega (arith, x, le, room) in
            let read : word_in stack' (st1.sp + 0) ≡ word =
            ap (λ n. word_in stack' n) (let z : st1.sp + 0 ≡ st.sp - 2 = omega (arith, sp1) in z)
            ∙ word_on (with_word_at stack (st.sp - 2) word) stack' (st.sp - 2) (same (st.sp - 2) (omega arith)) (same (st.sp - 2 + 1) (omega arith))
            ∙ word_same stack (st.sp - 2) word (s.words r lo.0 lo.1) in
            let kept : SameFrom st.sp stack stack' = λ q l. same q (omega (arith, l)) ∙ word_above stack (st.sp - 2) word q (omega (arith, l, there)) in
            one (suc b) (at stands.0 st1 stack') (record (at (stands.0 + 4) st2 stack') { gate = bit st1.sr 3 }) (good (d - 2) stands.0 st1 stack' s2 (let u = stands.3.at.even in omega (arith, u)) (let u = stands.3.at.high in omega (arith, u)) stands.3.table)
            (move image data_end marks sp0 (at stands.0 st1 stack') (Of (InFrame 0)) (InRegister r) word (ready (d - 2) stands.0 st1 stack' s2) stands.3 ((refl, omega (arith, sp1, y, within, there)), read, s.words r lo.0 lo.1) lo)
            refl
            (gated (suc b) (stands.0 + 4) st2 stack' s2.gie
            (one b (at (stands.0 + 4) st2 stack') (record (at (stands.0 + 4 + 2) (popped r word (st1.sp + 2) st1) stack') { gate = bit st1.sr 3 }) (good (d - 2) (stands.0 + 4) st2 stack' s3 (let u = stands.4.at.even in omega (arith, u)) (let u = stands.4.at.high in omega (arith, u)) stands.4.table)
            (drop_frame image data_end marks sp0 (at (stands.0 + 4) st2 stack') (Made 2) 2 (ready (d - 2) (stands.0 + 4) st2 stack' s3) stands.4 (refl, omega arith) (omega (arith, sp1, y, within, there)) refl)
            refl
            (subst (λ g. Reach b (record (at (stands.0 + 4 + 2) (popped r word (st1.sp + 2) st1) stack') { gate = g })) (sym s2.gie)
            (subst (λ n. Reach b (at (stands.0 + 4 + 2) (popped r word n st1) stack')) (let z : st.sp ≡ st1.sp + 2 = omega (arith, sp1, there) in z)
            (subst (λ n. Reach b (at n (meaning (Keeping r a) st) stack')) (let z : end ≡ stands.0 + 4 + 2 = let q = stands.5 in omega (arith, q) in z) (more stack' kept))))))
