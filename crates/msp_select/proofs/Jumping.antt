-- Carries, jumps and branches.
use Rattle.std.proofs.Common.{◌≡◌, ℕ, suc, ◌+◌, ◌-◌, ◌*◌, ◌/◌, ◌%◌, ◌<◌, ◌≤◌, Bool, true, false, not, nat_lt, nat_le, List, [], ◌∷◌, length, Some, refl, sym, ap, ◌∙◌, subst, arith}
use Rattle.std.specs.Prelude.{bit_xor, pos, negsuc, if◌then◌else◌}
use Rattle.std.proofs.lemmas.Bool.Decides.{nat_tests}
use Rattle.std.proofs.lemmas.Nat.{xor_lt}
use Rattle.open_law.proofs.Homes.{flags_carry}
use Rattle.nm_base.specs.Lists.{bit, number_of}
use Rattle.nm_base.specs.declared.action.Action.{Action}
use Rattle.msp_isa.specs.declared.code.Item.TheVariants as item
use Rattle.msp_isa.specs.declared.instr.Cond.TheVariants as jump_if
use Rattle.msp_isa.specs.declared.instr.Instr.TheVariants.{Two, Jump as JumpBy}
use Rattle.msp_isa.specs.declared.instr.Op2.TheVariants as op2
use Rattle.msp_isa.specs.declared.instr.Operand.TheVariants.{Reg}
use Rattle.msp_isa.specs.Stands.{AreAt, goto, instructions, reversed, words_to}
use Rattle.msp430_cpu.specs.Cpu.{changed_at, even}
use Rattle.msp430_cpu.specs.Exec.{further, jumped}
use Rattle.msp430_cpu.specs.Operate.{differ, is_taken, operate}
use Rattle.mid_code.specs.declared.instr.Mid.{Mid}
use Rattle.mid_code.specs.declared.instr.Mid.TheVariants.{Carry, Jump, Branch}
use Rattle.mid_code.specs.declared.instr.Op.{Op}
use Rattle.mid_code.specs.declared.instr.Op.TheVariants as op
use Rattle.mid_code.specs.declared.instr.Test.{Test}
use Rattle.mid_code.specs.declared.instr.Test.TheVariants as test
use Rattle.mid_code.specs.Words as words
use Rattle.mid_code.specs.Machine.{Activation, Goes, at_place, instruction, onward, place_of, step, write}
use Rattle.mid_code.proofs.Labels.{stands_inside}
use Rattle.open_law.specs.Homes.{Of, Made, at_home, literal, operand_of}
use Rattle.open_law.specs.Stands.{JumpsTo}
use Rattle.open_law.proofs.View.{View}
use Rattle.open_law.proofs.Quiet.{put_home, passed}
use Rattle.open_law.proofs.Alu.{with_result}
use Rattle.open_law.proofs.Chain.{move, operation, jump as jump_rule, go_to}
use Rattle.msp_select.specs.Select.{Part, is_turned, moving, parts_of, scratch, taken_by, two}
use Rattle.msp_select.proofs.Compare.{cmp_tells}
use Rattle.msp_select.proofs.Flags.{Tame, carry_of_add, tame, tame_operator}
use Rattle.msp_select.proofs.Reached.{goes}
use Rattle.msp_select.proofs.Relation.{Setting, Here, Told, ToldAt, flagged, fn, settled}
use Rattle.msp_select.proofs.Kept.{Premises, ready}
use Rattle.msp_select.proofs.Doing.{After, Piece, Stand, behind_two, end, fetch, finish, held, home, in_scratch, low_registers, marked, names, one, onward_place, opened, operated, operation_on, placed, silent, stands, stayed, steady, stepped, home_here, wrote}

module _ (S : Setting) (left : List Activation → ℕ) (most : ℕ) (P : Premises S left most) (a : Activation) (rest : List Activation) (v : View) (h : Here S a rest v) (m0 : ℕ) (made0 : List Action) (few : 2 * left (a ∷ rest) ≤ m0) (since : v.made ≡ made0) where
  -- C to R12: MOV #0, R12; ADDC #0, R12
  abbrev cleared : ℕ → ℕ → (ℕ → ℕ) → View
  cleared pc sr regs = passed (put_home (record v { pc = pc; sr = sr; gate = bit v.sr 3; regs = regs }) scratch 0) (2 + 0 + 0)

  abbrev carried_in : ℕ → ℕ → (ℕ → ℕ) → View
  carried_in pc sr regs = with_result (passed (cleared pc sr regs) (2 + 0 + 0)) scratch (operate op2.Addc false sr 0 0)

  carry_in : (n pc sr : ℕ) (regs : ℕ → ℕ) (tail : List Part) → Stand S a.f pc (moving (literal 0) scratch ∷ two op2.Addc (literal 0) scratch ∷ tail) (end S left most P a rest v h m0 made0 few since) → Tame v.sr sr → ((r : ℕ) → r < 12 → regs r ≡ v.regs r) →
      (Stand S a.f (carried_in pc sr regs).pc tail (end S left most P a rest v h m0 made0 few since) → Told S (carried_in pc sr regs) → Tame v.sr (carried_in pc sr regs).sr → ((r : ℕ) → r < 12 → (carried_in pc sr regs).regs r ≡ v.regs r) → (carried_in pc sr regs).regs 12 ≡ sr % 2 → Piece S left most P a rest v h m0 made0 few since n (carried_in pc sr regs)) →
      Piece S left most P a rest v h m0 made0 few since (suc (suc n)) (record v { pc = pc; sr = sr; gate = bit v.sr 3; regs = regs })
  carry_in n pc sr regs tail st calm low next =
      let u = record v { pc = pc; sr = sr; gate = bit v.sr 3; regs = regs } in
      let t = flagged S sr calm.gie calm.off calm.small (settled S h.told) in
      let w = cleared pc sr regs in
      let z = carried_in pc sr regs in
      let at = marked S a.f pc (end S left most P a rest v h m0 made0 few since) [] (Two op2.Mov false (operand_of (literal 0)) (Reg 12)) (two op2.Addc (literal 0) scratch ∷ tail) st in
      let st1 = behind_two S a.f pc (end S left most P a rest v h m0 made0 few since) [] op2.Mov false (operand_of (literal 0)) (Reg 12) (two op2.Addc (literal 0) scratch ∷ tail) st in
      let at1 = marked S a.f w.pc (end S left most P a rest v h m0 made0 few since) [] (Two op2.Addc false (operand_of (literal 0)) (Reg 12)) tail st1 in
      let st2 = behind_two S a.f w.pc (end S left most P a rest v h m0 made0 few since) [] op2.Addc false (operand_of (literal 0)) (Reg 12) tail st1 in
      let again = tame sr _ _ _ _ in
      let small : sr % 2 < 0x10000 = omega arith in
      let t1 = settled S t in
      one S left most P a rest v h m0 made0 few since (suc n) u w t refl (move S.image S.data_end S.marks S.c.sp u (Made 0) scratch 0 (ready S left most P u t) at (refl, omega arith) (omega arith, omega arith))
      (one S left most P a rest v h m0 made0 few since n w z t1 refl (operation S.image S.data_end S.marks S.c.sp w op2.Addc (Made 0) scratch 0 0 refl (omega arith) (ready S left most P w t1) at1 (refl, omega arith) (in_scratch S left most P a rest v h m0 made0 few since v.sp w.regs v.stack 0 (omega arith) refl))
      (next st2 (flagged S z.sr again.gie again.off again.small t1) (record { gie = again.gie ∙ calm.gie; off = again.off ∙ calm.off; small = again.small }) (λ r lo. low_registers S left most P a rest v h m0 made0 few since (changed_at regs 12 0) _ r lo ∙ low_registers S left most P a rest v h m0 made0 few since regs 0 r lo ∙ low r lo) (let e : (0 + 0 + sr % 2) % 0x10000 ≡ sr % 2 = omega arith in e)))

  carry_small : (b : Bool) → number_of b < 0x10000
  carry_small true = omega arith
  carry_small false = omega arith

  pub carry_add : (x p q : ℕ) → instruction S.code a ≡ Some (Carry op.Add x p q) → Piece S left most P a rest v h m0 made0 few since 5 v
  carry_add x p q e =
      let i = Carry op.Add x p q in
      let lt = (names S left most P a rest v h i e).written 0 0 (omega arith) in
      let lp = (names S left most P a rest v h i e).read 0 0 (omega arith) in
      let lq = (names S left most P a rest v h i e).read 1 0 (omega arith) in
      let k = home S left most P a rest v h m0 made0 few since x in
      let n = words.carry op.Add (a.values p) (a.values q) in
      let sr = (operate op2.Add false v.sr (a.values q) (a.values p)).sr in
      let calm = tame v.sr _ _ _ _ in
      let u = held S left most P a rest v h m0 made0 few since p 12 in
      let w = operated S left most P a rest v h m0 made0 few since u scratch (2 + further (at_home (home S left most P a rest v h m0 made0 few since q)) + 0) (words.operate op.Add (a.values p) (a.values q)) sr in
      let tail = moving (literal 0) scratch ∷ two op2.Addc (literal 0) scratch ∷ moving (Of scratch) k ∷ [] in
      let st = stands S left most P a rest v h i e in
      let at = marked S a.f v.pc (end S left most P a rest v h m0 made0 few since) [] (Two op2.Mov false (at_home (home S left most P a rest v h m0 made0 few since p)) (Reg 12)) (two op2.Add (Of (home S left most P a rest v h m0 made0 few since q)) scratch ∷ tail) st in
      let st1 = behind_two S a.f v.pc (end S left most P a rest v h m0 made0 few since) [] op2.Mov false (at_home (home S left most P a rest v h m0 made0 few since p)) (Reg 12) (two op2.Add (Of (home S left most P a rest v h m0 made0 few since q)) scratch ∷ tail) st in
      let at1 = marked S a.f u.pc (end S left most P a rest v h m0 made0 few since) [] (Two op2.Add false (at_home (home S left most P a rest v h m0 made0 few since q)) (Reg 12)) tail st1 in
      let st2 = behind_two S a.f u.pc (end S left most P a rest v h m0 made0 few since) [] op2.Add false (at_home (home S left most P a rest v h m0 made0 few since q)) (Reg 12) tail st1 in
      let low = low_registers S left most P a rest v h m0 made0 few since v.regs (a.values p) in
      let low2 = λ (r : ℕ) (lo : r < 12). low_registers S left most P a rest v h m0 made0 few since u.regs (words.operate op.Add (a.values p) (a.values q)) r lo ∙ low r lo in
      let next : step S.code (a ∷ rest) ≡ Goes (write a x n ∷ rest) = stepped S left most P a rest v h m0 made0 few since i e in
      let t1 = settled S h.told in
      fetch S left most P a rest v h m0 made0 few since p 4 lp at
      (one S left most P a rest v h m0 made0 few since 3 u w t1 refl (operation_on S left most P a rest v h m0 made0 few since u op.Add q scratch (a.values p) t1 refl refl low lq ((placed S left most P a rest v h).values p lp).2 at1 (in_scratch S left most P a rest v h m0 made0 few since v.sp u.regs v.stack (a.values p) ((placed S left most P a rest v h).values p lp).2 refl))
      (carry_in 1 w.pc sr w.regs (moving (Of scratch) k ∷ []) st2 calm low2
      (λ st3 t3 calm3 low3 is.
      let z = carried_in w.pc sr w.regs in
      finish S left most P a rest v h m0 made0 few since x n i e refl refl next lt (carry_small (nat_lt 65535 (a.values p + a.values q))) z.pc z.sr z.gate z.regs st3 t3 calm3.gie low3 (is ∙ carry_of_add v.sr (a.values p) (a.values q) ((placed S left most P a rest v h).values p lp).2 ((placed S left most P a rest v h).values q lq).2))))

  -- C is set where nothing was borrowed
  borrowed : (c : ℕ) (b : Bool) → c ≡ number_of b → (y : Bool) → b ≡ (if y then false else true) → bit_xor c 1 ≡ number_of y
  borrowed c true e true f = absurd (let z : ⊥ = cc in z)
  borrowed c true e false f = ap (λ n. bit_xor n 1) e
  borrowed c false e true f = ap (λ n. bit_xor n 1) e
  borrowed c false e false f = absurd (let z : ⊥ = cc in z)

  borrows : (x y : ℕ) → x < 0x10000 → y < 0x10000 → nat_le 0x10000 (x + (0x10000 - 1 - y) + 1) ≡ (if nat_lt x y then false else true)
  borrows x y lx ly = by (nat_lt x y) refl
    where
      by : (t : Bool) → nat_lt x y ≡ t → nat_le 0x10000 (x + (0x10000 - 1 - y) + 1) ≡ (if t then false else true)
      by true e = grind (arith, nat_tests)
      by false e = grind (arith, nat_tests)

  low_bit : (n : ℕ) (b : Bool) → bit n 0 ≡ b → n % 2 ≡ number_of b
  low_bit n true e = grind (arith, nat_tests)
  low_bit n false e = grind (arith, nat_tests)

  pub carry_sub : (x p q : ℕ) → instruction S.code a ≡ Some (Carry op.Sub x p q) → Piece S left most P a rest v h m0 made0 few since 5 v
  carry_sub x p q e =
      let i = Carry op.Sub x p q in
      let lt = (names S left most P a rest v h i e).written 0 0 (omega arith) in
      let lp = (names S left most P a rest v h i e).read 0 0 (omega arith) in
      let lq = (names S left most P a rest v h i e).read 1 0 (omega arith) in
      let k = home S left most P a rest v h m0 made0 few since x in
      let n = words.carry op.Sub (a.values p) (a.values q) in
      let r = operate op2.Cmp false v.sr (a.values q) (a.values p) in
      let bytes = 2 + further (at_home (home S left most P a rest v h m0 made0 few since q)) + further (at_home (home S left most P a rest v h m0 made0 few since p)) in
      let w = record (passed v bytes) { sr = r.sr } in
      let tail = two op2.Xor (literal 1) scratch ∷ moving (Of scratch) k ∷ [] in
      let behind' = moving (literal 0) scratch ∷ two op2.Addc (literal 0) scratch ∷ tail in
      let st = stands S left most P a rest v h i e in
      let at = marked S a.f v.pc (end S left most P a rest v h m0 made0 few since) [] (Two op2.Cmp false (at_home (home S left most P a rest v h m0 made0 few since q)) (at_home (home S left most P a rest v h m0 made0 few since p))) behind' st in
      let st1 = behind_two S a.f v.pc (end S left most P a rest v h m0 made0 few since) [] op2.Cmp false (at_home (home S left most P a rest v h m0 made0 few since q)) (at_home (home S left most P a rest v h m0 made0 few since p)) behind' st in
      let calm = tame v.sr _ _ _ _ in
      let next : step S.code (a ∷ rest) ≡ Goes (write a x n ∷ rest) = stepped S left most P a rest v h m0 made0 few since i e in
      let word_p = (placed S left most P a rest v h).values p lp in
      let word_q = (placed S left most P a rest v h).values q lq in
      let carry = low_bit r.sr _ (flags_carry v.sr _ _ _ _) in
      one S left most P a rest v h m0 made0 few since 4 v w h.told refl (operation S.image S.data_end S.marks S.c.sp v op2.Cmp (Of (home S left most P a rest v h m0 made0 few since q)) (home S left most P a rest v h m0 made0 few since p) (a.values q) (a.values p) refl (omega arith) (ready S left most P v h.told) at word_q word_p)
      (carry_in 2 w.pc r.sr v.regs tail st1 calm (λ r lo. refl)
      (λ st3 t3 calm3 low3 is.
      let u = carried_in w.pc r.sr v.regs in
      let c = u.regs 12 in
      let small : c < 0x10000 = omega (arith, is) in
      let z = with_result (passed u (2 + 0 + 0)) scratch (operate op2.Xor false u.sr 1 c) in
      let at3 = marked S a.f u.pc (end S left most P a rest v h m0 made0 few since) [] (Two op2.Xor false (operand_of (literal 1)) (Reg 12)) (moving (Of scratch) k ∷ []) st3 in
      let st4 = behind_two S a.f u.pc (end S left most P a rest v h m0 made0 few since) [] op2.Xor false (operand_of (literal 1)) (Reg 12) (moving (Of scratch) k ∷ []) st3 in
      let again = tame_operator op.Xor u.sr 1 c t3.word in
      let t4 = flagged S z.sr again.gie again.off again.small (settled S t3) in
      let gives = borrowed c (nat_le 0x10000 (a.values p + (0x10000 - 1 - a.values q) + 1)) (is ∙ carry) (nat_lt (a.values p) (a.values q)) (borrows (a.values p) (a.values q) word_p.2 word_q.2) in
      one S left most P a rest v h m0 made0 few since 1 u z t3 refl (operation S.image S.data_end S.marks S.c.sp u op2.Xor (Made 1) scratch 1 c refl (xor_lt 16 c 1 small (omega arith)) (ready S left most P u t3) at3 (refl, omega arith) (in_scratch S left most P a rest v h m0 made0 few since v.sp u.regs v.stack c small refl))
      (finish S left most P a rest v h m0 made0 few since x n i e refl refl next lt (carry_small (nat_lt (a.values p) (a.values q))) z.pc z.sr z.gate z.regs st4 t4 (again.gie ∙ calm3.gie) (λ r lo. low_registers S left most P a rest v h m0 made0 few since u.regs _ r lo ∙ low3 r lo) gives)))

  -- a bitwise operation carries nothing
  pub carry_none : (o : Op) (x p q : ℕ) (e : instruction S.code a ≡ Some (Carry o x p q)) → parts_of S.code (S.homes a.f) (S.own a.f) (Carry o x p q) ≡ moving (literal 0) (home S left most P a rest v h m0 made0 few since x) ∷ [] → words.carry o (a.values p) (a.values q) ≡ 0 → Piece S left most P a rest v h m0 made0 few since 1 v
  carry_none o x p q e form none =
      let i = Carry o x p q in
      let k = home S left most P a rest v h m0 made0 few since x in
      let lt = (names S left most P a rest v h i e).written 0 0 (omega arith) in
      let st = subst (λ ps. Stand S a.f v.pc ps (end S left most P a rest v h m0 made0 few since)) form (stands S left most P a rest v h i e) in
      let at = marked S a.f v.pc (end S left most P a rest v h m0 made0 few since) [] (Two op2.Mov false (operand_of (literal 0)) (at_home k)) [] st in
      let pc = behind_two S a.f v.pc (end S left most P a rest v h m0 made0 few since) [] op2.Mov false (operand_of (literal 0)) (at_home k) [] st in
      let next : step S.code (a ∷ rest) ≡ Goes (write a x 0 ∷ rest) = stepped S left most P a rest v h m0 made0 few since i e ∙ ap (λ n. Goes (write a x n ∷ rest)) none in
      let w = passed (put_home v k 0) (2 + 0 + further (at_home k)) in
      one S left most P a rest v h m0 made0 few since 0 v w h.told refl (move S.image S.data_end S.marks S.c.sp v (Made 0) k 0 (ready S left most P v h.told) at (refl, omega arith) (home_here S left most P a rest v h m0 made0 few since x lt))
      (silent S left most P a rest v h m0 made0 few since (write a x 0) rest w next
      (wrote S left most P a rest v h x 0 w.pc v.sr (bit v.sr 3) w.regs v.made v.answers lt (omega arith) (onward_place S left most P a rest v h i e refl) pc (λ r lo. refl) refl
      (goes S.code S.root (a ∷ rest) (h.opens ∷ h.outer) v.made v.answers h.reached (write a x 0 ∷ rest) (h.opens ∷ h.outer) next (opened S left most P a rest v h m0 made0 few since i e refl)) refl (settled S h.told)))

  -- ---- jumps

  leads_to : (pc target : ℕ) → pc % 2 ≡ 0 → pc + 6 < 0x10000 → even target ≡ target → target < 0x10000 → jumped (pc + 2) (words_to (pc + 2) target) ≡ target
  leads_to pc target ev hi et small = by (nat_le (pc + 2) target) refl
    where
      by : (t : Bool) → nat_le (pc + 2) target ≡ t → jumped (pc + 2) (if t then pos ((target - (pc + 2)) / 2) else negsuc ((pc + 2 - target - 1) / 2)) ≡ target
      by true e = let le : pc + 2 ≤ target = grind (arith, nat_tests) in omega (arith, le, ev, et, small)
      by false e = let lt : target < pc + 2 = grind (arith, nat_tests) in omega (arith, lt, ev, et, hi)

  abbrev target : ℕ → ℕ
  target l = S.places a.f (place_of (fn S a).code l)

  -- where the code of a call stands behind a jump
  arrived : (i : Mid) → instruction S.code a ≡ Some i → steady S left most P a rest v h m0 made0 few since i → (to : ℕ) (sr : ℕ) (gate : Bool) (regs : ℕ → ℕ) → to < length (fn S a).code → step S.code (a ∷ rest) ≡ Goes (at_place a to ∷ rest) → ((r : ℕ) → r < 12 → regs r ≡ v.regs r) → bit sr 3 ≡ bit v.sr 3 → ToldAt S v.made v.answers v.sp sr gate v.faulted →
      (pc : ℕ) → pc ≡ S.places a.f to → After S left most P a rest v h m0 made0 few since (record v { pc = pc; sr = sr; gate = gate; regs = regs })
  arrived i e o to sr gate regs inside next low gie' t pc at =
      silent S left most P a rest v h m0 made0 few since (at_place a to) rest (record v { pc = pc; sr = sr; gate = gate; regs = regs }) next
      (stayed S left most P a rest v h to pc sr gate regs v.made v.answers inside at low gie'
      (goes S.code S.root (a ∷ rest) (h.opens ∷ h.outer) v.made v.answers h.reached (at_place a to ∷ rest) (h.opens ∷ h.outer) next (opened S left most P a rest v h m0 made0 few since i e o)) refl t)

  pub go : (l : ℕ) → instruction S.code a ≡ Some (Jump l) → Piece S left most P a rest v h m0 made0 few since 1 v
  go l e = by st.1.long st.1.at
    where
      st : Stand S a.f v.pc (record { silent = []; item = item.Jump jump_if.Jmp l } ∷ []) (end S left most P a rest v h m0 made0 few since)
      st = stands S left most P a rest v h (Jump l) e

      inside : place_of (fn S a).code l < length (fn S a).code
      inside = stands_inside (fn S a).code l ((names S left most P a rest v h (Jump l) e).labels 0 0 (omega arith))

      ev : even (target l) ≡ target l
      ev = P.standing.even_place a.f (place_of (fn S a).code l) (placed S left most P a rest v h).function inside

      small : target l < 0x10000
      small = P.standing.small_place a.f (place_of (fn S a).code l) (placed S left most P a rest v h).function inside

      there' : (gate : Bool) → gate ≡ bit v.sr 3 → After S left most P a rest v h m0 made0 few since (record v { pc = target l; gate = gate })
      there' gate g = arrived (Jump l) e refl (place_of (fn S a).code l) v.sr gate v.regs inside (stepped S left most P a rest v h m0 made0 few since (Jump l) e) (λ r lo. refl) refl (subst (λ x. ToldAt S v.made v.answers v.sp v.sr x v.faulted) (sym g) (settled S h.told)) (target l) refl

      by : (long : Bool) → AreAt S.image v.pc (instructions S.entries long v.pc (target l) (item.Jump jump_if.Jmp l)) st.0 → Piece S left most P a rest v h m0 made0 few since 1 v
      by false at =
          one S left most P a rest v h m0 made0 few since 0 v (record v { pc = target l; gate = bit v.sr 3 }) h.told refl
          (jump_rule S.image S.data_end S.marks S.c.sp v jump_if.Jmp (target l) true (ready S left most P v h.told)
          (record { offset = words_to (v.pc + 2) (target l); at = record { at = at.0; table = st.1.first (let x = at.1 in omega (arith, x)) }; leads = leads_to v.pc (target l) at.0.even at.0.high ev small }) refl)
          (there' (bit v.sr 3) refl)
      by true at =
          one S left most P a rest v h m0 made0 few since 0 v (record v { pc = target l; gate = bit v.sr 3 }) h.told refl
          (go_to S.image S.data_end S.marks S.c.sp v (target l) (ready S left most P v h.told) (record { at = at.0; table = st.1.first (let x = at.1 in omega (arith, x)) }) ev small)
          (there' (bit v.sr 3) refl)

  -- ---- branches

  turn_back : (b : Bool) → b ≡ not (not b)
  turn_back true = refl
  turn_back false = refl

  reversed_not : (t : Test) (sr : ℕ) → is_taken (reversed (taken_by t)) sr ≡ not (is_taken (taken_by t) sr)
  reversed_not test.Eq sr = refl
  reversed_not test.Ne sr = turn_back (bit sr 1)
  reversed_not test.Lt sr = refl
  reversed_not test.Le sr = turn_back (differ (bit sr 2) (bit sr 8))
  reversed_not test.LtU sr = turn_back (bit sr 0)
  reversed_not test.LeU sr = refl

  long_form : (t : Test) (pc to : ℕ) (l : ℕ) → instructions S.entries true pc to (item.Jump (taken_by t) l) ≡ JumpBy (reversed (taken_by t)) (pos 2) ∷ goto to ∷ []
  long_form test.Eq pc to l = refl
  long_form test.Ne pc to l = refl
  long_form test.Lt pc to l = refl
  long_form test.Le pc to l = refl
  long_form test.LtU pc to l = refl
  long_form test.LeU pc to l = refl

  module _ (t : Test) (x y l : ℕ) (e : instruction S.code a ≡ Some (Branch t x y l)) where
    lands_inside : place_of (fn S a).code l < length (fn S a).code
    lands_inside = stands_inside (fn S a).code l ((names S left most P a rest v h (Branch t x y l) e).labels 0 0 (omega arith))

    module _ (pc sr : ℕ) (gate : Bool) (st : Stand S a.f pc (record { silent = []; item = item.Jump (taken_by t) l } ∷ []) (end S left most P a rest v h m0 made0 few since)) (told : ToldAt S v.made v.answers v.sp sr gate v.faulted) (gie' : bit sr 3 ≡ bit v.sr 3) where
      abbrev before : View
      before = record v { pc = pc; sr = sr; gate = gate }

      taken_there : words.holds t (a.values x) (a.values y) ≡ true → After S left most P a rest v h m0 made0 few since (record v { pc = target l; sr = sr; gate = bit sr 3 })
      taken_there is = arrived (Branch t x y l) e refl (place_of (fn S a).code l) sr (bit sr 3) v.regs lands_inside
          (stepped S left most P a rest v h m0 made0 few since (Branch t x y l) e ∙ ap (λ b. Goes ((if b then at_place a (place_of (fn S a).code l) else onward a) ∷ rest)) is) (λ r lo. refl) gie' (settled S told) (target l) refl

      passed_there : words.holds t (a.values x) (a.values y) ≡ false → (at : ℕ) → at ≡ end S left most P a rest v h m0 made0 few since → After S left most P a rest v h m0 made0 few since (record v { pc = at; sr = sr; gate = bit sr 3 })
      passed_there is at same = arrived (Branch t x y l) e refl (a.at + 1) sr (bit sr 3) v.regs (onward_place S left most P a rest v h (Branch t x y l) e refl)
          (stepped S left most P a rest v h m0 made0 few since (Branch t x y l) e ∙ ap (λ b. Goes ((if b then at_place a (place_of (fn S a).code l) else onward a) ∷ rest)) is) (λ r lo. refl) gie' (settled S told) at same

      ev : even (target l) ≡ target l
      ev = P.standing.even_place a.f (place_of (fn S a).code l) (placed S left most P a rest v h).function lands_inside

      small : target l < 0x10000
      small = P.standing.small_place a.f (place_of (fn S a).code l) (placed S left most P a rest v h).function lands_inside

      by_form : (long : Bool) → st.1.long ≡ long → AreAt S.image pc (instructions S.entries long pc (target l) (item.Jump (taken_by t) l)) st.0 → (holds : Bool) → words.holds t (a.values x) (a.values y) ≡ holds → is_taken (taken_by t) sr ≡ holds → (i : ℕ) × (i ≤ 1) × Piece S left most P a rest v h m0 made0 few since (suc i) before
      by_form false form at true is taken =
          let jumps : JumpsTo S.image S.marks pc (target l) (taken_by t) = record { offset = words_to (pc + 2) (target l); at = record { at = at.0; table = st.1.first (let z = at.1 in omega (arith, z)) }; leads = leads_to pc (target l) at.0.even at.0.high ev small } in
          (0, omega arith, one S left most P a rest v h m0 made0 few since 0 before (record v { pc = target l; sr = sr; gate = bit sr 3 }) told refl (jump_rule S.image S.data_end S.marks S.c.sp before (taken_by t) (target l) true (ready S left most P before told) jumps taken) (taken_there is))
      by_form false form at false is taken =
          let jumps : JumpsTo S.image S.marks pc (target l) (taken_by t) = record { offset = words_to (pc + 2) (target l); at = record { at = at.0; table = st.1.first (let z = at.1 in omega (arith, z)) }; leads = leads_to pc (target l) at.0.even at.0.high ev small } in
          (0, omega arith, one S left most P a rest v h m0 made0 few since 0 before (record v { pc = pc + 2; sr = sr; gate = bit sr 3 }) told refl (jump_rule S.image S.data_end S.marks S.c.sp before (taken_by t) (target l) false (ready S left most P before told) jumps taken) (passed_there is (pc + 2) (at.1 ∙ st.2)))
      by_form true form at' true is taken =
          let at = subst (λ is. AreAt S.image pc is st.0) (long_form t pc (target l) l) at' in
          let over : JumpsTo S.image S.marks pc (pc + 6) (reversed (taken_by t)) = record { offset = pos 2; at = record { at = at.0; table = st.1.first (let z = at.1.1 in omega (arith, z)) }; leads = (let hi = at.0.high in omega (arith, hi)) } in
          let mid = record v { pc = pc + 2; sr = sr; gate = bit sr 3 } in
          let not_taken = reversed_not t sr ∙ ap not taken in (
            1,
            omega arith,
            one S left most P a rest v h m0 made0 few since 1 before mid told refl (jump_rule S.image S.data_end S.marks S.c.sp before (reversed (taken_by t)) (pc + 6) false (ready S left most P before told) over not_taken)
                (one S left most P a rest v h m0 made0 few since 0 mid (record v { pc = target l; sr = sr; gate = bit sr 3 }) (settled S told) refl
                (go_to S.image S.data_end S.marks S.c.sp mid (target l) (ready S left most P mid (settled S told)) (record { at = at.1.0; table = st.1.inside (pc + 2) (omega arith) (let z = at.1.1 in omega (arith, z)) }) ev small) (taken_there is)),
          )
      by_form true form at' false is taken =
          let at = subst (λ is. AreAt S.image pc is st.0) (long_form t pc (target l) l) at' in
          let over : JumpsTo S.image S.marks pc (pc + 6) (reversed (taken_by t)) = record { offset = pos 2; at = record { at = at.0; table = st.1.first (let z = at.1.1 in omega (arith, z)) }; leads = (let hi = at.0.high in omega (arith, hi)) } in
          let is_turned' = reversed_not t sr ∙ ap not taken in (
            0,
            omega arith,
            one S left most P a rest v h m0 made0 few since 0 before (record v { pc = pc + 6; sr = sr; gate = bit sr 3 }) told refl (jump_rule S.image S.data_end S.marks S.c.sp before (reversed (taken_by t)) (pc + 6) true (ready S left most P before told) over is_turned')
                (passed_there is (pc + 6) ((let six : pc + 6 ≡ pc + 2 + 4 = omega arith in six) ∙ at.1.1 ∙ st.2)),
          )

  -- CMP of two values
  compare : (p q n : ℕ) (tail : List Part) → p < (fn S a).values → q < (fn S a).values → Stand S a.f v.pc (two op2.Cmp (Of (home S left most P a rest v h m0 made0 few since q)) (home S left most P a rest v h m0 made0 few since p) ∷ tail) (end S left most P a rest v h m0 made0 few since) →
      (Stand S a.f (v.pc + (2 + further (at_home (home S left most P a rest v h m0 made0 few since q)) + further (at_home (home S left most P a rest v h m0 made0 few since p)))) tail (end S left most P a rest v h m0 made0 few since) → Piece S left most P a rest v h m0 made0 few since n (record (passed v (2 + further (at_home (home S left most P a rest v h m0 made0 few since q)) + further (at_home (home S left most P a rest v h m0 made0 few since p)))) { sr = (operate op2.Cmp false v.sr (a.values q) (a.values p)).sr })) → Piece S left most P a rest v h m0 made0 few since (suc n) v
  compare p q n tail lp lq st next =
      let at = marked S a.f v.pc (end S left most P a rest v h m0 made0 few since) [] (Two op2.Cmp false (at_home (home S left most P a rest v h m0 made0 few since q)) (at_home (home S left most P a rest v h m0 made0 few since p))) tail st in
      let st1 = behind_two S a.f v.pc (end S left most P a rest v h m0 made0 few since) [] op2.Cmp false (at_home (home S left most P a rest v h m0 made0 few since q)) (at_home (home S left most P a rest v h m0 made0 few since p)) tail st in
      one S left most P a rest v h m0 made0 few since n v (record (passed v (2 + further (at_home (home S left most P a rest v h m0 made0 few since q)) + further (at_home (home S left most P a rest v h m0 made0 few since p)))) { sr = (operate op2.Cmp false v.sr (a.values q) (a.values p)).sr }) h.told refl
      (operation S.image S.data_end S.marks S.c.sp v op2.Cmp (Of (home S left most P a rest v h m0 made0 few since q)) (home S left most P a rest v h m0 made0 few since p) (a.values q) (a.values p) refl (omega arith) (ready S left most P v h.told) at ((placed S left most P a rest v h).values q lq) ((placed S left most P a rest v h).values p lp)) (next st1)

  pub branch : (t : Test) (x y l : ℕ) → instruction S.code a ≡ Some (Branch t x y l) → (i : ℕ) × (i ≤ 1) × Piece S left most P a rest v h m0 made0 few since (suc (suc i)) v
  branch t x y l e = by (is_turned t) refl
    where
      lx : x < (fn S a).values
      lx = (names S left most P a rest v h (Branch t x y l) e).read 0 0 (omega arith)

      ly : y < (fn S a).values
      ly = (names S left most P a rest v h (Branch t x y l) e).read 1 0 (omega arith)

      tells : (b : Bool) → is_turned t ≡ b → is_taken (taken_by t) (if b then (operate op2.Cmp false v.sr (a.values x) (a.values y)).sr else (operate op2.Cmp false v.sr (a.values y) (a.values x)).sr) ≡ words.holds t (a.values x) (a.values y)
      tells b f = subst (λ c. is_taken (taken_by t) (if c then (operate op2.Cmp false v.sr (a.values x) (a.values y)).sr else (operate op2.Cmp false v.sr (a.values y) (a.values x)).sr) ≡ words.holds t (a.values x) (a.values y)) f
          (cmp_tells t v.sr (a.values x) (a.values y) ((placed S left most P a rest v h).values x lx).2 ((placed S left most P a rest v h).values y ly).2)

      there' : (b : Bool) → is_turned t ≡ b → Stand S a.f v.pc ((if b then two op2.Cmp (Of (home S left most P a rest v h m0 made0 few since x)) (home S left most P a rest v h m0 made0 few since y) else two op2.Cmp (Of (home S left most P a rest v h m0 made0 few since y)) (home S left most P a rest v h m0 made0 few since x)) ∷ record { silent = []; item = item.Jump (taken_by t) l } ∷ []) (end S left most P a rest v h m0 made0 few since)
      there' b f = subst (λ c. Stand S a.f v.pc ((if c then two op2.Cmp (Of (home S left most P a rest v h m0 made0 few since x)) (home S left most P a rest v h m0 made0 few since y) else two op2.Cmp (Of (home S left most P a rest v h m0 made0 few since y)) (home S left most P a rest v h m0 made0 few since x)) ∷ record { silent = []; item = item.Jump (taken_by t) l } ∷ []) (end S left most P a rest v h m0 made0 few since)) f (stands S left most P a rest v h (Branch t x y l) e)

      by : (b : Bool) → is_turned t ≡ b → (i : ℕ) × (i ≤ 1) × Piece S left most P a rest v h m0 made0 few since (suc (suc i)) v
      by true f =
          let sr = (operate op2.Cmp false v.sr (a.values x) (a.values y)).sr in
          let calm = tame v.sr _ _ _ _ in
          let st = there' true f in
          let st1 = behind_two S a.f v.pc (end S left most P a rest v h m0 made0 few since) [] op2.Cmp false (at_home (home S left most P a rest v h m0 made0 few since x)) (at_home (home S left most P a rest v h m0 made0 few since y)) (record { silent = []; item = item.Jump (taken_by t) l } ∷ []) st in
          let r = by_form t x y l e (v.pc + (2 + further (at_home (home S left most P a rest v h m0 made0 few since x)) + further (at_home (home S left most P a rest v h m0 made0 few since y)))) sr (bit v.sr 3) st1 (flagged S sr calm.gie calm.off calm.small (settled S h.told)) calm.gie st1.1.long refl st1.1.at (words.holds t (a.values x) (a.values y)) refl (tells true f) in
          (r.0, r.1, compare y x (suc r.0) (record { silent = []; item = item.Jump (taken_by t) l } ∷ []) ly lx st (λ s. r.2))
      by false f =
          let sr = (operate op2.Cmp false v.sr (a.values y) (a.values x)).sr in
          let calm = tame v.sr _ _ _ _ in
          let st = there' false f in
          let st1 = behind_two S a.f v.pc (end S left most P a rest v h m0 made0 few since) [] op2.Cmp false (at_home (home S left most P a rest v h m0 made0 few since y)) (at_home (home S left most P a rest v h m0 made0 few since x)) (record { silent = []; item = item.Jump (taken_by t) l } ∷ []) st in
          let r = by_form t x y l e (v.pc + (2 + further (at_home (home S left most P a rest v h m0 made0 few since y)) + further (at_home (home S left most P a rest v h m0 made0 few since x)))) sr (bit v.sr 3) st1 (flagged S sr calm.gie calm.off calm.small (settled S h.told)) calm.gie st1.1.long refl st1.1.at (words.holds t (a.values x) (a.values y)) refl (tells false f) in
          (r.0, r.1, compare x y (suc r.0) (record { silent = []; item = item.Jump (taken_by t) l } ∷ []) lx ly st (λ s. r.2))
