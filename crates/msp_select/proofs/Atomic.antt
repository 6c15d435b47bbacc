-- Atomic statements.
use Rattle.std.proofs.Common.{◌≡◌, ⊎_elim, ℕ, suc, ◌+◌, ◌-◌, ◌*◌, ◌/◌, ◌%◌, ◌<◌, ◌≤◌, Bool, true, false, nat_lt, List, [], ◌∷◌, ◌++◌, length, Some, All, refl, sym, ap, ◌∙◌, subst, arith, bit_and}
use Rattle.std.specs.Prelude.{drop}
use Rattle.std.proofs.lemmas.Bool.Decides.{nat_tests}
use Rattle.std.proofs.lemmas.List.Elements.{All-head, All-tail}
use Rattle.nm_base.specs.Lists.{bit}
use Rattle.nm_base.specs.declared.action.Action.{Action}
use Rattle.nm_base.specs.declared.action.Action.TheVariants as action
use Rattle.msp_isa.specs.declared.instr.Instr.TheVariants.{Two}
use Rattle.msp_isa.specs.declared.instr.Op2.TheVariants as op2
use Rattle.msp_isa.specs.declared.instr.Operand.TheVariants.{Reg, Indexed, Constant}
use Rattle.msp_isa.specs.Stands.{word_in}
use Rattle.msp430_cpu.specs.Cpu.{changed_at, even}
use Rattle.msp430_cpu.specs.Memory.{with_word_at}
use Rattle.mid_code.specs.declared.instr.Mid.TheVariants.{Begin, End}
use Rattle.mid_code.specs.Machine.{Activation, Acts, instruction, onward, step}
use Rattle.mid_code.specs.Reached.{AreApart, LastIs, opens_behind}
use Rattle.open_law.specs.Homes.{InFrame}
use Rattle.open_law.specs.Open.{AreMarks}
use Rattle.open_law.proofs.View.{View}
use Rattle.open_law.proofs.Quiet.{put_home, passed}
use Rattle.open_law.proofs.Homes.{closed_gie, closed_cpuoff, closed_small, word_same, word_other, word_above}
use Rattle.open_law.proofs.Chain.{step as chain_step, save, close, nop, restore}
use Rattle.open_law.proofs.Law.{is_inside}
use Rattle.msp_select.specs.Select.{nop as nop_part, plain}
use Rattle.msp_select.proofs.Nest.{nested, is_nested, nested_on, IsEven, inside_is, even_begin, even_end}
use Rattle.msp_select.proofs.Bytes.{byte_other}
use Rattle.msp_select.proofs.Reached.{acts, told as told_of, next_act}
use Rattle.msp_select.proofs.Relation.{Setting, AllApart, Callers, GoodOne, Here, IsSlot, Placed, Saved, Told, clash, fn, settled, total, Sound}
use Rattle.msp_select.proofs.Kept.{Premises, SameFrom, callers_poked, contains, home_behind, ready, words_of}
use Rattle.msp_select.proofs.Doing.{After, NextOne, Piece, acted, behind_two, end, marked, may, one, one_act, onward_place, placed, stands, stepped}

one_more : (a b : ℕ) → suc (a + b) ≡ suc a + b
one_more a b = omega arith

is_above : (n k : ℕ) → n ≡ k → nat_lt 0 n ≡ true → 0 < k
is_above n k e t = grind (arith, nat_tests)

is_none : (n k : ℕ) → n ≡ k → nat_lt 0 n ≡ false → k ≡ 0
is_none n k e t = grind (arith, nat_tests)

above_zero : (n : ℕ) → nat_lt 0 (suc n) ≡ true
above_zero n = grind (arith, nat_tests)

less_one : (n : ℕ) → suc n - 1 ≡ n
less_one n = omega arith

lone_begin : AreMarks (action.Begin ∷ [])
lone_begin = record { silent = (tt, tt); few = omega arith }

lone_end : AreMarks (action.End ∷ [])
lone_end = record { silent = (tt, tt); few = omega arith }

module _ (S : Setting) where
  -- what GIE is, by the number of atomic statements that are open
  pub record Mode (now : Bool) (n : ℕ) : Type 0 where
    pub none : n ≡ 0 → now ≡ bit S.c.sr 3
    pub some : 0 < n → now ≡ false
    pub closed : bit S.c.sr 3 ≡ false → now ≡ false

  some_open : (a b : ℕ) → suc a + b ≡ 0 → ⊥
  some_open a b e = omega (arith, e)

  pub saved_mode : (f : ℕ) (stack : ℕ → ℕ) (sp : ℕ) (now : Bool) (xs : List ℕ) (first : Bool) (n : ℕ) → Mode first n → Saved S f stack sp now xs first → Mode now (length xs + n)
  saved_mode f stack sp now [] first n m h = record { none = λ e. h ∙ m.none (omega (arith, e)); some = λ lt. h ∙ m.some (omega (arith, lt)); closed = λ k. h ∙ m.closed k }
  saved_mode f stack sp now (x ∷ xs) first n m h = record { none = λ e. absurd (some_open (length xs) n e); some = λ lt. h.0; closed = λ k. h.0 }

  pub callers_mode : (stack : ℕ → ℕ) (now : Bool) (s f : ℕ) (rest : List Activation) (outer : List (List ℕ)) → Callers S stack now s f rest outer → Mode now (total S outer)
  callers_mode stack now s f [] [] h = record { none = λ e. h.2; some = λ lt. absurd (omega (arith, lt)); closed = λ k. h.2 ∙ k }
  callers_mode stack now s f [] (o ∷ outer) h = absurd h
  callers_mode stack now s f (a ∷ rest) [] h = absurd h
  callers_mode stack now s f (a ∷ rest) (opens ∷ outer) h =
      saved_mode a.f stack (s + 2 + 2 * words_of S f) now opens h.0 (total S outer) (callers_mode stack h.0 (s + 2 + 2 * words_of S f + S.own a.f) a.f rest outer h.2) (h.1.placed (λ r. 0)).saved

  all_apart : (x : ℕ) (xs : List ℕ) → All (AreApart 2 x) xs → AllApart S x xs
  all_apart x [] h = tt
  all_apart x (y ∷ xs) h = (All-head (AreApart 2 x) y xs h, all_apart x xs (All-tail (AreApart 2 x) y xs h))

  -- the words saved at the places that are open stay where another place is written
  saved_under : (f : ℕ) (stack : ℕ → ℕ) (sp : ℕ) (xs : List ℕ) (x n : ℕ) (now first : Bool) → even sp ≡ sp → even x ≡ x → AllApart S x xs → Saved S f stack sp now xs first → Saved S f (with_word_at stack (sp + x) n) sp now xs first
  saved_under f stack sp [] x n now first es ex differ s = s
  saved_under f stack sp (y ∷ xs) x n now first es ex differ s =
      let ey = s.1.even in
      let w : word_in (with_word_at stack (sp + x) n) (sp + y) ≡ word_in stack (sp + y) =
      word_other stack (sp + x) (sp + y) n (omega (arith, es, ex)) (omega (arith, es, ey)) (λ p. ⊎_elim (λ l. omega (arith, l, p)) (λ g. omega (arith, g, p)) differ.0) in (
        s.0,
        s.1,
        subst (λ k. k < 0x10000) (sym w) s.2,
        ap (λ k. bit k 4) w ∙ s.3,
        s.4,
        saved_under f stack sp xs x n (bit (word_in (with_word_at stack (sp + x) n) (sp + y)) 3) first es ex differ.1 (subst (λ k. Saved S f stack sp (bit k 3) xs first) (sym w) s.5),
      )

module _ (S : Setting) (left : List Activation → ℕ) (most : ℕ) (P : Premises S left most) (a : Activation) (rest : List Activation) (v : View) (h : Here S a rest v) (m0 : ℕ) (made0 : List Action) (few : 2 * left (a ∷ rest) ≤ m0) (since : v.made ≡ made0) where
  module _ (x : ℕ) (e : instruction S.code a ≡ Some (Begin x)) where
    slot : IsSlot S a.f x
    slot = record { even = (let al = (may S left most P a rest v h (Begin x) e).aligned in omega (arith, al)); room = (may S left most P a rest v h (Begin x) e).inside; begins = contains (fn S a).code a.at (Begin x) e }

    -- the call inside one more atomic statement
    placed_begun : (sr : ℕ) → bit sr 3 ≡ false → Placed S (onward a) (x ∷ h.opens) (bit sr 3) h.first v.sp v.regs (with_word_at v.stack (v.sp + x) v.sr)
    placed_begun sr shut =
        let p = placed S left most P a rest v h in
        let back = word_same v.stack (v.sp + x) v.sr h.told.word in
        let room = slot.room in
        let stack' = with_word_at v.stack (v.sp + x) v.sr in
        let same : SameFrom S (v.sp + (fn S a).frame) v.stack stack' = λ b le. word_above v.stack (v.sp + x) v.sr b (omega (arith, le, room)) in
        let far = all_apart S x h.opens (may S left most P a rest v h (Begin x) e).apart in
        record {
          function = p.function;
          values = λ w lt. let old = p.values w lt in (old.0, home_behind S left most P a h.opens (bit v.sr 3) h.first v.sp v.regs v.stack p (S.homes a.f w) v.regs stack' ((P.framed a.f p.function).kept w lt) (λ r lo. refl) same ∙ old.1, old.2);
          bytes = λ o free.
              let old = p.bytes o free in
              let n0 = byte_other v.stack (v.sp + x) (v.sr % 256) (v.sp + o) (λ z. ⊎_elim (λ l. omega (arith, l, z)) (λ g. omega (arith, g, z)) (free.apart x slot.begins)) in
              let n1 = byte_other (changed_at v.stack (v.sp + x) (v.sr % 256)) (v.sp + x + 1) (v.sr / 256 % 256) (v.sp + o) (λ z. ⊎_elim (λ l. omega (arith, l, z)) (λ g. omega (arith, g, z)) (free.apart x slot.begins)) in
              (n1 ∙ n0 ∙ old.0, old.1);
          saved = (
            shut,
            slot,
            subst (λ k. k < 0x10000) (sym back) h.told.word,
            ap (λ k. bit k 4) back ∙ h.told.awake,
            far,
            saved_under S a.f v.stack v.sp h.opens x v.sr (bit (word_in stack' (v.sp + x)) 3) h.first p.even_sp slot.even far
                (subst (λ k. Saved S a.f v.stack v.sp (bit k 3) h.opens h.first) (sym back) p.saved),
          );
          low = p.low;
          room = p.room;
          even_sp = p.even_sp;
        }

    -- before the NOP: interrupts are closed, but the gate may still be open
    good_nop : (u : View) → u.made ≡ v.made → u.answers ≡ v.answers → u.sp ≡ v.sp → bit u.sr 3 ≡ false → bit u.sr 4 ≡ false → u.sr < 0x10000 → u.gate ≡ bit v.sr 3 → u.faulted ≡ v.faulted → S.marks u.pc ≡ action.Begin ∷ [] → GoodOne S u
    good_nop u em ea es shut awake word gate ef begins = (law, ef ∙ h.told.going, subst (λ s. s ≤ S.c.sp) (sym es) h.told.below)
      where
        t : Told S v
        t = h.told

        begun' : (marked : List Action) → marked ≡ action.Begin ∷ [] → is_inside (u.made ++ marked) ≡ true
        begun' marked q =
            ap (λ l. is_inside (u.made ++ l)) q
            ∙ inside_is (u.made ++ (action.Begin ∷ [])) (even_begin u.made (subst IsEven (sym em) t.depth))
            ∙ ap (λ n. nat_lt 0 n) (nested_on 0 u.made action.Begin)
            ∙ above_zero (nested 0 u.made)

        law : Sound S u
        law = record {
          low = subst (λ s. S.c.sp ≤ s + S.deep S.root) (sym es) t.low;
          high = let b = t.below in omega (arith, b, es);
          even_sp = ap even es ∙ t.even_sp ∙ sym es;
          word = word;
          awake = awake;
          closed = λ k. (shut, gate ∙ (t.closed k).0);
          inside = λ k. gate ∙ (t.inside (sym (inside_is v.made t.depth) ∙ ap is_inside (sym em) ∙ k)).0;
          outside = λ o k g. (gate ∙ t.outside o (sym (inside_is v.made t.depth) ∙ ap is_inside (sym em) ∙ k), begun' (S.marks u.pc) begins);
          back = λ l. let b = t.below in absurd (omega (arith, b, es, l));
        }

    pub begin : Piece S left most P a rest v h m0 made0 few since 3 v
    begin =
        let st = stands S left most P a rest v h (Begin x) e in
        let did' = action.Begin in
        let g = onward a in
        let p = placed S left most P a rest v h in
        let room : v.sp + x + 2 ≤ S.c.sp + 2 = let r = slot.room in let f = (P.framed a.f p.function).frame in let q = p.room in omega (arith, r, f, q) in
        let sr = bit_and v.sr 0xFFF7 in
        let u = passed (put_home v (InFrame x) v.sr) 4 in
        let u2 = record (passed u 2) { sr = sr } in
        let z = record (passed u2 2) { made = v.made ++ (did' ∷ []) } in
        let tail2 = nop_part (did' ∷ []) ∷ [] in
        let tail1 = plain (Two op2.Bic false (Constant 8) (Reg 2)) ∷ tail2 in
        let at0 = marked S a.f v.pc (end S left most P a rest v h m0 made0 few since) [] (Two op2.Mov false (Reg 2) (Indexed 1 x)) tail1 st in
        let st1 = behind_two S a.f v.pc (end S left most P a rest v h m0 made0 few since) [] op2.Mov false (Reg 2) (Indexed 1 x) tail1 st in
        let at1 = marked S a.f u.pc (end S left most P a rest v h m0 made0 few since) [] (Two op2.Bic false (Constant 8) (Reg 2)) tail2 st1 in
        let st2 = behind_two S a.f u.pc (end S left most P a rest v h m0 made0 few since) [] op2.Bic false (Constant 8) (Reg 2) tail2 st1 in
        let at2 = marked S a.f u2.pc (end S left most P a rest v h m0 made0 few since) (did' ∷ []) (Two op2.Mov false (Constant 0) (Reg 3)) [] st2 in
        let pc = behind_two S a.f u2.pc (end S left most P a rest v h m0 made0 few since) (did' ∷ []) op2.Mov false (Constant 0) (Reg 3) [] st2 in
        let next : step S.code (a ∷ rest) ≡ Acts did' (g ∷ rest) = stepped S left most P a rest v h m0 made0 few since (Begin x) e in
        let opens' : opens_behind (instruction S.code a) (h.opens ∷ h.outer) ≡ (x ∷ h.opens) ∷ h.outer = ap (λ i. opens_behind i (h.opens ∷ h.outer)) e in
        let reached = acts S.code S.root (a ∷ rest) (h.opens ∷ h.outer) v.made v.answers h.reached did' (g ∷ rest) ((x ∷ h.opens) ∷ h.outer) next opens' in
        let t1 = settled S h.told in
        let shut = closed_gie v.sr in
        let off = closed_cpuoff v.sr ∙ h.told.awake in
        let count = nested_on 0 v.made did' in
        let within : is_nested z.made ≡ true = ap (λ n. nat_lt 0 n) count ∙ above_zero (nested 0 v.made) in
        let t3 : Told S z = record {
          told = told_of S.code S.root (g ∷ rest) ((x ∷ h.opens) ∷ h.outer) z.made v.answers reached;
          low = t1.low;
          below = t1.below;
          even_sp = t1.even_sp;
          awake = off;
          word = closed_small v.sr;
          going = t1.going;
          closed = λ k. (shut, shut);
          depth = even_begin v.made t1.depth;
          inside = λ k. (shut, shut);
          outside = λ o k. absurd (clash S (is_nested z.made) k within);
        } in
        let ready' = ready S left most P u t1 in
        let same : SameFrom S (v.sp + (fn S a).frame) v.stack (with_word_at v.stack (v.sp + x) v.sr) = λ b le. word_above v.stack (v.sp + x) v.sr b (let r = slot.room in omega (arith, le, r)) in
        one S left most P a rest v h m0 made0 few since 2 v u h.told refl (save S.image S.data_end S.marks S.c.sp v x (ready S left most P v h.told) h.told.word at0 slot.even room)
        (one S left most P a rest v h m0 made0 few since 1 u u2 t1 refl (close S.image S.data_end S.marks S.c.sp u ready' h.told.word at1)
        (chain_step S.image S.data_end S.marks S.c.sp (GoodOne S) (NextOne S left most P a rest v h m0 made0 few since) (After S left most P a rest v h m0 made0 few since) 0 u2 z (good_nop u2 refl refl refl shut off (closed_small v.sr) refl refl at2.table)
        (nop S.image S.data_end S.marks S.c.sp u2 (did' ∷ []) lone_begin (ready'.0, off, ready'.2) at2)
        (next_act S.code S.root (a ∷ rest) (h.opens ∷ h.outer) v.made v.answers h.reached did' (g ∷ rest) next)
        (acted S left most P a rest v h m0 made0 few since g rest z did'
        (record {
          opens = x ∷ h.opens;
          outer = h.outer;
          first = h.first;
          placed = placed_begun sr shut;
          callers = callers_poked S left most P a h.opens (bit v.sr 3) h.first v.sp v.regs v.stack p (with_word_at v.stack (v.sp + x) v.sr) rest h.outer same h.callers;
          place = onward_place S left most P a rest v h (Begin x) e refl;
          pc = pc;
          reached = reached;
          nest = count ∙ ap suc h.nest ∙ one_more (length h.opens) (total S h.outer);
          told = t3;
        }) refl)))

  module _ (x : ℕ) (e : instruction S.code a ≡ Some (End x)) where
    pub finish_atomic : Piece S left most P a rest v h m0 made0 few since 1 v
    finish_atomic = by h.opens refl (may S left most P a rest v h (End x) e)
      where
        by : (opens : List ℕ) → h.opens ≡ opens → LastIs x opens → Piece S left most P a rest v h m0 made0 few since 1 v
        by [] eo last = absurd last
        by (y ∷ xs) eo last =
            let g = onward a in
            let p = placed S left most P a rest v h in
            let st = stands S left most P a rest v h (End x) e in
            let s0 = subst (λ o. Saved S a.f v.stack v.sp (bit v.sr 3) o h.first) eo p.saved in
            let s = subst (λ n. Saved S a.f v.stack v.sp (bit v.sr 3) (n ∷ xs) h.first) last s0 in
            let slot' = s.1 in
            let room : v.sp + x + 2 ≤ S.c.sp + 2 = let r = slot'.room in let f = (P.framed a.f p.function).frame in let q = p.room in omega (arith, r, f, q) in
            let word = word_in v.stack (v.sp + x) in
            let z = record (passed v 4) { sr = word; made = v.made ++ (action.End ∷ []) } in
            let at = marked S a.f v.pc (end S left most P a rest v h m0 made0 few since) (action.End ∷ []) (Two op2.Mov false (Indexed 1 x) (Reg 2)) [] st in
            let pc = behind_two S a.f v.pc (end S left most P a rest v h m0 made0 few since) (action.End ∷ []) op2.Mov false (Indexed 1 x) (Reg 2) [] st in
            let next : step S.code (a ∷ rest) ≡ Acts action.End (g ∷ rest) = stepped S left most P a rest v h m0 made0 few since (End x) e in
            let opens' : opens_behind (instruction S.code a) (h.opens ∷ h.outer) ≡ xs ∷ h.outer = ap (λ i. opens_behind i (h.opens ∷ h.outer)) e ∙ ap (λ o. drop 1 o ∷ h.outer) eo in
            let reached = acts S.code S.root (a ∷ rest) (h.opens ∷ h.outer) v.made v.answers h.reached action.End (g ∷ rest) (xs ∷ h.outer) next opens' in
            let mode = saved_mode S a.f v.stack v.sp (bit word 3) xs h.first (total S h.outer) (callers_mode S v.stack h.first (v.sp + S.own a.f) a.f rest h.outer h.callers) s.5 in
            let was : nested 0 v.made ≡ suc (length xs + total S h.outer) = h.nest ∙ ap (λ l. length l + total S h.outer) eo ∙ sym (one_more (length xs) (total S h.outer)) in
            let count : nested 0 z.made ≡ length xs + total S h.outer = nested_on 0 v.made action.End ∙ ap (λ n. n - 1) was ∙ less_one (length xs + total S h.outer) in
            let within : is_nested v.made ≡ true = ap (λ n. nat_lt 0 n) was ∙ above_zero (length xs + total S h.outer) in
            let t1 = h.told in
            let t : Told S z = record {
              told = told_of S.code S.root (g ∷ rest) (xs ∷ h.outer) z.made v.answers reached;
              low = t1.low;
              below = t1.below;
              even_sp = t1.even_sp;
              awake = s.3;
              word = s.2;
              going = t1.going;
              closed = λ k. (mode.closed k, (t1.closed k).0);
              depth = even_end v.made (length xs + total S h.outer) was t1.depth;
              inside = λ k. (mode.some (is_above (nested 0 z.made) (length xs + total S h.outer) count k), (t1.inside within).0);
              outside = λ o k. mode.none (is_none (nested 0 z.made) (length xs + total S h.outer) count k) ∙ o;
            } in
            one_act S left most P a rest v h m0 made0 few since 0 v z h.told (next_act S.code S.root (a ∷ rest) (h.opens ∷ h.outer) v.made v.answers h.reached action.End (g ∷ rest) next) (restore S.image S.data_end S.marks S.c.sp v x (action.End ∷ []) lone_end (ready S left most P v h.told) at slot'.even room)
            (acted S left most P a rest v h m0 made0 few since g rest z action.End
            (record {
              opens = xs;
              outer = h.outer;
              first = h.first;
              placed = record { function = p.function; values = p.values; bytes = p.bytes; saved = s.5; low = p.low; room = p.room; even_sp = p.even_sp };
              callers = h.callers;
              place = onward_place S left most P a rest v h (End x) e refl;
              pc = pc;
              reached = reached;
              nest = count;
              told = t;
            }) refl)
