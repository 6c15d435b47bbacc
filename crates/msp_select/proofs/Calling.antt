-- Calls: values are pushed, and the function called begins.
use Rattle.std.proofs.Common.{◌≡◌, ◌≢◌, ◌⊎◌, ℕ, suc, ◌+◌, ◌-◌, ◌*◌, ◌<◌, ◌≤◌, ◌==◌, Bool, true, false, cond, List, [], ◌∷◌, ◌++◌, length, map, Some, All, refl, sym, ap, ◌∙◌, subst, arith}
use mathlib.Core.Logic.{inl, inr}
use Rattle.std.proofs.lemmas.Bool.{eq-eqb, ne_eqb}
use Rattle.std.proofs.lemmas.Bool.Decides.{eqb_tells}
use Rattle.std.proofs.lemmas.List.Elements.{All-head, All-tail}
use Rattle.nm_base.specs.Lists.{bit}
use Rattle.nm_base.specs.declared.action.Action.{Action}
use Rattle.msp_isa.specs.declared.code.Item.TheVariants as item
use Rattle.msp_isa.specs.declared.instr.Instr.TheVariants.{One}
use Rattle.msp_isa.specs.declared.instr.Op1.TheVariants as op1
use Rattle.msp_isa.specs.declared.instr.Operand.TheVariants.{Immediate}
use Rattle.msp_isa.specs.Stands.{word_in}
use Rattle.msp430_cpu.specs.Cpu.{even}
use Rattle.msp430_cpu.specs.Exec.{further}
use Rattle.msp430_cpu.specs.Memory.{with_word_at}
use Rattle.mid_code.specs.declared.instr.Mid.TheVariants.{Call}
use Rattle.mid_code.specs.Machine.{Activation, Goes, entry, fn_of, instruction, put, put_all, step}
use Rattle.mid_code.specs.Reached.{opens_behind}
use Rattle.open_law.specs.Homes.{Home, InRegister, InFrame, Of, at_home}
use Rattle.open_law.specs.Stands.{IsMarked}
use Rattle.open_law.proofs.View.{View}
use Rattle.open_law.proofs.Quiet.{HasAt, held_at, passed}
use Rattle.open_law.proofs.Flow.{pushing as pushing_view}
use Rattle.open_law.proofs.Homes.{word_above, word_same}
use Rattle.open_law.proofs.Chain.{push, call}
use Rattle.msp_select.specs.Frames.{count_pushed, is_among, pushed, pushed_behind}
use Rattle.msp_select.specs.Select.{Part, deeper, pushes, raised, takes}
use Rattle.msp_select.specs.Sound.{IsDeeper, PartsStand}
use Rattle.msp_select.proofs.Reached.{goes}
use Rattle.msp_select.proofs.Relation.{Setting, Callers, Here, IsCaller, Placed, ToldAt, fn, labels, moved, settled}
use Rattle.msp_select.proofs.Kept.{Premises, SameFrom, callers_on, placed_on, ready, word_on, words_of}
use Rattle.msp_select.proofs.Doing.{EntersBy, Piece, Stand, begun, behind_one, end, few_left, fits, marked, names, one, placed, stands, stepped}

abbrev pub longer_by : List ℕ → ℕ → ℕ
longer_by [] n = n
longer_by (x ∷ xs) n = suc (longer_by xs n)

pub longer_few : (xs : List ℕ) (n : ℕ) → longer_by xs n ≡ length xs + n
longer_few [] n = omega arith
longer_few (x ∷ xs) n = let h = longer_few xs n in omega (arith, h)

pub few_pushed : (ps xs : List ℕ) → length (pushed ps xs) ≤ count_pushed ps
few_pushed [] xs = omega arith
few_pushed (p ∷ ps) [] = omega arith
few_pushed (p ∷ ps) (x ∷ xs) = by (few_pushed ps xs) (is_among ps p)
  where
    by : length (pushed ps xs) ≤ count_pushed ps → (b : Bool) → length (cond b (pushed ps xs) (x ∷ pushed ps xs)) ≤ cond b (count_pushed ps) (suc (count_pushed ps))
    by h true = h
    by h false = omega (arith, h)

-- ---- values put to parameters

put_here : (values : ℕ → ℕ) (p x : ℕ) → put values p x p ≡ x
put_here values p x = ap (λ b. cond b x (values p)) (eq-eqb p p refl)

put_there : (values : ℕ → ℕ) (p x w : ℕ) → p ≢ w → put values p x w ≡ values w
put_there values p x w ne = ap (λ b. cond b x (values w)) (ne_eqb w p (λ e. ne (sym e)))

-- w is no parameter, and so none of the first
not_first : (p w : ℕ) (b c : Bool) → (p == w) ≡ b → cond b true c ≡ false → (b ≡ false) × (c ≡ false)
not_first p w true c e h = absurd (let z : ⊥ = cc in z)
not_first p w false c e h = (refl, h)

apart_of : (p w : ℕ) → (p == w) ≡ false → p ≢ w
apart_of p w e h = let t : (p == w) ≡ true = eq-eqb p w h in absurd (let z : ⊥ = cc in z)

pub put_all_apart : (values : ℕ → ℕ) (ps xs : List ℕ) (w : ℕ) → is_among ps w ≡ false → put_all values ps xs w ≡ values w
put_all_apart values [] xs w h = refl
put_all_apart values (p ∷ ps) [] w h = refl
put_all_apart values (p ∷ ps) (x ∷ xs) w h =
    let n = not_first p w (p == w) (is_among ps w) refl h in
    put_all_apart (put values p x) ps xs w n.1 ∙ put_there values p x w (apart_of p w n.0)

pub put_all_same : (values values' : ℕ → ℕ) (ps xs : List ℕ) (w : ℕ) → length xs ≡ length ps → is_among ps w ≡ true → put_all values ps xs w ≡ put_all values' ps xs w
put_all_same values values' [] xs w many h = absurd (let z : ⊥ = cc in z)
put_all_same values values' (p ∷ ps) [] w many h = absurd (omega (arith, many))
put_all_same values values' (p ∷ ps) (x ∷ xs) w many h = by (λ t. put_all_same (put values p x) (put values' p x) ps xs w (omega (arith, many)) t) (is_among ps w) refl
  where
    first : (b : Bool) → (p == w) ≡ b → cond b true (is_among ps w) ≡ true → is_among ps w ≡ false → p ≡ w
    first true e k f = eqb_same (eqb_tells p w)
      where
        eqb_same : (((p == w) ≡ true) × (p ≡ w)) ⊎ (((p == w) ≡ false) × (p ≢ w)) → p ≡ w
        eqb_same (inl t) = t.1
        eqb_same (inr t) = absurd (let y = t.0 in let z : ⊥ = cc in z)
    first false e k f = absurd (let z : ⊥ = cc in z)

    by : (is_among ps w ≡ true → put_all (put values p x) ps xs w ≡ put_all (put values' p x) ps xs w) → (b : Bool) → is_among ps w ≡ b → put_all (put values p x) ps xs w ≡ put_all (put values' p x) ps xs w
    by go true e = go e
    by go false e =
        let same = first (p == w) refl h e in
        put_all_apart (put values p x) ps xs w e ∙ ap (put values p x) (sym same) ∙ put_here values p x ∙ sym (put_here values' p x) ∙ ap (put values' p x) same ∙ sym (put_all_apart (put values' p x) ps xs w e)

module _ (S : Setting) (left : List Activation → ℕ) (most : ℕ) (P : Premises S left most) (a : Activation) (rest : List Activation) (v : View) (h : Here S a rest v) (m0 : ℕ) (made0 : List Action) (few : 2 * left (a ∷ rest) ≤ m0) (since : v.made ≡ made0) where
  abbrev lower : ℕ → ℕ → Bool → (ℕ → ℕ) → View
  lower pc sp gate stack = record v { pc = pc; sp = sp; gate = gate; stack = stack }

  -- parameters stand where they were pushed
  abbrev Passes : List ℕ → List ℕ → ℕ → (ℕ → ℕ) → Type 0
  Passes ps xs base stack =
      (w : ℕ) → is_among ps w ≡ true → (word_in stack (base + 2 * pushed_behind ps w) ≡ put_all (λ i. 0) ps (map a.values xs) w) × (put_all (λ i. 0) ps (map a.values xs) w < 0x10000)

  -- a value has its home below SP's old place
  has_deeper : (hx : Home) (x n k sp : ℕ) (stack : ℕ → ℕ) → sp + 2 * k ≡ v.sp → SameFrom S v.sp v.stack stack → HasAt (S.c.sp + 2) v.sp v.regs v.stack (Of hx) n → HasAt (S.c.sp + 2) sp v.regs stack (Of (deeper k hx)) n
  has_deeper (InRegister r) x n k sp stack e same old = old
  has_deeper (InFrame y) x n k sp stack e same old =
      let ev = old.0.0 in let hi = old.0.1 in
      let at : sp + (y + 2 * k) ≡ v.sp + y = omega (arith, e) in
      let word = ap (word_in stack) at ∙ word_on v.stack stack (v.sp + y) (same (v.sp + y) (omega arith)) (same (v.sp + y + 1) (omega arith)) ∙ old.1 in
      (((omega (arith, ev)), omega (arith, hi, e)), word, old.2)

  abbrev Going : (ps xs : List ℕ) (n : ℕ) (tail : List Part) (sp base : ℕ) (stack : ℕ → ℕ) → Type 0
  Going ps xs n tail sp base stack =
      (pc' : ℕ) (gate' : Bool) (stack' : ℕ → ℕ) → SameFrom S sp stack stack' → Passes ps xs base stack' → Stand S a.f pc' tail (end S left most P a rest v h m0 made0 few since) → ToldAt S v.made v.answers base v.sr gate' v.faulted → Piece S left most P a rest v h m0 made0 few since n (lower pc' base gate' stack')

  among_first : (p w : ℕ) (ps : List ℕ) → is_among ps p ≡ true → is_among (p ∷ ps) w ≡ true → is_among ps w ≡ true
  among_first p w ps there' h' = by (eqb_tells p w)
    where
      by : (((p == w) ≡ true) × (p ≡ w)) ⊎ (((p == w) ≡ false) × (p ≢ w)) → is_among ps w ≡ true
      by (inl t) = ap (is_among ps) (sym t.1) ∙ there'
      by (inr t) = sym (ap (λ b. cond b true (is_among ps w)) t.0) ∙ h'

  first_of : (p w : ℕ) (ps : List ℕ) → is_among ps w ≡ false → is_among (p ∷ ps) w ≡ true → p ≡ w
  first_of p w ps none h' = by (eqb_tells p w)
    where
      by : (((p == w) ≡ true) × (p ≡ w)) ⊎ (((p == w) ≡ false) × (p ≢ w)) → p ≡ w
      by (inl t) = t.1
      by (inr t) = absurd (let q = sym none ∙ sym (ap (λ b. cond b true (is_among ps w)) t.0) ∙ h' in let z : ⊥ = cc in z)

  abbrev PushesOn : (ps xs : List ℕ) → Type 0
  PushesOn ps xs = (k n : ℕ) (tail : List Part) (pc sp base : ℕ) (gate : Bool) (stack : ℕ → ℕ) → length xs ≡ length ps → All (λ x. x < (fn S a).values) xs → sp + 2 * k ≡ v.sp → SameFrom S v.sp v.stack stack →
      sp ≡ base + 2 * count_pushed ps → S.c.sp ≤ base + S.deep S.root → even base ≡ base → Stand S a.f pc (pushes S.code (S.homes a.f) (S.own a.f) k (pushed ps xs) ++ tail) (end S left most P a rest v h m0 made0 few since) → ToldAt S v.made v.answers sp v.sr gate v.faulted →
      Going ps xs n tail sp base stack → Piece S left most P a rest v h m0 made0 few since (longer_by (pushed ps xs) n) (lower pc sp gate stack)

  pushing : (ps xs : List ℕ) → PushesOn ps xs
  pushing [] xs k n tail pc sp base gate stack many all ek same e low ev st t go =
      let z : base ≡ sp = omega (arith, e) in
      subst (λ s. Piece S left most P a rest v h m0 made0 few since n (lower pc s gate stack)) z (go pc gate stack (λ b le. refl) (λ w none. absurd (let y : ⊥ = cc in y)) st (subst (λ s. ToldAt S v.made v.answers s v.sr gate v.faulted) (sym z) t))
  pushing (p ∷ ps) [] k n tail pc sp base gate stack many all ek same e low ev st t go = absurd (omega (arith, many))
  pushing (p ∷ ps) (x ∷ xs) k n tail pc sp base gate stack many all ek same e low ev st t go = by (pushing ps xs) (is_among ps p) refl st e
    where
      short : length xs ≡ length ps
      short = omega (arith, many)

      others : All (λ y. y < (fn S a).values) xs
      others = All-tail (λ y. y < (fn S a).values) x xs all

      lx : x < (fn S a).values
      lx = All-head (λ y. y < (fn S a).values) x xs all

      val : HasAt (S.c.sp + 2) v.sp v.regs v.stack (Of (S.homes a.f x)) (a.values x)
      val = (placed S left most P a rest v h).values x lx

      again : (w : ℕ) → is_among ps w ≡ true → put_all (λ i. 0) ps (map a.values xs) w ≡ put_all (put (λ i. 0) p (a.values x)) ps (map a.values xs) w
      again w h' = put_all_same (λ i. 0) (put (λ i. 0) p (a.values x)) ps (map a.values xs) w (lengths xs ∙ short) h'
        where
          lengths : (l : List ℕ) → length (map a.values l) ≡ length l
          lengths [] = refl
          lengths (y ∷ l) = ap suc (lengths l)

      -- the later ones stand where they were pushed
      later : (stack' : ℕ → ℕ) → Passes ps xs base stack' → (w : ℕ) → is_among ps w ≡ true → (word_in stack' (base + 2 * pushed_behind (p ∷ ps) w) ≡ put_all (put (λ i. 0) p (a.values x)) ps (map a.values xs) w) × (put_all (put (λ i. 0) p (a.values x)) ps (map a.values xs) w < 0x10000)
      later stack' there' w h' =
          let r = there' w h' in
          (ap (λ b. word_in stack' (base + 2 * cond b (pushed_behind ps w) (count_pushed ps))) h' ∙ r.0 ∙ again w h', subst (λ m. m < 0x10000) (again w h') r.1)

      by : PushesOn ps xs → (b : Bool) → is_among ps p ≡ b → Stand S a.f pc (pushes S.code (S.homes a.f) (S.own a.f) k (cond b (pushed ps xs) (x ∷ pushed ps xs)) ++ tail) (end S left most P a rest v h m0 made0 few since) → sp ≡ base + 2 * cond b (count_pushed ps) (suc (count_pushed ps)) → Piece S left most P a rest v h m0 made0 few since (longer_by (cond b (pushed ps xs) (x ∷ pushed ps xs)) n) (lower pc sp gate stack)
      by more true f st' e' =
          more k n tail pc sp base gate stack short others ek same e' low ev st' t
          (λ pc' gate' stack' same' there' st'' t'. go pc' gate' stack' same' (λ w h'. later stack' there' w (among_first p w ps f h')) st'' t')
      by more false f st' e' =
          let u = lower pc sp gate stack in
          let hx = deeper k (S.homes a.f x) in
          let m = a.values x in
          let w0 = passed (pushing_view u m) (2 + further (at_home hx)) in
          let stack1 = with_word_at stack (sp - 2) m in
          let room = P.start.room in
          let at = marked S a.f pc (end S left most P a rest v h m0 made0 few since) [] (One op1.Push false (at_home hx)) (pushes S.code (S.homes a.f) (S.own a.f) (suc k) (pushed ps xs) ++ tail) st' in
          let st1 = behind_one S a.f pc (end S left most P a rest v h m0 made0 few since) [] op1.Push false (at_home hx) (pushes S.code (S.homes a.f) (S.own a.f) (suc k) (pushed ps xs) ++ tail) st' in
          let es = t.even_sp in
          let over : SameFrom S sp stack stack1 = λ b le. word_above stack (sp - 2) m b (omega (arith, le, e')) in
          let t1 = settled S (moved S (sp - 2) (omega (arith, low, e')) (let b = t.below in omega (arith, b)) (omega (arith, es, e')) t) in
          one S left most P a rest v h m0 made0 few since (longer_by (pushed ps xs) n) u w0 t refl (push S.image S.data_end S.marks S.c.sp u (Of hx) m (ready S left most P u t) (omega (arith, low, e', room)) at (has_deeper (S.homes a.f x) x m k sp stack ek same val))
          (more (suc k) n tail w0.pc (sp - 2) base (bit v.sr 3) stack1 short others (omega (arith, ek, e')) (λ b le. over b (omega (arith, ek, le)) ∙ same b le) (omega (arith, e')) low ev st1 t1
          (λ pc' gate' stack' same' there' st'' t'.
          go pc' gate' stack' (λ b le. same' b (omega (arith, le)) ∙ over b le)
          (λ w h'. choose stack' (λ b le. same' b le) there' w h' (is_among ps w) refl) st'' t'))
        where
          choose : (stack' : ℕ → ℕ) → SameFrom S (sp - 2) (with_word_at stack (sp - 2) (a.values x)) stack' → Passes ps xs base stack' → (w : ℕ) → is_among (p ∷ ps) w ≡ true → (c : Bool) → is_among ps w ≡ c →
              (word_in stack' (base + 2 * pushed_behind (p ∷ ps) w) ≡ put_all (put (λ i. 0) p (a.values x)) ps (map a.values xs) w) × (put_all (put (λ i. 0) p (a.values x)) ps (map a.values xs) w < 0x10000)
          choose stack' same' there' w h' true g = later stack' there' w g
          choose stack' same' there' w h' false g =
              let is = first_of p w ps g h' in
              let value : put_all (put (λ i. 0) p (a.values x)) ps (map a.values xs) w ≡ a.values x = put_all_apart (put (λ i. 0) p (a.values x)) ps (map a.values xs) w g ∙ ap (put (λ i. 0) p (a.values x)) (sym is) ∙ put_here (λ i. 0) p (a.values x) in
              let at : base + 2 * count_pushed ps ≡ sp - 2 = omega (arith, e') in
              let word = ap (word_in stack') at ∙ word_on (with_word_at stack (sp - 2) (a.values x)) stack' (sp - 2) (same' (sp - 2) (omega arith)) (same' (sp - 2 + 1) (omega arith)) ∙ word_same stack (sp - 2) (a.values x) val.2 in
              (ap (λ b. word_in stack' (base + 2 * cond b (pushed_behind ps w) (count_pushed ps))) g ∙ word ∙ sym value, subst (λ m. m < 0x10000) (sym value) val.2)

  -- values in the frame do not hang on registers
  any_regs : (opens : List ℕ) (now first : Bool) (sp : ℕ) (regs regs' stack : ℕ → ℕ) → Placed S a opens now first sp regs stack → Placed S a opens now first sp regs' stack
  any_regs opens now first sp regs regs' stack p = record {
    function = p.function;
    values = λ w lt. let old = p.values w lt in let is = (P.framed a.f p.function).in_frame w lt in (old.0, ap (held_at sp regs' stack) is ∙ sym (ap (held_at sp regs stack) is) ∙ old.1, old.2);
    bytes = p.bytes;
    saved = p.saved;
    low = p.low;
    room = p.room;
    even_sp = p.even_sp;
  }

  pub enter_call : (g : ℕ) (ins outs : List ℕ) → instruction S.code a ≡ Some (Call g ins outs) → (i : ℕ) × (i ≤ words_of S g) × Piece S left most P a rest v h m0 made0 few since (suc i) v
  enter_call g ins outs e =
      let fit = fits S left most P a rest v h (Call g ins outs) e in
      let params = (fn_of S.code g).params in
      let words = words_of S g in
      let depth = subst (IsDeeper S.code S.homes S.own S.deep a.f) e ((P.deep a.f (placed S left most P a rest v h).function).calls a.at) in
      let p = placed S left most P a rest v h in
      let lo = p.low in let ro = p.room in let es = p.even_sp in let room = P.start.room in
      let base = v.sp - 2 * words in
      let n = longer_by (pushed params ins) 0 in
      let count = few_pushed params ins in
      let len = longer_few (pushed params ins) 0 in
      let st = stands S left most P a rest v h (Call g ins outs) e in
      let more = raised (2 * words) ++ takes S.code (S.homes a.f) (S.own a.f) 12 outs in (
        n,
        omega (arith, count, len),
        subst (λ m. Piece S left most P a rest v h m0 made0 few since m v) (longer_one (pushed params ins))
            (pushing params ins 0 1 (record { silent = []; item = item.CallFn g } ∷ more) v.pc v.sp base v.gate v.stack fit.1 (names S left most P a rest v h (Call g ins outs) e).read (omega arith) (λ b le. refl) (omega (arith, lo, depth, room)) (omega (arith, lo, depth)) (omega (arith, es)) st h.told
            (λ pc gate stack same there' st1 t. calls g ins outs e base pc gate stack (omega (arith, lo, depth, room)) same there' st1 t)),
      )
    where
      longer_one : (l : List ℕ) → longer_by l 1 ≡ suc (longer_by l 0)
      longer_one [] = refl
      longer_one (x ∷ l) = ap suc (longer_one l)

      calls : (g : ℕ) (ins outs : List ℕ) → instruction S.code a ≡ Some (Call g ins outs) → (base pc : ℕ) (gate : Bool) (stack : ℕ → ℕ) → v.sp ≡ base + 2 * words_of S g → SameFrom S v.sp v.stack stack → Passes (fn_of S.code g).params ins base stack →
          Stand S a.f pc (record { silent = []; item = item.CallFn g } ∷ (raised (2 * words_of S g) ++ takes S.code (S.homes a.f) (S.own a.f) 12 outs)) (end S left most P a rest v h m0 made0 few since) → ToldAt S v.made v.answers base v.sr gate v.faulted → Piece S left most P a rest v h m0 made0 few since 1 (lower pc base gate stack)
      calls g ins outs e base pc gate stack split same there' st t =
          let fit = fits S left most P a rest v h (Call g ins outs) e in
          let depth = subst (IsDeeper S.code S.homes S.own S.deep a.f) e ((P.deep a.f (placed S left most P a rest v h).function).calls a.at) in
          let p = placed S left most P a rest v h in
          let words = words_of S g in
          let lo = p.low in let ro = p.room in let es = p.even_sp in let room = P.start.room in let eb = t.even_sp in
          let u = lower pc base gate stack in
          let ret = pc + 4 in
          let stack1 = with_word_at stack (base - 2) ret in
          let w = record (pushing_view u ret) { pc = S.entries g; gate = bit v.sr 3 } in
          let at : IsMarked S.image S.marks pc [] (One op1.Call false (Immediate (S.entries g))) = record { at = st.1.at.0; table = st.1.first (let z = st.1.at.1 in omega (arith, z)) } in
          let hi = at.at.high in let ev = at.at.even in
          let next : step S.code (a ∷ rest) ≡ Goes (entry S.code g (map a.values ins) ∷ a ∷ rest) = stepped S left most P a rest v h m0 made0 few since (Call g ins outs) e in
          let reached = goes S.code S.root (a ∷ rest) (h.opens ∷ h.outer) v.made v.answers h.reached (entry S.code g (map a.values ins) ∷ a ∷ rest) ([] ∷ h.opens ∷ h.outer) next (ap (λ i. opens_behind i (h.opens ∷ h.outer)) e) in
          let bound = few_left S left most P (entry S.code g (map a.values ins) ∷ a ∷ rest) ([] ∷ h.opens ∷ h.outer) v.made v.answers reached in
          let deep' : 2 ≤ base = omega (arith, split, lo, depth, room) in
          let word = word_same stack (base - 2) ret (omega (arith, hi)) in
          let over : SameFrom S base stack stack1 = λ b le. word_above stack (base - 2) ret b (omega (arith, le, deep')) in
          let all : SameFrom S v.sp v.stack stack1 = λ b le. over b (omega (arith, le, split)) ∙ same b le in
          let t2 = moved S (base - 2) (omega (arith, split, lo, depth)) (let b = t.below in omega (arith, b)) (omega (arith, eb, deep')) (settled S t) in
          let at_a : base - 2 + 2 + 2 * words ≡ v.sp = omega (arith, deep', split) in
          let caller : IsCaller S stack1 (bit v.sr 3) h.first (base - 2) g a h.opens = record {
            passed = ins;
            taken = outs;
            call = e;
            even_ret = ap even word ∙ (let z : even ret ≡ ret = omega (arith, ev) in z) ∙ sym word;
            small_ret = subst (λ m. m < 0x10000) (sym word) (omega (arith, hi));
            stands = subst (λ m. PartsStand S.image S.marks S.entries (labels S a.f) m (raised (2 * words) ++ takes S.code (S.homes a.f) (S.own a.f) 12 outs) (S.places a.f (a.at + 1))) (sym st.1.at.1 ∙ sym word) st.2;
            placed = λ regs. subst (λ s. Placed S a h.opens (bit v.sr 3) h.first s regs stack1) (sym at_a) (placed_on S a h.opens (bit v.sr 3) h.first v.sp regs v.stack stack1 all (any_regs h.opens (bit v.sr 3) h.first v.sp v.regs regs v.stack p));
          } in
          let below = callers_on S v.stack stack1 h.first (v.sp + S.own a.f) a.f rest h.outer (λ b le far. all b (omega (arith, le))) h.callers in
          one S left most P a rest v h m0 made0 few since 0 u w t refl (call S.image S.data_end S.marks S.c.sp u (S.entries g) (ready S left most P u t) (omega (arith, split, lo, depth, room)) at (P.standing.even_entry g fit.0) (P.standing.small_entry g fit.0))
          (begun S left most P a rest v h m0 made0 few since (entry S.code g (map a.values ins)) (a ∷ rest) w next bound (inl (
            record {
              outer = h.opens ∷ h.outer;
              function = fit.0;
              at = refl;
              frame = λ o. refl;
              zero = λ y none. put_all_apart (λ i. 0) (fn_of S.code g).params (map a.values ins) y none;
              passed = λ y is.
                  let r = there' y is in
                  let up : base - 2 + 2 ≡ base = omega (arith, deep') in (
                    ap (λ s. word_in stack1 (s + 2 * pushed_behind (fn_of S.code g).params y)) up
                        ∙ word_on stack stack1 (base + 2 * pushed_behind (fn_of S.code g).params y) (over (base + 2 * pushed_behind (fn_of S.code g).params y) (omega arith)) (over (base + 2 * pushed_behind (fn_of S.code g).params y + 1) (omega arith)) ∙ r.0,
                    r.1,
                  );
              pc = refl;
              callers = (h.first, caller, subst (λ s. Callers S stack1 h.first (s + S.own a.f) a.f rest h.outer) (sym at_a) below);
              low = omega (arith, split, lo, depth);
              room = omega (arith, split, ro, deep');
              reached = reached;
              nest = h.nest;
              told = t2;
            },
            subst (EntersBy S left most P a rest v h m0 made0 few since) (sym e) tt,
          )))
