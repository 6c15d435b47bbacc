-- The code of all instructions together meets the open law.
use Rattle.std.proofs.Common.{None, ◌≡◌, ◌⊎◌, ℕ, zero, suc, ◌+◌, ◌-◌, ◌*◌, ◌/◌, ◌<◌, ◌≤◌, Bool, true, false, List, [], ◌∷◌, length, Some, refl, sym, ap, ◌∙◌, subst, arith}
use mathlib.Core.Logic.{inl, inr}
use Rattle.std.specs.Prelude.{slice_index}
use Rattle.nm_base.specs.declared.action.Action.{Action}
use Rattle.msp430_cpu.specs.Cpu.{Cpu}
use Rattle.mid_code.specs.declared.code.MidCode.{MidCode}
use Rattle.mid_code.specs.declared.instr.Mid.{Mid}
use Rattle.mid_code.specs.declared.instr.Mid.TheVariants.{Set, Move, Bin, Carry, Load, Store, Peek, Poke, In, Out, Label, Jump, Branch, Call, Help, Ret, Begin, End, Post, Tick, Fault}
use Rattle.mid_code.specs.declared.instr.Op.TheVariants as op
use Rattle.mid_code.specs.Machine.{Activation, Goes, entry, fn_of, instruction, onward, started, step}
use Rattle.open_law.specs.Homes.{Home}
use Rattle.open_law.specs.Body.{IsOpenFunction}
use Rattle.open_law.specs.Open.{open_start}
use Rattle.open_law.proofs.View.{Shows, View}
use Rattle.open_law.proofs.Chain.{Chain}
use Rattle.open_law.proofs.Law.{IsStart, Keeps, NextOf, Post as Behind, open_law}
use Rattle.msp_select.specs.Frames.{count_pushed, is_among}
use Rattle.msp_select.specs.Sound.{IsSelected, SelectedCodeIsOpen, body_of}
use Rattle.msp_select.specs.Weight.{length_of}
use Rattle.msp_select.proofs.Weighted.{weakened}
use Rattle.msp_select.proofs.Nest.{is_nested}
use Rattle.msp_select.proofs.Reached.{at_start, goes, told as told_of}
use Rattle.msp_select.proofs.Relation.{Setting, Entering, GoodOne, Here, Resuming, act, clash, fn}
use Rattle.msp_select.proofs.Kept.{Premises, there, words_of}
use Rattle.msp_select.proofs.Doing.{After as OwnAfter, Piece as OwnPiece, Rel, bin, copy, few_left, fault_piece, fewer_left, fits, give_port, load_byte, load_word, onward_place, opened, peek_byte, peek_word, poke_byte', poke_word, set, stands, stayed, stepped, store_byte, store_word, take_port, tick}
use Rattle.msp_select.proofs.Jumping.{branch, carry_add, carry_none, carry_sub, go}
use Rattle.msp_select.proofs.Atomic.{begin, finish_atomic}
use Rattle.msp_select.proofs.Calling.{enter_call, put_all_apart}
use Rattle.msp_select.proofs.Helping.{help_piece}
use Rattle.msp_select.proofs.Returning.{return_piece}
use Rattle.msp_select.proofs.Resuming.{After as BackAfter, Piece as BackPiece, resume}
use Rattle.msp_select.proofs.Entering.{After as EntryAfter, Piece as EntryPiece, begins}

-- whether an instruction has code of its own
abbrev pub has_code : Mid → Bool
has_code (Label l) = false
has_code _ = true

pub label_of : (i : Mid) → has_code i ≡ false → (l : ℕ) × (i ≡ Label l)
label_of (Label l) e = (l, refl)
label_of (Set x n) e = absurd (let z : ⊥ = cc in z)
label_of (Move x y) e = absurd (let z : ⊥ = cc in z)
label_of (Bin o x p q) e = absurd (let z : ⊥ = cc in z)
label_of (Carry o x p q) e = absurd (let z : ⊥ = cc in z)
label_of (Load w x p) e = absurd (let z : ⊥ = cc in z)
label_of (Store w x p) e = absurd (let z : ⊥ = cc in z)
label_of (Peek w x p) e = absurd (let z : ⊥ = cc in z)
label_of (Poke w x p) e = absurd (let z : ⊥ = cc in z)
label_of (In x port) e = absurd (let z : ⊥ = cc in z)
label_of (Out port x) e = absurd (let z : ⊥ = cc in z)
label_of (Jump l) e = absurd (let z : ⊥ = cc in z)
label_of (Branch t x y l) e = absurd (let z : ⊥ = cc in z)
label_of (Call g ins outs) e = absurd (let z : ⊥ = cc in z)
label_of (Help k ins outs) e = absurd (let z : ⊥ = cc in z)
label_of (Ret vs) e = absurd (let z : ⊥ = cc in z)
label_of (Begin o) e = absurd (let z : ⊥ = cc in z)
label_of (End o) e = absurd (let z : ⊥ = cc in z)
label_of (Post k x) e = absurd (let z : ⊥ = cc in z)
label_of Tick e = absurd (let z : ⊥ = cc in z)
label_of (Fault n) e = absurd (let z : ⊥ = cc in z)

module _ (S : Setting) (left : List Activation → ℕ) (most : ℕ) (P : Premises S left most) (a : Activation) (rest : List Activation) (v : View) (h : Here S a rest v) (m0 : ℕ) (made0 : List Action) (few : 2 * left (a ∷ rest) ≤ m0) (since : v.made ≡ made0) where
  -- the chain of an instruction is no longer than its code
  abbrev pub Sized : Mid → Type 0
  Sized i = (n : ℕ) × (suc n ≤ length_of S.code S.own P.most_help i) × OwnPiece S left most P a rest v h m0 made0 few since (suc n) v

  pub sized : (i : Mid) → instruction S.code a ≡ Some i → has_code i ≡ true → Sized i
  sized (Set x n) e code = (0, omega arith, set S left most P a rest v h m0 made0 few since x n e)
  sized (Move x y) e code = (0, omega arith, copy S left most P a rest v h m0 made0 few since x y e)
  sized (Bin o x p q) e code = let r = bin S left most P a rest v h m0 made0 few since o x p q e in let s = r.1 in (r.0, omega (arith, s), r.2)
  sized (Carry op.Add x p q) e code = (4, omega arith, carry_add S left most P a rest v h m0 made0 few since x p q e)
  sized (Carry op.Sub x p q) e code = (4, omega arith, carry_sub S left most P a rest v h m0 made0 few since x p q e)
  sized (Carry op.And x p q) e code = (0, omega arith, carry_none S left most P a rest v h m0 made0 few since op.And x p q e refl refl)
  sized (Carry op.Or x p q) e code = (0, omega arith, carry_none S left most P a rest v h m0 made0 few since op.Or x p q e refl refl)
  sized (Carry op.Xor x p q) e code = (0, omega arith, carry_none S left most P a rest v h m0 made0 few since op.Xor x p q e refl refl)
  sized (Load true x p) e code = (1, omega arith, load_word S left most P a rest v h m0 made0 few since x p e)
  sized (Load false x p) e code = (2, omega arith, load_byte S left most P a rest v h m0 made0 few since x p e)
  sized (Store true x p) e code = (1, omega arith, store_word S left most P a rest v h m0 made0 few since x p e)
  sized (Store false x p) e code = (1, omega arith, store_byte S left most P a rest v h m0 made0 few since x p e)
  sized (Peek true x p) e code = (2, omega arith, peek_word S left most P a rest v h m0 made0 few since x p e)
  sized (Peek false x p) e code = (3, omega arith, peek_byte S left most P a rest v h m0 made0 few since x p e)
  sized (Poke true x p) e code = (2, omega arith, poke_word S left most P a rest v h m0 made0 few since x p e)
  sized (Poke false x p) e code = (2, omega arith, poke_byte' S left most P a rest v h m0 made0 few since x p e)
  sized (In x port) e code = (0, omega arith, take_port S left most P a rest v h m0 made0 few since x port e)
  sized (Out port x) e code = (0, omega arith, give_port S left most P a rest v h m0 made0 few since port x e)
  sized (Label l) e code = absurd (let z : ⊥ = cc in z)
  sized (Jump l) e code = (0, omega arith, go S left most P a rest v h m0 made0 few since l e)
  sized (Branch t x y l) e code = let r = branch S left most P a rest v h m0 made0 few since t x y l e in let s = r.1 in (suc r.0, omega (arith, s), r.2)
  sized (Call g ins outs) e code = let r = enter_call S left most P a rest v h m0 made0 few since g ins outs e in let s = r.1 in (r.0, omega (arith, s), r.2)
  sized (Help k ins outs) e code = let r = help_piece S left most P a rest v h m0 made0 few since k ins outs e in let s = r.1 in (r.0, omega (arith, s), r.2)
  sized (Ret vs) e code = let r = return_piece S left most P a rest v h m0 made0 few since vs e in let s = r.1 in (r.0, omega (arith, s), r.2)
  sized (Begin o) e code = (2, omega arith, begin S left most P a rest v h m0 made0 few since o e)
  sized (End o) e code = (0, omega arith, finish_atomic S left most P a rest v h m0 made0 few since o e)
  sized (Post k x) e code = absurd (P.selectable a.f a.at (Post k x) e)
  sized Tick e code = (0, omega arith, tick S left most P a rest v h m0 made0 few since e)
  sized (Fault n) e code = (0, omega arith, fault_piece S left most P a rest v h m0 made0 few since n e)

  -- a label has no code
  pub label_next : (l : ℕ) → instruction S.code a ≡ Some (Label l) → step S.code (a ∷ rest) ≡ Goes (onward a ∷ rest)
  label_next l e = stepped S left most P a rest v h m0 made0 few since (Label l) e

  pub label_here : (l : ℕ) → instruction S.code a ≡ Some (Label l) → Here S (onward a) rest v
  label_here l e =
      let st = stands S left most P a rest v h (Label l) e in
      stayed S left most P a rest v h (a.at + 1) v.pc v.sr v.gate v.regs v.made v.answers (onward_place S left most P a rest v h (Label l) e refl) (st.1.at ∙ st.2) (λ r lo. refl) refl
      (goes S.code S.root (a ∷ rest) (h.opens ∷ h.outer) v.made v.answers h.reached (onward a ∷ rest) (h.opens ∷ h.outer) (label_next l e) (opened S left most P a rest v h m0 made0 few since (Label l) e refl)) refl h.told

  -- no piece is too long
  module _ (long : ℕ) (call_fits : (f : ℕ) → f < length S.code.fns → count_pushed (fn_of S.code f).params + 1 < long) (help_fits : P.most_help + 4 < long) (least : 5 < long) where
    pub short : (i : Mid) → instruction S.code a ≡ Some i → length_of S.code S.own P.most_help i ≤ long
    short (Set x n) e = omega (arith, least)
    short (Move x y) e = omega (arith, least)
    short (Bin o x p q) e = omega (arith, least)
    short (Carry o x p q) e = omega (arith, least)
    short (Load w x p) e = omega (arith, least)
    short (Store w x p) e = omega (arith, least)
    short (Peek w x p) e = omega (arith, least)
    short (Poke w x p) e = omega (arith, least)
    short (In x port) e = omega (arith, least)
    short (Out port x) e = omega (arith, least)
    short (Label l) e = omega (arith, least)
    short (Jump l) e = omega (arith, least)
    short (Branch t x y l) e = omega (arith, least)
    short (Ret vs) e = omega (arith, least)
    short (Begin o) e = omega (arith, least)
    short (End o) e = omega (arith, least)
    short (Post k x) e = omega (arith, least)
    short Tick e = omega (arith, least)
    short (Fault n) e = omega (arith, least)
    short (Call g ins outs) e = let b = call_fits g (fits S left most P a rest v h (Call g ins outs) e).0 in omega (arith, b)
    short (Help k ins outs) e = omega (arith, help_fits)

module _ (S : Setting) (left : List Activation → ℕ) (most long : ℕ) (P : Premises S left most) (entry_fits : (f : ℕ) → f < length S.code.fns → 3 * (S.own f / 2) + 1 < long) (call_fits : (f : ℕ) → f < length S.code.fns → count_pushed (fn_of S.code f).params + 1 < long) (help_fits : P.most_help + 4 < long) (least : 5 < long) where
  abbrev After' : ℕ → List Action → View → Type 0
  After' m0 made0 = Behind S.gives (act S) S.image S.data_end (S.deep S.root) S.marks S.c S.ram (2 * most + 1) (Rel S left most P) m0 made0

  abbrev Piece : ℕ → List Action → ℕ → View → Type 0
  Piece m0 made0 n v = Chain S.image S.data_end S.marks S.c.sp (GoodOne S) (NextOf S.gives (act S) S.image S.data_end (S.deep S.root) S.marks S.c S.ram) (After' m0 made0) n v

  abbrev Pieces : ℕ → List Action → View → Type 0
  Pieces m0 made0 v = (i : ℕ) × (i < long) × Piece m0 made0 (suc i) v

  abbrev FromEach : ℕ → Type 0
  FromEach fuel = (a : Activation) (rest : List Activation) (v : View) (h : Here S a rest v) (m0 : ℕ) (made0 : List Action) (few : 2 * left (a ∷ rest) ≤ m0) (since : v.made ≡ made0) → left (a ∷ rest) < fuel → Pieces m0 made0 v

  module _ (fuel : ℕ) (again : FromEach fuel) (a : Activation) (rest : List Activation) (v : View) (h : Here S a rest v) (m0 : ℕ) (made0 : List Action) (few : 2 * left (a ∷ rest) ≤ m0) (since : v.made ≡ made0) (lt : left (a ∷ rest) < suc fuel) where
    -- a label has no code
    past_label : (l : ℕ) → instruction S.code a ≡ Some (Label l) → Pieces m0 made0 v
    past_label l e =
        let less = fewer_left S left most P (a ∷ rest) (onward a ∷ rest) (h.opens ∷ h.outer) v.made v.answers h.reached (label_next S left most P a rest v h m0 made0 few since l e) in
        again (onward a) rest v (label_here S left most P a rest v h m0 made0 few since l e) m0 made0 (omega (arith, less, few)) since (omega (arith, less, lt))

    by_mid : (i : Mid) → instruction S.code a ≡ Some i → Pieces m0 made0 v
    by_mid i e = by (has_code i) refl
      where
        some : (w : View) → OwnAfter S left most P a rest v h m0 made0 few since w → After' m0 made0 w
        some w (inl over) = inl over
        some w (inr (m, le, (g, more, inl (here, k, came)), why)) = inr (m, le, (g, more, inl (here, k)), why)
        some w (inr (m, le, (g, more, inr (inl (begins', x), k, goes')), why)) = inr (m, le, (g, more, inr (inl begins', k)), why)
        some w (inr (m, le, (g, more, inr (inr (resumes', x), k, goes')), why)) = inr (m, le, (g, more, inr (inr resumes', k)), why)

        by : (b : Bool) → has_code i ≡ b → Pieces m0 made0 v
        by true code =
            let r = sized S left most P a rest v h m0 made0 few since i e code in
            let s = r.1 in let t = short S left most P a rest v h m0 made0 few since long call_fits help_fits least i e in
            (r.0, omega (arith, s, t), weakened S.image S.data_end S.marks S.c.sp (GoodOne S) (NextOf S.gives (act S) S.image S.data_end (S.deep S.root) S.marks S.c S.ram) (OwnAfter S left most P a rest v h m0 made0 few since) (After' m0 made0) some (suc r.0) v r.2)
        by false code = let r = label_of i code in past_label r.0 (e ∙ ap Some r.1)

  pieces : (fuel : ℕ) → FromEach fuel
  pieces zero a rest v h m0 made0 few since lt = absurd (omega arith)
  pieces (suc fuel) a rest v h m0 made0 few since lt =
      let m = there (fn S a).code a.at h.place in
      by_mid fuel (pieces fuel) a rest v h m0 made0 few since lt m.0 m.1

  -- the same call at an instruction
  same : (a : Activation) (rest : List Activation) (m : ℕ) (made : List Action) (w : View) → Behind S.gives (act S) S.image S.data_end (S.deep S.root) S.marks S.c S.ram (2 * most + 1) (λ m' w'. Here S a rest w' × (m' ≡ 2 * left (a ∷ rest))) m made w → After' m made w
  same a rest m made w (inl over) = inl over
  same a rest m made w (inr (m', le, rel, why)) = inr (m', le, (a, rest, inl rel), why)

  -- a call at its first instruction already, or code that leads there
  abbrev Sooner : Activation → List Activation → View → ℕ → Type 0
  Sooner a rest v m = Here S a rest v ⊎ ((i : ℕ) × (i < long) × Piece m v.made (suc i) v)

  soon : (a : Activation) (rest : List Activation) (v : View) (m : ℕ) → 2 * left (a ∷ rest) + 1 ≡ m → Sooner a rest v m → (n : ℕ) × (n < long) × Piece m v.made (suc n) v
  soon a rest v m e (inl h) = pieces (suc (left (a ∷ rest))) a rest v h m v.made (omega (arith, e)) refl (omega arith)
  soon a rest v m e (inr r) = r

  entered : (a : Activation) (rest : List Activation) (v : View) (m : ℕ) → m ≡ 2 * left (a ∷ rest) + 1 → (h : Entering S a rest v) → Sooner a rest v m
  entered a rest v m e h = by (begins S left most P a rest v h m v.made (omega (arith, e)))
    where
      room : 3 * (S.own a.f / 2) + 1 < long
      room = entry_fits a.f h.function

      by : Here S a rest v ⊎ ((i : ℕ) × (i ≤ 3 * (S.own a.f / 2)) × EntryPiece S left most P a rest v h m v.made (omega (arith, e)) (suc i) v) → Sooner a rest v m
      by (inl here) = inl here
      by (inr r) = let s = r.1 in let k = room in inr (r.0, omega (arith, s, k), weakened S.image S.data_end S.marks S.c.sp (GoodOne S) (NextOf S.gives (act S) S.image S.data_end (S.deep S.root) S.marks S.c S.ram) (EntryAfter S left most P a rest v h m v.made (omega (arith, e))) (After' m v.made) (same a rest m v.made) (suc r.0) v r.2)

  resumed : (a : Activation) (rest : List Activation) (v : View) (m : ℕ) → m ≡ 2 * left (a ∷ rest) + 1 → (h : Resuming S a rest v) → Sooner a rest v m
  resumed a rest v m e h = by (resume S left most P a rest v h m v.made (omega (arith, e)))
    where
      by : Here S a rest v ⊎ ((i : ℕ) × (i ≤ 2) × BackPiece S left most P a rest v h m v.made (omega (arith, e)) (suc i) v) → Sooner a rest v m
      by (inl here) = inl here
      by (inr r) = let s = r.1 in inr (r.0, omega (arith, s, least), weakened S.image S.data_end S.marks S.c.sp (GoodOne S) (NextOf S.gives (act S) S.image S.data_end (S.deep S.root) S.marks S.c S.ram) (BackAfter S left most P a rest v h m v.made (omega (arith, e))) (After' m v.made) (same a rest m v.made) (suc r.0) v r.2)

  next : (m : ℕ) (v : View) → m ≤ 2 * most + 1 → Rel S left most P m v → (n : ℕ) × (n < long) × Piece m v.made (suc n) v
  next m v le (a, rest, inl h) = pieces (suc (left (a ∷ rest))) a rest v h.0 m v.made (let e = h.1 in omega (arith, e)) refl (omega arith)
  next m v le (a, rest, inr (inl h, e)) = soon a rest v m (sym e) (entered a rest v m e h)
  next m v le (a, rest, inr (inr h, e)) = soon a rest v m (sym e) (resumed a rest v m e h)

  -- the state at the start
  abbrev pub at_entry : View
  at_entry = record { pc = S.c.pc; sp = S.c.sp; sr = S.c.sr; gate = S.c.gate; regs = λ r. slice_index S.c.others (r - 4); stack = S.ram; made = []; answers = []; faulted = None; noted = [] }

  pub starting : Entering S (entry S.code S.root []) [] at_entry
  starting =
      let r = at_start S.code S.root in
      let s = P.start in
      let none = P.params in
      let words : words_of S S.root ≡ 0 = ap count_pushed none in
      record {
        outer = [];
        function = P.root;
        at = refl;
        frame = λ o. refl;
        zero = λ w out. put_all_apart (λ i. 0) (fn_of S.code S.root).params [] w out;
        passed = λ w is. absurd (not_among w (sym (ap (λ l. is_among l w) none) ∙ is));
        pc = s.pc;
        callers = (refl, refl, refl, refl);
        low = omega arith;
        room = omega (arith, words);
        reached = r;
        nest = refl;
        told = record {
          told = told_of S.code S.root (started S.code S.root) ([] ∷ []) [] [] r;
          low = omega arith;
          below = omega arith;
          even_sp = s.words.even_sp;
          awake = s.awake;
          word = s.words.sr;
          going = refl;
          closed = λ k. (k, s.level ∙ k);
          depth = refl;
          inside = λ k. absurd (clash S (is_nested []) refl k);
          outside = λ o k. o;
        };
      }
    where
      not_among : (w : ℕ) → is_among [] w ≡ true → ⊥
      not_among w h = cc

  pub shown_at_start : Shows (S.c.sp + 2) at_entry (open_start S.c S.ram)
  shown_at_start =
      let s = P.start in
      record { others = S.c.others; ram = S.ram; done = []; same = refl; fits = record { long = s.words.twelve; regs = λ q lo hi. refl; words = λ q lo hi. s.words.others (q - 4); stack = λ a lo hi. refl }; bytes = s.bytes; log = record { made = refl; answers = refl; fault = refl } }

  keeps : Keeps S.gives (act S) S.image S.data_end (S.deep S.root) S.marks S.c S.ram (2 * most + 1) long (Rel S left most P)
  keeps =
      let bound = few_left S left most P (started S.code S.root) ([] ∷ []) [] [] (at_start S.code S.root) in
      record { first = (2 * left (started S.code S.root) + 1, at_entry, omega (arith, bound), (entry S.code S.root [], [], inr (inl starting, refl)), shown_at_start); next = next }

abbrev pub set_up : MidCode → (ℕ → ℕ → Home) → (ℕ → ℕ) → (ℕ → ℕ) → ℕ → ℕ → ℕ → (ℕ → ℕ) → (ℕ → List Action) → (ℕ → ℕ) → (ℕ → ℕ → ℕ) → Cpu → (ℕ → ℕ) → Setting
set_up code homes own deep root gives data_end image marks entries places c ram = record { code = code; homes = homes; own = own; deep = deep; image = image; marks = marks; entries = entries; places = places; data_end = data_end; root = root; gives = gives; c = c; ram = ram }

-- what one start relies on
abbrev pub premises_at : (code : MidCode) (homes : ℕ → ℕ → Home) (own deep : ℕ → ℕ) (left : List Activation → ℕ) (most long root gives data_end : ℕ) (image : ℕ → ℕ) (marks : ℕ → List Action) (entries : ℕ → ℕ) (places : ℕ → ℕ → ℕ) →
    IsSelected code homes own deep left most long root gives data_end image marks entries places → (c : Cpu) (ram : ℕ → ℕ) → IsStart data_end (entries root) (deep root) c ram → Premises (set_up code homes own deep root gives data_end image marks entries places c ram) left most
premises_at code homes own deep left most long root gives data_end image marks entries places h c ram start =
    record { form = h.form; keeps = h.keeps; selectable = h.selectable; framed = h.framed; deep = h.depths; standing = h.standing; most_help = h.most_help; routines = h.routines; objects = h.objects; paced = h.paced; root = h.is; params = h.params; given = h.given; start = start; low_end = h.low_end }

-- the relation of one start
abbrev Relates : Setting → (List Activation → ℕ) → ℕ → View → Type 0
Relates S left m v = (a : Activation) × (rest : List Activation) × ((Here S a rest v × (m ≡ 2 * left (a ∷ rest))) ⊎ ((Entering S a rest v ⊎ Resuming S a rest v) × (m ≡ 2 * left (a ∷ rest) + 1)))

pub selected : SelectedCodeIsOpen
selected code homes own deep left most long root gives data_end image marks entries places h =
    let bound : long * (2 * most + 1 + 2) ≡ long * (2 * most + 3) = ap (λ n. long * n) (let e : 2 * most + 1 + 2 ≡ 2 * most + 3 = omega arith in e) in
    subst (λ b. IsOpenFunction image data_end marks gives (body_of code root) (entries root) (deep root) b) bound
    (open_law gives (body_of code root) image data_end (entries root) (deep root) (2 * most + 1) long marks
    (λ c ram. Relates (set_up code homes own deep root gives data_end image marks entries places c ram) left)
    (λ c ram start. keeps (set_up code homes own deep root gives data_end image marks entries places c ram) left most long (premises_at code homes own deep left most long root gives data_end image marks entries places h c ram start) h.entry h.call h.help h.least))
