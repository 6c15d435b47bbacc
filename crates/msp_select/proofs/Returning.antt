-- Returns: what a function gives goes to registers, and its caller goes on.
use Rattle.std.proofs.Common.{◌≡◌, ◌≢◌, ◌⊎◌, ℕ, suc, ◌+◌, ◌*◌, ◌<◌, ◌≤◌, ◌==◌, Bool, true, false, cond, nat_lt, List, [], ◌∷◌, ◌++◌, length, map, Some, All, refl, sym, ap, ◌∙◌, subst, arith}
use mathlib.Core.Logic.{inl, inr}
use Rattle.std.specs.Prelude.{if◌then◌else◌}
use Rattle.std.proofs.lemmas.Bool.{eq-eqb}
use Rattle.std.proofs.lemmas.Bool.Decides.{nat_tests, eqb_tells}
use Rattle.std.proofs.lemmas.List.Elements.{All-head, All-tail}
use Rattle.nm_base.specs.Lists.{bit}
use Rattle.nm_base.specs.declared.action.Action.{Action}
use Rattle.msp_isa.specs.declared.code.Item.TheVariants as item
use Rattle.msp_isa.specs.declared.instr.Instr.TheVariants.{Two}
use Rattle.msp_isa.specs.declared.instr.Op2.TheVariants as op2
use Rattle.msp_isa.specs.declared.instr.Operand.TheVariants.{Reg, Increment}
use Rattle.msp_isa.specs.Stands.{word_in}
use Rattle.msp430_cpu.specs.Cpu.{changed_at, even}
use Rattle.msp430_cpu.specs.Exec.{further}
use Rattle.msp430_cpu.specs.Operate.{operate}
use Rattle.mid_code.specs.declared.instr.Mid.TheVariants.{Call, Ret}
use Rattle.mid_code.specs.Machine.{Activation, Ends, Goes, give_back, instruction, step, take_back, write_all}
use Rattle.mid_code.specs.Words.{joined}
use Rattle.mid_code.specs.Form.{FitsProgram, NamesOwn}
use Rattle.mid_code.proofs.Calls.{behind, own_end, own_form}
use Rattle.mid_code.specs.Reached.{opens_behind}
use Rattle.open_law.specs.Homes.{InRegister, Of, at_home, literal, operand_of}
use Rattle.open_law.specs.Body.{given_in}
use Rattle.open_law.proofs.View.{View}
use Rattle.open_law.proofs.Quiet.{passed, put_home}
use Rattle.open_law.proofs.Chain.{drop_frame, move, ret}
use Rattle.open_law.proofs.Law.{Over}
use Rattle.msp_select.specs.Select.{Part, gives, plain, raised, return, takes}
use Rattle.msp_select.specs.Sound.{IsDeeper, PartsStand}
use Rattle.msp_select.proofs.Nest.{inside_is, nested}
use Rattle.msp_select.proofs.Flags.{has_literal, tame}
use Rattle.msp_select.proofs.Reached.{ended, goes}
use Rattle.msp_select.proofs.Relation.{Setting, AreIn, Callers, Here, Saved, ToldAt, act, clash, flagged, fn, labels, moved, settled, total}
use Rattle.msp_select.proofs.Kept.{Premises, all_get, has, ready, words_of}
use Rattle.msp_select.proofs.Doing.{After, Piece, ResumesBy, Stand, begun, behind_two, end, few_left, fits, marked, may, names, one, placed, stands, stepped}

module _ (S : Setting) (left : List Activation → ℕ) (most : ℕ) (P : Premises S left most) (a : Activation) (rest : List Activation) (v : View) (h : Here S a rest v) (m0 : ℕ) (made0 : List Action) (few : 2 * left (a ∷ rest) ≤ m0) (since : v.made ≡ made0) where
  -- with other registers
  abbrev pub holding : ℕ → Bool → (ℕ → ℕ) → View
  holding pc gate regs = record v { pc = pc; gate = gate; regs = regs }

  pub set_low : (regs : ℕ → ℕ) (q n : ℕ) → 12 ≤ q → ((r : ℕ) → r < 12 → regs r ≡ v.regs r) → (r : ℕ) → r < 12 → changed_at regs q n r ≡ v.regs r
  set_low regs q n le low r lt = let t : (r == q) ≡ false = grind (arith, nat_tests) in rw t (low r lt)

  pub set_here : (regs : ℕ → ℕ) (q n : ℕ) → changed_at regs q n q ≡ n
  set_here regs q n = ap (λ b. cond b n (regs q)) (eq-eqb q q refl)

  -- values go to R12 and R13
  pub one_given : (x q n : ℕ) (tail : List Part) (pc : ℕ) (gate : Bool) (regs : ℕ → ℕ) → x < (fn S a).values → 12 ≤ q → q < 16 → ((r : ℕ) → r < 12 → regs r ≡ v.regs r) →
      Stand S a.f pc (record { silent = []; item = item.Is (Two op2.Mov false (operand_of (Of (S.homes a.f x))) (at_home (InRegister q))) } ∷ tail) (end S left most P a rest v h m0 made0 few since) → ToldAt S v.made v.answers v.sp v.sr gate v.faulted →
      (Stand S a.f (pc + (2 + further (at_home (S.homes a.f x)) + 0)) tail (end S left most P a rest v h m0 made0 few since) → Piece S left most P a rest v h m0 made0 few since n (holding (pc + (2 + further (at_home (S.homes a.f x)) + 0)) (bit v.sr 3) (changed_at regs q (a.values x)))) → Piece S left most P a rest v h m0 made0 few since (suc n) (holding pc gate regs)
  one_given x q n tail pc gate regs lx lo hi low st t next =
      let u = holding pc gate regs in
      let at = marked S a.f pc (end S left most P a rest v h m0 made0 few since) [] (Two op2.Mov false (at_home (S.homes a.f x)) (Reg q)) tail st in
      let st1 = behind_two S a.f pc (end S left most P a rest v h m0 made0 few since) [] op2.Mov false (at_home (S.homes a.f x)) (Reg q) tail st in
      one S left most P a rest v h m0 made0 few since n u (passed (put_home u (InRegister q) (a.values x)) (2 + further (at_home (S.homes a.f x)) + 0)) t refl
      (move S.image S.data_end S.marks S.c.sp u (Of (S.homes a.f x)) (InRegister q) (a.values x) (ready S left most P u t) at (has S left most P a h.opens (bit v.sr 3) h.first v.sp v.regs v.stack (placed S left most P a rest v h) regs x low lx) (omega (arith, lo), omega (arith, hi)))
      (next st1)

  -- behind them
  abbrev Given : (vs : List ℕ) (n : ℕ) (tail : List Part) → Type 0
  Given vs n tail = (pc : ℕ) (gate : Bool) (regs : ℕ → ℕ) → ((r : ℕ) → r < 12 → regs r ≡ v.regs r) → AreIn S 12 (map a.values vs) regs → Stand S a.f pc tail (end S left most P a rest v h m0 made0 few since) → ToldAt S v.made v.answers v.sp v.sr gate v.faulted → Piece S left most P a rest v h m0 made0 few since n (holding pc gate regs)

  giving : (vs : List ℕ) (n : ℕ) (tail : List Part) → length vs ≤ 2 → All (λ x. x < (fn S a).values) vs → Stand S a.f v.pc (gives S.code (S.homes a.f) (S.own a.f) 12 vs ++ tail) (end S left most P a rest v h m0 made0 few since) → Given vs n tail → Piece S left most P a rest v h m0 made0 few since (length vs + n) v
  giving [] n tail short all st go = subst (λ k. Piece S left most P a rest v h m0 made0 few since k v) (let z : n ≡ 0 + n = omega arith in z) (go v.pc v.gate v.regs (λ r lt. refl) tt st h.told)
  giving (x ∷ []) n tail short all st go =
      let lx = All-head (λ y. y < (fn S a).values) x [] all in
      let m = a.values x in
      subst (λ k. Piece S left most P a rest v h m0 made0 few since k v) (let z : suc n ≡ 1 + n = omega arith in z)
      (one_given x 12 n tail v.pc v.gate v.regs lx (omega arith) (omega arith) (λ r lt. refl) st h.told
      (λ st1. go (v.pc + (2 + further (at_home (S.homes a.f x)) + 0)) (bit v.sr 3) (changed_at v.regs 12 m) (set_low v.regs 12 m (omega arith) (λ r lt. refl)) (set_here v.regs 12 m, ((placed S left most P a rest v h).values x lx).2, tt) st1 (settled S h.told)))
  giving (x ∷ y ∷ []) n tail short all st go =
      let lx = All-head (λ z. z < (fn S a).values) x (y ∷ []) all in
      let ly = All-head (λ z. z < (fn S a).values) y [] (All-tail (λ z. z < (fn S a).values) x (y ∷ []) all) in
      let m = a.values x in
      let k = a.values y in
      let regs1 = changed_at v.regs 12 m in
      let low1 = set_low v.regs 12 m (omega arith) (λ r lt. refl) in
      subst (λ k. Piece S left most P a rest v h m0 made0 few since k v) (let z : suc (suc n) ≡ 2 + n = omega arith in z)
      (one_given x 12 (suc n) (gives S.code (S.homes a.f) (S.own a.f) 13 (y ∷ []) ++ tail) v.pc v.gate v.regs lx (omega arith) (omega arith) (λ r lt. refl) st h.told
      (λ st1.
      let pc1 = v.pc + (2 + further (at_home (S.homes a.f x)) + 0) in
      one_given y 13 n tail pc1 (bit v.sr 3) regs1 ly (omega arith) (omega arith) low1 st1 (settled S h.told)
      (λ st2. go (pc1 + (2 + further (at_home (S.homes a.f y)) + 0)) (bit v.sr 3) (changed_at regs1 13 k) (set_low regs1 13 k (omega arith) low1) (set_here v.regs 12 m, ((placed S left most P a rest v h).values x lx).2, (set_here regs1 13 k, ((placed S left most P a rest v h).values y ly).2, tt)) st2 (settled S h.told))))
  giving (x ∷ y ∷ z ∷ vs) n tail short all st go = absurd (omega (arith, short))

  -- behind ADD of the function's own bytes to SP, and RET
  abbrev back_at : ℕ
  back_at = v.sp + S.own a.f

  abbrev returned : (sr : ℕ) (regs : ℕ → ℕ) → View
  returned sr regs = record v { pc = even (word_in v.stack back_at); sp = back_at + 2; sr = sr; gate = bit sr 3; regs = regs }

  module _ (vs : List ℕ) (e : instruction S.code a ≡ Some (Ret vs)) where
    no_more : (n : ℕ) → 0 + n ≡ n
    no_more n = omega arith

    none_open : h.opens ≡ []
    none_open = may S left most P a rest v h (Ret vs) e

    callers' : Callers S v.stack (bit v.sr 3) back_at a.f rest h.outer
    callers' = subst (λ g. Callers S v.stack g back_at a.f rest h.outer) (sym (subst (λ o. Saved S a.f v.stack v.sp (bit v.sr 3) o h.first) none_open (placed S left most P a rest v h).saved)) h.callers

    opens' : opens_behind (instruction S.code a) (h.opens ∷ h.outer) ≡ h.outer
    opens' = ap (λ i. opens_behind i (h.opens ∷ h.outer)) e

    shallow : nested 0 v.made ≡ total S h.outer
    shallow = h.nest ∙ ap (λ o. length o + total S h.outer) none_open ∙ no_more (total S h.outer)

    given_is : (gives' : ℕ) (regs : ℕ → ℕ) (xs : List ℕ) → length xs ≡ gives' → length xs ≤ 2 → AreIn S 12 xs regs → given_in gives' regs ≡ joined xs
    given_is gives' regs [] many short are = ap (λ n. given_in n regs) (sym many)
    given_is gives' regs (x ∷ []) many short are = ap (λ n. given_in n regs) (sym many) ∙ are.0
    given_is gives' regs (x ∷ y ∷ []) many short are = ap (λ n. given_in n regs) (sym many) ∙ ap (λ n. n + 65536 * regs 13) are.0 ∙ ap (λ n. x + 65536 * n) are.2.0
    given_is gives' regs (x ∷ y ∷ z ∷ xs) many short are = absurd (omega (arith, short))

    lengths : (l : List ℕ) → length (map a.values l) ≡ length l
    lengths [] = refl
    lengths (y ∷ l) = ap suc (lengths l)

    gives_many : length vs ≡ P.form.gives a.f
    gives_many = fits S left most P a rest v h (Ret vs) e

    few_given : length vs ≤ 2
    few_given = let two = P.form.at_most_two a.f in omega (arith, two, gives_many)

    -- the root is back
    ends_here : (sr : ℕ) (regs : ℕ → ℕ) → rest ≡ [] → Callers S v.stack (bit v.sr 3) back_at a.f [] h.outer → bit sr 3 ≡ bit v.sr 3 → AreIn S 12 (map a.values vs) regs → ToldAt S v.made v.answers v.sp sr (bit sr 3) v.faulted →
        Over S.gives (act S) S.image S.data_end (S.deep S.root) S.marks S.c S.ram (returned sr regs)
    ends_here sr regs er callers gie' are t = by h.outer refl callers
      where
        by : (outer : List (List ℕ)) → h.outer ≡ outer → Callers S v.stack (bit v.sr 3) back_at a.f [] outer → Over S.gives (act S) S.image S.data_end (S.deep S.root) S.marks S.c S.ram (returned sr regs)
        by (o ∷ outer) eo c = absurd c
        by [] eo c =
            let next : step S.code (a ∷ rest) ≡ Ends (map a.values vs) = stepped S left most P a rest v h m0 made0 few since (Ret vs) e ∙ ap (λ r. give_back S.code r (map a.values vs)) er in
            let same = c.0 in
            let address : word_in v.stack back_at ≡ word_in S.ram S.c.sp = ap (word_in v.stack) same ∙ c.3 in
            let b0 = P.start.bytes S.c.sp in let b1 = P.start.bytes (S.c.sp + 1) in let ev = P.start.words.even_sp in
            let none : nested 0 v.made ≡ 0 = shallow ∙ ap (total S) eo in (
              record {
                low = omega (arith, same);
                high = omega (arith, same);
                even_sp = omega (arith, same, ev);
                word = t.word;
                awake = t.awake;
                closed = t.closed;
                inside = λ k. (t.inside (sym (inside_is v.made t.depth) ∙ k)).1;
                outside = λ o k g. absurd (clash S (bit sr 3) g (t.outside o (sym (inside_is v.made t.depth) ∙ k)));
                back = λ back. record {
                  sp = ap (λ s. s + 2) same;
                  pc = ap even address;
                  gate = gie' ∙ c.2 ∙ sym P.start.level;
                  gie = gie' ∙ c.2;
                  outside = inside_is v.made t.depth ∙ ap (λ n. nat_lt 0 n) none;
                  no_fault = t.going;
                  value = joined (map a.values vs);
                  turns = suc h.reached.taken;
                  ended = ended S.code S.root (a ∷ rest) (h.opens ∷ h.outer) v.made v.answers h.reached (map a.values vs) next;
                  result = given_is S.gives regs (map a.values vs) (lengths vs ∙ gives_many ∙ ap P.form.gives c.1 ∙ sym P.given) (let l = lengths vs in omega (arith, l, few_given)) are;
                };
              },
              inr (omega (arith, same)),
              omega arith,
              omega (arith, address, b0, b1),
            )

    -- a caller goes on
    resumes : (sr : ℕ) (regs : ℕ → ℕ) (k : Activation) (more : List Activation) → rest ≡ k ∷ more → Callers S v.stack (bit v.sr 3) back_at a.f (k ∷ more) h.outer → bit sr 3 ≡ bit v.sr 3 → AreIn S 12 (map a.values vs) regs → ((sp : ℕ) → S.c.sp ≤ sp + S.deep S.root → sp ≤ S.c.sp → even sp ≡ sp → ToldAt S v.made v.answers sp sr (bit sr 3) v.faulted) →
        After S left most P a rest v h m0 made0 few since (returned sr regs)
    resumes sr regs k more er callers gie' are t = by h.outer refl callers
      where
        by : (outer : List (List ℕ)) → h.outer ≡ outer → Callers S v.stack (bit v.sr 3) back_at a.f (k ∷ more) outer → After S left most P a rest v h m0 made0 few since (returned sr regs)
        by [] eo c = absurd c
        by (opens ∷ outer) eo c =
            let r = c.1 in
            let xs = map a.values vs in
            let words = words_of S a.f in
            let g = write_all k r.taken xs in
            let next : step S.code (a ∷ rest) ≡ Goes (g ∷ more) = stepped S left most P a rest v h m0 made0 few since (Ret vs) e ∙ ap (λ x. give_back S.code x xs) er ∙ ap (λ i. Goes (take_back i k xs ∷ more)) r.call in
            let reached = goes S.code S.root (a ∷ rest) (h.opens ∷ h.outer) v.made v.answers h.reached (g ∷ more) (opens ∷ outer) next (opens' ∙ eo) in
            let bound = few_left S left most P (g ∷ more) (opens ∷ outer) v.made v.answers reached in
            let p = r.placed regs in
            let fits' = all_get (FitsProgram S.code P.form.gives k.f) (fn S k).code k.at (Call a.f r.passed r.taken) r.call (P.form.fits k.f) in
            let names' = all_get (NamesOwn (fn S k)) (fn S k).code k.at (Call a.f r.passed r.taken) r.call (own_form S.code P.form k.f p.function).names in
            let lo = p.low in let ro = p.room in let es = p.even_sp in
            let depth = (P.deep k.f p.function).least in
            let steps' = subst (IsDeeper S.code S.homes S.own S.deep k.f) r.call ((P.deep k.f p.function).calls k.at) in
            begun S left most P a rest v h m0 made0 few since g more (returned sr regs) next bound (inr (
              record {
                opens = opens;
                outer = outer;
                first = c.0;
                words = words;
                taken = r.taken;
                given = xs;
                before = k.values;
                values = refl;
                in_registers = are;
                many = fits'.2 ∙ sym gives_many ∙ sym (lengths vs);
                few = (let two = P.form.at_most_two a.f in let f2 = fits'.2 in omega (arith, two, f2));
                below = names'.written;
                placed = record {
                  function = p.function;
                  values = p.values;
                  bytes = p.bytes;
                  saved = subst (λ q. Saved S k.f v.stack (back_at + 2 + 2 * words) q opens c.0) (sym gie') p.saved;
                  low = p.low;
                  room = p.room;
                  even_sp = p.even_sp;
                };
                callers = c.2;
                place = behind (fn S k).code k.at (Call a.f r.passed r.taken) (own_end S.code P.form k.f p.function) r.call refl;
                stands = subst (λ q. PartsStand S.image S.marks S.entries (labels S k.f) q (raised (2 * words) ++ takes S.code (S.homes k.f) (S.own k.f) 12 r.taken) (S.places k.f (k.at + 1))) (sym r.even_ret) r.stands;
                reached = reached;
                nest = shallow ∙ ap (total S) eo;
                told = t (back_at + 2) (omega (arith, lo, depth, steps')) (omega (arith, ro)) (omega (arith, es));
              },
              subst (ResumesBy S left most P a rest v h m0 made0 few since) (sym e) tt,
            ))

    leaves : (sr : ℕ) (regs : ℕ → ℕ) (r : List Activation) → rest ≡ r → Callers S v.stack (bit v.sr 3) back_at a.f r h.outer → bit sr 3 ≡ bit v.sr 3 → AreIn S 12 (map a.values vs) regs → ((sp : ℕ) → S.c.sp ≤ sp + S.deep S.root → sp ≤ S.c.sp → even sp ≡ sp → ToldAt S v.made v.answers sp sr (bit sr 3) v.faulted) →
        After S left most P a rest v h m0 made0 few since (returned sr regs)
    leaves sr regs [] er callers gie' are t = inl (ends_here sr regs er callers gie' are (t v.sp h.told.low h.told.below h.told.even_sp))
    leaves sr regs (k ∷ more) er callers gie' are t = resumes sr regs k more er callers gie' are t

    abbrev Left : ℕ → Type 0
    Left n = Given vs n (raised (S.own a.f) ++ return ∷ [])

    -- ADD of the function's own bytes to SP, where it has some, and RET
    abbrev Out : Bool → ℕ → Type 0
    Out b n = (pc : ℕ) (gate : Bool) (regs : ℕ → ℕ) → ((r : ℕ) → r < 12 → regs r ≡ v.regs r) → AreIn S 12 (map a.values vs) regs →
        Stand S a.f pc ((if b then [] else plain (Two op2.Add false (operand_of (literal (S.own a.f))) (Reg 1)) ∷ []) ++ return ∷ []) (end S left most P a rest v h m0 made0 few since) → ToldAt S v.made v.answers v.sp v.sr gate v.faulted → Piece S left most P a rest v h m0 made0 few since n (holding pc gate regs)

    none : S.own a.f ≡ 0 → Out true 1
    none z pc gate regs low are st t =
        let u = holding pc gate regs in
        let same : v.sp + S.own a.f ≡ v.sp = omega (arith, z) in
        let at = marked S a.f pc (end S left most P a rest v h m0 made0 few since) [] (Two op2.Mov false (Increment 1) (Reg 0)) [] st in
        let room : v.sp + 2 ≤ S.c.sp + 2 = let b = t.below in omega (arith, b) in
        one S left most P a rest v h m0 made0 few since 0 u (record u { pc = even (word_in v.stack v.sp); sp = v.sp + 2; gate = bit v.sr 3 }) t refl (ret S.image S.data_end S.marks S.c.sp u (ready S left most P u t) room at)
        (subst (λ s. After S left most P a rest v h m0 made0 few since (record u { pc = even (word_in v.stack s); sp = s + 2; gate = bit v.sr 3 })) same
        (leaves v.sr regs rest refl callers' refl are (λ sp lo hi ev. settled S (moved S sp lo hi ev t))))

    some : Out false 2
    some pc gate regs low are st t =
        let u = holding pc gate regs in
        let own' = S.own a.f in
        let p = placed S left most P a rest v h in
        let ro = p.room in let lo = p.low in let es = p.even_sp in let ev = (P.framed a.f p.function).even_own in let hi = P.start.high in let depth = (P.deep a.f p.function).least in
        let calm = tame v.sr _ _ _ _ in
        let sr = (operate op2.Add false v.sr own' v.sp).sr in
        let u1 = record (passed u (2 + further (operand_of (literal own')))) { sp = v.sp + own'; sr = sr } in
        let at = marked S a.f pc (end S left most P a rest v h m0 made0 few since) [] (Two op2.Add false (operand_of (literal own')) (Reg 1)) (return ∷ []) st in
        let st0 = behind_two S a.f pc (end S left most P a rest v h m0 made0 few since) [] op2.Add false (operand_of (literal own')) (Reg 1) (return ∷ []) st in
        let plus : pc + (2 + further (operand_of (literal own')) + 0) ≡ pc + (2 + further (operand_of (literal own'))) = omega arith in
        let st1 = subst (λ m. Stand S a.f m (return ∷ []) (end S left most P a rest v h m0 made0 few since)) plus st0 in
        let at1 = marked S a.f u1.pc (end S left most P a rest v h m0 made0 few since) [] (Two op2.Mov false (Increment 1) (Reg 0)) [] st1 in
        let t0 = flagged S sr calm.gie calm.off calm.small (settled S t) in
        let t1 = moved S (v.sp + own') (omega (arith, lo, depth)) (omega (arith, ro)) (omega (arith, es, ev)) t0 in
        one S left most P a rest v h m0 made0 few since 1 u u1 t refl (drop_frame S.image S.data_end S.marks S.c.sp u (literal own') own' (ready S left most P u t) at (has_literal (S.c.sp + 2) v.sp regs v.stack own' (omega (arith, ro, hi))) (omega (arith, ro)) ev)
        (one S left most P a rest v h m0 made0 few since 0 u1 (returned sr regs) t1 refl (ret S.image S.data_end S.marks S.c.sp u1 (ready S left most P u1 t1) (omega (arith, ro)) at1)
        (leaves sr regs rest refl callers' calm.gie are (λ sp lo' hi' ev'. settled S (moved S sp lo' hi' ev' t0))))

    leaving : (i : ℕ) × (i ≤ 1) × Left (suc i)
    leaving = by (S.own a.f == 0) (eqb_tells (S.own a.f) 0)
      where
        by : (b : Bool) → ((b ≡ true) × (S.own a.f ≡ 0)) ⊎ ((b ≡ false) × (S.own a.f ≢ 0)) → (i : ℕ) × (i ≤ 1) × Out b (suc i)
        by true (inl y) = (0, omega arith, none y.1)
        by true (inr y) = absurd (let q = y.0 in let z : ⊥ = cc in z)
        by false (inl y) = absurd (let q = y.0 in let z : ⊥ = cc in z)
        by false (inr y) = (1, omega arith, some)

    pub return_piece : (i : ℕ) × (i ≤ 3) × Piece S left most P a rest v h m0 made0 few since (suc i) v
    return_piece =
        let l = leaving in
        let short = few_given in
        let few' = l.1 in
        let total' : length vs + suc l.0 ≡ suc (length vs + l.0) = omega arith in (
          length vs + l.0,
          omega (arith, short, few'),
          subst (λ n. Piece S left most P a rest v h m0 made0 few since n v) total'
              (giving vs (suc l.0) (raised (S.own a.f) ++ return ∷ []) short (names S left most P a rest v h (Ret vs) e).read (stands S left most P a rest v h (Ret vs) e) l.2),
        )
