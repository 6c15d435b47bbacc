-- Helps: values go to registers from R12 on, and a routine gives what the helper gives.
use Rattle.std.proofs.Common.{None, Some, Option, ◌≡◌, ◌⊎◌, ℕ, zero, suc, ◌+◌, ◌-◌, ◌*◌, ◌/◌, ◌%◌, ◌<◌, ◌≤◌, Bool, true, false, cond, nat_lt, List, [], ◌∷◌, ◌++◌, length, map, All, refl, sym, ap, ◌∙◌, subst, arith, append-nil}
use mathlib.Core.Logic.{inl, inr}
use Rattle.std.specs.Prelude.{slice_get, slice_index}
use Rattle.std.proofs.lemmas.Bool.{cases_lt, ne_eqb}
use Rattle.std.proofs.lemmas.List.Elements.{All-head, All-tail}
use Rattle.nm_base.specs.Lists.{bit, IsPrefixOf}
use Rattle.nm_base.specs.declared.action.Action.{Action}
use Rattle.nm_base.specs.declared.action.Action.TheVariants as action
use Rattle.nm_base.specs.declared.int_type.IntType.{IntType}
use Rattle.nm_base.specs.declared.int_type.IntType.TheVariants.{I8, U8, I16, U16, I32, U32}
use Rattle.msp_isa.specs.declared.code.Item.TheVariants as item
use Rattle.msp_isa.specs.declared.instr.Instr.TheVariants.{One}
use Rattle.msp_isa.specs.declared.instr.Op1.TheVariants as op1
use Rattle.msp_isa.specs.declared.instr.Op2.TheVariants as op2
use Rattle.msp_isa.specs.declared.instr.Operand.TheVariants.{Immediate, Reg}
use Rattle.msp430_cpu.specs.Cpu.{Cpu, changed_at, even, reg}
use Rattle.msp430_cpu.specs.Exec.{further}
use Rattle.msp430_cpu.specs.Memory.{with_word_at}
use Rattle.mid_code.specs.declared.help.HelpOp.{HelpOp}
use Rattle.mid_code.specs.declared.code.Check.{Check}
use Rattle.mid_code.specs.declared.instr.Mid.TheVariants.{Help}
use Rattle.mid_code.specs.Form.{HelpFits, KindFits, OperationFits, passed_to}
use Rattle.mid_code.specs.Help.{computed, first_check, halves, helped, is_part, is_shift, is_wide, operation_at, places, type_at}
use Rattle.mid_code.specs.Machine.{Activation, Goes, help_to, instruction, step, write_all}
use Rattle.mid_code.specs.Words.{joined}
use Rattle.open_law.specs.Homes.{at_home}
use Rattle.open_law.specs.Open.{Code, HoldsWords, Moment, Open, open_start, went}
use Rattle.open_law.specs.Body.{code_below}
use Rattle.open_law.specs.Stands.{IsMarked}
use Rattle.open_law.proofs.View.{View, Shows}
use Rattle.open_law.proofs.Quiet.{reg_plain}
use Rattle.open_law.proofs.Flow.{pushing as pushing_view}
use Rattle.open_law.proofs.Homes.{word_above, word_same}
use Rattle.open_law.proofs.Chain.{Takes, call}
use Rattle.msp_select.specs.Routine.{Ends, Faults, Hold, IsBack, IsGoing, IsInside, IsRoutine, Turns, routine_stack}
use Rattle.msp_select.specs.Select.{Part, gives, routine_of, takes}
use Rattle.msp_select.specs.Sound.{IsDeeper, PartsStand}
use Rattle.msp_select.proofs.Following.{Agrees, Beyond, follows, goes_on, later, next_view}
use Rattle.msp_select.proofs.Nest.{nested, nested_on}
use Rattle.msp_select.proofs.Reached.{Reached, faulted, goes}
use Rattle.msp_select.proofs.Relation.{Setting, AreIn, Callers, GoodOne, Here, Placed, Resuming, Told, ToldAt, act, did, flagged, fn, good, labels, moved, obeys, settled}
use Rattle.msp_select.proofs.Kept.{Premises, SameFrom, callers_on, placed_on, placed_stayed, ready, word_on}
use Rattle.msp_select.proofs.Doing.{After, NextOne, Piece, ResumesBy, Stand, begun, behind_two, end, few_left, fits, may, names, onward_place, opened, placed, stands, stepped}
use Rattle.msp_select.proofs.Returning.{holding, one_given, set_here, set_low}

-- ---- how many values helpers take and give

places_few : (t : IntType) → places t ≤ 2
places_few I8 = omega arith
places_few U8 = omega arith
places_few I16 = omega arith
places_few U16 = omega arith
places_few I32 = omega arith
places_few U32 = omega arith

halves_many : (t : IntType) (x : ℕ) → length (halves t x) ≡ places t
halves_many t x = by (is_wide t)
  where
    by : (b : Bool) → length (cond b (x % 65536 ∷ x / 65536 ∷ []) (x % 65536 ∷ [])) ≡ cond b 2 1
    by true = refl
    by false = refl

passed_few : (o : HelpOp) (t : IntType) → passed_to o t ≤ 4
passed_few o t = by (is_shift o) (places_few t)
  where
    by : (b : Bool) → places t ≤ 2 → places t + cond b 1 (places t) ≤ 4
    by true h = omega (arith, h)
    by false h = omega (arith, h)

computed_many : (t : Option IntType) (o : Option HelpOp) (vs : List ℕ) (ins outs : ℕ) → OperationFits t o ins outs → (length (computed t o vs) ≡ outs) × (ins ≤ 4) × (outs ≤ 2)
computed_many None o vs ins outs h = absurd h
computed_many (Some t) None vs ins outs h = absurd h
computed_many (Some t) (Some o) vs ins outs h =
    let a = passed_few o t in let b = places_few t in let i = h.0 in let j = h.1 in
    (halves_many t _ ∙ sym j, omega (arith, a, i), omega (arith, b, j))

some_is : (xs ys : List ℕ) → Some xs ≡ Some ys → xs ≡ ys
some_is xs ys e = cc

kind_many : (b : Bool) (checks k : ℕ) (check : Option Check) (vs : List ℕ) (ins outs : ℕ) → KindFits b checks k ins outs →
    ((xs : List ℕ) → cond b (Some (computed (type_at (k / 8)) (operation_at (k % 8)) vs)) (cond (is_part check (joined vs)) (Some []) None) ≡ Some xs → length xs ≡ outs) × (ins ≤ 4) × (outs ≤ 2)
kind_many true checks k check vs ins outs h =
    let c = computed_many (type_at (k / 8)) (operation_at (k % 8)) vs ins outs h in
    (λ xs e. ap length (sym (some_is _ xs e)) ∙ c.0, c.1, c.2)
kind_many false checks k check vs ins outs h = let i = h.1 in let j = h.2 in (λ xs e. by (is_part check (joined vs)) xs e ∙ sym j, omega (arith, i), omega (arith, j))
  where
    by : (b : Bool) (xs : List ℕ) → cond b (Some []) None ≡ Some xs → length xs ≡ 0
    by true xs e = ap length (sym (some_is [] xs e))
    by false xs e = absurd (let z : ⊥ = cc in z)

-- ---- twelve registers as a list

abbrev twelve : (ℕ → ℕ) → List ℕ
twelve f = f 4 ∷ f 5 ∷ f 6 ∷ f 7 ∷ f 8 ∷ f 9 ∷ f 10 ∷ f 11 ∷ f 12 ∷ f 13 ∷ f 14 ∷ f 15 ∷ []

twelve_below : (f : ℕ → ℕ) → ((r : ℕ) → f r < 0x10000) → (i : ℕ) → slice_index (twelve f) i < 0x10000
twelve_below f h zero = h 4
twelve_below f h (suc zero) = h 5
twelve_below f h (suc (suc zero)) = h 6
twelve_below f h (suc (suc (suc zero))) = h 7
twelve_below f h (suc (suc (suc (suc zero)))) = h 8
twelve_below f h (suc (suc (suc (suc (suc zero))))) = h 9
twelve_below f h (suc (suc (suc (suc (suc (suc zero)))))) = h 10
twelve_below f h (suc (suc (suc (suc (suc (suc (suc zero))))))) = h 11
twelve_below f h (suc (suc (suc (suc (suc (suc (suc (suc zero)))))))) = h 12
twelve_below f h (suc (suc (suc (suc (suc (suc (suc (suc (suc zero))))))))) = h 13
twelve_below f h (suc (suc (suc (suc (suc (suc (suc (suc (suc (suc zero)))))))))) = h 14
twelve_below f h (suc (suc (suc (suc (suc (suc (suc (suc (suc (suc (suc zero))))))))))) = h 15
twelve_below f h (suc (suc (suc (suc (suc (suc (suc (suc (suc (suc (suc (suc i)))))))))))) = omega arith

twelve_at : (f : ℕ → ℕ) (i : ℕ) → i < 12 → slice_index (twelve f) i ≡ f (i + 4)
twelve_at f zero lt = refl
twelve_at f (suc zero) lt = refl
twelve_at f (suc (suc zero)) lt = refl
twelve_at f (suc (suc (suc zero))) lt = refl
twelve_at f (suc (suc (suc (suc zero)))) lt = refl
twelve_at f (suc (suc (suc (suc (suc zero))))) lt = refl
twelve_at f (suc (suc (suc (suc (suc (suc zero)))))) lt = refl
twelve_at f (suc (suc (suc (suc (suc (suc (suc zero))))))) lt = refl
twelve_at f (suc (suc (suc (suc (suc (suc (suc (suc zero)))))))) lt = refl
twelve_at f (suc (suc (suc (suc (suc (suc (suc (suc (suc zero))))))))) lt = refl
twelve_at f (suc (suc (suc (suc (suc (suc (suc (suc (suc (suc zero)))))))))) lt = refl
twelve_at f (suc (suc (suc (suc (suc (suc (suc (suc (suc (suc (suc zero))))))))))) lt = refl
twelve_at f (suc (suc (suc (suc (suc (suc (suc (suc (suc (suc (suc (suc i)))))))))))) lt = absurd (omega (arith, lt))

register_at : (f : ℕ → ℕ) (r : ℕ) → 4 ≤ r → r < 16 → slice_index (twelve f) (r - 4) ≡ f r
register_at f r lo hi = let e : r - 4 + 4 ≡ r = omega (arith, lo) in twelve_at f (r - 4) (omega (arith, lo, hi)) ∙ ap f e

pub hold_on : (r : ℕ) (xs : List ℕ) (f g : ℕ → ℕ) → ((q : ℕ) → r ≤ q → q < 16 → g q ≡ f q) → r + length xs ≤ 16 → Hold r xs f → Hold r xs g
hold_on r [] f g same few h = tt
hold_on r (x ∷ xs) f g same few h = (same r (omega arith) (omega (arith, few)) ∙ h.0, h.1, hold_on (suc r) xs f g (λ q le lt. same q (omega (arith, le)) lt) (omega (arith, few)) h.2)

small_word : (n : ℕ) → n < 0x10000 → n % 0x10000 ≡ n
small_word n lt = omega (arith, lt)

small_byte : (n : ℕ) → n < 0x100 → n % 0x100 ≡ n
small_byte n lt = omega (arith, lt)

-- what registers hold, cut to words
hold_words : (r : ℕ) (xs : List ℕ) (f : ℕ → ℕ) → Hold r xs f → Hold r xs (λ q. f q % 0x10000)
hold_words r [] f h = tt
hold_words r (x ∷ xs) f h = (ap (λ n. n % 0x10000) h.0 ∙ small_word x h.1, h.1, hold_words (suc r) xs f h.2)

module _ (S : Setting) (left : List Activation → ℕ) (most : ℕ) (P : Premises S left most) (a : Activation) (rest : List Activation) (v : View) (h : Here S a rest v) (m0 : ℕ) (made0 : List Action) (few : 2 * left (a ∷ rest) ≤ m0) (since : v.made ≡ made0) where
  are_in : (r : ℕ) (xs : List ℕ) (regs : ℕ → ℕ) → Hold r xs regs → AreIn S r xs regs
  are_in r [] regs t = tt
  are_in r (x ∷ xs) regs t = (t.0, t.1, are_in (suc r) xs regs t.2)

  -- ---- values to registers

  -- at most so many instructions behind them, which may hang on what registers hold
  abbrev Some_piece : ℕ → View → Type 0
  Some_piece bound u = (i : ℕ) × (i ≤ bound) × Piece S left most P a rest v h m0 made0 few since (suc i) u

  abbrev Given : (r : ℕ) (vs : List ℕ) (regs : ℕ → ℕ) (bound : ℕ) (tail : List Part) → Type 0
  Given r vs regs bound tail =
      (pc' : ℕ) (gate' : Bool) (regs' : ℕ → ℕ) → ((q : ℕ) → q < r → regs' q ≡ regs q) → Hold r (map a.values vs) regs' → Stand S a.f pc' tail (end S left most P a rest v h m0 made0 few since) → ToldAt S v.made v.answers v.sp v.sr gate' v.faulted →
      Some_piece bound (holding S left most P a rest v h m0 made0 few since pc' gate' regs')

  set_other : (regs : ℕ → ℕ) (r n q : ℕ) → q < r → changed_at regs r n q ≡ regs q
  set_other regs r n q lt = ap (λ b. cond b n (regs q)) (ne_eqb q r (λ e. omega (arith, e, lt)))

  giving : (vs : List ℕ) (r bound : ℕ) (tail : List Part) (pc : ℕ) (gate : Bool) (regs : ℕ → ℕ) → 12 ≤ r → r + length vs ≤ 16 → All (λ x. x < (fn S a).values) vs → ((q : ℕ) → q < 12 → regs q ≡ v.regs q) →
      Stand S a.f pc (gives S.code (S.homes a.f) (S.own a.f) r vs ++ tail) (end S left most P a rest v h m0 made0 few since) → ToldAt S v.made v.answers v.sp v.sr gate v.faulted → Given r vs regs bound tail →
      Some_piece (length vs + bound) (holding S left most P a rest v h m0 made0 few since pc gate regs)
  giving [] r bound tail pc gate regs lo hi all low st t go = let x = go pc gate regs (λ q lt. refl) tt st t in let l = x.1 in (x.0, omega (arith, l), x.2)
  giving (x ∷ vs) r bound tail pc gate regs lo hi all low st t go =
      let lx = All-head (λ y. y < (fn S a).values) x vs all in
      let m = a.values x in
      let st1 = behind_two S a.f pc (end S left most P a rest v h m0 made0 few since) [] op2.Mov false (at_home (S.homes a.f x)) (Reg r) (gives S.code (S.homes a.f) (S.own a.f) (suc r) vs ++ tail) st in
      let g = giving vs (suc r) bound tail (pc + (2 + further (at_home (S.homes a.f x)) + 0)) (bit v.sr 3) (changed_at regs r m) (omega (arith, lo)) (omega (arith, hi)) (All-tail (λ y. y < (fn S a).values) x vs all) (set_low S left most P a rest v h m0 made0 few since regs r m lo low) st1 (settled S t)
      (λ pc' gate' regs' same held st' t'.
      go pc' gate' regs' (λ q lt. same q (omega (arith, lt)) ∙ set_other regs r m q lt) (same r (omega arith) ∙ set_here S left most P a rest v h m0 made0 few since regs r m, ((placed S left most P a rest v h).values x lx).2, held) st' t') in
      let l = g.1 in
      (suc g.0, omega (arith, l), one_given S left most P a rest v h m0 made0 few since x r (suc g.0) (gives S.code (S.homes a.f) (S.own a.f) (suc r) vs ++ tail) pc gate regs lx lo (omega (arith, hi)) low st t (λ st2. g.2))

  -- ---- the call of the routine

  lengths : (l : List ℕ) → length (map a.values l) ≡ length l
  lengths [] = refl
  lengths (y ∷ l) = ap suc (lengths l)

  module _ (k : ℕ) (ins outs : List ℕ) (e : instruction S.code a ≡ Some (Help k ins outs)) where
    fit : HelpFits (length S.code.checks) k (length ins) (length outs)
    fit = fits S left most P a rest v h (Help k ins outs) e

    abbrev passed_values : List ℕ
    passed_values = map a.values ins

    sizes : ((xs : List ℕ) → helped S.code k passed_values ≡ Some xs → length xs ≡ length outs) × (length ins ≤ 4) × (length outs ≤ 2)
    sizes = kind_many (nat_lt k first_check) (length S.code.checks) k (slice_get S.code.checks (k - first_check)) passed_values (length ins) (length outs) fit

    abbrev entry_at : ℕ
    entry_at = S.entries (routine_of (length S.code.fns) k)

    routine : IsRoutine S.code S.image S.data_end S.marks k entry_at P.most_help
    routine = P.routines a.f a.at k ins outs e

    depth : S.own a.f + routine_stack ≤ S.deep a.f
    depth = subst (IsDeeper S.code S.homes S.own S.deep a.f) e ((P.deep a.f (placed S left most P a rest v h).function).calls a.at)

    abbrev code0 : Code
    code0 = code_below S.image S.data_end S.marks (S.c.sp + 2)

    module _ (pc : ℕ) (gate : Bool) (regs : ℕ → ℕ) (low : (q : ℕ) → q < 12 → regs q ≡ v.regs q) (held : Hold 12 (map a.values ins) regs)
        (st : Stand S a.f pc (record { silent = []; item = item.CallFn (routine_of (length S.code.fns) k) } ∷ takes S.code (S.homes a.f) (S.own a.f) 12 outs) (end S left most P a rest v h m0 made0 few since))
        (t : ToldAt S v.made v.answers v.sp v.sr gate v.faulted) where
      abbrev u : View
      u = holding S left most P a rest v h m0 made0 few since pc gate regs

      abbrev stack1 : ℕ → ℕ
      stack1 = with_word_at v.stack (v.sp - 2) (pc + 4)

      abbrev w0 : View
      w0 = record (pushing_view u (pc + 4)) { pc = entry_at; gate = bit v.sr 3 }

      abbrev start : Cpu
      start = record { pc = entry_at; sp = v.sp - 2; sr = v.sr; others = twelve (λ q. regs q % 0x10000); gate = bit v.sr 3 }

      abbrev ram0 : ℕ → ℕ
      ram0 b = stack1 b % 0x100

      room : S.data_end + routine_stack ≤ v.sp
      room = let p = placed S left most P a rest v h in let lo = p.low in let d = depth in let r = P.start.room in omega (arith, lo, d, r)

      start_words : HoldsWords start
      start_words = record {
        pc = routine.small_entry;
        even_pc = routine.even_entry;
        even_sp = let ev = t.even_sp in let r = room in omega (arith, ev, r);
        sr = t.word;
        twelve = refl;
        others = twelve_below (λ q. regs q % 0x10000) (λ r. omega arith);
      }

      start_reg : (q : ℕ) → 4 ≤ q → q < 16 → reg start q ≡ regs q % 0x10000
      start_reg q lo hi = reg_plain start q lo ∙ register_at (λ r. regs r % 0x10000) q lo hi

      start_held : Hold 12 passed_values (reg start)
      start_held = hold_on 12 passed_values (λ q. regs q % 0x10000) (reg start) (λ q le lt. start_reg q (omega (arith, le)) lt) (let s = sizes.1 in let l = lengths ins in omega (arith, s, l)) (hold_words 12 passed_values regs held)

      abbrev Run : Option (List ℕ) → Type 0
      Run r = (n : ℕ) × (n < P.most_help) × Turns code0 (IsGoing code0 start ram0) (Ends code0 start ram0 r) n (open_start start ram0)

      run : Run (helped S.code k passed_values)
      run = routine.runs passed_values (S.c.sp + 2) start ram0 (length outs, subst (λ n. HelpFits (length S.code.checks) k n (length outs)) (sym (lengths ins)) fit, may S left most P a rest v h (Help k ins outs) e) refl start_words t.awake refl start_held (λ b. omega arith)
          (let r = room in omega (arith, r)) (let b = t.below in let r = room in omega (arith, b, r)) P.start.high

      -- ---- what is told while it runs

      inside_told : (o : Open) → IsInside code0 start ram0 o → ToldAt S v.made v.answers o.cpu.sp o.cpu.sr o.cpu.gate v.faulted
      inside_told o i =
          let p = placed S left most P a rest v h in let lo = p.low in let d = depth in let b = t.below in let r = room in
          let il = i.low in let ih = i.high in
          subst (λ g. ToldAt S v.made v.answers o.cpu.sp o.cpu.sr g v.faulted) (sym i.gate)
          (flagged S o.cpu.sr i.gie (i.awake ∙ sym t.awake) i.words.sr (moved S o.cpu.sp (omega (arith, lo, d, r, il)) (omega (arith, ih, b, r)) i.words.even_sp (settled S t)))

      view_told : (o : Open) (w : View) → Agrees S.image S.data_end S.marks S.c.sp w o → w.made ≡ v.made → w.answers ≡ v.answers → w.faulted ≡ None → ToldAt S v.made v.answers o.cpu.sp o.cpu.sr o.cpu.gate v.faulted → Told S w
      view_told o w g em ea ef x =
          subst (λ f. ToldAt S w.made w.answers w.sp w.sr w.gate f) (t.going ∙ sym ef)
          (subst (λ l. ToldAt S w.made l w.sp w.sr w.gate v.faulted) (sym ea)
          (subst (λ l. ToldAt S l v.answers w.sp w.sr w.gate v.faulted) (sym em)
          (subst (λ b. ToldAt S v.made v.answers w.sp w.sr b v.faulted) g.gate
          (subst (λ n. ToldAt S v.made v.answers w.sp n o.cpu.gate v.faulted) g.sr (subst (λ n. ToldAt S v.made v.answers n o.cpu.sr o.cpu.gate v.faulted) g.sp x)))))

      next_one : (w1 w2 : View) → w1.answers ≡ v.answers → w2.made ≡ v.made → NextOne S left most P a rest v h m0 made0 few since w1 w2
      next_one w1 w2 ea em = (t.told.0, subst (λ m. IsPrefixOf m (act S w1.answers t.told.0).actions) (sym em) (subst (λ l. IsPrefixOf v.made (act S l t.told.0).actions) (sym ea) t.told.1))

      -- ---- it is back

      module _ (bytes : (b : ℕ) → v.sp - 2 ≤ b → b < S.c.sp + 2 → stack1 b < 0x100) (small : (r : ℕ) → 4 ≤ r → r < 16 → regs r < 0x10000) where
        module _ (xs : List ℕ) (eh : helped S.code k passed_values ≡ Some xs) (o : Open) (w : View) (g : Agrees S.image S.data_end S.marks S.c.sp w o) (beyond : Beyond S.image S.data_end S.marks S.c.sp regs stack1 w)
            (em : w.made ≡ v.made) (ea : w.answers ≡ v.answers) (ef : w.faulted ≡ None) (b : IsBack code0 start ram0 xs o) where
          at_sp : w.sp ≡ v.sp
          at_sp = let r = room in let x = g.sp in let y = b.sp in omega (arith, r, x, y)

          low_same : (r : ℕ) → r < 12 → w.regs r ≡ v.regs r
          low_same r lt = by (cases_lt r 4)
            where
              by : (r < 4) ⊎ (4 ≤ r) → w.regs r ≡ v.regs r
              by (inl l) = beyond.regs r l ∙ low r lt
              by (inr l) = sym (g.regs r l (omega (arith, lt))) ∙ sym (reg_plain o.cpu r l) ∙ b.kept r l lt ∙ start_reg r l (omega (arith, lt)) ∙ small_word (regs r) (small r l (omega (arith, lt))) ∙ low r lt

          stack_same : SameFrom S v.sp v.stack w.stack
          stack_same c le = by (cases_lt c (S.c.sp + 2))
            where
              above : stack1 c ≡ v.stack c
              above = let r = room in word_above v.stack (v.sp - 2) (pc + 4) c (omega (arith, le, r))

              by : (c < S.c.sp + 2) ⊎ (S.c.sp + 2 ≤ c) → w.stack c ≡ v.stack c
              by (inl l) =
                  let r = room in let s = at_sp in
                  sym (g.stack c (omega (arith, le, s)) l) ∙ b.above c (omega (arith, le, r)) l ∙ small_byte (stack1 c) (bytes c (omega (arith, le, r)) l) ∙ above
              by (inr l) = beyond.stack c l ∙ above

          at_call : IsMarked S.image S.marks pc [] (One op1.Call false (Immediate entry_at))
          at_call = record { at = st.1.at.0; table = st.1.first (let z = st.1.at.1 in omega (arith, z)) }

          at_pc : w.pc ≡ pc + 4
          at_pc =
              let hi = at_call.at.high in let ev = at_call.at.even in let r = room in let bl = t.below in
              sym g.pc ∙ b.pc
              ∙ ap even (word_on stack1 ram0 (v.sp - 2) (small_byte (stack1 (v.sp - 2)) (bytes (v.sp - 2) (omega arith) (omega (arith, bl, r)))) (small_byte (stack1 (v.sp - 2 + 1)) (bytes (v.sp - 2 + 1) (omega arith) (omega (arith, bl, r)))) ∙ word_same v.stack (v.sp - 2) (pc + 4) (omega (arith, hi)))
              ∙ (let z : even (pc + 4) ≡ pc + 4 = omega (arith, ev) in z)

          next : step S.code (a ∷ rest) ≡ Goes (write_all a outs xs ∷ rest)
          next = stepped S left most P a rest v h m0 made0 few since (Help k ins outs) e ∙ ap (help_to a rest outs) eh

          reached : Reached S.code S.root (write_all a outs xs ∷ rest) (h.opens ∷ h.outer) v.made v.answers
          reached = goes S.code S.root (a ∷ rest) (h.opens ∷ h.outer) v.made v.answers h.reached (write_all a outs xs ∷ rest) (h.opens ∷ h.outer) next (opened S left most P a rest v h m0 made0 few since (Help k ins outs) e refl)

          back_told : Told S w
          back_told =
              view_told o w g em ea ef
              (subst (λ n. ToldAt S v.made v.answers n o.cpu.sr o.cpu.gate v.faulted) (sym at_sp ∙ sym g.sp)
              (subst (λ y. ToldAt S v.made v.answers v.sp o.cpu.sr y v.faulted) (sym b.gate) (flagged S o.cpu.sr b.gie (b.awake ∙ sym t.awake) b.words.sr (settled S t))))

          resuming : Resuming S (write_all a outs xs) rest w
          resuming =
              let same_sp : v.sp ≡ w.sp + 2 * 0 = let s = at_sp in omega (arith, s) in
              let gie' : bit w.sr 3 ≡ bit v.sr 3 = ap (λ n. bit n 3) (sym g.sr) ∙ b.gie in
              record {
                opens = h.opens;
                outer = h.outer;
                first = h.first;
                words = 0;
                taken = outs;
                given = xs;
                before = a.values;
                values = refl;
                in_registers = are_in 12 xs w.regs (hold_on 12 xs (reg o.cpu) w.regs (λ q le lt. sym (g.regs q (omega (arith, le)) lt) ∙ sym (reg_plain o.cpu q (omega (arith, le)))) (let m = sizes.0 xs eh in let s = sizes.2 in omega (arith, m, s)) b.result);
                many = sym (sizes.0 xs eh);
                few = sizes.2;
                below = (names S left most P a rest v h (Help k ins outs) e).written;
                placed = subst (λ s. Placed S (record { f = a.f; at = a.at + 1; values = a.values; frame = a.frame }) h.opens (bit w.sr 3) h.first s w.regs w.stack) same_sp
                    (placed_on S (record { f = a.f; at = a.at + 1; values = a.values; frame = a.frame }) h.opens (bit w.sr 3) h.first v.sp w.regs v.stack w.stack stack_same
                    (placed_stayed S left most P a h.opens (bit v.sr 3) h.first v.sp v.regs v.stack (placed S left most P a rest v h) (a.at + 1) (bit w.sr 3) w.regs low_same gie'));
                callers = subst (λ s. Callers S w.stack h.first (s + S.own a.f) a.f rest h.outer) same_sp
                    (callers_on S v.stack w.stack h.first (v.sp + S.own a.f) a.f rest h.outer (λ c le far. stack_same c (omega (arith, le))) h.callers);
                place = onward_place S left most P a rest v h (Help k ins outs) e refl;
                stands = subst (λ m. PartsStand S.image S.marks S.entries (labels S a.f) m (takes S.code (S.homes a.f) (S.own a.f) 12 outs) (S.places a.f (a.at + 1))) (sym st.1.at.1 ∙ sym at_pc) st.2;
                reached = subst (λ l. Reached S.code S.root (write_all a outs xs ∷ rest) (h.opens ∷ h.outer) l w.answers) (sym em) (subst (λ l. Reached S.code S.root (write_all a outs xs ∷ rest) (h.opens ∷ h.outer) v.made l) (sym ea) reached);
                nest = ap (nested 0) em ∙ h.nest;
                told = back_told;
              }

          goes_back : After S left most P a rest v h m0 made0 few since w
          goes_back =
              begun S left most P a rest v h m0 made0 few since (write_all a outs xs) rest w next (few_left S left most P (write_all a outs xs ∷ rest) (h.opens ∷ h.outer) v.made v.answers reached) (inr (resuming, subst (ResumesBy S left most P a rest v h m0 made0 few since) (sym e) tt))

      -- ---- or it raises the fault

      module _ (eh : helped S.code k passed_values ≡ None) (o : Open) (w : View) (g : Agrees S.image S.data_end S.marks S.c.sp w o)
          (em : w.made ≡ v.made) (ea : w.answers ≡ v.answers) (ef : w.faulted ≡ None) (f : Faults code0 start ram0 o) where
        abbrev raised' : Action
        raised' = action.Fault 2

        faulted' : (n : ℕ) × IsPrefixOf (v.made ++ (raised' ∷ [])) (act S v.answers n).actions
        faulted' = faulted S.code S.root (a ∷ rest) (h.opens ∷ h.outer) v.made v.answers h.reached 2 (stepped S left most P a rest v h m0 made0 few since (Help k ins outs) e ∙ ap (help_to a rest outs) eh)

        raises : Piece S left most P a rest v h m0 made0 few since 1 w
        raises = (
          good S w (view_told o w g em ea ef (inside_told o f.0.0)),
          λ now p moment s.
              let d = f.1 now moment in
              let i = d.1 in
              let z = next_view S.image S.data_end S.marks S.c.sp w o g f.0.0.words now p s regs stack1 (v.made ++ (raised' ∷ [])) v.answers (Some 2) in
              let told' : ToldAt S (v.made ++ (raised' ∷ [])) v.answers z.sp z.sr z.gate v.faulted = did S raised' v.answers faulted' (nested_on 0 v.made raised') refl refl (inside_told (went code0 now o) i) in (
                z,
                inl (obeys S z v.faulted told', inl refl, i.words.even_pc, i.words.pc),
                goes_on S.image S.data_end S.marks S.c.sp w o g f.0.0.words now p s regs stack1 (record { action = raised'; answers = [] } ∷ []) (v.made ++ (raised' ∷ [])) v.answers (Some 2) d.0 (ap S.marks (sym g.pc) ∙ f.0.1) (omega arith) i.words i.bytes
                    ef (ap (λ l. l ++ (raised' ∷ [])) em) (append-nil w.answers ∙ ea) refl,
                subst (λ l. (n : ℕ) × IsPrefixOf (v.made ++ (raised' ∷ [])) (act S l n).actions) (sym ea) faulted',
              ),
        )

      -- ---- the whole

      later_is : (n q : ℕ) → later S.image S.data_end S.marks S.c.sp n q ≡ n + q
      later_is zero q = omega arith
      later_is (suc n) q = let r = later_is n q in omega (arith, r)

      calls_routine : (o : Open) → Takes S.image S.data_end S.marks S.c.sp u w0
      calls_routine o =
          let r = room in
          call S.image S.data_end S.marks S.c.sp u entry_at (ready S left most P u t) (omega (arith, r)) (record { at = st.1.at.0; table = st.1.first (let z = st.1.at.1 in omega (arith, z)) }) routine.even_entry routine.small_entry

      agrees_at : (now : Moment) (p : Open) → (Shows (S.c.sp + 2) w0 p) → Agrees S.image S.data_end S.marks S.c.sp w0 (open_start start ram0)
      agrees_at now p s = record {
        pc = refl;
        sp = refl;
        sr = refl;
        gate = refl;
        regs = λ r lo hi. register_at (λ q. regs q % 0x10000) r lo hi ∙ small_word (regs r) (s.fits.words r lo hi);
        stack = λ b lo hi. small_byte (stack1 b) (subst (λ n. n < 0x100) (s.fits.stack b lo hi) (s.bytes b));
      }

      by_result : (r : Option (List ℕ)) → helped S.code k passed_values ≡ r → Run r → Some_piece P.most_help u
      by_result (Some xs) eh run' =
          let n = run'.0 in
          let lt = run'.1 in let li = later_is n 0 in (
            later S.image S.data_end S.marks S.c.sp n 0,
            omega (arith, lt, li),
            (
              good S u t,
              λ now p moment s.
                  let x = calls_routine p now p moment s in
                  let shows = x.shows in (
                    w0,
                    follows S.image S.data_end S.marks S.c.sp regs stack1 v.made v.answers (GoodOne S) (NextOne S left most P a rest v h m0 made0 few since) (After S left most P a rest v h m0 made0 few since) (IsGoing code0 start ram0) (IsBack code0 start ram0 xs)
                        (λ o go. (go.0.words, go.0.bytes, go.1)) (λ o b. (b.words, b.bytes))
                        (λ o w g em ea ef go. good S w (view_told o w g em ea ef (inside_told o go.0)))
                        (λ w1 w2 ea em. next_one w1 w2 ea em) 0
                        (λ o w g beyond em ea ef b. goes_back (λ c lo hi. subst (λ m. m < 0x100) (shows.fits.stack c lo hi) (shows.bytes c)) shows.fits.words xs eh o w g beyond em ea ef b)
                        n (open_start start ram0) w0 (agrees_at now (went code0 now p) shows) (record { regs = λ r l. refl; stack = λ c l. refl }) refl refl t.going run'.2,
                    x,
                    next_one u w0 refl refl,
                  ),
            ),
          )
      by_result None eh run' =
          let n = run'.0 in
          let lt = run'.1 in let li = later_is n 1 in (
            later S.image S.data_end S.marks S.c.sp n 1,
            omega (arith, lt, li),
            (
              good S u t,
              λ now p moment s.
                  let x = calls_routine p now p moment s in
                  let shows = x.shows in (
                    w0,
                    follows S.image S.data_end S.marks S.c.sp regs stack1 v.made v.answers (GoodOne S) (NextOne S left most P a rest v h m0 made0 few since) (After S left most P a rest v h m0 made0 few since) (IsGoing code0 start ram0) (Faults code0 start ram0)
                        (λ o go. (go.0.words, go.0.bytes, go.1)) (λ o b. (b.0.0.words, b.0.0.bytes))
                        (λ o w g em ea ef go. good S w (view_told o w g em ea ef (inside_told o go.0)))
                        (λ w1 w2 ea em. next_one w1 w2 ea em) 1
                        (λ o w g beyond em ea ef b. raises eh o w g em ea ef b)
                        n (open_start start ram0) w0 (agrees_at now (went code0 now p) shows) (record { regs = λ r l. refl; stack = λ c l. refl }) refl refl t.going run'.2,
                    x,
                    next_one u w0 refl refl,
                  ),
            ),
          )

      routine_piece : Some_piece P.most_help u
      routine_piece = by_result (helped S.code k passed_values) refl run

    pub help_piece : (i : ℕ) × (i ≤ P.most_help + 4) × Piece S left most P a rest v h m0 made0 few since (suc i) v
    help_piece =
        let few' = sizes.1 in
        let g = giving ins 12 P.most_help (record { silent = []; item = item.CallFn (routine_of (length S.code.fns) k) } ∷ takes S.code (S.homes a.f) (S.own a.f) 12 outs) v.pc v.gate v.regs (omega arith) (omega (arith, few'))
        (names S left most P a rest v h (Help k ins outs) e).read (λ q lt. refl) (stands S left most P a rest v h (Help k ins outs) e) h.told
        (λ pc' gate' regs' same held st' t'. routine_piece pc' gate' regs' same held st' t') in
        let l = g.1 in (g.0, omega (arith, few', l), g.2)
