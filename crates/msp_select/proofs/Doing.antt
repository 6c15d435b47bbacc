-- The rules by which the code of an instruction of the middle code is a chain.
use Rattle.std.proofs.Common.{◌≡◌, ◌≢◌, ◌⊎◌, ⊎_elim, ℕ, suc, ◌+◌, ◌*◌, ◌%◌, ◌<◌, ◌≤◌, ◌==◌, Bool, true, false, cond, List, [], ◌∷◌, ◌++◌, length, length-append, Option, Some, refl, sym, ap, ◌∙◌, subst, arith}
use mathlib.Core.Logic.{inl, inr}
use Rattle.std.proofs.lemmas.Bool.Decides.{nat_tests, eqb_tells}
use Rattle.nm_base.specs.Lists.{bit, IsPrefixOf, number_of}
use Rattle.nm_base.specs.declared.action.Action.{Action}
use Rattle.nm_base.specs.declared.action.Action.TheVariants as action
use Rattle.nm_base.specs.Behaviour.{is_begin, is_end}
use Rattle.msp_isa.specs.declared.code.Item.TheVariants as item
use Rattle.msp_isa.specs.declared.instr.Instr.{Instr}
use Rattle.msp_isa.specs.declared.instr.Instr.TheVariants.{Two, One, Jump, Reti}
use Rattle.msp_isa.specs.declared.instr.Op1.{Op1}
use Rattle.msp_isa.specs.declared.instr.Op2.{Op2}
use Rattle.msp_isa.specs.declared.instr.Op2.TheVariants as op2
use Rattle.msp_isa.specs.declared.instr.Operand.{Operand}
use Rattle.msp_isa.specs.declared.instr.Operand.TheVariants.{Reg, Indexed, Absolute, Indirect, Increment, Immediate, Constant}
use Rattle.msp_isa.specs.Encode.{encoded, further_word, before_words}
use Rattle.msp430_cpu.specs.Cpu.{changed_at, even}
use Rattle.msp430_cpu.specs.Exec.{further}
use Rattle.mid_code.specs.declared.instr.Mid.{Mid}
use Rattle.mid_code.specs.declared.instr.Mid.TheVariants.{Set, Move, Bin, Load, Store, Peek, Poke, In, Out, Call, Help, Ret, Tick, Fault}
use Rattle.mid_code.specs.declared.instr.Op.{Op}
use Rattle.mid_code.specs.Words as words
use Rattle.msp430_cpu.specs.Operate.{operate}
use Rattle.mid_code.specs.Form.{NamesOwn, FitsProgram, goes_elsewhere}
use Rattle.mid_code.specs.Machine.{Activation, Goes, Acts, Wants, Stops, peeked, poked, at_place, instruction, onward, perform, step, write}
use Rattle.mid_code.specs.Reached.{IsInFrame, IsPort as IsMidPort, MayGoOn, AllMayGoOn, innermost_instruction, opens_at, opens_behind}
use Rattle.mid_code.proofs.Calls.{behind, own_end, own_form}
use Rattle.open_law.specs.Homes.{Home, InRegister, InFrame, IsPort, Of, StackPointer, at_home, operand_of, literal}
use Rattle.open_law.specs.Stands.{IsMarked}
use Rattle.msp_isa.specs.Stands.{word_in}
use Rattle.msp430_cpu.specs.Memory.{with_word_at}
use Rattle.open_law.proofs.Homes.{word_above, word_other}
use Rattle.open_law.proofs.View.{View}
use Rattle.open_law.proofs.Quiet.{HasAt, IsHomeAt, put_regs, put_stack, put_home, passed}
use Rattle.open_law.proofs.Alu.{with_result}
use Rattle.open_law.proofs.Acting.{having_got, doing}
use Rattle.open_law.proofs.Chain.{Chain, step as chain_step, ask as chain_ask, ask_byte as chain_ask_byte, Takes, Asks, AsksByte, move, operation, load, load_byte as load_a_byte, peek as peek_rule, peek_byte as peek_a_byte, poke as poke_rule, poke_byte as poke_a_byte, store, store_byte as store_a_byte, input, output, fault, nop as nop_rule}
use Rattle.open_law.proofs.Law.{NextOf, Post}
use Rattle.msp_select.specs.Select.{Part, moved, moving, operator, parts_of, scratch, two}
use Rattle.msp_select.proofs.Bytes.{byte_other, byte_poked, word_poked}
use Rattle.msp_select.proofs.Flags.{Tame, tame, has_literal, operator_is, operator_reads, tame_operator, word_of}
use Rattle.msp_select.specs.Sound.{IsFramed, IsOfObjects, PartsStand}
use Rattle.msp_select.proofs.Nest.{nested, nested_on}
use Rattle.msp_select.proofs.Reached.{Reached, goes, acts, wants, told as told_of, next_act, next_want, faulted}
use Rattle.msp_select.proofs.Relation.{Setting, Entering, GoodOne, Here, IsFree, IsSlot, Placed, Resuming, Told, ToldAt, act, did, flagged, fn, good, labels, obeys, settled}
use Rattle.msp_select.proofs.Kept.{Premises, all_get, placed_wrote, placed_stayed, callers_wrote, has, home_of, placed_poked, callers_poked, ready, word_on, SameFrom}

further_bytes : (o : Operand) (ws : List ℕ) → 2 * length (before_words (further_word o) ws) ≡ further o + 2 * length ws
further_bytes (Reg r) ws = omega arith
further_bytes (Indexed r x) ws = omega arith
further_bytes (Absolute x) ws = omega arith
further_bytes (Indirect r) ws = omega arith
further_bytes (Increment r) ws = omega arith
further_bytes (Immediate x) ws = omega arith
further_bytes (Constant x) ws = omega arith

pub size_two : (op : Op2) (byte : Bool) (s d : Operand) → 2 * length (encoded (Two op byte s d)) ≡ 2 + further s + further d
size_two op byte s d =
    let a = further_bytes s (before_words (further_word d) []) in
    let b = further_bytes d [] in
    omega arith

pub size_one : (op : Op1) (byte : Bool) (o : Operand) → 2 * length (encoded (One op byte o)) ≡ 2 + further o
size_one op byte o = let a = further_bytes o [] in omega arith

some_bytes : (i : Instr) → 0 < 2 * length (encoded i)
some_bytes (Two op byte s d) = let e = size_two op byte s d in omega (arith, e)
some_bytes (One op byte o) = let e = size_one op byte o in omega (arith, e)
some_bytes (Jump c k) = omega arith
some_bytes Reti = omega arith

word_parts : (s0 s1 f0 f1 : ℕ) → s0 ≡ f0 → s1 ≡ f1 → s0 + 256 * s1 ≡ f0 + 256 * f1
word_parts s0 s1 f0 f1 e g = ap (λ x. x + 256 * s1) e ∙ ap (λ x. f0 + 256 * x) g

turned : (k : ℕ) → 4 + k ≡ 2 + k + 2
turned k = omega arith

module _ (S : Setting) (f : ℕ) where
  abbrev pub Stand : ℕ → List Part → ℕ → Type 0
  Stand pc ps end = PartsStand S.image S.marks S.entries (labels S f) pc ps end

  -- the instruction at the front
  pub marked : (pc end : ℕ) (silent : List Action) (i : Instr) (ps : List Part) → Stand pc (record { silent = silent; item = item.Is i } ∷ ps) end → IsMarked S.image S.marks pc silent i
  marked pc end silent i ps st = record { at = st.1.at.0; table = st.1.first (let e = st.1.at.1 in let some = some_bytes i in omega (arith, e, some)) }

  -- and what stands behind it
  pub behind_two : (pc end : ℕ) (silent : List Action) (op : Op2) (byte : Bool) (s d : Operand) (ps : List Part) → Stand pc (record { silent = silent; item = item.Is (Two op byte s d) } ∷ ps) end → Stand (pc + (2 + further s + further d)) ps end
  behind_two pc end silent op byte s d ps st = subst (λ n. Stand n ps end) (sym st.1.at.1 ∙ ap (λ n. pc + n) (size_two op byte s d)) st.2

  pub behind_one : (pc end : ℕ) (silent : List Action) (op : Op1) (byte : Bool) (o : Operand) (ps : List Part) → Stand pc (record { silent = silent; item = item.Is (One op byte o) } ∷ ps) end → Stand (pc + (2 + further o)) ps end
  behind_one pc end silent op byte o ps st = subst (λ n. Stand n ps end) (sym st.1.at.1 ∙ ap (λ n. pc + n) (size_one op byte o)) st.2

module _ (S : Setting) (left : List Activation → ℕ) (most : ℕ) (P : Premises S left most) where
  -- at an instruction, or before the first one, or behind a call
  abbrev pub Rel : ℕ → View → Type 0
  Rel m v = (a : Activation) × (rest : List Activation) × ((Here S a rest v × (m ≡ 2 * left (a ∷ rest))) ⊎ ((Entering S a rest v ⊎ Resuming S a rest v) × (m ≡ 2 * left (a ∷ rest) + 1)))

  pub few_left : (s : List Activation) (opens : List (List ℕ)) (made : List Action) (got : List ℕ) → Reached S.code S.root s opens made got → left s ≤ most
  few_left s opens made got r = subst (λ x. left x ≤ most) r.state (P.paced.few r.answers r.words r.taken)

  pub fewer_left : (s s' : List Activation) (opens : List (List ℕ)) (made : List Action) (got : List ℕ) → Reached S.code S.root s opens made got → step S.code s ≡ Goes s' → left s' < left s
  fewer_left s s' opens made got r e = subst (λ x. left s' < left x) r.state (P.paced.fewer r.answers r.words r.taken s' (ap (step S.code) r.state ∙ e))

  module _ (a : Activation) (rest : List Activation) (v : View) (h : Here S a rest v) where
    abbrev pub placed : Placed S a h.opens (bit v.sr 3) h.first v.sp v.regs v.stack
    placed = h.placed

    abbrev pub framed : IsFramed S.code S.homes S.own S.deep a.f
    framed = P.framed a.f placed.function

    -- what the instruction names, and what may be said of it
    pub names : (i : Mid) → instruction S.code a ≡ Some i → NamesOwn (fn S a) i
    names i e = all_get (NamesOwn (fn S a)) (fn S a).code a.at i e (own_form S.code P.form a.f placed.function).names

    pub fits : (i : Mid) → instruction S.code a ≡ Some i → FitsProgram S.code P.form.gives a.f i
    fits i e = all_get (FitsProgram S.code P.form.gives a.f) (fn S a).code a.at i e (P.form.fits a.f)

    pub may : (i : Mid) → instruction S.code a ≡ Some i → MayGoOn S.code a h.opens (Some i)
    may i e =
        let r = h.reached in
        let always = P.keeps.always S.root P.root P.params r.answers r.words r.taken in
        subst (MayGoOn S.code a h.opens) e (subst (λ o. AllMayGoOn S.code (a ∷ rest) o) r.opened (subst (λ s. AllMayGoOn S.code s (opens_at S.code S.root r.answers r.taken)) r.state always))

    pub of_objects : (i : Mid) → instruction S.code a ≡ Some i → IsOfObjects S.data_end (a ∷ rest) (Some i)
    of_objects i e =
        let r = h.reached in
        subst (IsOfObjects S.data_end (a ∷ rest)) e (subst (λ s. IsOfObjects S.data_end s (innermost_instruction S.code s)) r.state (P.objects.always r.answers r.words r.taken))

    pub onward_place : (i : Mid) → instruction S.code a ≡ Some i → goes_elsewhere i ≡ false → a.at + 1 < length (fn S a).code
    onward_place i e on = behind (fn S a).code a.at i (own_end S.code P.form a.f placed.function) e on

    -- its code
    pub stands : (i : Mid) → instruction S.code a ≡ Some i → Stand S a.f v.pc (parts_of S.code (S.homes a.f) (S.own a.f) i) (S.places a.f (a.at + 1))
    stands i e = subst (λ pc. Stand S a.f pc (parts_of S.code (S.homes a.f) (S.own a.f) i) (S.places a.f (a.at + 1))) (sym h.pc) (P.standing.body a.f a.at i placed.function e)

    -- the call behind an instruction that wrote a value
    pub wrote : (x n pc sr : ℕ) (gate : Bool) (regs : ℕ → ℕ) (made : List Action) (answers : List ℕ) → x < (fn S a).values → n < 0x10000 → a.at + 1 < length (fn S a).code →
        pc ≡ S.places a.f (a.at + 1) → ((r : ℕ) → r < 12 → regs r ≡ put_regs (S.homes a.f x) n v.regs r) → bit sr 3 ≡ bit v.sr 3 →
        Reached S.code S.root (write a x n ∷ rest) (h.opens ∷ h.outer) made answers → nested 0 made ≡ nested 0 v.made → ToldAt S made answers v.sp sr gate v.faulted →
        Here S (write a x n) rest (record { pc = pc; sp = v.sp; sr = sr; gate = gate; regs = regs; stack = put_stack (S.homes a.f x) n v.sp v.stack; made = made; answers = answers; faulted = v.faulted; noted = v.noted })
    wrote x n pc sr gate regs made answers lt small on at same gie' reached nest told = record {
      opens = h.opens;
      outer = h.outer;
      first = h.first;
      placed = placed_wrote S left most P a h.opens (bit v.sr 3) h.first v.sp v.regs v.stack placed x n (a.at + 1) (bit sr 3) regs lt small same gie';
      callers = callers_wrote S left most P a h.opens (bit v.sr 3) h.first v.sp v.regs v.stack placed x n rest h.outer lt h.callers;
      place = on;
      pc = at;
      reached = reached;
      nest = nest ∙ h.nest;
      told = told;
    }

    -- and behind one that wrote none
    pub stayed : (to pc sr : ℕ) (gate : Bool) (regs : ℕ → ℕ) (made : List Action) (answers : List ℕ) → to < length (fn S a).code →
        pc ≡ S.places a.f to → ((r : ℕ) → r < 12 → regs r ≡ v.regs r) → bit sr 3 ≡ bit v.sr 3 →
        Reached S.code S.root (at_place a to ∷ rest) (h.opens ∷ h.outer) made answers → nested 0 made ≡ nested 0 v.made → ToldAt S made answers v.sp sr gate v.faulted →
        Here S (at_place a to) rest (record { pc = pc; sp = v.sp; sr = sr; gate = gate; regs = regs; stack = v.stack; made = made; answers = answers; faulted = v.faulted; noted = v.noted })
    stayed to pc sr gate regs made answers on at same gie' reached nest told = record {
      opens = h.opens;
      outer = h.outer;
      first = h.first;
      placed = placed_stayed S left most P a h.opens (bit v.sr 3) h.first v.sp v.regs v.stack placed to (bit sr 3) regs same gie';
      callers = h.callers;
      place = on;
      pc = at;
      reached = reached;
      nest = nest ∙ h.nest;
      told = told;
    }

    -- from a piece that began with m0 left and these actions made
    module _ (m0 : ℕ) (made0 : List Action) (few : 2 * left (a ∷ rest) ≤ m0) (since : v.made ≡ made0) where
      abbrev pub NextOne : View → View → Type 0
      NextOne = NextOf S.gives (act S) S.image S.data_end (S.deep S.root) S.marks S.c S.ram

      -- by a step, or behind an action
      abbrev pub Came : List Activation → View → Type 0
      Came s w = (step S.code (a ∷ rest) ≡ Goes s) ⊎ (length w.made ≢ length made0)

      -- a function begins behind a Call alone, and a call resumes behind a Ret or a Help
      abbrev pub EntersBy : Option Mid → Type 0
      EntersBy (Some (Call g ins outs)) = Unit {0}
      EntersBy _ = ⊥

      abbrev pub ResumesBy : Option Mid → Type 0
      ResumesBy (Some (Ret vs)) = Unit {0}
      ResumesBy (Some (Help k ins outs)) = Unit {0}
      ResumesBy _ = ⊥

      abbrev pub Begins : Activation → List Activation → View → Type 0
      Begins g more w = (Entering S g more w × EntersBy (instruction S.code a)) ⊎ (Resuming S g more w × ResumesBy (instruction S.code a))

      -- the relation, and how it came about
      abbrev pub Onward : ℕ → View → Type 0
      Onward m w = (g : Activation) × (more : List Activation) × ((Here S g more w × (m ≡ 2 * left (g ∷ more)) × Came (g ∷ more) w) ⊎ (Begins g more w × (m ≡ 2 * left (g ∷ more) + 1) × (step S.code (a ∷ rest) ≡ Goes (g ∷ more))))

      abbrev pub After : View → Type 0
      After = Post S.gives (act S) S.image S.data_end (S.deep S.root) S.marks S.c S.ram (2 * most + 1) Onward m0 made0

      abbrev pub Piece : ℕ → View → Type 0
      Piece n u = Chain S.image S.data_end S.marks S.c.sp (GoodOne S) NextOne After n u

      -- an instruction that makes an action
      pub one_act : (n : ℕ) (u w : View) → Told S u → NextOne u w → Takes S.image S.data_end S.marks S.c.sp u w → Piece n w → Piece (suc n) u
      one_act n u w t x takes next = chain_step S.image S.data_end S.marks S.c.sp (GoodOne S) NextOne After n u w (good S u t) takes x next

      -- and one that makes none
      pub one : (n : ℕ) (u w : View) → Told S u → w.made ≡ u.made → Takes S.image S.data_end S.marks S.c.sp u w → Piece n w → Piece (suc n) u
      one n u w t same takes next = one_act n u w t (t.told.0, subst (λ m. IsPrefixOf m (act S u.answers t.told.0).actions) (sym same) t.told.1) takes next

      pub one_ask : (n : ℕ) (u : View) (w : ℕ → View) → Told S u → Asks S.image S.data_end S.marks S.c.sp u w → ((x : ℕ) → x < 0x10000 → NextOne u (w x) × Piece n (w x)) → Piece (suc n) u
      one_ask n u w t asks next = chain_ask S.image S.data_end S.marks S.c.sp (GoodOne S) NextOne After n u w (good S u t) asks next

      pub one_ask_byte : (n : ℕ) (u : View) (w : ℕ → View) → Told S u → AsksByte S.image S.data_end S.marks S.c.sp u w → ((x : ℕ) → x < 0x100 → NextOne u (w x) × Piece n (w x)) → Piece (suc n) u
      one_ask_byte n u w t asks next = chain_ask_byte S.image S.data_end S.marks S.c.sp (GoodOne S) NextOne After n u w (good S u t) asks next

      pub silent : (g : Activation) (more : List Activation) (w : View) → step S.code (a ∷ rest) ≡ Goes (g ∷ more) → Here S g more w → After w
      silent g more w e here =
          let less = fewer_left (a ∷ rest) (g ∷ more) (h.opens ∷ h.outer) v.made v.answers h.reached e in
          let bound = few_left (g ∷ more) (here.opens ∷ here.outer) w.made w.answers here.reached in
          inr (2 * left (g ∷ more), omega arith, (g, more, inl (here, refl, inl e)), inl (omega arith))

      pub begun : (g : Activation) (more : List Activation) (w : View) → step S.code (a ∷ rest) ≡ Goes (g ∷ more) → left (g ∷ more) ≤ most → Begins g more w → After w
      begun g more w e bound here =
          let less = fewer_left (a ∷ rest) (g ∷ more) (h.opens ∷ h.outer) v.made v.answers h.reached e in
          inr (2 * left (g ∷ more) + 1, omega arith, (g, more, inr (here, refl, e)), inl (omega arith))

      longer : (did' : Action) → length (v.made ++ (did' ∷ [])) ≢ length made0
      longer did' p =
          let e : length (v.made ++ (did' ∷ [])) ≡ length v.made = p ∙ ap length (sym since) in
          let l : length (v.made ++ (did' ∷ [])) ≡ length v.made + 1 = length-append v.made (did' ∷ []) in
          omega arith

      pub acted : (g : Activation) (more : List Activation) (w : View) (did' : Action) → Here S g more w → w.made ≡ v.made ++ (did' ∷ []) → After w
      acted g more w did' here made =
          let bound = few_left (g ∷ more) (here.opens ∷ here.outer) w.made w.answers here.reached in
          let new : length w.made ≢ length made0 = λ p. longer did' (ap length (sym made) ∙ p) in
          inr (2 * left (g ∷ more), omega arith, (g, more, inl (here, refl, inr new)), inr new)

      -- MOV of a value to a register from R12 on
      abbrev pub held : (x r : ℕ) → View
      held x r = passed (put_home v (InRegister r) (a.values x)) (2 + further (at_home (S.homes a.f x)) + 0)

      pub fetch : (x n : ℕ) → x < (fn S a).values → IsMarked S.image S.marks v.pc [] (Two op2.Mov false (at_home (S.homes a.f x)) (Reg 12)) → Piece n (held x 12) → Piece (suc n) v
      fetch x n lt at next = one n v (held x 12) h.told refl (move S.image S.data_end S.marks S.c.sp v (Of (S.homes a.f x)) (InRegister 12) (a.values x) (ready S left most P v h.told) at (placed.values x lt) (omega arith, omega arith)) next

      pub low_registers : (g : ℕ → ℕ) (x r : ℕ) → r < 12 → changed_at g 12 x r ≡ g r
      low_registers g x r lt = let t : (r == 12) ≡ false = grind (arith, nat_tests) in rw t refl

      -- R12 has this value
      pub in_scratch : (sp : ℕ) (regs stack : ℕ → ℕ) (n : ℕ) → n < 0x10000 → regs 12 ≡ n → HasAt (S.c.sp + 2) sp regs stack (Of (InRegister 12)) n
      in_scratch sp regs stack n small e = ((omega arith, omega arith), e, small)

      pub through_home : (k : Home) (g regs : ℕ → ℕ) (n : ℕ) → ((r : ℕ) → r < 12 → g r ≡ regs r) → (r : ℕ) → r < 12 → put_regs k n g r ≡ put_regs k n regs r
      through_home (InRegister q) g regs n same r lt = ap (λ y. cond (r == q) n y) (same r lt)
      through_home (InFrame x) g regs n same r lt = same r lt

      -- what a step that acts leaves told
      abbrev pub Neutral : Action → Type 0
      Neutral d = (nested (nested 0 v.made) (d ∷ []) ≡ nested 0 v.made) × (number_of (is_begin d) ≡ 0) × (number_of (is_end d) ≡ 0)

      pub act_told : (d : Action) (g : Activation) → Neutral d → step S.code (a ∷ rest) ≡ Acts d (g ∷ rest) → opens_behind (instruction S.code a) (h.opens ∷ h.outer) ≡ h.opens ∷ h.outer →
          (sr : ℕ) (gate : Bool) → ToldAt S v.made v.answers v.sp sr gate v.faulted → ToldAt S (v.made ++ (d ∷ [])) v.answers v.sp sr gate v.faulted
      act_told d g neutral e o sr gate t =
          did S d v.answers (told_of S.code S.root (g ∷ rest) (h.opens ∷ h.outer) (v.made ++ (d ∷ [])) v.answers (acts S.code S.root (a ∷ rest) (h.opens ∷ h.outer) v.made v.answers h.reached d (g ∷ rest) (h.opens ∷ h.outer) e o)) (nested_on 0 v.made d ∙ neutral.0) neutral.1 neutral.2 t

      pub want_told : (d : Action) (g : ℕ → Activation) (x : ℕ) → x < 0x10000 → Neutral d → step S.code (a ∷ rest) ≡ Wants d (λ y. g y ∷ rest) → opens_behind (instruction S.code a) (h.opens ∷ h.outer) ≡ h.opens ∷ h.outer →
          (sr : ℕ) (gate : Bool) → ToldAt S v.made v.answers v.sp sr gate v.faulted → ToldAt S (v.made ++ (d ∷ [])) (v.answers ++ (x ∷ [])) v.sp sr gate v.faulted
      want_told d g x small neutral e o sr gate t =
          did S d (v.answers ++ (x ∷ [])) (told_of S.code S.root (g x ∷ rest) (h.opens ∷ h.outer) (v.made ++ (d ∷ [])) (v.answers ++ (x ∷ [])) (wants S.code S.root (a ∷ rest) (h.opens ∷ h.outer) v.made v.answers h.reached d (λ y. g y ∷ rest) (h.opens ∷ h.outer) x small e o)) (nested_on 0 v.made d ∙ neutral.0) neutral.1 neutral.2 t

      -- an instruction leaves the same Begins open
      abbrev pub steady : (i : Mid) → Type 0
      steady i = opens_behind (Some i) (h.opens ∷ h.outer) ≡ h.opens ∷ h.outer

      pub opened : (i : Mid) → instruction S.code a ≡ Some i → steady i → opens_behind (instruction S.code a) (h.opens ∷ h.outer) ≡ h.opens ∷ h.outer
      opened i e o = ap (λ x. opens_behind x (h.opens ∷ h.outer)) e ∙ o

      abbrev pub end : ℕ
      end = S.places a.f (a.at + 1)

      abbrev pub home : ℕ → Home
      home x = S.homes a.f x

      pub stepped : (i : Mid) → instruction S.code a ≡ Some i → step S.code (a ∷ rest) ≡ perform (Some i) S.code (fn S a) a rest
      stepped i e = ap (λ o. perform o S.code (fn S a) a rest) e

      pub set : (x n : ℕ) → instruction S.code a ≡ Some (Set x n) → Piece 1 v
      set x n e =
          let k = home x in
          let st = stands (Set x n) e in
          let small = P.selectable a.f a.at (Set x n) e in
          let lt = (names (Set x n) e).written 0 0 (omega arith) in
          let at = marked S a.f v.pc end [] (Two op2.Mov false (operand_of (literal n)) (at_home k)) [] st in
          let pc = behind_two S a.f v.pc end [] op2.Mov false (operand_of (literal n)) (at_home k) [] st in
          let next : step S.code (a ∷ rest) ≡ Goes (write a x n ∷ rest) = stepped (Set x n) e in
          let w = passed (put_home v k n) (2 + further (operand_of (literal n)) + further (at_home k)) in
          one 0 v w h.told refl (move S.image S.data_end S.marks S.c.sp v (literal n) k n (ready S left most P v h.told) at (has_literal (S.c.sp + 2) v.sp v.regs v.stack n small) (home_of S left most P a h.opens (bit v.sr 3) h.first v.sp v.regs v.stack placed x lt))
          (silent (write a x n) rest w next
          (wrote x n w.pc v.sr (bit v.sr 3) w.regs v.made v.answers lt small (onward_place (Set x n) e refl) pc (λ r lo. refl) refl
          (goes S.code S.root (a ∷ rest) (h.opens ∷ h.outer) v.made v.answers h.reached (write a x n ∷ rest) (h.opens ∷ h.outer) next (opened (Set x n) e refl)) refl (settled S h.told)))

      pub copy : (x y : ℕ) → instruction S.code a ≡ Some (Move x y) → Piece 1 v
      copy x y e =
          let k = home x in
          let n = a.values y in
          let st = stands (Move x y) e in
          let lt = (names (Move x y) e).written 0 0 (omega arith) in
          let ly = (names (Move x y) e).read 0 0 (omega arith) in
          let old = placed.values y ly in
          let at = marked S a.f v.pc end [] (Two op2.Mov false (at_home (home y)) (at_home k)) [] st in
          let pc = behind_two S a.f v.pc end [] op2.Mov false (at_home (home y)) (at_home k) [] st in
          let next : step S.code (a ∷ rest) ≡ Goes (write a x n ∷ rest) = stepped (Move x y) e in
          let w = passed (put_home v k n) (2 + further (at_home (home y)) + further (at_home k)) in
          one 0 v w h.told refl (move S.image S.data_end S.marks S.c.sp v (Of (home y)) k n (ready S left most P v h.told) at old (home_of S left most P a h.opens (bit v.sr 3) h.first v.sp v.regs v.stack placed x lt))
          (silent (write a x n) rest w next
          (wrote x n w.pc v.sr (bit v.sr 3) w.regs v.made v.answers lt old.2 (onward_place (Move x y) e refl) pc (λ r lo. refl) refl
          (goes S.code S.root (a ∷ rest) (h.opens ∷ h.outer) v.made v.answers h.reached (write a x n ∷ rest) (h.opens ∷ h.outer) next (opened (Move x y) e refl)) refl (settled S h.told)))

      -- R12 is moved to its home, and the call goes on behind
      pub finish : (x n : ℕ) (i : Mid) → instruction S.code a ≡ Some i → steady i → goes_elsewhere i ≡ false → step S.code (a ∷ rest) ≡ Goes (write a x n ∷ rest) → x < (fn S a).values → n < 0x10000 →
          (pc sr : ℕ) (gate : Bool) (regs : ℕ → ℕ) → Stand S a.f pc (moving (Of scratch) (home x) ∷ []) end → ToldAt S v.made v.answers v.sp sr gate v.faulted → bit sr 3 ≡ bit v.sr 3 → ((r : ℕ) → r < 12 → regs r ≡ v.regs r) → regs 12 ≡ n →
          Piece 1 (record v { pc = pc; sr = sr; gate = gate; regs = regs })
      finish x n i e o on next lt small pc sr gate regs st t gie' low is =
          let k = home x in
          let u = record v { pc = pc; sr = sr; gate = gate; regs = regs } in
          let w = passed (put_home u k n) (2 + 0 + further (at_home k)) in
          let at = marked S a.f pc end [] (Two op2.Mov false (Reg 12) (at_home k)) [] st in
          let last = behind_two S a.f pc end [] op2.Mov false (Reg 12) (at_home k) [] st in
          one 0 u w t refl (move S.image S.data_end S.marks S.c.sp u (Of (InRegister 12)) k n (ready S left most P u t) at (in_scratch v.sp regs v.stack n small is) (home_of S left most P a h.opens (bit v.sr 3) h.first v.sp v.regs v.stack placed x lt))
          (silent (write a x n) rest w next
          (wrote x n w.pc sr w.gate w.regs v.made v.answers lt small (onward_place i e on) last (through_home k regs v.regs n low) gie'
          (goes S.code S.root (a ∷ rest) (h.opens ∷ h.outer) v.made v.answers h.reached (write a x n ∷ rest) (h.opens ∷ h.outer) next (opened i e o)) refl (settled S t)))

      -- a view behind an operation
      abbrev pub operated : View → Home → ℕ → ℕ → ℕ → View
      operated u k bytes n sr = with_result (passed u bytes) k (record { result = n; is_written = true; sr = sr })

      -- an operation of a value on R12 or on a home
      pub operation_on : (u : View) (o : Op) (y : ℕ) (k : Home) (p : ℕ) → ToldAt S u.made u.answers u.sp u.sr u.gate u.faulted → u.sp ≡ v.sp → u.stack ≡ v.stack → ((r : ℕ) → r < 12 → u.regs r ≡ v.regs r) → y < (fn S a).values → p < 0x10000 →
          IsMarked S.image S.marks u.pc [] (Two (operator o) false (at_home (home y)) (at_home k)) → HasAt (S.c.sp + 2) u.sp u.regs u.stack (Of k) p →
          Takes S.image S.data_end S.marks S.c.sp u (operated u k (2 + further (at_home (home y)) + further (at_home k)) (words.operate o p (a.values y)) (operate (operator o) false u.sr (a.values y) p).sr)
      operation_on u o y k p t es ek low ly small at has' =
          let q = a.values y in
          let lq = (placed.values y ly).2 in
          let second = has S left most P a h.opens (bit v.sr 3) h.first v.sp v.regs v.stack placed u.regs y low ly in
          let second' = subst (λ s. HasAt (S.c.sp + 2) u.sp u.regs s (Of (home y)) q) (sym ek) (subst (λ s. HasAt (S.c.sp + 2) s u.regs v.stack (Of (home y)) q) (sym es) second) in
          let is = operator_is o u.sr p q small lq in
          subst (λ r. Takes S.image S.data_end S.marks S.c.sp u (with_result (passed u (2 + further (at_home (home y)) + further (at_home k))) k r)) is
          (operation S.image S.data_end S.marks S.c.sp u (operator o) (Of (home y)) k q p (operator_reads o) (subst (λ r. r.result < 0x10000) (sym is) (word_of o p q small lq)) (ready S left most P u t) at second' has')

      module _ (o : Op) (x p q : ℕ) (e : instruction S.code a ≡ Some (Bin o x p q)) where
        abbrev k : Home
        k = home x

        abbrev n : ℕ
        n = words.operate o (a.values p) (a.values q)

        lt : x < (fn S a).values
        lt = (names (Bin o x p q) e).written 0 0 (omega arith)

        lp : p < (fn S a).values
        lp = (names (Bin o x p q) e).read 0 0 (omega arith)

        lq : q < (fn S a).values
        lq = (names (Bin o x p q) e).read 1 0 (omega arith)

        small : n < 0x10000
        small = word_of o (a.values p) (a.values q) (placed.values p lp).2 (placed.values q lq).2

        next : step S.code (a ∷ rest) ≡ Goes (write a x n ∷ rest)
        next = stepped (Bin o x p q) e

        abbrev sr : ℕ
        sr = (operate (operator o) false v.sr (a.values q) (a.values p)).sr

        calm : Tame v.sr sr
        calm = tame_operator o v.sr (a.values q) (a.values p) h.told.word

        by : (((x == p) ≡ true) × (x ≡ p)) ⊎ (((x == p) ≡ false) × (x ≢ p)) → (i : ℕ) × (i ≤ 2) × Piece (suc i) v
        by (inl t) =
            let st = subst (λ b. Stand S a.f v.pc (cond b (two (operator o) (Of (home q)) k ∷ []) (moving (Of (home p)) scratch ∷ two (operator o) (Of (home q)) scratch ∷ moving (Of scratch) k ∷ [])) end) t.0 (stands (Bin o x p q) e) in
            let at = marked S a.f v.pc end [] (Two (operator o) false (at_home (home q)) (at_home k)) [] st in
            let pc = behind_two S a.f v.pc end [] (operator o) false (at_home (home q)) (at_home k) [] st in
            let w = operated v k (2 + further (at_home (home q)) + further (at_home k)) n sr in
            let first = subst (λ y. HasAt (S.c.sp + 2) v.sp v.regs v.stack (Of (home y)) (a.values p)) (sym t.1) (placed.values p lp) in (
              0,
              omega arith,
              one 0 v w h.told refl (operation_on v o q k (a.values p) h.told refl refl (λ r lo. refl) lq (placed.values p lp).2 at first)
                  (silent (write a x n) rest w next
                  (wrote x n w.pc sr w.gate w.regs v.made v.answers lt small (onward_place (Bin o x p q) e refl) pc (λ r lo. refl) calm.gie
                  (goes S.code S.root (a ∷ rest) (h.opens ∷ h.outer) v.made v.answers h.reached (write a x n ∷ rest) (h.opens ∷ h.outer) next (opened (Bin o x p q) e refl)) refl (flagged S sr calm.gie calm.off calm.small (settled S h.told)))),
            )
        by (inr t) =
            let st = subst (λ b. Stand S a.f v.pc (cond b (two (operator o) (Of (home q)) k ∷ []) (moving (Of (home p)) scratch ∷ two (operator o) (Of (home q)) scratch ∷ moving (Of scratch) k ∷ [])) end) t.0 (stands (Bin o x p q) e) in
            let at = marked S a.f v.pc end [] (Two op2.Mov false (at_home (home p)) (Reg 12)) (two (operator o) (Of (home q)) scratch ∷ moving (Of scratch) k ∷ []) st in
            let st1 = behind_two S a.f v.pc end [] op2.Mov false (at_home (home p)) (Reg 12) (two (operator o) (Of (home q)) scratch ∷ moving (Of scratch) k ∷ []) st in
            let u = held p 12 in
            let t1 = settled S h.told in
            let at1 = marked S a.f u.pc end [] (Two (operator o) false (at_home (home q)) (Reg 12)) (moving (Of scratch) k ∷ []) st1 in
            let st2 = behind_two S a.f u.pc end [] (operator o) false (at_home (home q)) (Reg 12) (moving (Of scratch) k ∷ []) st1 in
            let w = operated u scratch (2 + further (at_home (home q)) + 0) n sr in
            let low = low_registers v.regs (a.values p) in (
              2,
              omega arith,
              fetch p 2 lp at
                  (one 1 u w t1 refl (operation_on u o q scratch (a.values p) t1 refl refl low lq (placed.values p lp).2 at1 (in_scratch v.sp u.regs v.stack (a.values p) (placed.values p lp).2 refl))
                  (finish x n (Bin o x p q) e refl refl next lt small w.pc sr w.gate w.regs st2 (flagged S sr calm.gie calm.off calm.small t1) calm.gie (λ r lo. low_registers u.regs n r lo ∙ low r lo) refl)),
            )

        pub bin : (i : ℕ) × (i ≤ 2) × Piece (suc i) v
        bin = by (eqb_tells x p)

      -- ---- actions

      abbrev pub home_here : (x : ℕ) → x < (fn S a).values → IsHomeAt (S.c.sp + 2) v.sp (home x)
      home_here x lt = home_of S left most P a h.opens (bit v.sr 3) h.first v.sp v.regs v.stack placed x lt

      abbrev pub has_here : (regs' : ℕ → ℕ) (x : ℕ) → ((r : ℕ) → r < 12 → regs' r ≡ v.regs r) → x < (fn S a).values → HasAt (S.c.sp + 2) v.sp regs' v.stack (Of (home x)) (a.values x)
      has_here regs' x low lt = has S left most P a h.opens (bit v.sr 3) h.first v.sp v.regs v.stack placed regs' x low lt

      -- an action was done, or answered
      pub did_reached : (d : Action) (i : Mid) → instruction S.code a ≡ Some i → steady i → (s' : List Activation) → step S.code (a ∷ rest) ≡ Acts d s' → Reached S.code S.root s' (h.opens ∷ h.outer) (v.made ++ (d ∷ [])) v.answers
      did_reached d i e o s' next = acts S.code S.root (a ∷ rest) (h.opens ∷ h.outer) v.made v.answers h.reached d s' (h.opens ∷ h.outer) next (opened i e o)

      pub got_reached : (d : Action) (i : Mid) → instruction S.code a ≡ Some i → steady i → (s' : ℕ → List Activation) (x : ℕ) → x < 0x10000 → step S.code (a ∷ rest) ≡ Wants d s' → Reached S.code S.root (s' x) (h.opens ∷ h.outer) (v.made ++ (d ∷ [])) (v.answers ++ (x ∷ []))
      got_reached d i e o s' x small next = wants S.code S.root (a ∷ rest) (h.opens ∷ h.outer) v.made v.answers h.reached d s' (h.opens ∷ h.outer) x small next (opened i e o)

      even_of : (n : ℕ) → n % 2 ≡ 0 → even n ≡ n
      even_of n e = omega (arith, e)

      pub load_word : (x p : ℕ) → instruction S.code a ≡ Some (Load true x p) → Piece 2 v
      load_word x p e =
          let i = Load true x p in
          let k = home x in
          let st = stands i e in
          let lt = (names i e).written 0 0 (omega arith) in
          let lp = (names i e).read 0 0 (omega arith) in
          let addr = a.values p in
          let did' = action.Load addr true in
          let allowed = may i e in
          let inside = of_objects i e in
          let u = held p 12 in
          let w = λ (n : ℕ). passed (put_home (having_got u did' n) k n) (2 + 0 + further (at_home k)) in
          let at = marked S a.f v.pc end [] (Two op2.Mov false (at_home (home p)) (Reg 12)) (moved false (Indirect 12) (at_home k) ∷ []) st in
          let st1 = behind_two S a.f v.pc end [] op2.Mov false (at_home (home p)) (Reg 12) (moved false (Indirect 12) (at_home k) ∷ []) st in
          let at1 = marked S a.f u.pc end [] (Two op2.Mov false (Indirect 12) (at_home k)) [] st1 in
          let pc = behind_two S a.f u.pc end [] op2.Mov false (Indirect 12) (at_home k) [] st1 in
          let next : step S.code (a ∷ rest) ≡ Wants did' (λ n. write a x n ∷ rest) = stepped i e in
          let t1 = settled S h.told in
          let t2 = λ (n : ℕ) (small : n < 0x10000). want_told did' (λ y. write a x y) n small (refl, refl, refl) next (opened i e refl) v.sr (bit v.sr 3) t1 in
          fetch p 1 lp at
          (one_ask 0 u w t1 (load S.image S.data_end S.marks S.c.sp u 12 k addr (ready S left most P u t1) at1 (in_scratch v.sp u.regs v.stack addr (placed.values p lp).2 refl) (home_here x lt) (record { even = even_of addr allowed.1; low = allowed.0; high = inside }))
          (λ n small. (
            next_want S.code S.root (a ∷ rest) (h.opens ∷ h.outer) v.made v.answers h.reached did' (λ n. write a x n ∷ rest) next,
            acted (write a x n) rest (w n) did'
                (wrote x n (w n).pc v.sr (w n).gate (w n).regs (w n).made (w n).answers lt small (onward_place i e refl) pc (through_home k u.regs v.regs n (low_registers v.regs addr)) refl
                (got_reached did' i e refl (λ y. write a x y ∷ rest) n small next) (nested_on 0 v.made did') (settled S (t2 n small))) refl,
          )))

      pub load_byte : (x p : ℕ) → instruction S.code a ≡ Some (Load false x p) → Piece 3 v
      load_byte x p e =
          let i = Load false x p in
          let k = home x in
          let st = stands i e in
          let lt = (names i e).written 0 0 (omega arith) in
          let lp = (names i e).read 0 0 (omega arith) in
          let addr = a.values p in
          let did' = action.Load addr false in
          let allowed = may i e in
          let inside = of_objects i e in
          let u = held p 12 in
          let w = λ (n : ℕ). passed (put_home (having_got u did' n) (InRegister 12) n) (2 + 0 + 0) in
          let z = λ (n : ℕ). passed (put_home (w n) k n) (2 + 0 + further (at_home k)) in
          let tail = moved true (Indirect 12) (Reg 12) ∷ moving (Of scratch) k ∷ [] in
          let at = marked S a.f v.pc end [] (Two op2.Mov false (at_home (home p)) (Reg 12)) tail st in
          let st1 = behind_two S a.f v.pc end [] op2.Mov false (at_home (home p)) (Reg 12) tail st in
          let at1 = marked S a.f u.pc end [] (Two op2.Mov true (Indirect 12) (Reg 12)) (moving (Of scratch) k ∷ []) st1 in
          let st2 = behind_two S a.f u.pc end [] op2.Mov true (Indirect 12) (Reg 12) (moving (Of scratch) k ∷ []) st1 in
          let pc2 : ℕ = u.pc + (2 + 0 + 0) in
          let at2 = marked S a.f pc2 end [] (Two op2.Mov false (Reg 12) (at_home k)) [] st2 in
          let pc = behind_two S a.f pc2 end [] op2.Mov false (Reg 12) (at_home k) [] st2 in
          let next : step S.code (a ∷ rest) ≡ Wants did' (λ n. write a x (n % 256) ∷ rest) = stepped i e in
          let t1 = settled S h.told in
          let t2 = λ (n : ℕ) (small : n < 0x10000). want_told did' (λ y. write a x (y % 256)) n small (refl, refl, refl) next (opened i e refl) v.sr (bit v.sr 3) t1 in
          fetch p 2 lp at
          (one_ask_byte 1 u w t1 (load_a_byte S.image S.data_end S.marks S.c.sp u 12 12 addr (ready S left most P u t1) at1 (in_scratch v.sp u.regs v.stack addr (placed.values p lp).2 refl) (omega arith, omega arith) (record { low = allowed.0; high = let b = inside in omega (arith, b) }))
          (λ n byte. let small : n < 0x10000 = omega (arith, byte) in let same : n % 256 ≡ n = omega (arith, byte) in (
            next_want S.code S.root (a ∷ rest) (h.opens ∷ h.outer) v.made v.answers h.reached did' (λ n. write a x (n % 256) ∷ rest) next,
            one 0 (w n) (z n) (t2 n small) refl (move S.image S.data_end S.marks S.c.sp (w n) (Of (InRegister 12)) k n (ready S left most P (w n) (t2 n small)) at2 (in_scratch v.sp (w n).regs v.stack n small refl) (home_here x lt))
                (acted (write a x n) rest (z n) did'
                (wrote x n (z n).pc v.sr (z n).gate (z n).regs (z n).made (z n).answers lt small (onward_place i e refl) pc (through_home k (w n).regs v.regs n (λ r lo. low_registers u.regs n r lo ∙ low_registers v.regs addr r lo)) refl
                (subst (λ m. Reached S.code S.root (write a x m ∷ rest) (h.opens ∷ h.outer) (v.made ++ (did' ∷ [])) (v.answers ++ (n ∷ []))) same (got_reached did' i e refl (λ y. write a x (y % 256) ∷ rest) n small next)) (nested_on 0 v.made did') (settled S (t2 n small))) refl),
          )))

      pub store_word : (x p : ℕ) → instruction S.code a ≡ Some (Store true x p) → Piece 2 v
      store_word x p e =
          let i = Store true x p in
          let st = stands i e in
          let lx = (names i e).read 0 0 (omega arith) in
          let lp = (names i e).read 1 0 (omega arith) in
          let addr = a.values p in
          let n = a.values x in
          let did' = action.Store addr true n in
          let allowed = may i e in
          let inside = of_objects i e in
          let u = held p 12 in
          let g = onward a in
          let z = passed (doing u did' u.faulted) (4 + further (at_home (home x))) in
          let tail = moved false (at_home (home x)) (Indexed 12 0) ∷ [] in
          let at = marked S a.f v.pc end [] (Two op2.Mov false (at_home (home p)) (Reg 12)) tail st in
          let st1 = behind_two S a.f v.pc end [] op2.Mov false (at_home (home p)) (Reg 12) tail st in
          let at1 = marked S a.f u.pc end [] (Two op2.Mov false (at_home (home x)) (Indexed 12 0)) [] st1 in
          let pc0 = behind_two S a.f u.pc end [] op2.Mov false (at_home (home x)) (Indexed 12 0) [] st1 in
          let pc : z.pc ≡ end = ap (λ m. u.pc + m) (turned (further (at_home (home x)))) ∙ pc0 in
          let next : step S.code (a ∷ rest) ≡ Acts did' (g ∷ rest) = stepped i e in
          let t1 = settled S h.told in
          let t2 = act_told did' g (refl, refl, refl) next (opened i e refl) v.sr (bit v.sr 3) t1 in
          fetch p 1 lp at
          (one_act 0 u z t1 (next_act S.code S.root (a ∷ rest) (h.opens ∷ h.outer) v.made v.answers h.reached did' (g ∷ rest) next)
          (store S.image S.data_end S.marks S.c.sp u (Of (home x)) 12 n addr (ready S left most P u t1) at1 (has_here u.regs x (low_registers v.regs addr) lx) (in_scratch v.sp u.regs v.stack addr (placed.values p lp).2 refl) (record { even = even_of addr allowed.1; low = allowed.0; high = inside }))
          (acted g rest z did'
          (stayed (a.at + 1) z.pc v.sr z.gate u.regs z.made z.answers (onward_place i e refl) pc (low_registers v.regs addr) refl
          (did_reached did' i e refl (g ∷ rest) next) (nested_on 0 v.made did') t2) refl))

      pub store_byte : (x p : ℕ) → instruction S.code a ≡ Some (Store false x p) → Piece 2 v
      store_byte x p e =
          let i = Store false x p in
          let st = stands i e in
          let lx = (names i e).read 0 0 (omega arith) in
          let lp = (names i e).read 1 0 (omega arith) in
          let addr = a.values p in
          let n = a.values x in
          let did' = action.Store addr false (n % 256) in
          let allowed = may i e in
          let inside = of_objects i e in
          let u = held p 12 in
          let g = onward a in
          let z = passed (doing u did' u.faulted) (4 + further (at_home (home x))) in
          let tail = moved true (at_home (home x)) (Indexed 12 0) ∷ [] in
          let at = marked S a.f v.pc end [] (Two op2.Mov false (at_home (home p)) (Reg 12)) tail st in
          let st1 = behind_two S a.f v.pc end [] op2.Mov false (at_home (home p)) (Reg 12) tail st in
          let at1 = marked S a.f u.pc end [] (Two op2.Mov true (at_home (home x)) (Indexed 12 0)) [] st1 in
          let pc0 = behind_two S a.f u.pc end [] op2.Mov true (at_home (home x)) (Indexed 12 0) [] st1 in
          let pc : z.pc ≡ end = ap (λ m. u.pc + m) (turned (further (at_home (home x)))) ∙ pc0 in
          let next : step S.code (a ∷ rest) ≡ Acts did' (g ∷ rest) = stepped i e in
          let t1 = settled S h.told in
          let t2 = act_told did' g (refl, refl, refl) next (opened i e refl) v.sr (bit v.sr 3) t1 in
          fetch p 1 lp at
          (one_act 0 u z t1 (next_act S.code S.root (a ∷ rest) (h.opens ∷ h.outer) v.made v.answers h.reached did' (g ∷ rest) next)
          (store_a_byte S.image S.data_end S.marks S.c.sp u (Of (home x)) 12 n addr (ready S left most P u t1) at1 (has_here u.regs x (low_registers v.regs addr) lx) (in_scratch v.sp u.regs v.stack addr (placed.values p lp).2 refl) (record { low = allowed.0; high = let b = inside in omega (arith, b) }))
          (acted g rest z did'
          (stayed (a.at + 1) z.pc v.sr z.gate u.regs z.made z.answers (onward_place i e refl) pc (low_registers v.regs addr) refl
          (did_reached did' i e refl (g ∷ rest) next) (nested_on 0 v.made did') t2) refl))

      port_of : (port : ℕ) → IsMidPort port → IsPort port × (port ≢ 0x104)
      port_of port (inl e) = (record { even = omega (arith, e); low = omega (arith, e); high = omega (arith, e) }, λ z. omega (arith, e, z))
      port_of port (inr (inl e)) = (record { even = omega (arith, e); low = omega (arith, e); high = omega (arith, e) }, λ z. omega (arith, e, z))
      port_of port (inr (inr r)) = let e = r.0 in let lo = r.1 in let hi = r.2 in (record { even = omega (arith, e); low = omega (arith, lo); high = omega (arith, hi) }, λ z. omega (arith, lo, z))

      pub take_port : (x port : ℕ) → instruction S.code a ≡ Some (In x port) → Piece 1 v
      take_port x port e =
          let i = In x port in
          let k = home x in
          let st = stands i e in
          let lt = (names i e).written 0 0 (omega arith) in
          let did' = action.In port in
          let w = λ (n : ℕ). passed (put_home (having_got v did' n) k n) (2 + 2 + further (at_home k)) in
          let at = marked S a.f v.pc end [] (Two op2.Mov false (Absolute port) (at_home k)) [] st in
          let pc = behind_two S a.f v.pc end [] op2.Mov false (Absolute port) (at_home k) [] st in
          let next : step S.code (a ∷ rest) ≡ Wants did' (λ n. write a x n ∷ rest) = stepped i e in
          let t2 = λ (n : ℕ) (small : n < 0x10000). want_told did' (λ y. write a x y) n small (refl, refl, refl) next (opened i e refl) v.sr (bit v.sr 3) (settled S h.told) in
          one_ask 0 v w h.told (input S.image S.data_end S.marks S.c.sp v port k (ready S left most P v h.told) at (home_here x lt) (port_of port (may i e)).0)
          (λ n small. (
            next_want S.code S.root (a ∷ rest) (h.opens ∷ h.outer) v.made v.answers h.reached did' (λ n. write a x n ∷ rest) next,
            acted (write a x n) rest (w n) did'
                (wrote x n (w n).pc v.sr (w n).gate (w n).regs (w n).made (w n).answers lt small (onward_place i e refl) pc (through_home k v.regs v.regs n (λ r lo. refl)) refl
                (got_reached did' i e refl (λ y. write a x y ∷ rest) n small next) (nested_on 0 v.made did') (t2 n small)) refl,
          ))

      pub give_port : (port x : ℕ) → instruction S.code a ≡ Some (Out port x) → Piece 1 v
      give_port port x e =
          let i = Out port x in
          let st = stands i e in
          let lx = (names i e).read 0 0 (omega arith) in
          let n = a.values x in
          let did' = action.Out port n in
          let g = onward a in
          let z = passed (doing v did' v.faulted) (4 + further (at_home (home x))) in
          let at = marked S a.f v.pc end [] (Two op2.Mov false (at_home (home x)) (Absolute port)) [] st in
          let pc0 = behind_two S a.f v.pc end [] op2.Mov false (at_home (home x)) (Absolute port) [] st in
          let pc : z.pc ≡ end = ap (λ m. v.pc + m) (turned (further (at_home (home x)))) ∙ pc0 in
          let next : step S.code (a ∷ rest) ≡ Acts did' (g ∷ rest) = stepped i e in
          let good' = port_of port (may i e) in
          one_act 0 v z h.told (next_act S.code S.root (a ∷ rest) (h.opens ∷ h.outer) v.made v.answers h.reached did' (g ∷ rest) next)
          (output S.image S.data_end S.marks S.c.sp v (Of (home x)) port n (ready S left most P v h.told) at (placed.values x lx) good'.0 good'.1)
          (acted g rest z did'
          (stayed (a.at + 1) z.pc v.sr z.gate v.regs z.made z.answers (onward_place i e refl) pc (λ r lo. refl) refl
          (did_reached did' i e refl (g ∷ rest) next) (nested_on 0 v.made did') (act_told did' g (refl, refl, refl) next (opened i e refl) v.sr (bit v.sr 3) (settled S h.told))) refl)

      pub tick : instruction S.code a ≡ Some Tick → Piece 1 v
      tick e =
          let st = stands Tick e in
          let did' = action.Tick in
          let g = onward a in
          let z = record (passed v 2) { made = v.made ++ (did' ∷ []) } in
          let at = marked S a.f v.pc end (did' ∷ []) (Two op2.Mov false (Constant 0) (Reg 3)) [] st in
          let pc = behind_two S a.f v.pc end (did' ∷ []) op2.Mov false (Constant 0) (Reg 3) [] st in
          let next : step S.code (a ∷ rest) ≡ Acts did' (g ∷ rest) = stepped Tick e in
          one_act 0 v z h.told (next_act S.code S.root (a ∷ rest) (h.opens ∷ h.outer) v.made v.answers h.reached did' (g ∷ rest) next)
          (nop_rule S.image S.data_end S.marks S.c.sp v (did' ∷ []) (record { silent = (tt, tt); few = omega arith }) (ready S left most P v h.told) at)
          (acted g rest z did'
          (stayed (a.at + 1) z.pc v.sr z.gate v.regs z.made z.answers (onward_place Tick e refl) pc (λ r lo. refl) refl
          (did_reached did' Tick e refl (g ∷ rest) next) (nested_on 0 v.made did') (act_told did' g (refl, refl, refl) next (opened Tick e refl) v.sr (bit v.sr 3) (settled S h.told))) refl)

      -- FAULT is written, and nothing goes on
      pub fault_piece : (n : ℕ) → instruction S.code a ≡ Some (Fault n) → Piece 1 v
      fault_piece n e =
          let st = stands (Fault n) e in
          let small = P.selectable a.f a.at (Fault n) e in
          let did' = action.Fault n in
          let z = passed (doing v did' (Some n)) 6 in
          let at = marked S a.f v.pc end [] (Two op2.Mov false (Immediate n) (Absolute 0x0104)) [] st in
          let next : step S.code (a ∷ rest) ≡ Stops n = stepped (Fault n) e in
          let faulted' = faulted S.code S.root (a ∷ rest) (h.opens ∷ h.outer) v.made v.answers h.reached n next in
          let t : ToldAt S (v.made ++ (did' ∷ [])) v.answers v.sp v.sr (bit v.sr 3) v.faulted = did S did' v.answers faulted' (nested_on 0 v.made did') refl refl (settled S h.told) in
          one_act 0 v z h.told faulted' (fault S.image S.data_end S.marks S.c.sp v n (ready S left most P v h.told) at small)
          (inl (obeys S z v.faulted t, inl refl, (let ev = at.at.even in omega (arith, ev)), (let up = at.at.high in omega (arith, up))))

      -- ---- the frame

      -- R12 leads to a place of the frame
      abbrev pointed : ℕ → View
      pointed p = with_result (passed (held p 12) (2 + 0 + 0)) scratch (operate op2.Add false v.sr v.sp (a.values p))

      room_of_frame : v.sp + (fn S a).frame ≤ S.c.sp
      room_of_frame = let f = framed.frame in let r = placed.room in omega (arith, f, r)

      point : (p n : ℕ) (tail : List Part) → p < (fn S a).values → a.values p < (fn S a).frame → Stand S a.f v.pc (moving (Of (home p)) scratch ∷ two op2.Add StackPointer scratch ∷ tail) end →
          (Stand S a.f (pointed p).pc tail end → Told S (pointed p) → HasAt (S.c.sp + 2) v.sp (pointed p).regs v.stack (Of scratch) (v.sp + a.values p) → Piece n (pointed p)) → Piece (suc (suc n)) v
      point p n tail lp inside st next =
          let q = a.values p in
          let u = held p 12 in
          let r = room_of_frame in let hi = P.start.high in
          let sum : (q + v.sp + 0) % 0x10000 ≡ v.sp + q = omega (arith, r, hi, inside) in
          let at = marked S a.f v.pc end [] (Two op2.Mov false (at_home (home p)) (Reg 12)) (two op2.Add StackPointer scratch ∷ tail) st in
          let st1 = behind_two S a.f v.pc end [] op2.Mov false (at_home (home p)) (Reg 12) (two op2.Add StackPointer scratch ∷ tail) st in
          let at1 = marked S a.f u.pc end [] (Two op2.Add false (Reg 1) (Reg 12)) tail st1 in
          let st2 = behind_two S a.f u.pc end [] op2.Add false (Reg 1) (Reg 12) tail st1 in
          let calm = tame v.sr _ _ _ _ in
          let t1 = settled S h.told in
          fetch p (suc n) lp at
          (one n u (pointed p) t1 refl (operation S.image S.data_end S.marks S.c.sp u op2.Add StackPointer scratch v.sp q refl (omega arith) (ready S left most P u t1) at1 (refl, (let b = h.told.below in omega (arith, b, hi))) (in_scratch v.sp u.regs v.stack q (placed.values p lp).2 refl))
          (next st2 (flagged S (pointed p).sr calm.gie calm.off calm.small t1) (in_scratch v.sp (pointed p).regs v.stack (v.sp + q) (omega (arith, r, hi, inside)) sum)))

      free_at : (q : ℕ) (is_word : Bool) → IsInFrame (fn S a) is_word q → IsFree S a.f q
      free_at q true i = record { inside = let b = i.inside in omega (arith, b); apart = λ b c. ⊎_elim (λ l. inl (omega (arith, l))) (λ r. inr r) (i.apart b c) }
      free_at q false i = record { inside = let b = i.inside in omega (arith, b); apart = λ b c. ⊎_elim (λ l. inl (omega (arith, l))) (λ r. inr r) (i.apart b c) }

      free_behind : (q : ℕ) → IsInFrame (fn S a) true q → IsFree S a.f (q + 1)
      free_behind q i = record { inside = let b = i.inside in omega (arith, b); apart = λ b c. ⊎_elim (λ l. inl (omega (arith, l))) (λ r. inr (omega (arith, r))) (i.apart b c) }

      pub peek_word : (x p : ℕ) → instruction S.code a ≡ Some (Peek true x p) → Piece 3 v
      peek_word x p e =
          let i = Peek true x p in
          let k = home x in
          let q = a.values p in
          let inside = may i e in
          let lt = (names i e).written 0 0 (omega arith) in
          let lp = (names i e).read 0 0 (omega arith) in
          let u = pointed p in
          let n = word_in v.stack (v.sp + q) in
          let b0 = placed.bytes q (free_at q true inside) in
          let b1 = placed.bytes (q + 1) (free_behind q inside) in
          let deep' : v.sp + q + 1 ≡ v.sp + (q + 1) = omega arith in
          let is : n ≡ peeked true a.frame q = word_parts (v.stack (v.sp + q)) (v.stack (v.sp + q + 1)) (a.frame q) (a.frame (q + 1)) b0.0 (ap v.stack deep' ∙ b1.0) in
          let small : n < 0x10000 = let s0 = b0.1 in let s1 = b1.1 in omega (arith, is, s0, s1) in
          let w = passed (put_home u k n) (2 + 0 + further (at_home k)) in
          let next : step S.code (a ∷ rest) ≡ Goes (write a x n ∷ rest) = stepped i e ∙ ap (λ m. Goes (write a x m ∷ rest)) (sym is) in
          let fits' = inside.inside in let r = room_of_frame in let ev = h.told.even_sp in let al = inside.aligned in
          let calm = tame v.sr _ _ _ _ in
          point p 1 (moved false (Indirect 12) (at_home k) ∷ []) lp (omega (arith, fits')) (stands i e)
          (λ st t has'.
          let at = marked S a.f u.pc end [] (Two op2.Mov false (Indirect 12) (at_home k)) [] st in
          let pc = behind_two S a.f u.pc end [] op2.Mov false (Indirect 12) (at_home k) [] st in
          one 0 u w t refl (peek_rule S.image S.data_end S.marks S.c.sp u 12 k (v.sp + q) (ready S left most P u t) at has' (home_here x lt) (omega (arith, ev, al)) (omega arith) (omega (arith, fits', r)))
          (silent (write a x n) rest w next
          (wrote x n w.pc u.sr (bit u.sr 3) w.regs v.made v.answers lt small (onward_place i e refl) pc (through_home k u.regs v.regs n (λ r lo. low_registers (changed_at v.regs 12 q) _ r lo ∙ low_registers v.regs q r lo)) calm.gie
          (goes S.code S.root (a ∷ rest) (h.opens ∷ h.outer) v.made v.answers h.reached (write a x n ∷ rest) (h.opens ∷ h.outer) next (opened i e refl)) refl (settled S t))))

      pub peek_byte : (x p : ℕ) → instruction S.code a ≡ Some (Peek false x p) → Piece 4 v
      peek_byte x p e =
          let i = Peek false x p in
          let k = home x in
          let q = a.values p in
          let inside = may i e in
          let lt = (names i e).written 0 0 (omega arith) in
          let lp = (names i e).read 0 0 (omega arith) in
          let u = pointed p in
          let n = v.stack (v.sp + q) in
          let b0 = placed.bytes q (free_at q false inside) in
          let small : n < 0x10000 = let s0 = b0.1 in let s1 = b0.0 in omega (arith, s0, s1) in
          let w = passed (put_home u (InRegister 12) n) (2 + 0 + 0) in
          let next : step S.code (a ∷ rest) ≡ Goes (write a x n ∷ rest) = stepped i e ∙ ap (λ m. Goes (write a x m ∷ rest)) (sym b0.0) in
          let fits' = inside.inside in let r = room_of_frame in
          let calm = tame v.sr _ _ _ _ in
          point p 2 (moved true (Indirect 12) (Reg 12) ∷ moving (Of scratch) k ∷ []) lp (omega (arith, fits')) (stands i e)
          (λ st t has'.
          let at = marked S a.f u.pc end [] (Two op2.Mov true (Indirect 12) (Reg 12)) (moving (Of scratch) k ∷ []) st in
          let st1 = behind_two S a.f u.pc end [] op2.Mov true (Indirect 12) (Reg 12) (moving (Of scratch) k ∷ []) st in
          one 1 u w t refl (peek_a_byte S.image S.data_end S.marks S.c.sp u 12 12 (v.sp + q) (ready S left most P u t) at has' (omega arith, omega arith) (omega arith) (omega (arith, fits', r)))
          (finish x n i e refl refl next lt small w.pc u.sr (bit u.sr 3) w.regs st1 (settled S t) calm.gie (λ r lo. low_registers u.regs n r lo ∙ low_registers (changed_at v.regs 12 q) _ r lo ∙ low_registers v.regs q r lo) refl))

      -- a place of the frame has been written
      poked_here : (i : Mid) → instruction S.code a ≡ Some i → steady i → goes_elsewhere i ≡ false → (q : ℕ) (frame' stack' regs' : ℕ → ℕ) (pc sr : ℕ) (gate : Bool) → step S.code (a ∷ rest) ≡ Goes (record { f = a.f; at = a.at + 1; values = a.values; frame = frame' } ∷ rest) →
          SameFrom S (v.sp + (fn S a).frame) v.stack stack' → ((x : ℕ) → IsSlot S a.f x → word_in stack' (v.sp + x) ≡ word_in v.stack (v.sp + x)) → ((o : ℕ) → IsFree S a.f o → (stack' (v.sp + o) ≡ frame' o) × (frame' o < 0x100)) →
          pc ≡ end → ((r : ℕ) → r < 12 → regs' r ≡ v.regs r) → bit sr 3 ≡ bit v.sr 3 → ToldAt S v.made v.answers v.sp sr gate v.faulted →
          After (record v { pc = pc; sr = sr; gate = gate; regs = regs'; stack = stack' })
      poked_here i e o on q frame' stack' regs' pc sr gate next same slots bytes at low gie' t =
          silent (record { f = a.f; at = a.at + 1; values = a.values; frame = frame' }) rest (record v { pc = pc; sr = sr; gate = gate; regs = regs'; stack = stack' }) next
          (record {
            opens = h.opens;
            outer = h.outer;
            first = h.first;
            placed = placed_poked S left most P a h.opens (bit v.sr 3) h.first v.sp v.regs v.stack placed (a.at + 1) frame' (bit sr 3) regs' stack' low gie' same slots bytes;
            callers = callers_poked S left most P a h.opens (bit v.sr 3) h.first v.sp v.regs v.stack placed stack' rest h.outer same h.callers;
            place = onward_place i e on;
            pc = at;
            reached = goes S.code S.root (a ∷ rest) (h.opens ∷ h.outer) v.made v.answers h.reached (record { f = a.f; at = a.at + 1; values = a.values; frame = frame' } ∷ rest) (h.opens ∷ h.outer) next (opened i e o);
            nest = h.nest;
            told = t;
          })

      pub poke_word : (x p : ℕ) → instruction S.code a ≡ Some (Poke true x p) → Piece 3 v
      poke_word x p e =
          let i = Poke true x p in
          let q = a.values p in
          let n = a.values x in
          let inside = may i e in
          let lx = (names i e).read 0 0 (omega arith) in
          let lp = (names i e).read 1 0 (omega arith) in
          let u = pointed p in
          let stack' = with_word_at v.stack (v.sp + q) n in
          let w = passed (record u { stack = stack' }) (4 + further (at_home (home x))) in
          let fits' = inside.inside in let r = room_of_frame in let ev = h.told.even_sp in let al = inside.aligned in
          let small = (placed.values x lx).2 in
          let calm = tame v.sr _ _ _ _ in
          let low = λ (r : ℕ) (lo : r < 12). low_registers (changed_at v.regs 12 q) _ r lo ∙ low_registers v.regs q r lo in
          point p 1 (moved false (at_home (home x)) (Indexed 12 0) ∷ []) lp (omega (arith, fits')) (stands i e)
          (λ st t has'.
          let at = marked S a.f u.pc end [] (Two op2.Mov false (at_home (home x)) (Indexed 12 0)) [] st in
          let pc0 = behind_two S a.f u.pc end [] op2.Mov false (at_home (home x)) (Indexed 12 0) [] st in
          one 0 u w t refl (poke_rule S.image S.data_end S.marks S.c.sp u (Of (home x)) 12 n (v.sp + q) (ready S left most P u t) at (has_here u.regs x low lx) has' (omega (arith, ev, al)) (omega arith) (omega (arith, fits', r)))
          (poked_here i e refl refl q (poked true (fn S a).frame a.frame q n) stack' u.regs w.pc u.sr (bit u.sr 3) (stepped i e)
          (λ b le. word_above v.stack (v.sp + q) n b (omega (arith, le, fits')))
          (λ y slot. let es = slot.even in word_other v.stack (v.sp + q) (v.sp + y) n (omega (arith, ev, al)) (omega (arith, ev, es)) (λ z. ⊎_elim (λ l. omega (arith, l, z)) (λ g. omega (arith, g, z)) (inside.apart y slot.begins)))
          (λ o free. word_poked v.stack a.frame (fn S a).frame v.sp q o n fits' small (placed.bytes o free))
          (ap (λ m. u.pc + m) (turned (further (at_home (home x)))) ∙ pc0) low calm.gie (settled S t)))

      pub poke_byte' : (x p : ℕ) → instruction S.code a ≡ Some (Poke false x p) → Piece 3 v
      poke_byte' x p e =
          let i = Poke false x p in
          let q = a.values p in
          let n = a.values x in
          let inside = may i e in
          let lx = (names i e).read 0 0 (omega arith) in
          let lp = (names i e).read 1 0 (omega arith) in
          let u = pointed p in
          let stack' = changed_at v.stack (v.sp + q) (n % 256) in
          let w = passed (record u { stack = stack' }) (4 + further (at_home (home x))) in
          let fits' = inside.inside in let r = room_of_frame in
          let calm = tame v.sr _ _ _ _ in
          let low = λ (r : ℕ) (lo : r < 12). low_registers (changed_at v.regs 12 q) _ r lo ∙ low_registers v.regs q r lo in
          point p 1 (moved true (at_home (home x)) (Indexed 12 0) ∷ []) lp (omega (arith, fits')) (stands i e)
          (λ st t has'.
          let at = marked S a.f u.pc end [] (Two op2.Mov true (at_home (home x)) (Indexed 12 0)) [] st in
          let pc0 = behind_two S a.f u.pc end [] op2.Mov true (at_home (home x)) (Indexed 12 0) [] st in
          one 0 u w t refl (poke_a_byte S.image S.data_end S.marks S.c.sp u (Of (home x)) 12 n (v.sp + q) (ready S left most P u t) at (has_here u.regs x low lx) has' (omega arith) (omega (arith, fits', r)))
          (poked_here i e refl refl q (poked false (fn S a).frame a.frame q n) stack' u.regs w.pc u.sr (bit u.sr 3) (stepped i e)
          (λ b le. byte_other v.stack (v.sp + q) (n % 256) b (λ z. omega (arith, le, fits', z)))
          (λ y slot. word_on v.stack stack' (v.sp + y)
          (byte_other v.stack (v.sp + q) (n % 256) (v.sp + y) (λ z. ⊎_elim (λ l. omega (arith, l, z)) (λ g. omega (arith, g, z)) (inside.apart y slot.begins)))
          (byte_other v.stack (v.sp + q) (n % 256) (v.sp + y + 1) (λ z. ⊎_elim (λ l. omega (arith, l, z)) (λ g. omega (arith, g, z)) (inside.apart y slot.begins))))
          (λ o free. byte_poked v.stack a.frame (fn S a).frame v.sp q o n fits' (placed.bytes o free))
          (ap (λ m. u.pc + m) (turned (further (at_home (home x)))) ∙ pc0) low calm.gie (settled S t)))
