-- In each state that is reached the open Begins are those that the places of the calls say.
use Rattle.std.proofs.Common.{◌≡◌, inr, ℕ, zero, suc, ◌+◌, ◌*◌, ◌≤◌, Bool, true, false, List, [], ◌∷◌, ◌++◌, drop, All, Option, Some, None, refl, sym, ap, ◌∙◌, subst, add-one, arith}
use Rattle.std.specs.Prelude.{⊤, map, slice_get, slice_index_or, if◌then◌else◌}
use Rattle.std.proofs.lemmas.List.Elements.{All-cons, All-head, All-nil, All-tail}
use Rattle.nesc_core.specs.Plain.{Ty, Body, Program}
use Rattle.nesc_core.specs.WellFormed.{IsBody, IsWellFormed, by_return}
use Rattle.mid_code.specs.declared.instr.Mid.{Mid}
use Rattle.mid_code.specs.declared.instr.Mid.TheVariants.{Set, Move, Bin, Carry, Load, Store, Peek, Poke, In, Out, Label, Jump, Branch, Call, Help, Ret, Begin, End, Post, Tick, Fault}
use Rattle.mid_code.specs.declared.code.MidFn.{MidFn}
use Rattle.mid_code.specs.declared.code.MidCode.{MidCode}
use Rattle.mid_code.specs.Help.{helped}
use Rattle.mid_code.specs.Words.{holds}
use Rattle.mid_code.specs.Machine.{Activation, at_place, fn_of, help_to, instruction, moved, no_fn, onward, perform, place_of, step, take_back}
use Rattle.mid_code.specs.Reached.{AreApart, LastIs, MayGoOn, innermost_instruction, opens_at, opens_behind, state_at}
use Rattle.lower_expr.specs.Code.{taken_at}
use Rattle.lower_stmt.specs.Code.{WayOut, breaking, continuing, returning, leads, nothing_code, stmt_code}
use Rattle.lower_stmt.specs.Bodies.{all_bytes, base_of, body_code, checks_of, lowered, mid_fn_of, spots_of, ways_of}
use Rattle.lower_stmt.proofs.Leaving.{leads_allowed}
use Rattle.lower_form.specs.Instructions.{IsSound}
use Rattle.lower_form.proofs.Sound.{are_sound}
use Rattle.lower_reached.specs.Laws.{InnermostMayGoOn, is_of_place}
use Rattle.lower_reached.proofs.Depths.{MayStand, at_place_of}
use Rattle.lower_reached.proofs.Nested.{WayIs, depth, nothing_keeps, stmt_keeps}

-- ---- lists

split_there : (xs : List Mid) (at : ℕ) (i : Mid) → slice_get xs at ≡ Some i → drop at xs ≡ i ∷ drop (suc at) xs
split_there [] at i e = absurd (cc)
split_there (x ∷ xs) zero i e = let same : x ≡ i = cc in ap (λ y. y ∷ xs) same
split_there (x ∷ xs) (suc at) i e = split_there xs at i e

pub at_split : (xs : List Mid) (at : ℕ) (i : Mid) → slice_get xs at ≡ Some i → drop at xs ≡ i ∷ drop (at + 1) xs
at_split xs at i e = split_there xs at i e ∙ ap (λ k. i ∷ drop k xs) (sym (add-one at))

all_at : (P : Mid → Type 0) (xs : List Mid) (at : ℕ) (i : Mid) → All P xs → slice_get xs at ≡ Some i → P i
all_at P [] at i h e = absurd (cc)
all_at P (x ∷ xs) zero i h e = let same : x ≡ i = cc in subst P same (All-head P x xs h)
all_at P (x ∷ xs) (suc at) i h e = all_at P xs at i (All-tail P x xs h) e

fn_all : (P : MidFn → Type 0) (fns : List MidFn) (f : ℕ) → P no_fn → All P fns → P (slice_index_or fns f no_fn)
fn_all P [] f none h = none
fn_all P (fn ∷ fns) zero none h = All-head P fn fns h
fn_all P (fn ∷ fns) (suc f) none h = fn_all P fns f none (All-tail P fn fns h)

-- ---- the places of so many open Begins, the last first

abbrev pub places_from : (start d : ℕ) → List ℕ
places_from start zero = []
places_from start (suc d) = (start + 2 * d) ∷ places_from start d

places_apart : (start d o : ℕ) → start + 2 * d ≤ o → All (AreApart 2 o) (places_from start d)
places_apart start zero o le = All-nil (AreApart 2 o)
places_apart start (suc d) o le = All-cons (AreApart 2 o) (start + 2 * d) (places_from start d) (inr (omega (arith, le))) (places_apart start d o (omega (arith, le)))

-- ---- states of code that nests

module _ (code : MidCode) (at_label : ℕ → ℕ → ℕ) (start : ℕ → ℕ) (nested : (f : ℕ) → MayStand (at_label f) (start f) 0 (fn_of code f).code) where
  abbrev pub code_of : ℕ → List Mid
  code_of f = (fn_of code f).code

  -- the rest of a function's code may stand where these Begins are open
  pub record StandsAt (f at : ℕ) (opens : List ℕ) : Type 0 where
    pub many : ℕ
    pub are : opens ≡ places_from (start f) many
    pub rest : MayStand (at_label f) (start f) many (drop at (code_of f))

  pub record Waits (a : Activation) (opens : List ℕ) : Type 0 where
    pub g : ℕ
    pub ins : List ℕ
    pub outs : List ℕ
    pub call : instruction code a ≡ Some (Call g ins outs)
    pub behind : StandsAt a.f (a.at + 1) opens

  abbrev pub AllWait : List Activation → List (List ℕ) → Type 0
  AllWait [] [] = ⊤
  AllWait [] (opens ∷ outer) = ⊥
  AllWait (a ∷ rest) [] = ⊥
  AllWait (a ∷ rest) (opens ∷ outer) = Waits a opens × AllWait rest outer

  abbrev pub AreOpen : List Activation → List (List ℕ) → Type 0
  AreOpen [] all = ⊤
  AreOpen (a ∷ rest) [] = ⊥
  AreOpen (a ∷ rest) (opens ∷ outer) = StandsAt a.f a.at opens × AllWait rest outer

  begins : (g : ℕ) → StandsAt g 0 []
  begins g = record { many = 0; are = refl; rest = nested g }

  -- ---- a step

  module _ (a : Activation) (rest : List Activation) (opens : List ℕ) (outer : List (List ℕ)) (stands : StandsAt a.f a.at opens) (waiting : AllWait rest outer) (answer : ℕ) where
    abbrev Then : Option Mid → Type 0
    Then o = AreOpen (moved (perform o code (fn_of code a.f) a rest) answer) (opens_behind o (opens ∷ outer))

    -- its instruction, and what stands behind it
    stands_with : (i : Mid) → instruction code a ≡ Some i → MayStand (at_label a.f) (start a.f) stands.many (i ∷ drop (a.at + 1) (code_of a.f))
    stands_with i is = subst (MayStand (at_label a.f) (start a.f) stands.many) (at_split (code_of a.f) a.at i is) stands.rest

    -- the next instruction, with as many open
    next : MayStand (at_label a.f) (start a.f) stands.many (drop (a.at + 1) (code_of a.f)) → StandsAt a.f (a.at + 1) opens
    next h = record { many = stands.many; are = stands.are; rest = h }

    goes_to : (l : ℕ) → at_label a.f l ≡ stands.many → StandsAt a.f (place_of (code_of a.f) l) opens
    goes_to l e = record {
      many = stands.many;
      are = stands.are;
      rest = subst (λ n. MayStand (at_label a.f) (start a.f) n (drop (place_of (code_of a.f) l) (code_of a.f))) e (at_place_of (at_label a.f) (start a.f) 0 (code_of a.f) l (nested a.f));
    }

    branches : (l : ℕ) (b : Bool) → StandsAt a.f (place_of (code_of a.f) l) opens → StandsAt a.f (a.at + 1) opens →
        AreOpen ((if b then at_place a (place_of (code_of a.f) l) else onward a) ∷ rest) (opens ∷ outer)
    branches l true there here = (there, waiting)
    branches l false there here = (here, waiting)

    helps : (outs : List ℕ) (o : Option (List ℕ)) → StandsAt a.f (a.at + 1) opens → AreOpen (moved (help_to a rest outs o) answer) (opens ∷ outer)
    helps outs None here = tt
    helps outs (Some xs) here = (here, waiting)

    returns : (under : List Activation) (over : List (List ℕ)) (vs : List ℕ) → AllWait under over → AreOpen (moved (perform (Some (Ret vs)) code (fn_of code a.f) a under) answer) over
    returns [] over vs h = tt
    returns (b ∷ under) [] vs h = absurd h
    returns (b ∷ under) (o ∷ over) vs h =
        let w = h.0 in
        subst (λ q. AreOpen (take_back q b (map a.values vs) ∷ under) (o ∷ over)) (sym w.call) (w.behind, h.1)

    by_instruction : (i : Mid) → instruction code a ≡ Some i → Then (Some i)
    by_instruction (Jump l) is = let h = stands_with (Jump l) is in (goes_to l h.0, waiting)
    by_instruction (Branch test x y l) is = let h = stands_with (Branch test x y l) is in branches l (holds test (a.values x) (a.values y)) (goes_to l h.0) (next h.1)
    by_instruction (Call g ins outs) is = (begins g, (record { g = g; ins = ins; outs = outs; call = is; behind = next (stands_with (Call g ins outs) is) }, waiting))
    by_instruction (Help o ins outs) is = helps outs (helped code o (map a.values ins)) (next (stands_with (Help o ins outs) is))
    by_instruction (Ret vs) is = returns rest outer vs waiting
    by_instruction (Begin o) is =
        let h = stands_with (Begin o) is in
        (record { many = suc stands.many; are = ap (λ x. x ∷ opens) h.0 ∙ ap (λ xs. (start a.f + 2 * stands.many) ∷ xs) stands.are; rest = h.1 }, waiting)
    by_instruction (End o) is =
        let h = stands_with (End o) is in
        (record { many = h.0; are = ap (drop 1) (stands.are ∙ ap (places_from (start a.f)) h.1); rest = h.3 }, waiting)
    by_instruction (Label l) is = let h = stands_with (Label l) is in (next h.1, waiting)
    by_instruction (Fault c) is = tt
    by_instruction (Set v x) is = (next (stands_with (Set v x) is), waiting)
    by_instruction (Move v x) is = (next (stands_with (Move v x) is), waiting)
    by_instruction (Bin op v x y) is = (next (stands_with (Bin op v x y) is), waiting)
    by_instruction (Carry op v x y) is = (next (stands_with (Carry op v x y) is), waiting)
    by_instruction (Load w v x) is = (next (stands_with (Load w v x) is), waiting)
    by_instruction (Store w v x) is = (next (stands_with (Store w v x) is), waiting)
    by_instruction (Peek w v x) is = (next (stands_with (Peek w v x) is), waiting)
    by_instruction (Poke w v x) is = (next (stands_with (Poke w v x) is), waiting)
    by_instruction (In v port) is = (next (stands_with (In v port) is), waiting)
    by_instruction (Out port v) is = (next (stands_with (Out port v) is), waiting)
    by_instruction (Post k v) is = (next (stands_with (Post k v) is), waiting)
    by_instruction Tick is = (next (stands_with Tick is), waiting)

    by_option : (o : Option Mid) → instruction code a ≡ o → Then o
    by_option None is = tt
    by_option (Some i) is = by_instruction i is

  next_open : (s : List Activation) (all : List (List ℕ)) (answer : ℕ) → AreOpen s all → AreOpen (moved (step code s) answer) (opens_behind (innermost_instruction code s) all)
  next_open [] all answer h = tt
  next_open (a ∷ rest) [] answer h = absurd h
  next_open (a ∷ rest) (opens ∷ outer) answer h = by_option a rest opens outer h.0 h.1 answer (instruction code a) refl

  pub are_open : (f : ℕ) (answers : ℕ → ℕ) (n : ℕ) → AreOpen (state_at code f answers n) (opens_at code f answers n)
  are_open f answers zero = (begins f, tt)
  are_open f answers (suc n) = next_open (state_at code f answers n) (opens_at code f answers n) (answers n) (are_open f answers n)

  -- ---- what holds in such a state

  module _ (sound : (f : ℕ) → All (IsSound (fn_of code f).frame) (code_of f)) where
    module _ (a : Activation) (opens : List ℕ) (stands : StandsAt a.f a.at opens) where
      sound_at : (i : Mid) → instruction code a ≡ Some i → IsSound (fn_of code a.f).frame i
      sound_at i is = all_at (IsSound (fn_of code a.f).frame) (code_of a.f) a.at i (sound a.f) is

      stands_here : (i : Mid) → instruction code a ≡ Some i → MayStand (at_label a.f) (start a.f) stands.many (i ∷ drop (a.at + 1) (code_of a.f))
      stands_here i is = subst (MayStand (at_label a.f) (start a.f) stands.many) (at_split (code_of a.f) a.at i is) stands.rest

      may_go_on : (i : Mid) → instruction code a ≡ Some i → is_of_place i ≡ true → MayGoOn code a opens (Some i)
      may_go_on (In v port) is of = sound_at (In v port) is
      may_go_on (Out port v) is of = sound_at (Out port v) is
      may_go_on (Begin o) is of =
          let h = stands_here (Begin o) is in
          let s = sound_at (Begin o) is in
          record {
            inside = s.0;
            aligned = s.1;
            apart = subst (All (AreApart 2 o)) (sym stands.are) (places_apart (start a.f) stands.many o (let e = h.0 in omega (arith, e)));
          }
      may_go_on (End o) is of =
          let h = stands_here (End o) is in
          subst (LastIs o) (sym (stands.are ∙ ap (places_from (start a.f)) h.1)) (sym h.2)
      may_go_on (Ret vs) is of = let h = stands_here (Ret vs) is in stands.are ∙ ap (places_from (start a.f)) h.0
      may_go_on (Load w v x) is of = absurd (cc)
      may_go_on (Store w v x) is of = absurd (cc)
      may_go_on (Peek w v x) is of = absurd (cc)
      may_go_on (Poke w v x) is of = absurd (cc)
      may_go_on (Help o ins outs) is of = absurd (cc)
      may_go_on (Set v n) is of = tt
      may_go_on (Move v x) is of = tt
      may_go_on (Bin op v x y) is of = tt
      may_go_on (Carry op v x y) is of = tt
      may_go_on (Label l) is of = tt
      may_go_on (Jump l) is of = tt
      may_go_on (Branch test x y l) is of = tt
      may_go_on (Call g ins outs) is of = tt
      may_go_on (Post k v) is of = tt
      may_go_on Tick is of = tt
      may_go_on (Fault c) is of = tt

    pub all_go_on : (s : List Activation) (all : List (List ℕ)) → AreOpen s all → InnermostMayGoOn is_of_place code s all
    all_go_on [] all h = tt
    all_go_on (a ∷ rest) [] h = absurd h
    all_go_on (a ∷ rest) (opens ∷ outer) h = λ i is of. may_go_on a opens h.0 i is of

-- ---- lowered programs

-- so many are open at the labels of a body's code
abbrev labels_of : List Body → ℕ → ℕ → ℕ
labels_of [] f k = 0
labels_of (b ∷ bodies) zero k = depth b.code 0 0 k
labels_of (b ∷ bodies) (suc f) k = labels_of bodies f k

-- the first place for a status
abbrev start_of : Program → List Body → ℕ → ℕ
start_of p [] f = 0
start_of p (b ∷ bodies) zero = all_bytes p b.locals
start_of p (b ∷ bodies) (suc f) = start_of p bodies f

body_nests : (p : Program) (checks : List Ty) (b : Body) → IsBody p b → MayStand (depth b.code 0 0) (all_bytes p b.locals) 0 (body_code p checks b)
body_nests p checks b own =
    let base : ℕ = base_of b in
    let start : ℕ = all_bytes p b.locals in
    let c : List Mid = stmt_code p b.locals checks (spots_of p b) base b.code (ways_of p b) 0 in
    let n : List Mid = nothing_code b.result (base + 2) in
    let last : List Mid = Ret (taken_at b.result (base + 2)) ∷ [] in
    let within = stmt_keeps (depth b.code 0 0) start p b.locals checks (spots_of p b) base b.code (by_return b.result) (ways_of p b) 0 0 own.code (omega arith) (record { each = λ k ge lt. refl }) (record { way = ways }) in
    within.over (n ++ last) ((nothing_keeps (depth b.code 0 0) start 0 b.result (base + 2)).over last (refl, (0, tt)))
  where
    ways : (out : WayOut) → leads b.code out ≡ true → WayIs (depth b.code 0 0) (all_bytes p b.locals) 0 (ways_of p b) out
    ways returning e = refl
    ways breaking e = let no = leads_allowed p b.locals b.code (by_return b.result) breaking own.code e in absurd (cc)
    ways continuing e = let no = leads_allowed p b.locals b.code (by_return b.result) continuing own.code e in absurd (cc)

bodies_nest : (p : Program) (checks : List Ty) (bodies : List Body) → All (IsBody p) bodies → (f : ℕ) → MayStand (labels_of bodies f) (start_of p bodies f) 0 (slice_index_or (map (mid_fn_of p checks) bodies) f no_fn).code
bodies_nest p checks [] own f = tt
bodies_nest p checks (b ∷ bodies) own zero = body_nests p checks b (All-head (IsBody p) b bodies own)
bodies_nest p checks (b ∷ bodies) own (suc f) = bodies_nest p checks bodies (All-tail (IsBody p) b bodies own) f

pub statements_nest : (p : Program) → IsWellFormed p → (f : ℕ) (answers : ℕ → ℕ) (n : ℕ) → InnermostMayGoOn is_of_place (lowered p) (state_at (lowered p) f answers n) (opens_at (lowered p) f answers n)
statements_nest p formed f answers n =
    let code : MidCode = lowered p in
    let nested : (g : ℕ) → MayStand (labels_of p.bodies g) (start_of p p.bodies g) 0 (fn_of code g).code = bodies_nest p (checks_of p) p.bodies formed.bodies in
    let sound : (g : ℕ) → All (IsSound (fn_of code g).frame) (fn_of code g).code = (λ g. fn_all (λ fn. All (IsSound fn.frame) fn.code) code.fns g (All-nil (IsSound 0)) (are_sound p formed)) in
    all_go_on code (labels_of p.bodies) (start_of p p.bodies) nested sound (state_at code f answers n) (opens_at code f answers n) (are_open code (labels_of p.bodies) (start_of p p.bodies) nested f answers n)
