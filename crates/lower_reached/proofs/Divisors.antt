-- In each state that is reached a Help that divides has a divisor.
use Rattle.std.proofs.Common.{◌≡◌, ℕ, zero, suc, ◌+◌, Bool, true, false, List, [], ◌∷◌, ◌++◌, drop, All, Option, Some, None, refl, sym, subst}
use Rattle.std.specs.Prelude.{⊤, map, slice_index_or, if◌then◌else◌}
use Rattle.std.proofs.lemmas.List.Elements.{All-head, All-tail}
use Rattle.nesc_core.specs.Plain.{Ty, Body, Program}
use Rattle.nesc_core.specs.WellFormed.{IsBody, IsWellFormed, by_return}
use Rattle.mid_code.specs.declared.instr.Mid.{Mid}
use Rattle.mid_code.specs.declared.instr.Mid.TheVariants.{Set, Move, Bin, Carry, Load, Store, Peek, Poke, In, Out, Label, Jump, Branch, Call, Help, Ret, Begin, End, Post, Tick, Fault}
use Rattle.mid_code.specs.declared.code.MidCode.{MidCode}
use Rattle.mid_code.specs.Help.{helped}
use Rattle.mid_code.specs.Words.{holds}
use Rattle.mid_code.specs.Machine.{Activation, at_place, fn_of, help_to, instruction, moved, no_fn, onward, perform, place_of, step, take_back}
use Rattle.mid_code.specs.Reached.{MayGoOn, opens_at, state_at}
use Rattle.lower_expr.specs.Code.{taken_at}
use Rattle.lower_stmt.specs.Code.{WayOut, breaking, continuing, returning, leads, nothing_code}
use Rattle.lower_stmt.specs.Bodies.{base_of, body_code, checks_of, lowered, mid_fn_of, spots_of, ways_of}
use Rattle.lower_stmt.proofs.Leaving.{leads_allowed}
use Rattle.lower_reached.specs.Laws.{InnermostMayGoOn, is_help, is_of_place}
use Rattle.lower_reached.proofs.Facts.{Fact, Holds, MayStand, at_place_of, nothing}
use Rattle.lower_reached.proofs.Guarded.{WayIs, nothing_keeps, stmt_facts, stmt_keeps}
use Rattle.lower_reached.proofs.Reached.{at_split, statements_nest}

module _ (code : MidCode) (at_label : ℕ → ℕ → Fact) (guarded : (f : ℕ) → MayStand (at_label f) nothing (fn_of code f).code) where
  abbrev code_of : ℕ → List Mid
  code_of f = (fn_of code f).code

  -- what is known at a place holds of the values there
  record StandsAt (f at : ℕ) (values : ℕ → ℕ) : Type 0 where
    fact : Fact
    holds_here : Holds fact values
    rest : MayStand (at_label f) fact (drop at (code_of f))

  record Waits (a : Activation) : Type 0 where
    g : ℕ
    ins : List ℕ
    outs : List ℕ
    call : instruction code a ≡ Some (Call g ins outs)
    behind : MayStand (at_label a.f) nothing (drop (a.at + 1) (code_of a.f))

  abbrev AllWait : List Activation → Type 0
  AllWait [] = ⊤
  AllWait (a ∷ rest) = Waits a × AllWait rest

  abbrev Known : List Activation → Type 0
  Known [] = ⊤
  Known (a ∷ rest) = StandsAt a.f a.at a.values × AllWait rest

  begins : (g : ℕ) (values : ℕ → ℕ) → StandsAt g 0 values
  begins g values = record { fact = nothing; holds_here = tt; rest = guarded g }

  module _ (a : Activation) (rest : List Activation) (stands : StandsAt a.f a.at a.values) (waiting : AllWait rest) (answer : ℕ) where
    abbrev Then : Option Mid → Type 0
    Then o = Known (moved (perform o code (fn_of code a.f) a rest) answer)

    stands_with : (i : Mid) → instruction code a ≡ Some i → MayStand (at_label a.f) stands.fact (i ∷ drop (a.at + 1) (code_of a.f))
    stands_with i is = subst (MayStand (at_label a.f) stands.fact) (at_split (code_of a.f) a.at i is) stands.rest

    -- behind it, with nothing known
    next : (values : ℕ → ℕ) → MayStand (at_label a.f) nothing (drop (a.at + 1) (code_of a.f)) → StandsAt a.f (a.at + 1) values
    next values h = record { fact = nothing; holds_here = tt; rest = h }

    goes_to : (l : ℕ) → Holds (at_label a.f l) a.values → StandsAt a.f (place_of (code_of a.f) l) a.values
    goes_to l h = record { fact = at_label a.f l; holds_here = h; rest = at_place_of (at_label a.f) nothing (code_of a.f) l (guarded a.f) }

    branches : (l : ℕ) (b : Bool) → (b ≡ true → StandsAt a.f (place_of (code_of a.f) l) a.values) → StandsAt a.f (a.at + 1) a.values →
        Known ((if b then at_place a (place_of (code_of a.f) l) else onward a) ∷ rest)
    branches l true there here = (there refl, waiting)
    branches l false there here = (here, waiting)

    helps : (outs : List ℕ) (o : Option (List ℕ)) → MayStand (at_label a.f) nothing (drop (a.at + 1) (code_of a.f)) → Known (moved (help_to a rest outs o) answer)
    helps outs None h = tt
    helps outs (Some xs) h = (next _ h, waiting)

    returns : (under : List Activation) (vs : List ℕ) → AllWait under → Known (moved (perform (Some (Ret vs)) code (fn_of code a.f) a under) answer)
    returns [] vs h = tt
    returns (b ∷ under) vs h =
        let w = h.0 in
        subst (λ q. Known (take_back q b (map a.values vs) ∷ under)) (sym w.call) (record { fact = nothing; holds_here = tt; rest = w.behind }, h.1)

    by_instruction : (i : Mid) → instruction code a ≡ Some i → Then (Some i)
    by_instruction (Label l) is =
        let h = stands_with (Label l) is in
        (record { fact = at_label a.f l; holds_here = h.0 a.values stands.holds_here; rest = h.1 }, waiting)
    by_instruction (Jump l) is = let h = stands_with (Jump l) is in (goes_to l (h.0 a.values stands.holds_here), waiting)
    by_instruction (Branch test x y l) is =
        let h = stands_with (Branch test x y l) is in
        branches l (holds test (a.values x) (a.values y)) (λ e. goes_to l (h.0 a.values stands.holds_here e)) (next a.values h.1)
    by_instruction (Set v n) is =
        let h = stands_with (Set v n) is in
        (record { fact = h.0; holds_here = h.1 a.values stands.holds_here; rest = h.2 }, waiting)
    by_instruction (Bin op v x y) is =
        let h = stands_with (Bin op v x y) is in
        (record { fact = h.0; holds_here = h.1 a.values stands.holds_here; rest = h.2 }, waiting)
    by_instruction (Call g ins outs) is = (begins g _, (record { g = g; ins = ins; outs = outs; call = is; behind = stands_with (Call g ins outs) is }, waiting))
    by_instruction (Help o ins outs) is = let h = stands_with (Help o ins outs) is in helps outs (helped code o (map a.values ins)) h.1
    by_instruction (Ret vs) is = returns rest vs waiting
    by_instruction (Fault c) is = tt
    by_instruction (Move v x) is = (next _ (stands_with (Move v x) is), waiting)
    by_instruction (Carry op v x y) is = (next _ (stands_with (Carry op v x y) is), waiting)
    by_instruction (Load w v x) is = (next _ (stands_with (Load w v x) is), waiting)
    by_instruction (Store w v x) is = (next _ (stands_with (Store w v x) is), waiting)
    by_instruction (Peek w v x) is = (next _ (stands_with (Peek w v x) is), waiting)
    by_instruction (Poke w v x) is = (next _ (stands_with (Poke w v x) is), waiting)
    by_instruction (In v port) is = (next _ (stands_with (In v port) is), waiting)
    by_instruction (Out port v) is = (next _ (stands_with (Out port v) is), waiting)
    by_instruction (Begin o) is = (next _ (stands_with (Begin o) is), waiting)
    by_instruction (End o) is = (next _ (stands_with (End o) is), waiting)
    by_instruction (Post k v) is = (next _ (stands_with (Post k v) is), waiting)
    by_instruction Tick is = (next _ (stands_with Tick is), waiting)

    by_option : (o : Option Mid) → instruction code a ≡ o → Then o
    by_option None is = tt
    by_option (Some i) is = by_instruction i is

    help_divides : (i : Mid) → instruction code a ≡ Some i → is_help i ≡ true → (opens : List ℕ) → MayGoOn code a opens (Some i)
    help_divides (Help o ins outs) is of opens = let h = stands_with (Help o ins outs) is in h.0 a.values stands.holds_here
    help_divides i is of opens = absurd (cc)

  next_known : (s : List Activation) (answer : ℕ) → Known s → Known (moved (step code s) answer)
  next_known [] answer h = tt
  next_known (a ∷ rest) answer h = by_option a rest h.0 h.1 answer (instruction code a) refl

  are_known : (f : ℕ) (answers : ℕ → ℕ) (n : ℕ) → Known (state_at code f answers n)
  are_known f answers zero = (begins f _, tt)
  are_known f answers (suc n) = next_known (state_at code f answers n) (answers n) (are_known f answers n)

  -- the open Begins are in step with the calls
  go_on : (s : List Activation) (all : List (List ℕ)) → Known s → InnermostMayGoOn is_of_place code s all → InnermostMayGoOn is_help code s all
  go_on [] all h g = tt
  go_on (a ∷ rest) [] h g = absurd g
  go_on (a ∷ rest) (opens ∷ outer) h g = λ i is of. help_divides a rest h.0 h.1 0 i is of opens

  pub all_divide : (f : ℕ) (answers : ℕ → ℕ) (n : ℕ) → InnermostMayGoOn is_of_place code (state_at code f answers n) (opens_at code f answers n) → InnermostMayGoOn is_help code (state_at code f answers n) (opens_at code f answers n)
  all_divide f answers n h = go_on (state_at code f answers n) (opens_at code f answers n) (are_known f answers n) h

-- ---- lowered programs

abbrev facts_of : List Body → ℕ → ℕ → Fact
facts_of [] f k = nothing
facts_of (b ∷ bodies) zero k = stmt_facts (base_of b) b.code 0 k
facts_of (b ∷ bodies) (suc f) k = facts_of bodies f k

body_guarded : (p : Program) (checks : List Ty) (b : Body) → IsBody p b → MayStand (λ k. stmt_facts (base_of b) b.code 0 k) nothing (body_code p checks b)
body_guarded p checks b own =
    let base : ℕ = base_of b in
    let at_label : ℕ → Fact = (λ k. stmt_facts base b.code 0 k) in
    let n = nothing_code b.result (base + 2) in
    let last : List Mid = Ret (taken_at b.result (base + 2)) ∷ [] in
    let within = stmt_keeps at_label p b.locals checks (spots_of p b) base b.code (by_return b.result) (ways_of p b) 0 own.code (record { each = λ k ge lt. refl }) (record { way = ways }) in
    within.over (n ++ last) ((nothing_keeps at_label b.result (base + 2)).over last (nothing, tt))
  where
    ways : (out : WayOut) → leads b.code out ≡ true → WayIs (λ k. stmt_facts (base_of b) b.code 0 k) (ways_of p b) out
    ways returning e = tt
    ways breaking e = let no = leads_allowed p b.locals b.code (by_return b.result) breaking own.code e in absurd (cc)
    ways continuing e = let no = leads_allowed p b.locals b.code (by_return b.result) continuing own.code e in absurd (cc)

bodies_guarded : (p : Program) (checks : List Ty) (bodies : List Body) → All (IsBody p) bodies → (f : ℕ) → MayStand (facts_of bodies f) nothing (slice_index_or (map (mid_fn_of p checks) bodies) f no_fn).code
bodies_guarded p checks [] own f = tt
bodies_guarded p checks (b ∷ bodies) own zero = body_guarded p checks b (All-head (IsBody p) b bodies own)
bodies_guarded p checks (b ∷ bodies) own (suc f) = bodies_guarded p checks bodies (All-tail (IsBody p) b bodies own) f

pub divisors_are_other : (p : Program) → IsWellFormed p → (f : ℕ) (answers : ℕ → ℕ) (n : ℕ) → InnermostMayGoOn is_help (lowered p) (state_at (lowered p) f answers n) (opens_at (lowered p) f answers n)
divisors_are_other p formed f answers n = all_divide (lowered p) (facts_of p.bodies) (bodies_guarded p (checks_of p) p.bodies formed.bodies) f answers n (statements_nest p formed f answers n)
