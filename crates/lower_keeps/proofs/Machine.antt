-- In each state that is reached the code may go on with its values.
use Rattle.std.proofs.Common.{◌≡◌, ℕ, zero, suc, ◌+◌, ◌≤◌, Bool, true, false, List, [], ◌∷◌, drop, map, Option, Some, None, inl, refl, sym, subst, arith}
use Rattle.std.specs.Prelude.{⊤, if◌then◌else◌}
use Rattle.mid_code.specs.declared.instr.Mid.{Mid}
use Rattle.mid_code.specs.declared.instr.Mid.TheVariants.{Set, Move, Bin, Carry, Load, Store, Peek, Poke, In, Out, Label, Jump, Branch, Call, Help, Ret, Begin, End, Post, Tick, Fault}
use Rattle.mid_code.specs.declared.code.MidCode.{MidCode}
use Rattle.mid_code.specs.Help.{helped}
use Rattle.mid_code.specs.Words.{holds, kept}
use Rattle.mid_code.specs.Machine.{Activation, at_place, fn_of, help_to, instruction, moved, onward, perform, place_of, put_all, step, take_back}
use Rattle.mid_code.specs.Reached.{IsInFrame, MayGoOn, opens_at, state_at}
use Rattle.lower_reached.specs.Laws.{InnermostMayGoOn, is_of_frame, is_of_place}
use Rattle.lower_reached.proofs.Reached.{at_split}
use Rattle.lower_keeps.proofs.Safe.{IsInside, MayGo, MayStand, at_place_of, begins_behind, from_place}

-- the first bytes of each function's frame are those up to its limit
module _ (code : MidCode) (limit : ℕ → ℕ) (tasks : ℕ) (at_label : ℕ → ℕ → (ℕ → ℕ) → Type 0)
    (stand : (f : ℕ) → MayStand code (limit f) tasks (at_label f) (fn_of code f).code)
    (begin : (f : ℕ) (values : ℕ → ℕ) → MayGo code (limit f) tasks (at_label f) (fn_of code f).code values)
    (room : (f : ℕ) → limit f ≤ (fn_of code f).frame) where
  abbrev code_of : ℕ → List Mid
  code_of f = (fn_of code f).code

  abbrev Goes : (f at : ℕ) → (ℕ → ℕ) → Type 0
  Goes f at values = MayGo code (limit f) tasks (at_label f) (drop at (code_of f)) values

  record Waits (a : Activation) : Type 0 where
    g : ℕ
    ins : List ℕ
    outs : List ℕ
    call : instruction code a ≡ Some (Call g ins outs)
    behind : (xs : List ℕ) → Goes a.f (a.at + 1) (put_all a.values outs xs)

  abbrev AllWait : List Activation → Type 0
  AllWait [] = ⊤
  AllWait (a ∷ rest) = Waits a × AllWait rest

  abbrev AllGo : List Activation → Type 0
  AllGo [] = ⊤
  AllGo (a ∷ rest) = Goes a.f a.at a.values × AllWait rest

  module _ (a : Activation) (rest : List Activation) (goes : Goes a.f a.at a.values) (waiting : AllWait rest) (answer : ℕ) where
    abbrev Then : Option Mid → Type 0
    Then o = AllGo (moved (perform o code (fn_of code a.f) a rest) answer)

    goes_with : (i : Mid) → instruction code a ≡ Some i → MayGo code (limit a.f) tasks (at_label a.f) (i ∷ drop (a.at + 1) (code_of a.f)) a.values
    goes_with i is = subst (λ u. MayGo code (limit a.f) tasks (at_label a.f) u a.values) (at_split (code_of a.f) a.at i is) goes

    stands_with : (i : Mid) → instruction code a ≡ Some i → MayStand code (limit a.f) tasks (at_label a.f) (i ∷ drop (a.at + 1) (code_of a.f))
    stands_with i is = subst (MayStand code (limit a.f) tasks (at_label a.f)) (at_split (code_of a.f) a.at i is) (from_place code (limit a.f) tasks (at_label a.f) (code_of a.f) a.at (stand a.f))

    goes_to : (l : ℕ) → at_label a.f l a.values → Goes a.f (place_of (code_of a.f) l) a.values
    goes_to l h = at_place_of code (limit a.f) tasks (at_label a.f) (code_of a.f) l a.values h

    branches : (l : ℕ) (b : Bool) → (b ≡ true → Goes a.f (place_of (code_of a.f) l) a.values) → (b ≡ false → Goes a.f (a.at + 1) a.values) →
        AllGo ((if b then at_place a (place_of (code_of a.f) l) else onward a) ∷ rest)
    branches l true there here = (there refl, waiting)
    branches l false there here = (here refl, waiting)

    helps : (outs : List ℕ) (o : Option (List ℕ)) → ((xs : List ℕ) → o ≡ Some xs → Goes a.f (a.at + 1) (put_all a.values outs xs)) → AllGo (moved (help_to a rest outs o) answer)
    helps outs None h = tt
    helps outs (Some xs) h = (h xs refl, waiting)

    returns : (under : List Activation) (vs : List ℕ) → AllWait under → AllGo (moved (perform (Some (Ret vs)) code (fn_of code a.f) a under) answer)
    returns [] vs h = tt
    returns (b ∷ under) vs h =
        let w = h.0 in
        subst (λ q. AllGo (take_back q b (map a.values vs) ∷ under)) (sym w.call) (w.behind (map a.values vs), h.1)

    by_instruction : (i : Mid) → instruction code a ≡ Some i → Then (Some i)
    by_instruction (Label l) is = let s = stands_with (Label l) is in (s.0 a.values (goes_with (Label l) is), waiting)
    by_instruction (Jump l) is = (goes_to l (goes_with (Jump l) is), waiting)
    by_instruction (Branch test x y l) is =
        let h = goes_with (Branch test x y l) is in
        branches l (holds test (a.values x) (a.values y)) (λ e. goes_to l (h.0 e)) h.1
    by_instruction (Call g ins outs) is = (begin g _, (record { g = g; ins = ins; outs = outs; call = is; behind = goes_with (Call g ins outs) is }, waiting))
    by_instruction (Help o ins outs) is = helps outs (helped code o (map a.values ins)) (goes_with (Help o ins outs) is)
    by_instruction (Ret vs) is = returns rest vs waiting
    by_instruction (Fault c) is = tt
    by_instruction (Set v n) is = (goes_with (Set v n) is, waiting)
    by_instruction (Move v x) is = (goes_with (Move v x) is, waiting)
    by_instruction (Bin op v x y) is = (goes_with (Bin op v x y) is, waiting)
    by_instruction (Carry op v x y) is = (goes_with (Carry op v x y) is, waiting)
    by_instruction (Load w v x) is = (goes_with (Load w v x) is (kept w answer), waiting)
    by_instruction (Store w v x) is = (goes_with (Store w v x) is, waiting)
    by_instruction (Peek w v x) is = (let h = goes_with (Peek w v x) is in h.1 _, waiting)
    by_instruction (Poke w v x) is = (let h = goes_with (Poke w v x) is in h.1, waiting)
    by_instruction (In v port) is = (goes_with (In v port) is answer, waiting)
    by_instruction (Out port v) is = (goes_with (Out port v) is, waiting)
    by_instruction (Begin o) is = (goes_with (Begin o) is, waiting)
    by_instruction (End o) is = (goes_with (End o) is, waiting)
    by_instruction (Post k v) is = (goes_with (Post k v) is answer, waiting)
    by_instruction Tick is = (goes_with Tick is, waiting)

    by_option : (o : Option Mid) → instruction code a ≡ o → Then o
    by_option None is = tt
    by_option (Some i) is = by_instruction i is

    -- the frame's place is one of its own
    in_frame : (w : Bool) (x : ℕ) → IsInside code (limit a.f) tasks (at_label a.f) w x → IsInFrame (fn_of code a.f) w x
    in_frame w x h = record {
      inside = let own = h.0 in let most = room a.f in omega (arith, own, most);
      aligned = h.1;
      apart = λ o there. inl (let own = h.0 in let least = begins_behind code (limit a.f) tasks (at_label a.f) (code_of a.f) o there (stand a.f) in omega (arith, own, least));
    }

    frame_kept : (i : Mid) → instruction code a ≡ Some i → is_of_frame i ≡ true → (opens : List ℕ) → MayGoOn code a opens (Some i)
    frame_kept (Peek w v x) is of opens = let h = goes_with (Peek w v x) is in in_frame w (a.values x) h.0
    frame_kept (Poke w v x) is of opens = let h = goes_with (Poke w v x) is in in_frame w (a.values x) h.0
    frame_kept i is of opens = absurd (cc)

  next_go : (s : List Activation) (answer : ℕ) → AllGo s → AllGo (moved (step code s) answer)
  next_go [] answer h = tt
  next_go (a ∷ rest) answer h = by_option a rest h.0 h.1 answer (instruction code a) refl

  all_go : (f : ℕ) (answers : ℕ → ℕ) (n : ℕ) → AllGo (state_at code f answers n)
  all_go f answers zero = (begin f _, tt)
  all_go f answers (suc n) = next_go (state_at code f answers n) (answers n) (all_go f answers n)

  -- the open Begins are in step with the calls
  go_on : (s : List Activation) (all : List (List ℕ)) → AllGo s → InnermostMayGoOn is_of_place code s all → InnermostMayGoOn is_of_frame code s all
  go_on [] all h g = tt
  go_on (a ∷ rest) [] h g = absurd g
  go_on (a ∷ rest) (opens ∷ outer) h g = λ i is of. frame_kept a rest h.0 h.1 0 i is of opens

  pub frames_kept : (f : ℕ) (answers : ℕ → ℕ) (n : ℕ) → InnermostMayGoOn is_of_place code (state_at code f answers n) (opens_at code f answers n) → InnermostMayGoOn is_of_frame code (state_at code f answers n) (opens_at code f answers n)
  frames_kept f answers n h = go_on (state_at code f answers n) (opens_at code f answers n) (all_go f answers n) h
