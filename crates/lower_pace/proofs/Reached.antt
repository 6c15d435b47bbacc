-- In each state that is reached an action comes soon, where it does so from the beginning of each function and behind each action.
use Rattle.std.proofs.Common.{◌≡◌, ℕ, zero, suc, ◌+◌, ◌≤◌, Bool, true, false, List, [], ◌∷◌, drop, Option, Some, None, refl, sym, ap, ◌∙◌, subst, arith}
use Rattle.std.specs.Prelude.{⊤, map, slice_get, if◌then◌else◌}
use Rattle.mid_code.specs.declared.instr.Mid.{Mid}
use Rattle.mid_code.specs.declared.instr.Mid.TheVariants.{Set, Move, Bin, Carry, Load, Store, Peek, Poke, In, Out, Label, Jump, Branch, Call, Help, Ret, Begin, End, Post, Tick, Fault}
use Rattle.mid_code.specs.declared.code.MidCode.{MidCode}
use Rattle.mid_code.specs.Help.{helped}
use Rattle.mid_code.specs.Words.{holds}
use Rattle.mid_code.specs.Machine.{Activation, Goes, at_place, entry, fn_of, help_to, instruction, moved, onward, perform, place_of, step, take_back, write_all}
use Rattle.mid_code.specs.Reached.{state_at}
use Rattle.mid_code.specs.Runs.{IsLabelled}
use Rattle.lower_pace.proofs.Silent.{Soon, acts, behind, goes, more}
use Rattle.lower_pace.proofs.Flow.{AreCalled, Flow, HasSizes, Here, Inner, IsCalled, Setting, at_head, at_split, at_tail, is_act, is_call, is_tick, starts_call, starts_tick}

-- a call and a Tick that stand first
first_call : (u : List Mid) → starts_call u ≡ true → (g : ℕ) × (ins : List ℕ) × (outs : List ℕ) × (v : List Mid) × (u ≡ Call g ins outs ∷ v)
first_call [] e = absurd (cc)
first_call (Call g ins outs ∷ v) e = (g, ins, outs, v, refl)
first_call (i ∷ u) e = absurd (cc)

tick_is : (i : Mid) → is_tick i ≡ true → i ≡ Tick
tick_is Tick e = refl
tick_is i e = absurd (cc)

first_tick : (u : List Mid) → starts_tick u ≡ true → slice_get u 0 ≡ Some Tick
first_tick [] e = absurd (cc)
first_tick (i ∷ u) e = ap Some (tick_is i e)

-- what stands first in what is left
left_first : (xs : List Mid) (at : ℕ) → slice_get (drop at xs) 0 ≡ slice_get xs at
left_first [] zero = refl
left_first [] (suc at) = refl
left_first (x ∷ xs) zero = refl
left_first (x ∷ xs) (suc at) = left_first xs at

module _ (code : MidCode) (size : Option Mid → ℕ) (help : ℕ) (sizes : HasSizes size help) (labels : (f : ℕ) → IsLabelled (fn_of code f).code) where
  abbrev pub given : ℕ → Setting
  given f = record { code = code; size = size; help = help; sizes = sizes; f = f; labels = labels f }

  inner_at : (f n : ℕ) (xs : List Mid) → Inner (given f) n xs → (at : ℕ) (i : Mid) (u : List Mid) → drop at xs ≡ i ∷ u → Here (given f) n i u × Inner (given f) n u
  inner_at f n [] h zero i u e = absurd (cc)
  inner_at f n [] h (suc at) i u e = absurd (cc)
  inner_at f n (x ∷ xs) h zero i u e =
      let same : x ≡ i = cc in
      let rest : xs ≡ u = cc in
      subst (λ y. Here (given f) n y u × Inner (given f) n u) same (subst (λ ys. Here (given f) n x ys × Inner (given f) n ys) rest h)
  inner_at f n (x ∷ xs) h (suc at) i u e = inner_at f n xs h.1 at i u e

  module _ (n m : ℕ) (flows : (f : ℕ) → Flow (given f) n (fn_of code f).code) (call : (i : Mid) → is_call i ≡ true → n + size (Some i) + 1 ≤ m) (enough : n + 10 ≤ m) where
    abbrev Waits : List Activation → Type 0
    Waits [] = ⊤
    Waits (a ∷ rest) = AreCalled code rest

    pub record Fine (s : List Activation) : Type 0 where
      pub soon : Soon code size m s
      pub waits : Waits s

    over_fine : Fine []
    over_fine = record { soon = let none = sizes.none in acts code size m [] (λ count. refl) (omega (arith, none, enough)); waits = tt }

    -- at the beginning of a function
    begins : (g : ℕ) (values frame : ℕ → ℕ) (rest : List Activation) → AreCalled code rest → Soon code size n (record { f = g; at = 0; values = values; frame = frame } ∷ rest)
    begins g values frame rest waits = (flows g).start.soon 0 values frame rest waits refl

    -- what stands at a place, and behind it
    placed : (a : Activation) (i : Mid) → instruction code a ≡ Some i → Here (given a.f) n i (drop (suc a.at) (fn_of code a.f).code) × Inner (given a.f) n (drop (suc a.at) (fn_of code a.f).code)
    placed a i is = inner_at a.f n (fn_of code a.f).code (flows a.f).inner a.at i (drop (suc a.at) (fn_of code a.f).code) (at_split (fn_of code a.f).code a.at i is)

    calls_wait : (a : Activation) (g : ℕ) (ins outs : List ℕ) → instruction code a ≡ Some (Call g ins outs) → IsCalled code a
    calls_wait a g ins outs is =
        let next : drop (a.at + 1) (fn_of code a.f).code ≡ drop (suc a.at) (fn_of code a.f).code = at_tail (fn_of code a.f).code a.at _ _ (at_split (fn_of code a.f).code a.at _ is) in
        record {
          g = g;
          ins = ins;
          outs = outs;
          call = is;
          tick = sym (left_first (fn_of code a.f).code (a.at + 1)) ∙ ap (λ u. slice_get u 0) next ∙ first_tick _ ((placed a _ is).0.ticks refl);
        }

    -- at a call
    at_call : (a : Activation) (rest : List Activation) (g : ℕ) (ins outs : List ℕ) → instruction code a ≡ Some (Call g ins outs) → AreCalled code rest → Soon code size m (a ∷ rest)
    at_call a rest g ins outs is waits =
        let own : size (instruction code a) ≡ size (Some (Call g ins outs)) = ap size is in
        let most = call (Call g ins outs) refl in
        goes code size n m (a ∷ rest) (entry code g (map a.values ins) ∷ a ∷ rest) (ap (λ o. perform o code (fn_of code a.f) a rest) is)
        (begins g _ _ (a ∷ rest) (calls_wait a g ins outs is, waits)) (omega (arith, own, most))

    -- behind an action
    acted : (a : Activation) (rest : List Activation) (i : Mid) (values frame : ℕ → ℕ) → instruction code a ≡ Some i → is_act i ≡ true → AreCalled code rest →
        Soon code size m (record { f = a.f; at = a.at + 1; values = values; frame = frame } ∷ rest)
    acted a rest i values frame is act waits = by (starts_call left) refl
      where
        left : List Mid
        left = drop (suc a.at) (fn_of code a.f).code

        next : drop (a.at + 1) (fn_of code a.f).code ≡ left
        next = at_tail (fn_of code a.f).code a.at i left (at_split (fn_of code a.f).code a.at i is)

        here_is : Here (given a.f) n i left
        here_is = (placed a i is).0

        by : (b : Bool) → starts_call left ≡ b → Soon code size m (record { f = a.f; at = a.at + 1; values = values; frame = frame } ∷ rest)
        by false e = more code size n m _ ((here_is.behind act e).soon (a.at + 1) values frame rest waits next) (omega (arith, enough))
        by true e =
            let c = first_call left e in
            at_call (record { f = a.f; at = a.at + 1; values = values; frame = frame }) rest c.0 c.1 c.2 (at_head (fn_of code a.f).code (a.at + 1) _ c.3 (next ∙ c.4)) waits

    -- ---- a step

    module _ (a : Activation) (rest : List Activation) (fine : Fine (a ∷ rest)) (answer : ℕ) where
      abbrev Then : Type 0
      Then = Fine (moved (step code (a ∷ rest)) answer)

      performs : (o : Option Mid) → instruction code a ≡ o → step code (a ∷ rest) ≡ perform o code (fn_of code a.f) a rest
      performs o is = ap (λ o. perform o code (fn_of code a.f) a rest) is

      goes_on : (t : List Activation) → step code (a ∷ rest) ≡ Goes t → Waits t → Then
      goes_on t e waits = subst (λ x. Fine (moved x answer)) (sym e) (record { soon = behind code size m (a ∷ rest) t e fine.soon; waits = waits })

      acts_on : (i : Mid) (values frame : ℕ → ℕ) → instruction code a ≡ Some i → is_act i ≡ true →
          moved (perform (Some i) code (fn_of code a.f) a rest) answer ≡ record { f = a.f; at = a.at + 1; values = values; frame = frame } ∷ rest → Then
      acts_on i values frame is act e =
          subst (λ x. Fine (moved x answer)) (sym (performs (Some i) is)) (subst Fine (sym e) (record { soon = acted a rest i values frame is act fine.waits; waits = fine.waits }))

      ends_on : (o : Option Mid) → instruction code a ≡ o → moved (perform o code (fn_of code a.f) a rest) answer ≡ [] → Then
      ends_on o is e = subst (λ x. Fine (moved x answer)) (sym (performs o is)) (subst Fine (sym e) over_fine)

      helps_on : (h : ℕ) (ins outs : List ℕ) → instruction code a ≡ Some (Help h ins outs) → (o : Option (List ℕ)) → helped code h (map a.values ins) ≡ o → Then
      helps_on h ins outs is None e = subst (λ x. Fine (moved x answer)) (sym (performs _ is ∙ ap (help_to a rest outs) e)) over_fine
      helps_on h ins outs is (Some xs) e = goes_on (write_all a outs xs ∷ rest) (performs _ is ∙ ap (help_to a rest outs) e) fine.waits

      branches : (x y l : ℕ) (b : Bool) → step code (a ∷ rest) ≡ Goes ((if b then at_place a (place_of (fn_of code a.f).code l) else onward a) ∷ rest) → Then
      branches x y l true e = goes_on _ e fine.waits
      branches x y l false e = goes_on _ e fine.waits

      returns_to : (under : List Activation) (vs : List ℕ) → rest ≡ under → AreCalled code under → instruction code a ≡ Some (Ret vs) → Then
      returns_to [] vs e waits is = subst (λ x. Fine (moved x answer)) (sym (performs _ is ∙ ap (λ r. perform (Some (Ret vs)) code (fn_of code a.f) a r) e)) over_fine
      returns_to (b ∷ under) vs e waits is =
          goes_on (take_back (instruction code b) b (map a.values vs) ∷ under) (performs _ is ∙ ap (λ r. perform (Some (Ret vs)) code (fn_of code a.f) a r) e) waits.1

      by_instruction : (i : Mid) → instruction code a ≡ Some i → Then
      by_instruction (Set v x) is = goes_on _ (performs _ is) fine.waits
      by_instruction (Move v x) is = goes_on _ (performs _ is) fine.waits
      by_instruction (Bin op v x y) is = goes_on _ (performs _ is) fine.waits
      by_instruction (Carry op v x y) is = goes_on _ (performs _ is) fine.waits
      by_instruction (Peek w v x) is = goes_on _ (performs _ is) fine.waits
      by_instruction (Poke w v x) is = goes_on _ (performs _ is) fine.waits
      by_instruction (Label l) is = goes_on _ (performs _ is) fine.waits
      by_instruction (Jump l) is = goes_on _ (performs _ is) fine.waits
      by_instruction (Branch test x y l) is = branches x y l (holds test (a.values x) (a.values y)) (performs _ is)
      by_instruction (Call g ins outs) is = goes_on _ (performs _ is) (calls_wait a g ins outs is, fine.waits)
      by_instruction (Help h ins outs) is = helps_on h ins outs is (helped code h (map a.values ins)) refl
      by_instruction (Ret vs) is = returns_to rest vs refl fine.waits is
      by_instruction (Load w v x) is = acts_on (Load w v x) _ _ is refl refl
      by_instruction (Store w v x) is = acts_on (Store w v x) _ _ is refl refl
      by_instruction (In v port) is = acts_on (In v port) _ _ is refl refl
      by_instruction (Out port v) is = acts_on (Out port v) _ _ is refl refl
      by_instruction (Begin o) is = acts_on (Begin o) _ _ is refl refl
      by_instruction (End o) is = acts_on (End o) _ _ is refl refl
      by_instruction (Post k v) is = acts_on (Post k v) _ _ is refl refl
      by_instruction Tick is = acts_on Tick _ _ is refl refl
      by_instruction (Fault c) is = ends_on (Some (Fault c)) is refl

      by_option : (o : Option Mid) → instruction code a ≡ o → Then
      by_option None is = ends_on None is refl
      by_option (Some i) is = by_instruction i is

    next_fine : (s : List Activation) (answer : ℕ) → Fine s → Fine (moved (step code s) answer)
    next_fine [] answer h = over_fine
    next_fine (a ∷ rest) answer h = by_option a rest h answer (instruction code a) refl

    pub reached : (root : ℕ) (answers : ℕ → ℕ) (k : ℕ) → Fine (state_at code root answers k)
    reached root answers zero = record { soon = more code size n m _ (begins root _ _ [] tt) (omega (arith, enough)); waits = tt }
    reached root answers (suc k) = next_fine (state_at code root answers k) (answers k) (reached root answers k)
