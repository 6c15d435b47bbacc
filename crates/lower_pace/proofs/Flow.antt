-- From which places of a function's code an action comes soon: its beginning, and behind each action.
use Rattle.std.proofs.Common.{◌≡◌, ℕ, zero, suc, ◌+◌, ◌*◌, ◌≤◌, Bool, true, false, List, [], ◌∷◌, ◌++◌, length, drop, Option, Some, None, refl, sym, ap, ◌∙◌, subst, add-one, append_assoc, arith}
use Rattle.std.specs.Prelude.{⊤, map, slice_get, ◌&&◌, if◌then◌else◌}
use Rattle.mid_code.specs.declared.instr.Mid.{Mid}
use Rattle.mid_code.specs.declared.instr.Mid.TheVariants.{Set, Move, Bin, Carry, Load, Store, Peek, Poke, In, Out, Label, Jump, Branch, Call, Help, Ret, Begin, End, Post, Tick}
use Rattle.mid_code.specs.declared.instr.Test.{Test}
use Rattle.mid_code.specs.declared.code.MidCode.{MidCode}
use Rattle.mid_code.specs.Help.{helped}
use Rattle.mid_code.specs.Words.{holds}
use Rattle.mid_code.specs.Machine.{Activation, Goes, at_place, fn_of, help_to, instruction, onward, perform, place_of, step, take_back, write_all}
use Rattle.mid_code.specs.Runs.{IsLabelled}
use Rattle.mid_code.proofs.Stands.{does, here}
use Rattle.lower_pace.specs.Silent.{if_silent}
use Rattle.lower_pace.proofs.Silent.{Soon, acts, goes, more}

-- ---- instructions

-- goes on behind itself, does an action, or stops
abbrev pub is_plain : Mid → Bool
is_plain (Jump l) = false
is_plain (Branch test x y l) = false
is_plain (Call g ins outs) = false
is_plain (Help h ins outs) = false
is_plain (Ret vs) = false
is_plain _ = true

abbrev pub is_act : Mid → Bool
is_act (Load w v x) = true
is_act (Store w v x) = true
is_act (In v port) = true
is_act (Out port v) = true
is_act (Begin o) = true
is_act (End o) = true
is_act (Post k v) = true
is_act Tick = true
is_act _ = false

abbrev pub is_call : Mid → Bool
is_call (Call g ins outs) = true
is_call _ = false

abbrev pub is_help : Mid → Bool
is_help (Help h ins outs) = true
is_help _ = false

abbrev pub starts_call : List Mid → Bool
starts_call [] = false
starts_call (i ∷ u) = is_call i

abbrev pub is_tick : Mid → Bool
is_tick Tick = true
is_tick _ = false

abbrev pub starts_tick : List Mid → Bool
starts_tick [] = false
starts_tick (i ∷ u) = is_tick i

-- what takes little
abbrev pub is_light : Mid → Bool
is_light (Set v n) = true
is_light (Bin op v x y) = true
is_light (Poke w v x) = true
is_light (Label l) = true
is_light (Jump l) = true
is_light (Branch test x y l) = true
is_light Tick = true
is_light _ = false

abbrev pub is_small : Mid → Bool
is_small (Call g ins outs) = false
is_small (Help h ins outs) = false
is_small _ = true

pub record HasSizes (size : Option Mid → ℕ) (help : ℕ) : Type 0 where
  pub light : (i : Mid) → is_light i ≡ true → size (Some i) ≤ 3
  pub small : (i : Mid) → is_small i ≡ true → size (Some i) ≤ 8
  pub helps : (i : Mid) → is_help i ≡ true → size (Some i) ≤ help
  pub none : size None ≤ 8

-- ---- lists

pub at_split : (xs : List Mid) (at : ℕ) (i : Mid) → slice_get xs at ≡ Some i → drop at xs ≡ i ∷ drop (suc at) xs
at_split [] at i e = absurd (cc)
at_split (x ∷ xs) zero i e = let same : x ≡ i = cc in ap (λ y. y ∷ xs) same
at_split (x ∷ xs) (suc at) i e = at_split xs at i e

pub at_head : (xs : List Mid) (at : ℕ) (i : Mid) (u : List Mid) → drop at xs ≡ i ∷ u → slice_get xs at ≡ Some i
at_head [] zero i u e = absurd (cc)
at_head [] (suc at) i u e = absurd (cc)
at_head (x ∷ xs) zero i u e = cc
at_head (x ∷ xs) (suc at) i u e = at_head xs at i u e

at_next : (xs : List Mid) (at : ℕ) (i : Mid) (u : List Mid) → drop at xs ≡ i ∷ u → drop (suc at) xs ≡ u
at_next [] zero i u e = absurd (cc)
at_next [] (suc at) i u e = absurd (cc)
at_next (x ∷ xs) zero i u e = cc
at_next (x ∷ xs) (suc at) i u e = at_next xs at i u e

pub at_tail : (xs : List Mid) (at : ℕ) (i : Mid) (u : List Mid) → drop at xs ≡ i ∷ u → drop (at + 1) xs ≡ u
at_tail xs at i u e = subst (λ k. drop k xs ≡ u) (sym (add-one at)) (at_next xs at i u e)

module _ (code : MidCode) where
  -- a call that waits, with a Tick behind it
  pub record IsCalled (a : Activation) : Type 0 where
    pub g : ℕ
    pub ins : List ℕ
    pub outs : List ℕ
    pub call : instruction code a ≡ Some (Call g ins outs)
    pub tick : slice_get (fn_of code a.f).code (a.at + 1) ≡ Some Tick

  abbrev pub AreCalled : List Activation → Type 0
  AreCalled [] = ⊤
  AreCalled (a ∷ rest) = IsCalled a × AreCalled rest

-- a function of code, and what its instructions take
pub record Setting : Type 0 where
  pub code : MidCode
  pub size : Option Mid → ℕ
  pub help : ℕ
  pub sizes : HasSizes size help
  pub f : ℕ
  pub labels : IsLabelled (fn_of code f).code

module _ (given : Setting) where
  abbrev code : MidCode
  code = given.code

  abbrev size : Option Mid → ℕ
  size = given.size

  abbrev help : ℕ
  help = given.help

  abbrev sizes : HasSizes size help
  sizes = given.sizes

  abbrev f : ℕ
  f = given.f

  abbrev labels : IsLabelled (fn_of code f).code
  labels = given.labels

  abbrev whole : List Mid
  whole = (fn_of code f).code

  abbrev pub SoonAt : ℕ → List Activation → ℕ → (values frame : ℕ → ℕ) → Type 0
  SoonAt n rest at values frame = Soon code size n (here code f rest at values frame)

  -- wherever this is the rest of the code
  pub record Good (n : ℕ) (u : List Mid) : Type 0 where
    pub soon : (at : ℕ) (values frame : ℕ → ℕ) (rest : List Activation) → AreCalled code rest → drop at whole ≡ u → SoonAt n rest at values frame

  pub record Here (n : ℕ) (i : Mid) (u : List Mid) : Type 0 where
    pub behind : is_act i ≡ true → starts_call u ≡ false → Good n u
    pub ticks : is_call i ≡ true → starts_tick u ≡ true

  abbrev pub Inner : ℕ → List Mid → Type 0
  Inner n [] = ⊤
  Inner n (i ∷ u) = Here n i u × Inner n u

  pub record Flow (n : ℕ) (u : List Mid) : Type 0 where
    pub start : Good n u
    pub inner : Inner n u

  -- the label's place, wherever this is the rest of the code
  pub record Leads (n l : ℕ) (u : List Mid) : Type 0 where
    pub soon : (at : ℕ) (values frame : ℕ → ℕ) (rest : List Activation) → AreCalled code rest → drop at whole ≡ u → SoonAt n rest (place_of whole l) values frame

  -- ---- larger numbers

  pub good_more : (n m : ℕ) (u : List Mid) → n ≤ m → Good n u → Good m u
  good_more n m u le h = record { soon = λ at values frame rest called e. more code size n m _ (h.soon at values frame rest called e) le }

  pub inner_more : (n m : ℕ) (u : List Mid) → n ≤ m → Inner n u → Inner m u
  inner_more n m [] le h = tt
  inner_more n m (i ∷ u) le h = (record { behind = λ a c. good_more n m u le (h.0.behind a c); ticks = h.0.ticks }, inner_more n m u le h.1)

  pub flow_more : (n m : ℕ) (u : List Mid) → n ≤ m → Flow n u → Flow m u
  flow_more n m u le h = record { start = good_more n m u le h.start; inner = inner_more n m u le h.inner }

  pub leads_more : (n m l : ℕ) (u : List Mid) → n ≤ m → Leads n l u → Leads m l u
  leads_more n m l u le h = record { soon = λ at values frame rest called e. more code size n m _ (h.soon at values frame rest called e) le }

  -- ---- labels

  pub leads_here : (n l : ℕ) (u : List Mid) → Flow n (Label l ∷ u) → Leads n l (Label l ∷ u)
  leads_here n l u h = record {
    soon = λ at values frame rest called e.
        subst (λ to. SoonAt n rest to values frame) (sym (labels.at at l (at_head whole at (Label l) u e))) (h.start.soon at values frame rest called e);
  }

  pub leads_past : (n l : ℕ) (i : Mid) (u : List Mid) → Leads n l u → Leads n l (i ∷ u)
  leads_past n l i u h = record { soon = λ at values frame rest called e. h.soon (at + 1) values frame rest called (at_tail whole at i u e) }

  pub leads_over : (n l : ℕ) (xs u : List Mid) → Leads n l u → Leads n l (xs ++ u)
  leads_over n l [] u h = h
  leads_over n l (i ∷ xs) u h = leads_past n l i (xs ++ u) (leads_over n l xs u h)

  -- ---- instructions

  module _ (at : ℕ) (values frame : ℕ → ℕ) (rest : List Activation) (n m : ℕ) where
    abbrev s : List Activation
    s = here code f rest at values frame

    -- it goes on, or does an action
    pub by_step : (i : Mid) (t : List Activation) → slice_get whole at ≡ Some i → step code s ≡ Goes t → Soon code size n t → n + size (Some i) + 1 ≤ m → Soon code size m s
    by_step i t is e h le = let own : size (slice_get whole at) ≡ size (Some i) = ap size is in goes code size n m s t e h (omega (arith, own, le))

    by_act : (i : Mid) → slice_get whole at ≡ Some i → ((count : List Activation → ℕ) → if_silent (step code s) count ≡ 0) → n + size (Some i) + 1 ≤ m → Soon code size m s
    by_act i is none le = let own : size (slice_get whole at) ≡ size (Some i) = ap size is in acts code size m s none (omega (arith, own, le))

    abbrev NextSoon : Type 0
    NextSoon = (values frame : ℕ → ℕ) → SoonAt n rest (at + 1) values frame

    plain_soon : (i : Mid) → is_plain i ≡ true → slice_get whole at ≡ Some i → (is_act i ≡ false → NextSoon) → n + size (Some i) + 1 ≤ m → Soon code size m s
    plain_soon (Set v x) ok is h le = by_step (Set v x) _ is (does code f rest at values frame _ is) (h refl _ _) le
    plain_soon (Move v x) ok is h le = by_step (Move v x) _ is (does code f rest at values frame _ is) (h refl _ _) le
    plain_soon (Bin op v x y) ok is h le = by_step (Bin op v x y) _ is (does code f rest at values frame _ is) (h refl _ _) le
    plain_soon (Carry op v x y) ok is h le = by_step (Carry op v x y) _ is (does code f rest at values frame _ is) (h refl _ _) le
    plain_soon (Peek w v x) ok is h le = by_step (Peek w v x) _ is (does code f rest at values frame _ is) (h refl _ _) le
    plain_soon (Poke w v x) ok is h le = by_step (Poke w v x) _ is (does code f rest at values frame _ is) (h refl _ _) le
    plain_soon (Label l) ok is h le = by_step (Label l) _ is (does code f rest at values frame _ is) (h refl _ _) le
    plain_soon (Jump l) ok is h le = absurd (cc)
    plain_soon (Branch test x y l) ok is h le = absurd (cc)
    plain_soon (Call g ins outs) ok is h le = absurd (cc)
    plain_soon (Help g ins outs) ok is h le = absurd (cc)
    plain_soon (Ret vs) ok is h le = absurd (cc)
    plain_soon i ok is h le = by_act i is (λ count. ap (λ x. if_silent x count) (does code f rest at values frame _ is)) le

    pub plain_act : (i : Mid) → is_plain i ≡ true → is_act i ≡ true → slice_get whole at ≡ Some i → n + size (Some i) + 1 ≤ m → Soon code size m s
    plain_act i ok act is le = plain_soon i ok is (λ e. absurd (cc)) le

    abbrev here_is : Activation
    here_is = record { f = f; at = at; values = values; frame = frame }

    help_soon : (h : ℕ) (ins outs : List ℕ) → slice_get whole at ≡ Some (Help h ins outs) → NextSoon → n + size (Some (Help h ins outs)) + 1 ≤ m → Soon code size m s
    help_soon h ins outs is next le = by (helped code h (map values ins)) refl
      where
        by : (o : Option (List ℕ)) → helped code h (map values ins) ≡ o → Soon code size m s
        by None e = by_act (Help h ins outs) is (λ count. ap (λ x. if_silent x count) (does code f rest at values frame _ is ∙ ap (help_to here_is rest outs) e)) le
        by (Some xs) e = by_step (Help h ins outs) _ is (does code f rest at values frame _ is ∙ ap (help_to here_is rest outs) e) (next _ _) le

    jump_soon : (l : ℕ) → slice_get whole at ≡ Some (Jump l) → SoonAt n rest (place_of whole l) values frame → n + size (Some (Jump l)) + 1 ≤ m → Soon code size m s
    jump_soon l is h le = by_step (Jump l) _ is (does code f rest at values frame _ is) h le

    pub branched : (t : Bool) (test : Test) (x y l : ℕ) → slice_get whole at ≡ Some (Branch test x y l) → holds test (values x) (values y) ≡ t →
        step code s ≡ Goes (here code f rest (if t then place_of whole l else at + 1) values frame)
    branched true test x y l is e = does code f rest at values frame _ is ∙ ap (λ (t : Bool). Goes ((if t then at_place here_is (place_of whole l) else onward here_is) ∷ rest)) e
    branched false test x y l is e = does code f rest at values frame _ is ∙ ap (λ (t : Bool). Goes ((if t then at_place here_is (place_of whole l) else onward here_is) ∷ rest)) e

    branch_soon : (test : Test) (x y l : ℕ) → slice_get whole at ≡ Some (Branch test x y l) → SoonAt n rest (place_of whole l) values frame → SoonAt n rest (at + 1) values frame → n + size (Some (Branch test x y l)) + 1 ≤ m → Soon code size m s
    branch_soon test x y l is there next le = by (holds test (values x) (values y)) refl
      where
        by : (t : Bool) → holds test (values x) (values y) ≡ t → Soon code size m s
        by true e = by_step (Branch test x y l) (here code f rest (place_of whole l) values frame) is (branched true test x y l is e) there le
        by false e = by_step (Branch test x y l) (here code f rest (at + 1) values frame) is (branched false test x y l is e) next le

  -- a call that goes on has a Tick behind it
  back_soon : (n : ℕ) (a : Activation) (rest : List Activation) (xs : List ℕ) → IsCalled code a → size (Some Tick) + 1 ≤ n → Soon code size n (take_back (instruction code a) a xs ∷ rest)
  back_soon n a rest xs c le =
      let g : ℕ = c.g in
      subst (λ o. Soon code size n (take_back o a xs ∷ rest)) (sym c.call)
      (let own : size (slice_get (fn_of code a.f).code (a.at + 1)) ≡ size (Some Tick) = ap size c.tick in
      acts code size n (write_all a c.outs xs ∷ rest) (λ count. ap (λ x. if_silent x count) (does code a.f rest (a.at + 1) _ _ Tick c.tick)) (omega (arith, own, le)))

  ret_soon : (at : ℕ) (values frame : ℕ → ℕ) (rest : List Activation) (m : ℕ) (vs : List ℕ) → AreCalled code rest → slice_get whole at ≡ Some (Ret vs) → 20 ≤ m → SoonAt m rest at values frame
  ret_soon at values frame [] m vs called is le =
      let small = sizes.small (Ret vs) refl in
      by_act at values frame [] 0 m (Ret vs) is (λ count. ap (λ x. if_silent x count) (does code f [] at values frame _ is)) (omega (arith, small, le))
  ret_soon at values frame (a ∷ rest) m vs called is le =
      let small = sizes.small (Ret vs) refl in
      let tick = sizes.light Tick refl in
      by_step at values frame (a ∷ rest) 5 m (Ret vs) _ is (does code f (a ∷ rest) at values frame _ is) (back_soon 5 a rest (map values vs) called.0 (omega (arith, tick))) (omega (arith, small, le))

  -- ---- code

  pub plain : (n m : ℕ) (i : Mid) (u : List Mid) → is_plain i ≡ true → Flow n u → n + size (Some i) + 1 ≤ m → Flow m (i ∷ u)
  plain n m i u ok h le = record {
    start = record {
      soon = λ at values frame rest called e.
          plain_soon at values frame rest n m i ok (at_head whole at i u e) (λ _ values1 frame1. h.start.soon (at + 1) values1 frame1 rest called (at_tail whole at i u e)) le;
    };
    inner = (record { behind = λ a c. good_more n m u (omega (arith, le)) h.start; ticks = λ c. absurd (no_call i ok c) }, inner_more n m u (omega (arith, le)) h.inner);
  }
    where
      no_call : (i : Mid) → is_plain i ≡ true → is_call i ≡ true → ⊥
      no_call (Call g ins outs) ok c = absurd (cc)
      no_call i ok c = absurd (cc)

  pub helps : (n m h : ℕ) (ins outs : List ℕ) (u : List Mid) → Flow n u → n + help + 1 ≤ m → Flow m (Help h ins outs ∷ u)
  helps n m h ins outs u fl le = record {
    start = record {
      soon = λ at values frame rest called e.
          help_soon at values frame rest n m h ins outs (at_head whole at _ u e) (λ values1 frame1. fl.start.soon (at + 1) values1 frame1 rest called (at_tail whole at _ u e))
          (let most = sizes.helps (Help h ins outs) refl in omega (arith, most, le));
    };
    inner = (record { behind = λ a c. absurd (cc); ticks = λ c. absurd (cc) }, inner_more n m u (omega (arith, le)) fl.inner);
  }

  pub returns : (n m : ℕ) (vs : List ℕ) (u : List Mid) → Flow n u → n + 20 ≤ m → Flow m (Ret vs ∷ u)
  returns n m vs u h le = record {
    start = record { soon = λ at values frame rest called e. ret_soon at values frame rest m vs called (at_head whole at _ u e) (omega (arith, le)) };
    inner = (record { behind = λ a c. absurd (cc); ticks = λ c. absurd (cc) }, inner_more n m u (omega (arith, le)) h.inner);
  }

  pub jump : (n m l : ℕ) (u : List Mid) → Leads n l u → Flow n u → n + 4 ≤ m → Flow m (Jump l ∷ u)
  jump n m l u to h le = record {
    start = record {
      soon = λ at values frame rest called e.
          jump_soon at values frame rest n m l (at_head whole at _ u e) (to.soon (at + 1) values frame rest called (at_tail whole at _ u e))
          (let light = sizes.light (Jump l) refl in omega (arith, light, le));
    };
    inner = (record { behind = λ a c. absurd (cc); ticks = λ c. absurd (cc) }, inner_more n m u (omega (arith, le)) h.inner);
  }

  pub branch : (n m : ℕ) (test : Test) (x y l : ℕ) (u : List Mid) → Leads n l u → Flow n u → n + 4 ≤ m → Flow m (Branch test x y l ∷ u)
  branch n m test x y l u to h le = record {
    start = record {
      soon = λ at values frame rest called e.
          branch_soon at values frame rest n m test x y l (at_head whole at _ u e) (to.soon (at + 1) values frame rest called (at_tail whole at _ u e))
          (h.start.soon (at + 1) values frame rest called (at_tail whole at _ u e))
          (let light = sizes.light (Branch test x y l) refl in omega (arith, light, le));
    };
    inner = (record { behind = λ a c. absurd (cc); ticks = λ c. absurd (cc) }, inner_more n m u (omega (arith, le)) h.inner);
  }

  pub label : (n m l : ℕ) (u : List Mid) → Flow n u → n + 4 ≤ m → Flow m (Label l ∷ u)
  label n m l u h le = plain n m (Label l) u refl h (let light = sizes.light (Label l) refl in omega (arith, light, le))

  -- a call stands between two Ticks
  pub called : (n m g : ℕ) (ins outs : List ℕ) (u : List Mid) → Flow n u → n + 20 ≤ m → Flow m (Tick ∷ Call g ins outs ∷ Tick ∷ u)
  called n m g ins outs u h le =
      let light = sizes.light Tick refl in
      let last : Flow m (Tick ∷ u) = plain n m Tick u refl h (omega (arith, light, le)) in
      record {
        start = record {
          soon = λ at values frame rest waits e.
              plain_soon at values frame rest n m Tick refl (at_head whole at _ _ e) (λ no. absurd (cc)) (omega (arith, light, le));
        };
        inner = (
          record { behind = λ a c. absurd (cc); ticks = λ c. absurd (cc) },
          (record { behind = λ a c. absurd (cc); ticks = λ c. refl }, last.inner),
        );
      }

  pub nothing : (n : ℕ) → 10 ≤ n → Flow n []
  nothing n le = record { start = record { soon = λ at values frame rest called e. ends at values frame rest e }; inner = tt }
    where
      past : (xs : List Mid) (at : ℕ) → drop at xs ≡ [] → slice_get xs at ≡ None
      past [] zero e = refl
      past [] (suc at) e = refl
      past (x ∷ xs) zero e = absurd (cc)
      past (x ∷ xs) (suc at) e = past xs at e

      ends : (at : ℕ) (values frame : ℕ → ℕ) (rest : List Activation) → drop at whole ≡ [] → SoonAt n rest at values frame
      ends at values frame rest e =
          let is : slice_get whole at ≡ None = past whole at e in
          let own : size (slice_get whole at) ≡ size None = ap size is in
          let none = sizes.none in
          acts code size n (here code f rest at values frame) (λ count. ap (λ o. if_silent (perform o code (fn_of code f) (record { f = f; at = at; values = values; frame = frame }) rest) count) is) (omega (arith, own, none, le))

  -- ---- lists of code

  pub regroup : (n : ℕ) (xs ys u : List Mid) → Flow n (xs ++ (ys ++ u)) → Flow n ((xs ++ ys) ++ u)
  regroup n xs ys u h = subst (Flow n) (sym (append_assoc xs ys u)) h

  pub if_flows : (t : Bool) (n : ℕ) (a b u : List Mid) → Flow n (a ++ u) → Flow n (b ++ u) → Flow n ((if t then a else b) ++ u)
  if_flows true n a b u h g = h
  if_flows false n a b u h g = g

-- plain code of at most so many instructions
abbrev all_plain : List Mid → Bool
all_plain [] = true
all_plain (i ∷ is) = is_plain i && all_plain is

pub record Plain (k : ℕ) (c : List Mid) : Type 0 where
  pub all : all_plain c ≡ true
  pub short : length c ≤ k

both_true : (a b : Bool) → a && b ≡ true → (a ≡ true) × (b ≡ true)
both_true true b e = (refl, e)
both_true false b e = absurd (cc)

plain_append : (a b : List Mid) → all_plain a ≡ true → all_plain b ≡ true → all_plain (a ++ b) ≡ true
plain_append [] b h g = g
plain_append (i ∷ a) b h g = let both = both_true (is_plain i) (all_plain a) h in ap (λ t. t && all_plain (a ++ b)) both.0 ∙ plain_append a b both.1 g

pub if_plain : (t : Bool) (k : ℕ) (a b : List Mid) → Plain k a → Plain k b → Plain k (if t then a else b)
if_plain true k a b h g = h
if_plain false k a b h g = g

module _ (given : Setting) where
  small_of : (i : Mid) → is_plain i ≡ true → given.size (Some i) ≤ 8
  small_of i ok = given.sizes.small i (small i ok)
    where
      small : (i : Mid) → is_plain i ≡ true → is_small i ≡ true
      small (Call g ins outs) ok = absurd (cc)
      small (Help g ins outs) ok = absurd (cc)
      small i ok = refl

  go : (n m : ℕ) (c u : List Mid) → all_plain c ≡ true → Flow given n u → n + 9 * length c ≤ m → Flow given m (c ++ u)
  go n m [] u ok h le = flow_more given n m u (omega (arith, le)) h
  go n m (i ∷ c) u ok h le =
      let both = both_true (is_plain i) (all_plain c) ok in
      let small = small_of i both.0 in
      plain given (n + 9 * length c) m i (c ++ u) both.0 (go n (n + 9 * length c) c u both.1 h (omega arith)) (omega (arith, small, le))

  pub plains : (n m k : ℕ) (c u : List Mid) → Plain k c → Flow given n u → n + 9 * k ≤ m → Flow given m (c ++ u)
  plains n m k c u ok h le = go n m c u ok.all h (let short = ok.short in omega (arith, short, le))
