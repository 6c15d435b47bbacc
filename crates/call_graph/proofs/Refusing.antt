-- A program without a rank for each body has a cycle, and the least of the chains that are found is the least cycle.
use Rattle.std.proofs.Common.{◌≡◌, ℕ, zero, suc, ◌<◌, ◌≤◌, ◌==◌, Bool, true, false, if◌then◌else◌, ◌⊎◌, inl, inr, List, [], ◌∷◌, ◌++◌, length, get_or, All, Option, Some, None, refl, sym, subst, ap, arith, ◌∙◌, eqb-true, append_assoc}
use Rattle.std.specs.Prelude.{slice_get, option_map}
use Rattle.std.specs.List.{list_all, flat_map}
use Rattle.std.proofs.lemmas.Bool.{false≢true}
use Rattle.std.proofs.lemmas.Bool.Decides.{nat_tests}
use Rattle.std.proofs.lemmas.Option.{none-some, slice_get_within}
use Rattle.nesc_core.specs.Plain.{Body, Program}
use Rattle.nesc_core.specs.Calls.{stmt_calls, HasNoCycle}
use Rattle.call_graph.specs.Uses.{Use, Access, Calls, uses, uses_of}
use Rattle.call_graph.specs.Paths.{IsIn, callee, callees, Leads, IsPath, IsNoWorse, IsLeast}
use Rattle.call_graph.specs.Least.{least_path, IsOne}
use Rattle.call_graph.specs.Graph.{IsCounted, row_at}
use Rattle.call_graph.specs.Ranks.{rank_of, is_some, AreRanks}
use Rattle.call_graph.specs.Shortest.{best_of, chain_from}
use Rattle.call_graph.specs.Refusals.{call_place, last_place, IsCycleBy, IsCycle, IsCycleOf}
use Rattle.call_graph.proofs.Lists.{nat_either}
use Rattle.call_graph.proofs.Chains.{path_is_least, no_path}
use Rattle.call_graph.proofs.SameCalls.{stmt_same}
use Rattle.call_graph.proofs.Cycles.{Cycle, a_cycle}
use Rattle.call_graph.proofs.Best.{IsChainFrom, IsAnswer, answer}

-- ---- all have a rank

in_get : (xs : List ℕ) (i d : ℕ) → i < length xs → IsIn (get_or xs i d) xs
in_get [] i d lt = absurd (omega (arith, lt))
in_get (x ∷ xs) zero d lt = inl refl
in_get (x ∷ xs) (suc i) d lt = inr (in_get xs i d (omega (arith, lt)))

all_of : (P : ℕ → Type 0) (xs : List ℕ) → ((x : ℕ) → IsIn x xs → P x) → All P xs
all_of P xs each = λ i d lt. each (get_or xs i d) (in_get xs i d lt)

all_some_at : (ranks : List (Option ℕ)) (f : ℕ) → list_all is_some ranks ≡ true → f < length ranks → (r : ℕ) × (rank_of ranks f ≡ Some r)
all_some_at [] f all lt = absurd (omega (arith, lt))
all_some_at (None ∷ ranks) f all lt = absurd (false≢true all)
all_some_at (Some r ∷ ranks) zero all lt = (r, refl)
all_some_at (Some r ∷ ranks) (suc f) all lt = all_some_at ranks f all (omega (arith, lt))

some_none_at : (ranks : List (Option ℕ)) → list_all is_some ranks ≡ false → (f : ℕ) × (f < length ranks) × (rank_of ranks f ≡ None)
some_none_at [] none = absurd (false≢true (sym none))
some_none_at (None ∷ ranks) none = (0, omega arith, refl)
some_none_at (Some r ∷ ranks) none = let more = some_none_at ranks none in (suc more.0, omega (arith, more.1), more.2)

abbrev or_zero : Option ℕ → ℕ
or_zero None = 0
or_zero (Some r) = r

module _ (p : Program) (table : List (List ℕ)) (is_table : row_at table ≡ callees p) (size : length table ≡ length p.bodies) (ranks : List (Option ℕ)) (are : AreRanks table ranks) where
  pub no_cycle : list_all is_some ranks ≡ true → HasNoCycle p
  no_cycle all = record {
    rank = λ f. or_zero (rank_of ranks f);
    low = λ f b is. let r = at f b is in subst (λ o. or_zero o < length p.bodies) (sym r.1) (omega (arith, are.low f r.0 r.1, size));
    falls = λ f b is. all_of (λ g. or_zero (rank_of ranks g) < or_zero (rank_of ranks f)) (stmt_calls b.code) (λ g there. lower f b is g there);
  }
    where
      at : (f : ℕ) (b : Body) → slice_get p.bodies f ≡ Some b → (r : ℕ) × (rank_of ranks f ≡ Some r)
      at f b is = all_some_at ranks f all (omega (arith, slice_get_within p.bodies f b is, size, are.size))

      called : (f : ℕ) (b : Body) → slice_get p.bodies f ≡ Some b → (g : ℕ) → IsIn g (stmt_calls b.code) → IsIn g (row_at table f)
      called f b is g there =
          subst (λ steps. IsIn g (steps f)) (sym is_table)
          (subst (λ o. IsIn g (flat_map callee (uses_of o))) (sym is) (subst (IsIn g) (stmt_same b.code 0 false).by there))

      lower : (f : ℕ) (b : Body) → slice_get p.bodies f ≡ Some b → (g : ℕ) → IsIn g (stmt_calls b.code) → or_zero (rank_of ranks g) < or_zero (rank_of ranks f)
      lower f b is g there =
          let r = at f b is in
          let s = are.falls f g r.0 r.1 (called f b is g there) in
          subst (λ o. or_zero (rank_of ranks g) < or_zero o) (sym r.1) (subst (λ o. or_zero o < r.0) (sym s.1) s.2)

-- ---- the least cycle

module _ (table : List (List ℕ)) where
  abbrev pub AnyCycle : List ℕ → Type 0
  AnyCycle = IsCycleBy (row_at table)

  -- of at most as many calls as there are bodies
  abbrev ShortCycle : List ℕ → Type 0
  ShortCycle path = AnyCycle path × (length path ≤ suc (length table))

  one_of : (f : ℕ) (rest : List ℕ) → IsPath (row_at table f) (row_at table) rest f → IsOne (row_at table) (λ g. g == f) (row_at table f) rest
  one_of f rest is = (f, is, grind (arith, nat_tests))

  of_one : (f : ℕ) (rest : List ℕ) → IsOne (row_at table) (λ g. g == f) (row_at table f) rest → IsPath (row_at table f) (row_at table) rest f
  of_one f rest one = subst (IsPath (row_at table f) (row_at table) rest) (eqb-true one.0 f one.2) one.1

  pub cons_no_worse : (f : ℕ) (xs ys : List ℕ) → IsNoWorse xs ys → IsNoWorse (f ∷ xs) (f ∷ ys)
  cons_no_worse f xs ys (inl less) = inl (omega (arith, less))
  cons_no_worse f xs ys (inr same) = inr (omega (arith, same.0), inr (refl, same.1))

  no_longer : (xs ys : List ℕ) (n : ℕ) → IsNoWorse xs ys → length ys ≤ n → length xs ≤ n
  no_longer xs ys n (inl less) le = omega (arith, less, le)
  no_longer xs ys n (inr same) le = omega (arith, same.0, le)

  -- the chain from each body
  none_short : (f : ℕ) (rest : List ℕ) → least_path (row_at table) (λ g. g == f) (row_at table f) (length table) ≡ None → ShortCycle (f ∷ rest) → ⊥
  none_short f [] is cycle = cycle.0
  none_short f (g ∷ rest) is cycle = no_path (row_at table) (λ h. h == f) (row_at table f) (length table) is g rest (omega (arith, cycle.1)) (one_of f (g ∷ rest) cycle.0)

  from_each : (f : ℕ) (o : Option (List ℕ)) → least_path (row_at table) (λ g. g == f) (row_at table f) (length table) ≡ o
      → IsChainFrom AnyCycle ShortCycle f (option_map (λ rest. f ∷ rest) o)
  from_each f None is = λ rest cycle. none_short f rest is cycle
  from_each f (Some rest) is =
      let least = path_is_least (row_at table) (λ g. g == f) (row_at table f) (length table) rest is in
      record {
        rest = rest;
        is = refl;
        one = of_one f rest least.is_one;
        least = λ other cycle. cons_no_worse f rest other (least.least other (one_of f other cycle.0));
      }

  begins_inside : (xs : List (List ℕ)) (f : ℕ) (rest : List ℕ) (g : ℕ) → IsPath (row_at xs f) (row_at table) rest g → f < length xs
  begins_inside xs f [] g is = absurd is
  begins_inside [] f (h ∷ rest) g is = absurd is.0
  begins_inside (x ∷ xs) zero (h ∷ rest) g is = omega arith
  begins_inside (x ∷ xs) (suc f) (h ∷ rest) g is = omega (arith, begins_inside xs f (h ∷ rest) g is)

  found : IsAnswer AnyCycle ShortCycle (λ f. chain_from table (λ g. g == f) f) (λ f. from_each f (least_path (row_at table) (λ g. g == f) (row_at table f) (length table)) refl) (best_of (λ f. chain_from table (λ g. g == f) f) (length table))
  found = answer AnyCycle ShortCycle (λ f. chain_from table (λ g. g == f) f) (λ f. from_each f _ refl) (length table) (λ none. none.0) (λ f rest cycle. begins_inside table f rest f cycle.0)

  short_is : (c : Cycle table) → ShortCycle (c.from ∷ c.next ∷ c.rest)
  short_is c = (c.is, omega (arith, c.short))

  -- where there is a cycle, the least of the short ones is the least
  pub cycle_found : Cycle table → (o : Option (List ℕ)) → o ≡ best_of (λ f. chain_from table (λ g. g == f) f) (length table) → (path : List ℕ) × (o ≡ Some path) × IsLeast AnyCycle path
  cycle_found c None is = absurd (none_left (sym is) found (c.from ∷ c.next ∷ c.rest) (short_is c))
    where
      none_left : best_of (λ f. chain_from table (λ g. g == f) f) (length table) ≡ None
          → IsAnswer AnyCycle ShortCycle (λ f. chain_from table (λ g. g == f) f) (λ f. from_each f (least_path (row_at table) (λ g. g == f) (row_at table f) (length table)) refl) (best_of (λ f. chain_from table (λ g. g == f) f) (length table))
          → (path : List ℕ) → ShortCycle path → ⊥
      none_left e answer = subst (IsAnswer AnyCycle ShortCycle (λ f. chain_from table (λ g. g == f) f) (λ f. from_each f (least_path (row_at table) (λ g. g == f) (row_at table f) (length table)) refl)) e answer
  cycle_found c (Some path) is = (path, refl, least)
    where
      best : AnyCycle path × ((other : List ℕ) → ShortCycle other → IsNoWorse path other)
      best = subst (IsAnswer AnyCycle ShortCycle (λ f. chain_from table (λ g. g == f) f) (λ f. from_each f (least_path (row_at table) (λ g. g == f) (row_at table f) (length table)) refl)) (sym is) found

      short : length path ≤ suc (length table)
      short = no_longer path (c.from ∷ c.next ∷ c.rest) (suc (length table)) (best.1 (c.from ∷ c.next ∷ c.rest) (short_is c)) (short_is c).1

      compared : (other : List ℕ) → AnyCycle other → (length other ≤ suc (length table)) ⊎ (suc (length table) < length other) → IsNoWorse path other
      compared other cycle (inl le) = best.1 other (cycle, le)
      compared other cycle (inr lt) = inl (omega (arith, short, lt))

      least : IsLeast AnyCycle path
      least = record { is_one = best.0; least = λ other cycle. compared other cycle (nat_either (length other) (suc (length table))) }

-- ---- the place of the last call

place_of_call : (us : List Use) (g : ℕ) → IsIn g (flat_map callee us) → call_place us g ≡ None → ⊥
place_of_call [] g there none = there
place_of_call (Access n i place pos ∷ us) g there none = place_of_call us g there none
place_of_call (Calls n i h pos ∷ us) g there none = by_test (λ more. place_of_call us g more) (h == g) refl there none
  where
    by_test : (IsIn g (flat_map callee us) → call_place us g ≡ None → ⊥) → (t : Bool) → (h == g) ≡ t → (g ≡ h) ⊎ IsIn g (flat_map callee us)
        → (if t then Some pos else call_place us g) ≡ None → ⊥
    by_test rest true is there none = none-some pos (sym none)
    by_test rest false is (inl e) none = false≢true (sym is ∙ grind (arith, nat_tests))
    by_test rest false is (inr there) none = rest there none

pub place_exists : (p : Program) (f g last : ℕ) (rest : List ℕ) → IsIn g (callees p f) → Leads (callees p) g rest last → last_place p (f ∷ g ∷ rest) ≡ None → ⊥
place_exists p f g last [] there leads none = place_of_call (uses p f) g there none
place_exists p f g last (h ∷ rest) there leads none = place_exists p g h last rest leads.0 leads.1 none

pub last_two : (p : Program) (xs : List ℕ) (f g : ℕ) → last_place p (xs ++ f ∷ g ∷ []) ≡ call_place (uses p f) g
last_two p [] f g = refl
last_two p (x ∷ []) f g = refl
last_two p (x ∷ y ∷ []) f g = last_two p (y ∷ []) f g
last_two p (x ∷ y ∷ z ∷ xs) f g = last_two p (y ∷ z ∷ xs) f g

-- ---- the steps of the code

pub all_ranked : (table : List (List ℕ)) (ranks seen : List (Option ℕ)) → AreRanks table ranks → seen ≡ ranks → (t : Bool) → t ≡ list_all is_some seen → t ≡ true → IsCycleOf table None
all_ranked table ranks seen are seen_is t t_is all = (ranks, are, ap (λ rs. list_all is_some rs) (sym seen_is) ∙ sym t_is ∙ all)

pub the_cycle : (table : List (List ℕ)) → ((f g : ℕ) → IsIn g (row_at table f) → g < length table) → (ranks seen : List (Option ℕ)) → AreRanks table ranks → seen ≡ ranks
    → (t : Bool) → t ≡ list_all is_some seen → t ≡ false
    → (o : Option (List ℕ)) → o ≡ best_of (λ f. chain_from table (λ g. g == f) f) (length table) → IsCycleOf table o
the_cycle table named ranks seen are seen_is t t_is some_not o o_is =
    let none : list_all is_some ranks ≡ false = ap (λ rs. list_all is_some rs) (sym seen_is) ∙ sym t_is ∙ some_not in
    let f = some_none_at ranks none in
    let found = cycle_found table (a_cycle table ranks are named f.0 (omega (arith, f.1, are.size)) f.2) o o_is in
    subst (λ x. IsCycleOf table x) (sym found.1) found.2

pub ranks_give : (p : Program) (table : List (List ℕ)) → row_at table ≡ callees p → length table ≡ length p.bodies → (o : Option (List ℕ)) → IsCycleOf table o → o ≡ None → HasNoCycle p
ranks_give p table is_table size o is none = given (subst (λ x. IsCycleOf table x) none is)
  where
    given : IsCycleOf table None → HasNoCycle p
    given has = no_cycle p table is_table size has.0 has.1 has.2

pub cycle_is : (p : Program) (table : List (List ℕ)) → row_at table ≡ callees p → (o : Option (List ℕ)) (path : List ℕ) → IsCycleOf table o → o ≡ Some path → IsLeast (IsCycle p) path
cycle_is p table is_table o path is some = subst (λ steps. IsLeast (IsCycleBy steps) path) is_table (subst (λ x. IsCycleOf table x) some is)

-- a cycle has a last call
pub cycle_place : (p : Program) (path : List ℕ) → IsCycle p path → last_place p path ≡ None → ⊥
cycle_place p [] cycle none = cycle
cycle_place p (f ∷ []) cycle none = cycle
cycle_place p (f ∷ g ∷ rest) cycle none = place_exists p f g f rest cycle.0 cycle.1 none

pub named_in : (p : Program) (table : List (List ℕ)) → row_at table ≡ callees p → length table ≡ length p.bodies → IsCounted p
    → (f g : ℕ) → IsIn g (row_at table f) → g < length table
named_in p table is_table size counted f g there = omega (arith, counted.named f g (subst (λ steps. IsIn g (steps f)) is_table there), size)

pub last_is : (p : Program) (path front pre : List ℕ) (from to : ℕ) → path ≡ front ++ to ∷ [] → front ≡ pre ++ from ∷ [] → call_place (uses p from) to ≡ last_place p path
last_is p path front pre from to path_is front_is =
    sym (ap (last_place p) (path_is ∙ ap (λ xs. xs ++ to ∷ []) front_is ∙ append_assoc pre (from ∷ []) (to ∷ [])) ∙ last_two p pre from to)

pub last_none : (p : Program) (path : List ℕ) → length path ≡ 0 → None ≡ last_place p path
last_none p [] none = refl
last_none p (f ∷ path) none = absurd (omega (arith, none))

pub last_of_one : (p : Program) (path front : List ℕ) (to : ℕ) → path ≡ front ++ to ∷ [] → length front ≡ 0 → None ≡ last_place p path
last_of_one p path [] to is none = sym (ap (last_place p) is)
last_of_one p path (f ∷ front) to is none = absurd (omega (arith, none))
