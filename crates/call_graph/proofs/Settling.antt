-- One body more gets a rank, and where none can get one, those without form a cycle.
use Rattle.std.proofs.Common.{◌≡◌, ℕ, zero, suc, ◌+◌, ◌-◌, ◌<◌, ◌≤◌, Bool, true, false, ◌⊎◌, inl, inr, List, [], ◌∷◌, length, replicate, Option, Some, None, refl, sym, subst, arith, ◌∙◌}
use Rattle.std.specs.Prelude.{◌&&◌, slice_set}
use Rattle.std.specs.List.{list_all}
use Rattle.std.proofs.lemmas.Bool.{false≢true}
use Rattle.std.proofs.lemmas.Option.{none-some, same_Some}
use Rattle.call_graph.specs.Paths.{IsIn}
use Rattle.call_graph.proofs.Lists.{nat_either}
use Rattle.call_graph.specs.Graph.{row_at}
use Rattle.call_graph.specs.Ranks.{rank_of, is_some, is_ranked, is_free, can_settle, count_ranked, AreSettled, AreStuck, AreRanks}

-- ---- one entry more

set_size : (xs : List (Option ℕ)) (f r : ℕ) → length (slice_set xs f (Some r)) ≡ length xs
set_size [] f r = refl
set_size (x ∷ xs) zero r = refl
set_size (x ∷ xs) (suc f) r = omega (arith, set_size xs f r)

set_count : (xs : List (Option ℕ)) (f r : ℕ) → is_free xs f ≡ true → count_ranked (slice_set xs f (Some r)) ≡ suc (count_ranked xs)
set_count [] f r free = absurd (false≢true free)
set_count (None ∷ xs) zero r free = omega arith
set_count (Some s ∷ xs) zero r free = absurd (false≢true free)
set_count (None ∷ xs) (suc f) r free = set_count xs f r free
set_count (Some s ∷ xs) (suc f) r free = omega (arith, set_count xs f r free)

count_small : (xs : List (Option ℕ)) → count_ranked xs ≤ length xs
count_small [] = omega arith
count_small (None ∷ xs) = omega (arith, count_small xs)
count_small (Some s ∷ xs) = omega (arith, count_small xs)

pub free_inside : (xs : List (Option ℕ)) (f : ℕ) → is_free xs f ≡ true → f < length xs
free_inside [] f free = absurd (false≢true free)
free_inside (x ∷ xs) zero free = omega arith
free_inside (x ∷ xs) (suc f) free = omega (arith, free_inside xs f free)

-- one that is free leaves room
pub count_less : (xs : List (Option ℕ)) (f : ℕ) → is_free xs f ≡ true → count_ranked xs < length xs
count_less [] f free = absurd (false≢true free)
count_less (None ∷ xs) zero free = omega (arith, count_small xs)
count_less (Some s ∷ xs) zero free = absurd (false≢true free)
count_less (None ∷ xs) (suc f) free = omega (arith, count_less xs f free)
count_less (Some s ∷ xs) (suc f) free = omega (arith, count_less xs f free)

set_here : (xs : List (Option ℕ)) (f r : ℕ) → is_free xs f ≡ true → rank_of (slice_set xs f (Some r)) f ≡ Some r
set_here [] f r free = absurd (false≢true free)
set_here (x ∷ xs) zero r free = refl
set_here (x ∷ xs) (suc f) r free = set_here xs f r free

-- what had a rank keeps it
set_kept : (xs : List (Option ℕ)) (f r g s : ℕ) → is_free xs f ≡ true → rank_of xs g ≡ Some s → rank_of (slice_set xs f (Some r)) g ≡ Some s
set_kept [] f r g s free is = is
set_kept (None ∷ xs) zero r zero s free is = absurd (none-some s is)
set_kept (Some t ∷ xs) zero r zero s free is = absurd (false≢true free)
set_kept (x ∷ xs) zero r (suc g) s free is = is
set_kept (x ∷ xs) (suc f) r zero s free is = is
set_kept (x ∷ xs) (suc f) r (suc g) s free is = set_kept xs f r g s free is

set_from : (xs : List (Option ℕ)) (f r g s : ℕ) → rank_of (slice_set xs f (Some r)) g ≡ Some s → (rank_of xs g ≡ Some s) ⊎ ((g ≡ f) × (s ≡ r))
set_from [] f r g s is = inl is
set_from (x ∷ xs) zero r zero s is = inr (refl, sym (same_Some r s is))
set_from (x ∷ xs) zero r (suc g) s is = inl is
set_from (x ∷ xs) (suc f) r zero s is = inl is
set_from (x ∷ xs) (suc f) r (suc g) s is = elim (set_from xs f r g s is) [ inl was ↦ inl was | inr now ↦ inr (omega (arith, now.0), now.1) ]

-- ---- all and not all

and_left : (a b : Bool) → (a && b) ≡ true → a ≡ true
and_left true b h = refl
and_left false b h = absurd (false≢true h)

and_right : (a b : Bool) → (a && b) ≡ true → b ≡ true
and_right true b h = h
and_right false b h = absurd (false≢true h)

all_is : (test : ℕ → Bool) (xs : List ℕ) (g : ℕ) → list_all test xs ≡ true → IsIn g xs → test g ≡ true
all_is test [] g all there = absurd there
all_is test (x ∷ xs) g all (inl e) = subst (λ y. test y ≡ true) (sym e) (and_left (test x) (list_all test xs) all)
all_is test (x ∷ xs) g all (inr there) = all_is test xs g (and_right (test x) (list_all test xs) all) there

not_all : (test : ℕ → Bool) (xs : List ℕ) → list_all test xs ≡ false → (g : ℕ) × IsIn g xs × (test g ≡ false)
not_all test [] none = absurd (false≢true (sym none))
not_all test (x ∷ xs) none = by_test (λ h. not_all test xs h) (test x) refl none
  where
    by_test : (list_all test xs ≡ false → (g : ℕ) × IsIn g xs × (test g ≡ false)) → (t : Bool) → test x ≡ t → (t && list_all test xs) ≡ false
        → (g : ℕ) × IsIn g (x ∷ xs) × (test g ≡ false)
    by_test rest false is h = (x, inl refl, is)
    by_test rest true is h = let more = rest h in (more.0, inr more.1, more.2)

some_rank : (o : Option ℕ) → is_some o ≡ true → (r : ℕ) × (o ≡ Some r)
some_rank None is = absurd (false≢true is)
some_rank (Some r) is = (r, refl)

no_rank : (o : Option ℕ) → is_some o ≡ false → o ≡ None
no_rank None is = refl
no_rank (Some r) is = absurd (false≢true (sym is))

-- ---- a body more

module _ (table : List (List ℕ)) (ranks : List (Option ℕ)) (count : ℕ) (s : AreSettled table ranks count) (f : ℕ) (can : can_settle table ranks f ≡ true) where
  free : is_free ranks f ≡ true
  free = and_left (is_free ranks f) (list_all (is_ranked ranks) (row_at table f)) can

  callee : (g : ℕ) → IsIn g (row_at table f) → (r : ℕ) × (rank_of ranks g ≡ Some r)
  callee g there = some_rank (rank_of ranks g) (all_is (is_ranked ranks) (row_at table f) g (and_right (is_free ranks f) (list_all (is_ranked ranks) (row_at table f)) can) there)

  pub settled_more : AreSettled table (slice_set ranks f (Some count)) (count + 1)
  settled_more = record {
    size = set_size ranks f count ∙ s.size;
    counted = omega (arith, set_count ranks f count free, s.counted);
    low = λ g r is. elim (set_from ranks f count g r is) [ inl was ↦ omega (arith, s.low g r was) | inr now ↦ omega (arith, now.1) ];
    falls = λ g h r is there. elim (set_from ranks f count g r is) [
      | inl was ↦ (let lower = s.falls g h r was there in (lower.0, set_kept ranks f count h lower.0 free lower.1, lower.2))
      | inr now ↦ (let lower = callee h (subst (λ k. IsIn h (row_at table k)) now.0 there) in (lower.0, set_kept ranks f count h lower.0 free lower.1, omega (arith, s.low h lower.0 lower.1, now.1)))
    ];
  }

  pub room : count < length table
  room = omega (arith, count_less ranks f free, s.counted, s.size)

  pub inside : f < length ranks
  inside = free_inside ranks f free

pub at_most_all : (table : List (List ℕ)) (ranks : List (Option ℕ)) (count : ℕ) → AreSettled table ranks count → count ≤ length table
at_most_all table ranks count s = omega (arith, count_small ranks, s.counted, s.size)

-- ---- none more

pub ranks_are : (table : List (List ℕ)) (ranks : List (Option ℕ)) (count : ℕ) → AreSettled table ranks count → AreStuck table ranks → AreRanks table ranks
ranks_are table ranks count s stuck = record {
  size = s.size;
  low = λ f r is. omega (arith, s.low f r is, at_most_all table ranks count s);
  falls = s.falls;
  stuck = λ f below none. unranked f (not_all (is_ranked ranks) (row_at table f) (second (is_free ranks f) _ (free_of ranks f (omega (arith, below, s.size)) none) (stuck f below)));
}
  where
    free_of : (xs : List (Option ℕ)) (f : ℕ) → f < length xs → rank_of xs f ≡ None → is_free xs f ≡ true
    free_of [] f below none = absurd (omega (arith, below))
    free_of (None ∷ xs) zero below none = refl
    free_of (Some r ∷ xs) zero below none = absurd (none-some r (sym none))
    free_of (x ∷ xs) (suc f) below none = free_of xs f (omega (arith, below)) none

    second : (a b : Bool) → a ≡ true → (a && b) ≡ false → b ≡ false
    second true b is h = h
    second false b is h = absurd (false≢true is)

    unranked : (f : ℕ) → (g : ℕ) × IsIn g (row_at table f) × (is_ranked ranks g ≡ false) → (g : ℕ) × IsIn g (row_at table f) × (rank_of ranks g ≡ None)
    unranked f found = (found.0, found.1, no_rank (rank_of ranks found.0) found.2)

none_at : (n f : ℕ) → rank_of (replicate n None) f ≡ None
none_at zero f = refl
none_at (suc n) zero = refl
none_at (suc n) (suc f) = none_at n f

none_counted : (n : ℕ) → count_ranked (replicate n None) ≡ 0
none_counted zero = refl
none_counted (suc n) = none_counted n

none_size : (n : ℕ) → length (replicate {A = Option ℕ} n None) ≡ n
none_size zero = refl
none_size (suc n) = omega (arith, none_size n)

pub begun : (table : List (List ℕ)) → AreSettled table (replicate (length table) None) 0
begun table = record {
  size = none_size (length table);
  counted = none_counted (length table);
  low = λ f r is. absurd (none-some r (sym (none_at (length table) f) ∙ is));
  falls = λ f g r is there. absurd (none-some r (sym (none_at (length table) f) ∙ is));
}

pub begun_as : (table : List (List ℕ)) (ranks : List (Option ℕ)) → ranks ≡ replicate (length table) None → AreSettled table ranks 0
begun_as table ranks is = subst (λ rs. AreSettled table rs 0) (sym is) (begun table)

-- a round that settles some body leaves fewer
pub shrinks : (n old new : ℕ) → old ≤ new → (new ≡ old → ⊥) → new ≤ n → n - new < n - old
shrinks n old new grown differ most = elim (nat_either new old) [ inl le ↦ absurd (differ (omega (arith, grown, le))) | inr lt ↦ omega (arith, lt, most) ]
