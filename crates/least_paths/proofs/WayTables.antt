-- The table of ways, and one more in it.
use Rattle.std.proofs.Common.{◌≡◌, ℕ, zero, suc, ◌+◌, ◌<◌, ◌≤◌, Bool, true, false, ◌⊎◌, inl, inr, List, [], ◌∷◌, length, replicate, Option, Some, None, refl, sym, subst, ap, arith, ◌∙◌}
use Rattle.std.specs.Prelude.{slice_index_or, slice_set}
use Rattle.std.proofs.lemmas.Bool.{false≢true}
use Rattle.std.proofs.lemmas.Option.{none-some}
use Rattle.least_paths.specs.declared.ways.Way.{Way}
use Rattle.least_paths.specs.Visits.{way_at, is_some, is_none, is_found, is_new}

pub set_length : (m : List (Option Way)) (g : ℕ) (w : Way) → length (slice_set m g (Some w)) ≡ length m
set_length [] g w = refl
set_length (b ∷ m) zero w = refl
set_length (b ∷ m) (suc g) w = omega (arith, set_length m g w)

none_is : (o : Option Way) → is_none o ≡ true → o ≡ None
none_is None e = refl
none_is (Some w) e = absurd (false≢true e)

some_is : (o : Option Way) → is_none o ≡ false → is_some o ≡ true
some_is None e = absurd (false≢true (sym e))
some_is (Some w) e = refl

pub new_inside : (m : List (Option Way)) (g : ℕ) → is_new m g ≡ true → g < length m
new_inside [] g new = absurd (false≢true new)
new_inside (b ∷ m) zero new = omega arith
new_inside (b ∷ m) (suc g) new = omega (arith, new_inside m g new)

pub new_none : (m : List (Option Way)) (g : ℕ) → is_new m g ≡ true → way_at m g ≡ None
new_none [] g new = refl
new_none (b ∷ m) zero new = none_is b new
new_none (b ∷ m) (suc g) new = new_none m g new

pub old_found : (m : List (Option Way)) (g : ℕ) → is_new m g ≡ false → g < length m → is_found m g ≡ true
old_found [] g old inside = absurd (omega (arith, inside))
old_found (b ∷ m) zero old inside = some_is b old
old_found (b ∷ m) (suc g) old inside = old_found m g old (omega (arith, inside))

pub not_both : (m : List (Option Way)) (g : ℕ) → is_new m g ≡ true → is_found m g ≡ true → ⊥
not_both m g new found = false≢true (sym (ap is_some (new_none m g new)) ∙ found)

pub here : (m : List (Option Way)) (g : ℕ) (w : Way) → is_new m g ≡ true → way_at (slice_set m g (Some w)) g ≡ Some w
here [] g w new = absurd (false≢true new)
here (b ∷ m) zero w new = refl
here (b ∷ m) (suc g) w new = here m g w new

-- what had a way keeps it
pub kept : (m : List (Option Way)) (g h : ℕ) (w v : Way) → is_new m g ≡ true → way_at m h ≡ Some v → way_at (slice_set m g (Some w)) h ≡ Some v
kept [] g h w v new is = is
kept (b ∷ m) zero zero w v new is = absurd (none-some v (sym (none_is b new) ∙ is))
kept (b ∷ m) zero (suc h) w v new is = is
kept (b ∷ m) (suc g) zero w v new is = is
kept (b ∷ m) (suc g) (suc h) w v new is = kept m g h w v new is

pub found_kept : (m : List (Option Way)) (g h : ℕ) (w : Way) → is_found m h ≡ true → is_found (slice_set m g (Some w)) h ≡ true
found_kept [] g h w is = is
found_kept (b ∷ m) zero zero w is = refl
found_kept (b ∷ m) zero (suc h) w is = is
found_kept (b ∷ m) (suc g) zero w is = is
found_kept (b ∷ m) (suc g) (suc h) w is = found_kept m g h w is

pub found_before : (m : List (Option Way)) (g h : ℕ) (w : Way) → is_found (slice_set m g (Some w)) h ≡ true → is_found m h ≡ true ⊎ (h ≡ g)
found_before [] g h w is = inl is
found_before (b ∷ m) zero zero w is = inr refl
found_before (b ∷ m) zero (suc h) w is = inl is
found_before (b ∷ m) (suc g) zero w is = inl is
found_before (b ∷ m) (suc g) (suc h) w is = elim (found_before m g h w is) [ inl was ↦ inl was | inr now ↦ inr (omega (arith, now)) ]

-- ---- how many have a way, and how many have none

abbrev pub count_found : List (Option Way) → ℕ
count_found [] = 0
count_found (None ∷ m) = count_found m
count_found (Some w ∷ m) = 1 + count_found m

abbrev pub count_open : List (Option Way) → ℕ
count_open [] = 0
count_open (None ∷ m) = 1 + count_open m
count_open (Some w ∷ m) = count_open m

pub few_found : (m : List (Option Way)) → count_found m ≤ length m
few_found [] = omega arith
few_found (None ∷ m) = omega (arith, few_found m)
few_found (Some w ∷ m) = omega (arith, few_found m)

pub one_more_found : (m : List (Option Way)) (g : ℕ) (w : Way) → is_new m g ≡ true → count_found (slice_set m g (Some w)) ≡ 1 + count_found m
one_more_found [] g w new = absurd (false≢true new)
one_more_found (None ∷ m) zero w new = refl
one_more_found (Some v ∷ m) zero w new = absurd (false≢true new)
one_more_found (None ∷ m) (suc g) w new = one_more_found m g w new
one_more_found (Some v ∷ m) (suc g) w new = omega (arith, one_more_found m g w new)

pub one_less_open : (m : List (Option Way)) (g : ℕ) (w : Way) → is_new m g ≡ true → 1 + count_open (slice_set m g (Some w)) ≡ count_open m
one_less_open [] g w new = absurd (false≢true new)
one_less_open (None ∷ m) zero w new = refl
one_less_open (Some v ∷ m) zero w new = absurd (false≢true new)
one_less_open (None ∷ m) (suc g) w new = omega (arith, one_less_open m g w new)
one_less_open (Some v ∷ m) (suc g) w new = one_less_open m g w new

-- ---- before the search

pub none_yet : (count h : ℕ) → is_found (replicate count None) h ≡ true → ⊥
none_yet zero h is = false≢true is
none_yet (suc count) zero is = false≢true is
none_yet (suc count) (suc h) is = none_yet count h is
