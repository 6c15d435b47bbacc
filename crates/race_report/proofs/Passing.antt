-- The numbers below a bound that pass a test: each of them is met once.
use Rattle.std.proofs.Common.{◌≡◌, ℕ, zero, suc, ◌+◌, ◌<◌, ◌≤◌, ◌==◌, Bool, true, false, if◌then◌else◌, ◌&&◌, ◌||◌, ◌⊎◌, inl, inr, List, [], ◌∷◌, ◌++◌, length, drop, get_or, filter, flat_map, sym, refl, ap, arith, ◌∙◌, append-nil}
use Rattle.std.specs.List.{list_any}
use Rattle.std.proofs.Math.Seq.{drop-cons}
use Rattle.std.proofs.lemmas.Bool.{ne_eqb, eq-eqb}
use Rattle.std.proofs.lemmas.Grind.{flat_map-append}
use Rattle.std.proofs.lemmas.List.Elements.{filter-append}
use Rattle.std.proofs.lemmas.List.Folds.{list_any-append}
use Rattle.call_graph.specs.Paths.{below}
use Rattle.call_graph.proofs.Lists.{nat_either}
use Rattle.call_graph.proofs.Searching.{below_next}
use Rattle.call_graph.proofs.ViewLists.{next_of}
use Rattle.race_report.proofs.PartLemmas.{or_none}

pub drop_next : {A : Type 0} (xs : List A) (k : ℕ) (d : A) → k < length xs → drop k xs ≡ get_or xs k d ∷ drop (k + 1) xs
drop_next xs k d below = let more : suc k ≡ k + 1 = omega arith in drop-cons xs k d below ∙ ap (λ j. get_or xs k d ∷ drop j xs) more

pub flat_none : {A B : Type 0} (g : A → List B) → ((x : A) → g x ≡ []) → (xs : List A) → flat_map g xs ≡ []
flat_none g none [] = refl
flat_none g none (x ∷ xs) = ap (λ ys. ys ++ flat_map g xs) (none x) ∙ flat_none g none xs

pub flat_same : {A B : Type 0} (g h : A → List B) → ((x : A) → g x ≡ h x) → (xs : List A) → flat_map g xs ≡ flat_map h xs
flat_same g h same [] = refl
flat_same g h same (x ∷ xs) = ap (λ ys. ys ++ flat_map g xs) (same x) ∙ ap (λ ys. h x ++ ys) (flat_same g h same xs)

pub filter_both : {A : Type 0} (p q : A → Bool) (xs : List A) → filter p (filter q xs) ≡ filter (λ x. q x && p x) xs
filter_both p q [] = refl
filter_both p q (x ∷ xs) = by_test (q x) (filter_both p q xs)
  where
    by_test : (b : Bool) → filter p (filter q xs) ≡ filter (λ x. q x && p x) xs → filter p (if b then x ∷ filter q xs else filter q xs) ≡ (if b && p x then x ∷ filter (λ x. q x && p x) xs else filter (λ x. q x && p x) xs)
    by_test true rest = ap (λ ys. if p x then x ∷ ys else ys) rest
    by_test false rest = rest

module _ (test : ℕ → Bool) where
  abbrev one : ℕ → List ℕ
  one n = if test n then n ∷ [] else []

  pub next_passing : (n : ℕ) → filter test (below (n + 1)) ≡ filter test (below n) ++ one n
  next_passing n = ap (filter test) (below_next n) ∙ filter-append test (below n) (n ∷ [])

  pub pushed_next : (n : ℕ) (old new : List ℕ) (b : Bool) → new ≡ old ++ (if b then n ∷ [] else []) → b ≡ test n → old ≡ filter test (below n) → new ≡ filter test (below (n + 1))
  pushed_next n old new b is passes so_far =
      is ∙ ap (λ c. old ++ (if c then n ∷ [] else [])) passes ∙ ap (λ xs. xs ++ one n) so_far ∙ sym (next_passing n)

  -- ---- by a part for each number

  module _ {A : Type 0} (part : ℕ → List A) (y : ℕ) where
    abbrev here : ℕ → List A
    here x = if x == y then part x else []

    part_at : (n : ℕ) → flat_map here (filter test (below (suc n))) ≡ flat_map here (filter test (below n)) ++ flat_map here (one n)
    part_at n = ap (flat_map here) (filter-append test (below n) (n ∷ [])) ∙ flat_map-append here (filter test (below n)) (one n)

    part_elsewhere : (n : ℕ) (b : Bool) → (n ≡ y → ⊥) → flat_map here (if b then n ∷ [] else []) ≡ []
    part_elsewhere n true other = ap (λ c. (if c then part n else []) ++ []) (ne_eqb n y other)
    part_elsewhere n false other = refl

    part_here : (n : ℕ) (b : Bool) → n ≡ y → flat_map here (if b then n ∷ [] else []) ≡ (if b then part y else [])
    part_here n true same = ap (λ c. (if c then part n else []) ++ []) (eq-eqb n y same) ∙ append-nil (part n) ∙ ap part same
    part_here n false same = refl

    pub past_all : (n : ℕ) → n ≤ y → flat_map here (filter test (below n)) ≡ []
    past_all zero le = refl
    past_all (suc n) le =
        part_at n ∙ ap (λ xs. xs ++ flat_map here (one n)) (past_all n (omega (arith, le))) ∙ part_elsewhere n (test n) (λ same. omega (arith, same, le))

    pub once : (n : ℕ) → y < n → flat_map here (filter test (below n)) ≡ (if test y then part y else [])
    once zero lt = absurd (omega (arith, lt))
    once (suc n) lt = by_place (nat_either n y) (once n)
      where
        by_place : (n ≤ y) ⊎ (y < n) → (y < n → flat_map here (filter test (below n)) ≡ (if test y then part y else [])) → flat_map here (filter test (below (suc n))) ≡ (if test y then part y else [])
        by_place (inl le) before =
            let same : n ≡ y = omega (arith, le, lt) in
            part_at n ∙ ap (λ xs. xs ++ flat_map here (one n)) (past_all n le) ∙ part_here n (test n) same ∙ ap (λ k. if test k then part y else []) same
        by_place (inr less) before =
            part_at n ∙ ap (λ xs. xs ++ flat_map here (one n)) (before less)
            ∙ ap (λ xs. (if test y then part y else []) ++ xs) (part_elsewhere n (test n) (λ same. omega (arith, same, less))) ∙ append-nil (if test y then part y else [])

  -- ---- whether one of them is this number

  module _ (y : ℕ) where
    abbrev is_it : ℕ → Bool
    is_it x = x == y

    any_at : (n : ℕ) → list_any is_it (filter test (below (suc n))) ≡ (list_any is_it (filter test (below n)) || list_any is_it (one n))
    any_at n = ap (list_any is_it) (filter-append test (below n) (n ∷ [])) ∙ list_any-append is_it (filter test (below n)) (one n)

    any_elsewhere : (n : ℕ) (b : Bool) → (n ≡ y → ⊥) → list_any is_it (if b then n ∷ [] else []) ≡ false
    any_elsewhere n true other = ap (λ c. c || false) (ne_eqb n y other)
    any_elsewhere n false other = refl

    any_here : (n : ℕ) (b : Bool) → n ≡ y → list_any is_it (if b then n ∷ [] else []) ≡ b
    any_here n true same = ap (λ c. c || false) (eq-eqb n y same)
    any_here n false same = refl

    none_met : (n : ℕ) → n ≤ y → list_any is_it (filter test (below n)) ≡ false
    none_met zero le = refl
    none_met (suc n) le =
        any_at n ∙ ap (λ b. b || list_any is_it (one n)) (none_met n (omega (arith, le))) ∙ any_elsewhere n (test n) (λ same. omega (arith, same, le))

    pub met : (n : ℕ) → y < n → list_any is_it (filter test (below n)) ≡ test y
    met zero lt = absurd (omega (arith, lt))
    met (suc n) lt = by_place (nat_either n y) (met n)
      where
        by_place : (n ≤ y) ⊎ (y < n) → (y < n → list_any is_it (filter test (below n)) ≡ test y) → list_any is_it (filter test (below (suc n))) ≡ test y
        by_place (inl le) before =
            let same : n ≡ y = omega (arith, le, lt) in
            any_at n ∙ ap (λ b. b || list_any is_it (one n)) (none_met n le) ∙ any_here n (test n) same ∙ ap test same
        by_place (inr less) before =
            any_at n ∙ ap (λ b. b || list_any is_it (one n)) (before less) ∙ ap (λ b. test y || b) (any_elsewhere n (test n) (λ same. omega (arith, same, less))) ∙ or_none (test y)

-- ---- one number after the other of a list

cut : {A : Type 0} (b : Bool) (x : A) (xs : List A) → (if b then x ∷ xs else xs) ≡ (if b then x ∷ [] else []) ++ xs
cut true x xs = refl
cut false x xs = refl

pub passing_next : (test : ℕ → Bool) (xs : List ℕ) (k x : ℕ) → k < length xs → x ≡ get_or xs k x
    → filter test (drop k xs) ≡ (if test x then x ∷ [] else []) ++ filter test (drop (k + 1) xs)
passing_next test xs k x below is = ap (filter test) (next_of xs k x below is) ∙ cut (test x) x (filter test (drop (k + 1) xs))
