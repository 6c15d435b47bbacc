-- Of several ends the first that a search found has the least chain.
use Rattle.std.proofs.Common.{◌≡◌, ℕ, ◌<◌, ◌==◌, Bool, true, false, if◌then◌else◌, ◌⊎◌, inl, inr, List, [], ◌∷◌, length, Option, Some, None, refl, sym, subst, ap, arith, ◌∙◌, eqb-true}
use Rattle.std.proofs.lemmas.Bool.{false≢true}
use Rattle.std.proofs.lemmas.Bool.Decides.{nat_tests}
use Rattle.std.proofs.lemmas.Option.{none-some, same_Some}
use Rattle.call_graph.specs.Paths.{IsIn, IsPath, IsBelow, IsNoWorse, IsLeast}
use Rattle.call_graph.specs.Least.{IsOne}
use Rattle.least_paths.specs.declared.ways.Search.{Search}
use Rattle.least_paths.specs.Backward.{EndsAt, IsUnder, AreRising, ends, turned}
use Rattle.least_paths.specs.Searched.{IsSearch, IsLeastTo, first_end}
use Rattle.least_paths.proofs.Order.{both_same}
use Rattle.least_paths.proofs.Turning.{back_of}
use Rattle.least_paths.proofs.Reading.{no_worse_than, at_end}

-- ---- the order of lists

below_through : (xs ys zs : List ℕ) → length xs ≡ length ys → IsBelow xs ys → IsBelow ys zs → IsBelow xs zs
below_through [] ys zs long h k = tt
below_through (x ∷ xs) [] zs long h k = absurd h
below_through (x ∷ xs) (y ∷ ys) [] long h k = absurd k
below_through (x ∷ xs) (y ∷ ys) (z ∷ zs) long (inl h) (inl k) = inl (omega (arith, h, k))
below_through (x ∷ xs) (y ∷ ys) (z ∷ zs) long (inl h) (inr k) = inl (omega (arith, h, k.0))
below_through (x ∷ xs) (y ∷ ys) (z ∷ zs) long (inr h) (inl k) = inl (omega (arith, h.0, k))
below_through (x ∷ xs) (y ∷ ys) (z ∷ zs) long (inr h) (inr k) = inr (h.0 ∙ k.0, below_through xs ys zs (omega (arith, long)) h.1 k.1)

worse_through : (xs ys zs : List ℕ) → IsNoWorse xs ys → IsNoWorse ys zs → IsNoWorse xs zs
worse_through xs ys zs (inl h) (inl k) = inl (omega (arith, h, k))
worse_through xs ys zs (inl h) (inr k) = inl (omega (arith, h, k.0))
worse_through xs ys zs (inr h) (inl k) = inl (omega (arith, h.0, k))
worse_through xs ys zs (inr h) (inr k) = inr (h.0 ∙ k.0, below_through xs ys zs h.0 h.1 k.1)

below_both : (xs ys : List ℕ) → length xs ≡ length ys → IsBelow xs ys → IsBelow ys xs → xs ≡ ys
below_both [] [] long h k = refl
below_both [] (y ∷ ys) long h k = absurd k
below_both (x ∷ xs) [] long h k = absurd h
below_both (x ∷ xs) (y ∷ ys) long (inl h) (inl k) = absurd (omega (arith, h, k))
below_both (x ∷ xs) (y ∷ ys) long (inl h) (inr k) = absurd (omega (arith, h, k.0))
below_both (x ∷ xs) (y ∷ ys) long (inr h) (inl k) = absurd (omega (arith, h.0, k))
below_both (x ∷ xs) (y ∷ ys) long (inr h) (inr k) = both_same x y xs ys h.0 (below_both xs ys (omega (arith, long)) h.1 k.1)

-- two that are no worse than each other are one
pub worse_both : (xs ys : List ℕ) → IsNoWorse xs ys → IsNoWorse ys xs → xs ≡ ys
worse_both xs ys (inl h) (inl k) = absurd (omega (arith, h, k))
worse_both xs ys (inl h) (inr k) = absurd (omega (arith, h, k.0))
worse_both xs ys (inr h) (inl k) = absurd (omega (arith, h.0, k))
worse_both xs ys (inr h) (inr k) = below_both xs ys h.0 h.1 k.1

-- ---- the first end

module _ (test : ℕ → Bool) where
  pub record IsFirst (ps : List (List ℕ)) (f : ℕ) : Type 0 where
    pub path : List ℕ
    pub there : IsIn path ps
    pub at : EndsAt f path
    pub passes : test f ≡ true
    pub first : (q : List ℕ) (g : ℕ) → IsIn q ps → EndsAt g q → test g ≡ true → (path ≡ q) ⊎ IsUnder path q

  over : (p : List ℕ) (ps : List (List ℕ)) (f : ℕ) → ((g : ℕ) → EndsAt g p → test g ≡ true → ⊥) → IsFirst ps f → IsFirst (p ∷ ps) f
  over p ps f fails r = record {
    path = r.path;
    there = inr r.there;
    at = r.at;
    passes = r.passes;
    first = λ q g is at passes. later q g at passes is;
  }
    where
      later : (q : List ℕ) (g : ℕ) → EndsAt g q → test g ≡ true → IsIn q (p ∷ ps) → (r.path ≡ q) ⊎ IsUnder r.path q
      later q g at passes (inl same) = absurd (fails g (subst (EndsAt g) same at) passes)
      later q g at passes (inr is) = r.first q g is at passes

  failing : (x : ℕ) (rest : List ℕ) → test x ≡ false → (g : ℕ) → EndsAt g (x ∷ rest) → test g ≡ true → ⊥
  failing x rest fails g at passes = false≢true (sym fails ∙ ap test at ∙ passes)

  pub first_in : (ps : List (List ℕ)) (f : ℕ) → AreRising ps → first_end test (ends ps) ≡ Some f → IsFirst ps f
  first_in [] f rising is = absurd (none-some f is)
  first_in ([] ∷ ps) f rising is = over [] ps f (λ g at passes. at) (first_in ps f rising.1 is)
  first_in ((x ∷ rest) ∷ ps) f rising is = by_test (test x) refl is (λ more. first_in ps f rising.1 more)
    where
      by_test : (t : Bool) → test x ≡ t → (if t then Some x else first_end test (ends ps)) ≡ Some f → (first_end test (ends ps) ≡ Some f → IsFirst ps f) → IsFirst ((x ∷ rest) ∷ ps) f
      by_test true passes one more =
          let same : x ≡ f = same_Some x f one in
          record {
            path = x ∷ rest;
            there = inl refl;
            at = same;
            passes = ap test (sym same) ∙ passes;
            first = λ q g is at holds. elim is [ inl here ↦ inl (sym here) | inr there ↦ inr (rising.0 q there) ];
          }
      by_test false fails one more = over (x ∷ rest) ps f (failing x rest fails) (more one)

  none_in : (ps : List (List ℕ)) → first_end test (ends ps) ≡ None → (q : List ℕ) (g : ℕ) → IsIn q ps → EndsAt g q → test g ≡ true → ⊥
  none_in [] is q g there at passes = there
  none_in ([] ∷ ps) is q g (inl same) at passes = subst (EndsAt g) same at
  none_in ([] ∷ ps) is q g (inr there) at passes = none_in ps is q g there at passes
  none_in ((x ∷ rest) ∷ ps) is q g there at passes = by_test (test x) refl is there (λ more is_there. none_in ps more q g is_there at passes)
    where
      by_test : (t : Bool) → test x ≡ t → (if t then Some x else first_end test (ends ps)) ≡ None → IsIn q ((x ∷ rest) ∷ ps) → (first_end test (ends ps) ≡ None → IsIn q ps → ⊥) → ⊥
      by_test true holds one here more = none-some x (sym one)
      by_test false fails one (inl same) more = failing x rest fails g (subst (EndsAt g) same at) passes
      by_test false fails one (inr is_there) more = more one is_there

module _ (s : Search) (roots : List ℕ) (steps : ℕ → List ℕ) (count : ℕ) (h : IsSearch roots steps count s) (test : ℕ → Bool) (inside : (g : ℕ) → test g ≡ true → g < count) where
  -- any path to an end, backwards, and the one of the same end that was found
  pub record Other (path : List ℕ) (f : ℕ) : Type 0 where
    pub from : List ℕ
    pub is : turned from [] ≡ path
    pub found : List ℕ
    pub there : IsIn found h.paths
    pub at : EndsAt f found
    pub order : (found ≡ from) ⊎ IsUnder found from

  other_of : (path : List ℕ) (f : ℕ) → IsPath roots steps path f → test f ≡ true → Other path f
  other_of path f is passes =
      let b = back_of roots steps path f is in
      let p = h.found f (h.complete f b.from (inside f passes) b.back b.ends) in
      record { from = b.from; is = b.is; found = p.0; there = p.1; at = p.2; order = h.least f p.0 b.from p.1 p.2 b.back b.ends }

  pub first_is_least : (f : ℕ) → first_end test s.order.items ≡ Some f → (v : List ℕ) → IsLeastTo s f (Some v) → IsLeast (IsOne steps test roots) v
  first_is_least f is v to_f = record {
    is_one = (f, subst (IsPath roots steps v) (eqb-true least.is_one.0 f least.is_one.2) least.is_one.1, r.passes);
    least = no_worse;
  }
    where
      r : IsFirst test h.paths f
      r = first_in test h.paths f h.rising (ap (first_end test) h.order ∙ is)

      least : IsLeast (IsOne steps (λ g. g == f) roots) v
      least = to_f roots steps count h (inside f r.passes)

      to_path : IsNoWorse v (turned r.path [])
      to_path = least.least (turned r.path []) (f, at_end s roots steps count h f r.path r.at (h.back r.path r.there), grind (arith, nat_tests))

      no_worse : (other : List ℕ) → IsOne steps test roots other → IsNoWorse v other
      no_worse other one =
          let o = other_of other one.0 one.1 one.2 in
          let first : IsNoWorse (turned r.path []) (turned o.found []) = no_worse_than s roots steps count h r.path o.found (r.first o.found one.0 o.there o.at one.2) in
          let found : IsNoWorse (turned o.found []) other = subst (IsNoWorse (turned o.found [])) o.is (no_worse_than s roots steps count h o.found o.from o.order) in
          worse_through v (turned r.path []) other to_path (worse_through (turned r.path []) (turned o.found []) other first found)

  pub none_is_one : first_end test s.order.items ≡ None → (path : List ℕ) → IsOne steps test roots path → ⊥
  none_is_one is path one =
      let o = other_of path one.0 one.1 one.2 in
      none_in test h.paths (ap (first_end test) h.order ∙ is) o.found one.0 o.there o.at one.2
