-- The shortest path, and of these the least by body numbers: each body behind the root is the least from which the rest can be gone.
use Rattle.std.proofs.Common.{◌≡◌, ℕ, zero, suc, ◌<◌, ◌≤◌, min, Bool, true, false, if◌then◌else◌, ◌⊎◌, inl, inr, List, [], ◌∷◌, length, Option, Some, None, refl, sym, subst, arith, ◌∙◌}
use Rattle.std.specs.List.{list_any}
use Rattle.std.proofs.lemmas.Bool.{false≢true}
use Rattle.call_graph.specs.Paths.{IsIn, Leads, IsBelow, IsNoWorse, IsLeast}
use Rattle.call_graph.specs.Least.{at_most, least, can, onward, best, path_of, IsOne, EachPathIsLeast}
use Rattle.call_graph.proofs.Lists.{nat_either, found_any, any_found}

-- the least of the list that passes
pub record IsLeastIn (test : ℕ → Bool) (xs : List ℕ) (y : ℕ) : Type 0 where
  pub there : IsIn y xs
  pub passes : test y ≡ true
  pub least : (z : ℕ) → IsIn z xs → test z ≡ true → y ≤ z

abbrev pub IsLeastOf : (test : ℕ → Bool) → List ℕ → Option ℕ → Type 0
IsLeastOf test xs None = (z : ℕ) → IsIn z xs → test z ≡ true → ⊥
IsLeastOf test xs (Some y) = IsLeastIn test xs y

module _ (test : ℕ → Bool) (x : ℕ) (xs : List ℕ) where
  with_one : test x ≡ true → (o : Option ℕ) → IsLeastOf test xs o → IsLeastIn test (x ∷ xs) (at_most x o)
  with_one holds None none = record { there = inl refl; passes = holds; least = λ z there pass. elim there [ inl same ↦ omega (arith, same) | inr more ↦ absurd (none z more pass) ] }
  with_one holds (Some y) h = smaller (nat_either x y)
    where
      smaller : (x ≤ y) ⊎ (y < x) → IsLeastIn test (x ∷ xs) (min x y)
      smaller (inl le) = let e : min x y ≡ x = omega (arith, le) in subst (IsLeastIn test (x ∷ xs)) (sym e) (record {
        there = inl refl;
        passes = holds;
        least = λ z there pass. elim there [ inl same ↦ omega (arith, same) | inr more ↦ omega (arith, le, h.least z more pass) ];
      })
      smaller (inr lt) = let e : min x y ≡ y = omega (arith, lt) in subst (IsLeastIn test (x ∷ xs)) (sym e) (record {
        there = inr h.there;
        passes = h.passes;
        least = λ z there pass. elim there [ inl same ↦ omega (arith, lt, same) | inr more ↦ h.least z more pass ];
      })

  without : test x ≡ false → (o : Option ℕ) → IsLeastOf test xs o → IsLeastOf test (x ∷ xs) o
  without fails None none = λ z there pass. elim there [ inl same ↦ false≢true (sym fails ∙ subst (λ y. test y ≡ true) same pass) | inr more ↦ none z more pass ]
  without fails (Some y) h = record {
    there = inr h.there;
    passes = h.passes;
    least = λ z there pass. elim there [ inl same ↦ absurd (false≢true (sym fails ∙ subst (λ y. test y ≡ true) same pass)) | inr more ↦ h.least z more pass ];
  }

  by_case : (t : Bool) → test x ≡ t → (o : Option ℕ) → IsLeastOf test xs o → IsLeastOf test (x ∷ xs) (if t then Some (at_most x o) else o)
  by_case true is o h = with_one is o h
  by_case false is o h = without is o h

pub least_is : (test : ℕ → Bool) (xs : List ℕ) → IsLeastOf test xs (least test xs)
least_is test [] = λ z there pass. there
least_is test (x ∷ xs) = by_case test x xs (test x) refl (least test xs) (least_is test xs)

module _ (steps : ℕ → List ℕ) (is_end : ℕ → Bool) where
  -- a path behind g that ends well
  pub record Ends (g : ℕ) (rest : List ℕ) : Type 0 where
    pub last : ℕ
    pub leads : Leads steps g rest last
    pub ends : is_end last ≡ true

  pub ends_can : (g : ℕ) (rest : List ℕ) → Ends g rest → can steps is_end (length rest) g ≡ true
  ends_can g [] e = subst (λ x. is_end x ≡ true) (sym e.leads) e.ends
  ends_can g (h ∷ rest) e = found_any (can steps is_end (length rest)) h (steps g) e.leads.0 (ends_can h rest (record { last = e.last; leads = e.leads.1; ends = e.ends }))

  onward_ends : (n g : ℕ) → ((y : ℕ) → can steps is_end n y ≡ true → Ends y (best steps is_end n y)) → (o : Option ℕ) → IsLeastOf (can steps is_end n) (steps g) o → list_any (can steps is_end n) (steps g) ≡ true → Ends g (onward steps is_end (best steps is_end n) o)
  onward_ends n g ends None none h = let f = any_found (can steps is_end n) (steps g) h in absurd (none f.it f.there f.fact)
  onward_ends n g ends (Some y) is h = let e = ends y is.passes in record { last = e.last; leads = (is.there, e.leads); ends = e.ends }

  best_ends : (n g : ℕ) → can steps is_end n g ≡ true → Ends g (best steps is_end n g)
  best_ends zero g h = record { last = g; leads = refl; ends = h }
  best_ends (suc n) g h = onward_ends n g (best_ends n) (least (can steps is_end n) (steps g)) (least_is (can steps is_end n) (steps g)) h

  -- whatever the first bodies are taken from
  first_below : (n y h : ℕ) (xs rest : List ℕ) → IsLeastIn (can steps is_end n) xs y → IsIn h xs → can steps is_end n h ≡ true → ((y ≡ h) → IsBelow (best steps is_end n y) rest) → IsBelow (y ∷ best steps is_end n y) (h ∷ rest)
  first_below n y h xs rest is there pass same = elim (nat_either h y) [ inl le ↦ (let e : y ≡ h = omega (arith, le, is.least h there pass) in inr (e, same e)) | inr lt ↦ inl lt ]

  onward_below : (n : ℕ) → ((g : ℕ) (other : List ℕ) → length other ≡ n → Ends g other → IsBelow (best steps is_end n g) other)
      → (o : Option ℕ) (xs : List ℕ) (h : ℕ) (rest : List ℕ) → IsLeastOf (can steps is_end n) xs o → length rest ≡ n → IsIn h xs → Ends h rest → IsBelow (onward steps is_end (best steps is_end n) o) (h ∷ rest)
  onward_below n below None xs h rest none long there e = absurd (none h there (subst (λ k. can steps is_end k h ≡ true) long (ends_can h rest e)))
  onward_below n below (Some y) xs h rest is long there e =
      first_below n y h xs rest is there (subst (λ k. can steps is_end k h ≡ true) long (ends_can h rest e)) (λ same. below y rest long (subst (λ x. Ends x rest) (sym same) e))

  best_below : (n g : ℕ) (other : List ℕ) → length other ≡ n → Ends g other → IsBelow (best steps is_end n g) other
  best_below zero g other long e = tt
  best_below (suc n) g [] long e = absurd (omega (arith, long))
  best_below (suc n) g (h ∷ rest) long e =
      onward_below n (best_below n) (least (can steps is_end n) (steps g)) (steps g) h rest (least_is (can steps is_end n) (steps g)) (omega (arith, long)) e.leads.0
      (record { last = e.last; leads = e.leads.1; ends = e.ends })

  onward_length : (n : ℕ) → ((g : ℕ) → can steps is_end n g ≡ true → length (best steps is_end n g) ≡ n) → (o : Option ℕ) (xs : List ℕ) → IsLeastOf (can steps is_end n) xs o → list_any (can steps is_end n) xs ≡ true
      → length (onward steps is_end (best steps is_end n) o) ≡ suc n
  onward_length n long None xs none h = let f = any_found (can steps is_end n) xs h in absurd (none f.it f.there f.fact)
  onward_length n long (Some y) xs is h = omega (arith, long y is.passes)

  best_length : (n g : ℕ) → can steps is_end n g ≡ true → length (best steps is_end n g) ≡ n
  best_length zero g h = refl
  best_length (suc n) g h = onward_length n (best_length n) (least (can steps is_end n) (steps g)) (steps g) (least_is (can steps is_end n) (steps g)) h

  one_of : (roots : List ℕ) (n : ℕ) (o : Option ℕ) → IsLeastOf (can steps is_end n) roots o → list_any (can steps is_end n) roots ≡ true → IsOne steps is_end roots (onward steps is_end (best steps is_end n) o)
  one_of roots n None none h = let f = any_found (can steps is_end n) roots h in absurd (none f.it f.there f.fact)
  one_of roots n (Some y) is h = let e = best_ends n y is.passes in (e.last, (is.there, e.leads), e.ends)

  module _ (roots : List ℕ) (n : ℕ) (reached : list_any (can steps is_end n) roots ≡ true) (first : (m : ℕ) → m < n → list_any (can steps is_end m) roots ≡ false) where
    no_worse : (other : List ℕ) → IsOne steps is_end roots other → IsNoWorse (path_of steps is_end roots n) other
    no_worse [] one = absurd one.1
    no_worse (h ∷ rest) one = by_length (nat_either n (length rest))
      where
        size : length (path_of steps is_end roots n) ≡ suc n
        size = onward_length n (best_length n) (least (can steps is_end n) roots) roots (least_is (can steps is_end n) roots) reached

        e : Ends h rest
        e = record { last = one.0; leads = one.1.1; ends = one.2 }

        at_least : n ≤ length rest → (length rest ≤ n) ⊎ (n < length rest) → IsNoWorse (path_of steps is_end roots n) (h ∷ rest)
        at_least le (inr lt) = inl (omega (arith, size, lt))
        at_least le (inl ge) = let same : length rest ≡ n = omega (arith, le, ge) in
            inr (omega (arith, size, same), onward_below n (best_below n) (least (can steps is_end n) roots) roots h rest (least_is (can steps is_end n) roots) same one.1.0 e)

        by_length : (n ≤ length rest) ⊎ (length rest < n) → IsNoWorse (path_of steps is_end roots n) (h ∷ rest)
        by_length (inl le) = at_least le (nat_either (length rest) n)
        by_length (inr lt) = absurd (false≢true (sym (first (length rest) lt) ∙ found_any (can steps is_end (length rest)) h roots one.1.0 (ends_can h rest e)))

    pub is_least : IsLeast (IsOne steps is_end roots) (path_of steps is_end roots n)
    is_least = record { is_one = one_of roots n (least (can steps is_end n) roots) (least_is (can steps is_end n) roots) reached; least = no_worse }

pub each_path_is_least : EachPathIsLeast
each_path_is_least steps is_end roots n reached first = is_least steps is_end roots n reached first
