-- The least of the chains from each body is the least of all.
use Rattle.std.proofs.Common.{◌≡◌, ℕ, zero, suc, ◌+◌, ◌<◌, ◌≤◌, Bool, true, false, if◌then◌else◌, ◌⊎◌, inl, inr, List, [], ◌∷◌, length, Option, Some, None, refl, sym, subst, ap, arith}
use Rattle.std.specs.Prelude.{nat_lt}
use Rattle.std.proofs.lemmas.Bool.Decides.{nat_tests}
use Rattle.call_graph.specs.Paths.{IsBelow, IsNoWorse}
use Rattle.call_graph.specs.Shortest.{shorter_of, best_of}
use Rattle.call_graph.proofs.Lists.{nat_either}

-- P tells what a chain is, and Q with which ones it is compared
module _ (P Q : List ℕ → Type 0) where
  -- the least of those that begin with f
  pub record IsFrom (f : ℕ) (path : List ℕ) : Type 0 where
    pub rest : List ℕ
    pub is : path ≡ f ∷ rest
    pub one : P path
    pub least : (other : List ℕ) → Q (f ∷ other) → IsNoWorse path (f ∷ other)

  abbrev pub IsChainFrom : (f : ℕ) → Option (List ℕ) → Type 0
  IsChainFrom f None = (rest : List ℕ) → Q (f ∷ rest) → ⊥
  IsChainFrom f (Some path) = IsFrom f path

  -- the least of those that begin with a body below n
  record IsBelowAll (n : ℕ) (path : List ℕ) : Type 0 where
    first : ℕ
    rest : List ℕ
    is : path ≡ first ∷ rest
    low : first < n
    one : P path
    least : (f : ℕ) (other : List ℕ) → f < n → Q (f ∷ other) → IsNoWorse path (f ∷ other)

  abbrev IsBest : (n : ℕ) → Option (List ℕ) → Type 0
  IsBest n None = (f : ℕ) (rest : List ℕ) → f < n → Q (f ∷ rest) → ⊥
  IsBest n (Some path) = IsBelowAll n path

  last_or_less : (f n : ℕ) → f < suc n → (f < n) ⊎ (f ≡ n)
  last_or_less f n lt = elim (nat_either n f) [ inl ge ↦ inr (omega (arith, ge, lt)) | inr less ↦ inl less ]

  longer : (a b c : List ℕ) → length a < length b → IsNoWorse b c → IsNoWorse a c
  longer a b c lt (inl less) = inl (omega (arith, lt, less))
  longer a b c lt (inr same) = inl (omega (arith, lt, same.0))

  one_more : (n : ℕ) (best chain : Option (List ℕ)) → IsBest n best → IsChainFrom n chain → IsBest (suc n) (shorter_of best chain)
  one_more n None None none never = λ f rest lt one. elim (last_or_less f n lt) [ inl less ↦ none f rest less one | inr e ↦ never rest (subst (λ k. Q (k ∷ rest)) e one) ]
  one_more n None (Some path) none from = record {
    first = n;
    rest = from.rest;
    is = from.is;
    low = omega arith;
    one = from.one;
    least = λ f other lt one. elim (last_or_less f n lt) [
      | inl less ↦ absurd (none f other less one)
      | inr e ↦ subst (λ k. IsNoWorse path (k ∷ other)) (sym e) (from.least other (subst (λ k. Q (k ∷ other)) e one))
    ];
  }
  one_more n (Some path) None best never = record {
    first = best.first;
    rest = best.rest;
    is = best.is;
    low = omega (arith, best.low);
    one = best.one;
    least = λ f other lt one. elim (last_or_less f n lt) [ inl less ↦ best.least f other less one | inr e ↦ absurd (never other (subst (λ k. Q (k ∷ other)) e one)) ];
  }
  one_more n (Some path) (Some chain) best from = by_test (nat_lt (length chain) (length path)) refl
    where
      by_test : (t : Bool) → nat_lt (length chain) (length path) ≡ t → IsBest (suc n) (if t then Some chain else Some path)
      by_test true is =
          let lt : length chain < length path = grind (arith, nat_tests) in
          record {
            first = n;
            rest = from.rest;
            is = from.is;
            low = omega arith;
            one = from.one;
            least = λ f other low one. elim (last_or_less f n low) [
              | inl less ↦ longer chain path (f ∷ other) lt (best.least f other less one)
              | inr e ↦ subst (λ k. IsNoWorse chain (k ∷ other)) (sym e) (from.least other (subst (λ k. Q (k ∷ other)) e one))
            ];
          }
      by_test false is =
          let ge : length path ≤ length chain = grind (arith, nat_tests) in
          record {
            first = best.first;
            rest = best.rest;
            is = best.is;
            low = omega (arith, best.low);
            one = best.one;
            least = λ f other low one. elim (last_or_less f n low) [
              | inl less ↦ best.least f other less one
              | inr e ↦ subst (λ k. IsNoWorse path (k ∷ other)) (sym e) (before other ge (from.least other (subst (λ k. Q (k ∷ other)) e one)))
            ];
          }
        where
          first_less : (xs : List ℕ) (other : List ℕ) (f : ℕ) (rest : List ℕ) → xs ≡ f ∷ rest → f < n → IsBelow xs (n ∷ other)
          first_less xs other f rest e lt = subst (λ ys. IsBelow ys (n ∷ other)) (sym e) (inl lt)

          compared : (other : List ℕ) → (length path ≤ length (n ∷ other)) → (length (n ∷ other) ≤ length path) ⊎ (length path < length (n ∷ other)) → IsNoWorse path (n ∷ other)
          compared other le (inr lt) = inl lt
          compared other le (inl ge) = inr (omega (arith, le, ge), first_less path other best.first best.rest best.is best.low)

          before : (other : List ℕ) → length path ≤ length chain → IsNoWorse chain (n ∷ other) → IsNoWorse path (n ∷ other)
          before other le (inl less) = compared other (omega (arith, le, less)) (nat_either (length (n ∷ other)) (length path))
          before other le (inr same) = compared other (omega (arith, le, same.0)) (nat_either (length (n ∷ other)) (length path))

  module _ (chain : ℕ → Option (List ℕ)) (from : (f : ℕ) → IsChainFrom f (chain f)) where
    best_is : (n : ℕ) → IsBest n (best_of chain n)
    best_is zero = λ f rest lt one. omega (arith, lt)
    best_is (suc n) = one_more n (best_of chain n) (chain n) (best_is n) (from n)

    abbrev pub IsAnswer : Option (List ℕ) → Type 0
    IsAnswer None = (path : List ℕ) → Q path → ⊥
    IsAnswer (Some path) = P path × ((other : List ℕ) → Q other → IsNoWorse path other)

    module _ (n : ℕ) (never : Q [] → ⊥) (inside : (f : ℕ) (rest : List ℕ) → Q (f ∷ rest) → f < n) where
      none_of : IsBest n None → (path : List ℕ) → Q path → ⊥
      none_of none [] one = never one
      none_of none (f ∷ rest) one = none f rest (inside f rest one) one

      no_worse : (path : List ℕ) → IsBelowAll n path → (other : List ℕ) → Q other → IsNoWorse path other
      no_worse path best [] one = absurd (never one)
      no_worse path best (f ∷ rest) one = best.least f rest (inside f rest one) one

      answer_of : (o : Option (List ℕ)) → IsBest n o → IsAnswer o
      answer_of None none = none_of none
      answer_of (Some path) best = (best.one, no_worse path best)

      pub answer : IsAnswer (best_of chain n)
      answer = answer_of (best_of chain n) (best_is n)

pub best_next : (chain : ℕ → Option (List ℕ)) (n : ℕ) → best_of chain (n + 1) ≡ shorter_of (best_of chain n) (chain n)
best_next chain n = let e : n + 1 ≡ suc n = omega arith in ap (best_of chain) e

pub ruleset numbers = (best_next)
