-- Where bodies without a rank call bodies without a rank, their calls have a cycle.
use Rattle.std.proofs.Common.{◌≡◌, ℕ, zero, suc, ◌+◌, ◌<◌, ◌≤◌, Bool, true, false, ◌||◌, inl, inr, List, [], ◌∷◌, ◌++◌, length, length-append, Option, None, refl, sym, subst, arith, eqb-true}
use Rattle.std.proofs.Math.Dec.{eqb}
use Rattle.std.specs.List.{list_any, IsDistinct, AllByRecursion}
use Rattle.std.proofs.lemmas.Bool.{false≢true}
use Rattle.std.proofs.lemmas.Map.Keys.{IsDistinct-cons}
use Rattle.std.proofs.lemmas.Map.Steps.{length-le_from_distinct_below}
use Rattle.call_graph.specs.Paths.{IsIn, Leads, IsPath}
use Rattle.call_graph.specs.Graph.{row_at}
use Rattle.call_graph.specs.Ranks.{rank_of, AreRanks}
use Rattle.call_graph.proofs.Lists.{any_found}
use Rattle.call_graph.proofs.Chains.{leads_on}

none_apart : IsDistinct eqb []
unfolding IsDistinct
none_apart = tt

module _ (table : List (List ℕ)) where
  -- each body is called by the one behind it in the list
  abbrev Back : List ℕ → Type 0
  Back [] = Unit {0}
  Back (x ∷ []) = Unit {0}
  Back (x ∷ y ∷ rest) = IsIn x (row_at table y) × Back (y ∷ rest)

  abbrev Below : List ℕ → Type 0
  Below [] = Unit {0}
  Below (x ∷ rest) = (x < length table) × Below rest

  record Chain (g x long : ℕ) : Type 0 where
    path : List ℕ
    leads : Leads (row_at table) g path x
    short : length path ≤ long

  chain_to : (x : ℕ) (seen : List ℕ) (g : ℕ) → Back (x ∷ seen) → IsIn g (x ∷ seen) → Chain g x (length seen)
  chain_to x seen g back (inl e) = record { path = []; leads = e; short = omega arith }
  chain_to x [] g back (inr none) = absurd none
  chain_to x (y ∷ seen) g back (inr there) =
      let more = chain_to y seen g back.1 there in
      record {
        path = more.path ++ x ∷ [];
        leads = leads_on (row_at table) g y x more.path more.leads back.0;
        short = omega (arith, length-append more.path (x ∷ []), more.short);
      }

  -- a cycle of at most as many calls as there are bodies
  pub record Cycle : Type 0 where
    pub from : ℕ
    pub inside : from < length table
    pub next : ℕ
    pub rest : List ℕ
    pub is : IsPath (row_at table from) (row_at table) (next ∷ rest) from
    pub short : length rest < length table

  below_in : (xs : List ℕ) → Below xs → (q : ℕ) → IsIn q xs → q < length table
  below_in [] all q there = absurd there
  below_in (x ∷ xs) all q (inl e) = omega (arith, e, all.0)
  below_in (x ∷ xs) all q (inr there) = below_in xs all.1 q there

  below_is : (xs : List ℕ) → Below xs → (q : ℕ) → list_any (eqb q) xs ≡ true → q < length table
  below_is xs all q is = let y = any_found (eqb q) xs is in let e : q ≡ y.it = eqb-true q y.it y.fact in omega (arith, e, below_in xs all y.it y.there)

  none_equal : (g : ℕ) (xs : List ℕ) → list_any (eqb g) xs ≡ false → AllByRecursion (λ y. eqb g y ≡ false) xs
  none_equal g [] none = tt
  none_equal g (x ∷ xs) none = split (λ h. none_equal g xs h) (eqb g x) refl none
    where
      split : (list_any (eqb g) xs ≡ false → AllByRecursion (λ y. eqb g y ≡ false) xs) → (t : Bool) → eqb g x ≡ t → (t || list_any (eqb g) xs) ≡ false
          → (eqb g x ≡ false) × AllByRecursion (λ y. eqb g y ≡ false) xs
      split more true is h = absurd (false≢true (sym h))
      split more false is h = (is, more h)

  module _ (ranks : List (Option ℕ)) (are : AreRanks table ranks) (named : (f g : ℕ) → IsIn g (row_at table f) → g < length table) where
    walk : (fuel x : ℕ) (seen : List ℕ) → Back (x ∷ seen) → IsDistinct eqb (x ∷ seen) → Below (x ∷ seen) → rank_of ranks x ≡ None
        → length table < fuel + length (x ∷ seen) → Cycle
    walk zero x seen back apart below none enough =
        absurd (omega (arith, enough, length-le_from_distinct_below (x ∷ seen) (length table) apart (below_is (x ∷ seen) below)))
    walk (suc fuel) x seen back apart below none enough =
        let next = are.stuck x below.0 none in
        split (λ g step distinct inside unranked. walk fuel g (x ∷ seen) step distinct inside unranked (omega (arith, enough)))
        next.0 next.1 next.2 (list_any (eqb next.0) (x ∷ seen)) refl
      where
        few : length (x ∷ seen) ≤ length table
        few = length-le_from_distinct_below (x ∷ seen) (length table) apart (below_is (x ∷ seen) below)

        split : ((g : ℕ) → Back (g ∷ x ∷ seen) → IsDistinct eqb (g ∷ x ∷ seen) → Below (g ∷ x ∷ seen) → rank_of ranks g ≡ None → Cycle)
            → (g : ℕ) → IsIn g (row_at table x) → rank_of ranks g ≡ None → (t : Bool) → list_any (eqb g) (x ∷ seen) ≡ t → Cycle
        split further g called unranked true is =
            let y = any_found (eqb g) (x ∷ seen) is in
            let e : g ≡ y.it = eqb-true g y.it y.fact in
            let back_to = chain_to x seen g back (subst (λ z. IsIn z (x ∷ seen)) (sym e) y.there) in
            record {
              from = x;
              inside = below.0;
              next = g;
              rest = back_to.path;
              is = (called, back_to.leads);
              short = omega (arith, back_to.short, few);
            }
        split further g called unranked false is =
            further g (called, back) (IsDistinct-cons eqb g (x ∷ seen) (none_equal g (x ∷ seen) is) apart) (named x g called, below) unranked

    pub a_cycle : (f : ℕ) → f < length table → rank_of ranks f ≡ None → Cycle
    a_cycle f inside none =
        walk (length table) f [] tt (IsDistinct-cons eqb f [] tt none_apart) (inside, tt) none (omega arith)
