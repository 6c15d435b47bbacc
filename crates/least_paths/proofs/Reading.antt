-- A chain is read from the ways, body by body, and it is the least one to its last body.
use Rattle.std.proofs.Common.{◌≡◌, ℕ, zero, suc, ◌+◌, ◌<◌, ◌≤◌, ◌==◌, Bool, true, false, ◌⊎◌, inl, inr, List, [], ◌∷◌, ◌++◌, length, reverse, append-nil, append_assoc, Option, Some, None, refl, sym, subst, ap, arith, ◌∙◌, eqb-true}
use Rattle.std.proofs.lemmas.Bool.{false≢true}
use Rattle.std.proofs.lemmas.Bool.Decides.{nat_tests}
use Rattle.std.proofs.lemmas.Option.{none-some, same_Some}
use Rattle.call_graph.specs.Paths.{IsPath, IsNoWorse}
use Rattle.call_graph.specs.Least.{IsOne}
use Rattle.least_paths.specs.declared.ways.Way.{Way}
use Rattle.least_paths.specs.declared.ways.Way.TheVariants.{Root, CalledBy}
use Rattle.least_paths.specs.declared.ways.Search.{Search}
use Rattle.least_paths.specs.Backward.{IsBack, EndsAt, IsUnder, turned}
use Rattle.least_paths.specs.Visits.{way_at, is_found, caller_at, caller_in}
use Rattle.least_paths.specs.Searched.{way_of, IsTraced, HasChain, IsSearch, IsSearched, IsLeastOrNone, IsLeastTo}
use Rattle.least_paths.proofs.Order.{both_same, no_worse, same_no_worse}
use Rattle.least_paths.proofs.Turning.{forward, back_of, turned_is}

-- ---- the code that reads

caller_of : (rest : List ℕ) (c : ℕ) → caller_in (way_of rest) ≡ Some c → EndsAt c rest
caller_of [] c is = absurd (none-some c is)
caller_of (f ∷ rest) c is = same_Some f c is

no_caller : (rest : List ℕ) → caller_in (way_of rest) ≡ None → rest ≡ []
no_caller [] is = refl
no_caller (f ∷ rest) is = absurd (none-some f (sym is))

-- two chains with the same end
trace_same : (ways : List (Option Way)) (f : ℕ) (p q : List ℕ) → EndsAt f p → EndsAt f q → IsTraced ways p → IsTraced ways q → p ≡ q
trace_same ways f [] q ends other t u = absurd ends
trace_same ways f (x ∷ p) [] ends other t u = absurd other
trace_same ways f (x ∷ p) (y ∷ q) ends other t u =
    both_same x y p q (ends ∙ sym other) (behind p q t.1 u.1 (same_Some (way_of p) (way_of q) (sym t.0 ∙ ap (way_at ways) (ends ∙ sym other) ∙ u.0)))
  where
    behind : (p q : List ℕ) → IsTraced ways p → IsTraced ways q → way_of p ≡ way_of q → p ≡ q
    behind [] [] t u e = refl
    behind [] (y ∷ q) t u e = absurd (none-some y (ap caller_in e))
    behind (x ∷ p) [] t u e = absurd (none-some x (sym (ap caller_in e)))
    behind (x ∷ p) (y ∷ q) t u e =
        let same : x ≡ y = same_Some x y (ap caller_in e) in
        both_same x y p q same (behind p q t.1 u.1 (same_Some (way_of p) (way_of q) (sym t.0 ∙ ap (way_at ways) same ∙ u.0)))

module _ (ways : List (Option Way)) (f : ℕ) where
  -- the bodies that are read, the next one, and how many were read
  pub record IsRead (bodies : List ℕ) (at i : ℕ) : Type 0 where
    pub rest : List ℕ
    pub ends : EndsAt at rest
    pub traced : IsTraced ways rest
    pub whole : (back : List ℕ) → EndsAt f back → IsTraced ways back → back ≡ bodies ++ rest
    pub room : length rest + i ≤ length ways

  pub begun : (bodies : List ℕ) → bodies ≡ [] → HasChain ways f → IsRead bodies f 0
  begun bodies none h = record {
    rest = h.back;
    ends = h.ends;
    traced = h.traced;
    whole = λ back ends traced. trace_same ways f back h.back ends h.ends traced h.traced ∙ ap (λ l. l ++ h.back) (sym none);
    room = omega (arith, h.short);
  }

  goes_on : (bodies : List ℕ) (at i c : ℕ) (rest : List ℕ) → EndsAt at rest → IsTraced ways rest → ((back : List ℕ) → EndsAt f back → IsTraced ways back → back ≡ bodies ++ rest) → length rest + i ≤ length ways
      → caller_at (way_at ways at) ≡ Some c → IsRead (bodies ++ at ∷ []) c (i + 1)
  goes_on bodies at i c [] ends traced whole room is = absurd ends
  goes_on bodies at i c (x ∷ rest) ends traced whole room is =
      let way : way_at ways at ≡ Some (way_of rest) = subst (λ k. way_at ways k ≡ Some (way_of rest)) ends traced.0 in
      record {
        rest = rest;
        ends = caller_of rest c (sym (ap caller_at way) ∙ is);
        traced = traced.1;
        whole = λ back at_end t. whole back at_end t ∙ sym (append_assoc bodies (x ∷ []) rest) ∙ ap (λ k. (bodies ++ k ∷ []) ++ rest) ends;
        room = omega (arith, room);
      }

  pub on : (bodies more : List ℕ) (at i c : ℕ) → IsRead bodies at i → more ≡ bodies ++ at ∷ [] → caller_at (way_at ways at) ≡ Some c → IsRead more c (i + 1)
  on bodies more at i c r more_is is = subst (λ l. IsRead l c (i + 1)) (sym more_is) (goes_on bodies at i c r.rest r.ends r.traced r.whole r.room is)

  last : (bodies : List ℕ) (at : ℕ) (rest : List ℕ) → EndsAt at rest → IsTraced ways rest → ((back : List ℕ) → EndsAt f back → IsTraced ways back → back ≡ bodies ++ rest) → caller_at (way_at ways at) ≡ None
      → (back : List ℕ) → EndsAt f back → IsTraced ways back → back ≡ bodies ++ at ∷ []
  last bodies at [] ends traced whole is back at_end t = absurd ends
  last bodies at (x ∷ rest) ends traced whole is back at_end t =
      let way : way_at ways at ≡ Some (way_of rest) = subst (λ k. way_at ways k ≡ Some (way_of rest)) ends traced.0 in
      whole back at_end t ∙ ap (λ l. bodies ++ x ∷ l) (no_caller rest (sym (ap caller_at way) ∙ is)) ∙ ap (λ k. bodies ++ k ∷ []) ends

  pub ended : (bodies more result : List ℕ) (at i : ℕ) → IsRead bodies at i → more ≡ bodies ++ at ∷ [] → caller_at (way_at ways at) ≡ None → result ≡ reverse more
      → (back : List ℕ) → EndsAt f back → IsTraced ways back → result ≡ turned back []
  ended bodies more result at i r more_is is result_is back at_end t =
      result_is ∙ ap reverse (more_is ∙ sym (last bodies at r.rest r.ends r.traced r.whole is back at_end t)) ∙ sym (append-nil (reverse back)) ∙ sym (turned_is back [])

  too_far : (at : ℕ) (rest : List ℕ) → EndsAt at rest → length rest ≤ 0 → ⊥
  too_far at [] ends none = ends
  too_far at (x ∷ rest) ends none = omega (arith, none)

  pub never : (bodies : List ℕ) (at i : ℕ) → IsRead bodies at i → length ways ≤ i → ⊥
  never bodies at i r all = too_far at r.rest r.ends (omega (arith, r.room, all))

-- ---- what is read is least

module _ (s : Search) where
  pub has_chain : (f : ℕ) → IsSearched s → is_found s.ways.items f ≡ true → HasChain s.ways.items f
  has_chain f h is =
      let p = h.3.found f is in
      record { back = p.0; ends = p.2; traced = h.3.traced p.0 p.1; short = omega (arith, h.3.short p.0 p.1, h.3.size) }

  module _ (roots : List ℕ) (steps : ℕ → List ℕ) (count : ℕ) (h : IsSearch roots steps count s) where
    pub at_end : (f : ℕ) (p : List ℕ) → EndsAt f p → IsBack roots steps p → IsPath roots steps (turned p []) f
    at_end f [] ends back = absurd ends
    at_end f (g ∷ rest) ends back = subst (IsPath roots steps (turned (g ∷ rest) [])) ends (forward roots steps g rest [] g back refl)

    pub no_worse_than : (p q : List ℕ) → (p ≡ q) ⊎ IsUnder p q → IsNoWorse (turned p []) (turned q [])
    no_worse_than p q (inl same) = same_no_worse (turned p []) (turned q []) (ap (λ l. turned l []) same)
    no_worse_than p q (inr less) = no_worse p q less

    pub least_to : (f : ℕ) (v : List ℕ) → is_found s.ways.items f ≡ true → ((back : List ℕ) → EndsAt f back → IsTraced s.ways.items back → v ≡ turned back []) → IsLeastOrNone (IsOne steps (λ g. g == f) roots) (Some v)
    least_to f v is read =
        let p = h.found f is in
        let same : v ≡ turned p.0 [] = read p.0 p.2 (h.traced p.0 p.1) in
        record {
          is_one = (f, subst (λ l. IsPath roots steps l f) (sym same) (at_end f p.0 p.2 (h.back p.0 p.1)), grind (arith, nat_tests));
          least = λ other one.
              let b = back_of roots steps other one.0 one.1 in
              let at : EndsAt f b.from = subst (λ g. EndsAt g b.from) (eqb-true one.0 f one.2) b.ends in
              subst (λ l. IsNoWorse l other) (sym same) (subst (IsNoWorse (turned p.0 [])) b.is (no_worse_than p.0 b.from (h.least f p.0 b.from p.1 p.2 b.back at)));
        }

    pub none_to : (f : ℕ) → f < count → is_found s.ways.items f ≡ false → IsLeastOrNone (IsOne steps (λ g. g == f) roots) None
    none_to f inside is = λ path one.
        let b = back_of roots steps path one.0 one.1 in
        let at : EndsAt f b.from = subst (λ g. EndsAt g b.from) (eqb-true one.0 f one.2) b.ends in
        false≢true (sym is ∙ h.complete f b.from inside b.back at)

  pub found_path : (f : ℕ) (v : List ℕ) → is_found s.ways.items f ≡ true → ((back : List ℕ) → EndsAt f back → IsTraced s.ways.items back → v ≡ turned back []) → IsLeastTo s f (Some v)
  found_path f v is read = λ roots steps count h inside. least_to roots steps count h f v is read

  pub no_path : (f : ℕ) → is_found s.ways.items f ≡ false → IsLeastTo s f None
  no_path f is = λ roots steps count h inside. none_to roots steps count h f inside is

  -- as the code has them
  pub found_by : (f : ℕ) (seen read : List (Option Way)) (t : Bool) (v : List ℕ) → seen ≡ s.ways.items → read ≡ s.ways.items → t ≡ is_found seen f → t ≡ true
      → ((back : List ℕ) → EndsAt f back → IsTraced read back → v ≡ turned back []) → IsLeastTo s f (Some v)
  found_by f seen read t v seen_is read_is t_is is h =
      found_path f v (subst (λ w. is_found w f ≡ true) seen_is (sym t_is ∙ is)) (subst (λ w. (back : List ℕ) → EndsAt f back → IsTraced w back → v ≡ turned back []) read_is h)

  pub none_by : (f : ℕ) (seen : List (Option Way)) (t : Bool) → seen ≡ s.ways.items → t ≡ is_found seen f → t ≡ false → IsLeastTo s f None
  none_by f seen t seen_is t_is is = no_path f (subst (λ w. is_found w f ≡ false) seen_is (sym t_is ∙ is))

  pub chain_by : (f : ℕ) (seen read : List (Option Way)) (t : Bool) → IsSearched s → seen ≡ s.ways.items → read ≡ s.ways.items → t ≡ is_found seen f → t ≡ true → HasChain read f
  chain_by f seen read t h seen_is read_is t_is is = subst (λ w. HasChain w f) (sym read_is) (has_chain f h (subst (λ w. is_found w f ≡ true) seen_is (sym t_is ∙ is)))
