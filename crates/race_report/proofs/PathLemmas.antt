-- The paths that are found, and where there are none.
use Rattle.std.proofs.Common.{◌≡◌, ℕ, zero, suc, ◌<◌, ◌≤◌, ◌==◌, Bool, true, false, if◌then◌else◌, List, [], ◌∷◌, length, map, Option, Some, None, refl, sym, subst, ap, arith, ◌∙◌, eqb-true}
use Rattle.std.specs.Prelude.{slice_get, slice_index_or}
use Rattle.std.specs.List.{list_any}
use Rattle.std.proofs.Math.ListN as list
use Rattle.std.proofs.lemmas.Bool.{false≢true}
use Rattle.std.proofs.lemmas.Bool.Decides.{nat_tests}
use Rattle.std.proofs.lemmas.Option.{none-some, slice_get_within}
use Rattle.nesc_core.specs.Plain.{Body, Program}
use Rattle.nesc_core.specs.Calls.{HasNoCycle}
use Rattle.call_graph.specs.declared.uses.Use as listed
use Rattle.call_graph.specs.declared.edges.CallGraph.{CallGraph}
use Rattle.call_graph.specs.View.{use_of}
use Rattle.call_graph.specs.Uses.{uses, uses_of}
use Rattle.call_graph.specs.Paths.{callees, bare_callees, base_roots, handler_roots, IsPath}
use Rattle.call_graph.specs.Graph.{IsGraph}
use Rattle.call_graph.specs.Least.{least_path, IsOne}
use Rattle.call_graph.proofs.Chains.{path_is_least, no_path, leads_as, bare_is_call, short}
use Rattle.least_paths.specs.declared.ways.Search.{Search}
use Rattle.least_paths.specs.Backward.{turned}
use Rattle.least_paths.specs.Searched.{IsSearch, IsLeastOrNone, IsLeastTo, first_end}
use Rattle.least_paths.proofs.Reading.{at_end}
use Rattle.least_paths.proofs.First.{worse_both, first_in, first_is_least, none_is_one}
use Rattle.race_checker.specs.Computed.{is_marked, is_touching, touches_in, bare_path, async_path}
use Rattle.race_report.specs.Parts as parts
use Rattle.race_report.specs.Firsts.{shared_from}
use Rattle.race_report.specs.Sites.{shared_path}
use Rattle.race_report.specs.Known.{body_uses}

-- ---- where there are none

no_one : (steps : ℕ → List ℕ) (is_end : ℕ → Bool) (roots : List ℕ) (bound : ℕ) → ((path : List ℕ) → IsOne steps is_end roots path → ⊥)
    → least_path steps is_end roots bound ≡ None
no_one steps is_end roots bound none = by_case (least_path steps is_end roots bound) refl
  where
    by_case : (o : Option (List ℕ)) → least_path steps is_end roots bound ≡ o → least_path steps is_end roots bound ≡ None
    by_case None is = is
    by_case (Some path) is = absurd (none path (path_is_least steps is_end roots bound path is).is_one)

within : (p : Program) (x f : ℕ) → touches_in p x f ≡ true → f < length p.bodies
within p x f touched = by_body (slice_get p.bodies f) refl touched
  where
    by_body : (o : Option Body) → slice_get p.bodies f ≡ o → list_any (is_touching p x) (uses_of o) ≡ true → f < length p.bodies
    by_body None is holds = absurd (false≢true holds)
    by_body (Some b) is holds = slice_get_within p.bodies f b is

module _ (p : Program) (g : CallGraph) (graph : IsGraph p g) where
  pub not_bare : (f : ℕ) → f < length p.bodies → parts.is_marked g.bare.items f ≡ false → bare_path p f ≡ None
  not_bare f inside unmarked = no_one (bare_callees p) (λ k. k == f) (base_roots p) (length p.bodies) (λ path one.
      let there : IsPath (base_roots p) (bare_callees p) path f = subst (IsPath (base_roots p) (bare_callees p) path) (eqb-true one.0 f one.2) one.1 in
      false≢true (sym unmarked ∙ graph.bare.complete f inside (path, there)))

-- ---- what is listed for bodies

listed_at : (all : List (List listed.Use)) (f : ℕ) → map use_of (slice_index_or all f []) ≡ slice_index_or (map (map use_of) all) f []
listed_at [] f = refl
listed_at (us ∷ all) zero = refl
listed_at (us ∷ all) (suc f) = listed_at all f

uses_in_body : (bs : List Body) (f : ℕ) → slice_index_or (map body_uses bs) f [] ≡ uses_of (slice_get bs f)
uses_in_body [] f = refl
uses_in_body (b ∷ bs) zero = refl
uses_in_body (b ∷ bs) (suc f) = uses_in_body bs f

pub uses_are : (p : Program) (all : List (List listed.Use)) → map (map use_of) all ≡ map body_uses p.bodies → (f : ℕ) → map use_of (slice_index_or all f []) ≡ uses p f
uses_are p all known f = listed_at all f ∙ ap (λ us. slice_index_or us f []) known ∙ uses_in_body p.bodies f

pub uses_size : (p : Program) (all : List (List listed.Use)) → map (map use_of) all ≡ map body_uses p.bodies → length all ≡ length p.bodies
uses_size p all known = sym (list.length-map all (map use_of)) ∙ ap length known ∙ list.length-map p.bodies body_uses

pub untouched : (p : Program) (x f : ℕ) (all : List (List listed.Use)) → map (map use_of) all ≡ map body_uses p.bodies → length all ≤ f → false ≡ touches_in p x f
untouched p x f all known past = by_case (touches_in p x f) refl
  where
    by_case : (t : Bool) → touches_in p x f ≡ t → false ≡ touches_in p x f
    by_case true is = absurd (omega (arith, within p x f is, past, uses_size p all known))
    by_case false is = sym is

-- ---- least paths are the computed ones

module _ (steps : ℕ → List ℕ) (is_end : ℕ → Bool) (roots : List ℕ) (bound : ℕ) (short : (f : ℕ) (rest : List ℕ) → IsOne steps is_end roots (f ∷ rest) → length rest < bound) where
  not_none : (path : List ℕ) → least_path steps is_end roots bound ≡ None → IsOne steps is_end roots path → ⊥
  not_none [] is one = one.1
  not_none (f ∷ rest) is one = no_path steps is_end roots bound is f rest (short f rest one) one

  pub same_least : (o : Option (List ℕ)) → IsLeastOrNone (IsOne steps is_end roots) o → o ≡ least_path steps is_end roots bound
  same_least o least = by_case (least_path steps is_end roots bound) refl o least
    where
      by_case : (c : Option (List ℕ)) → least_path steps is_end roots bound ≡ c → (o : Option (List ℕ)) → IsLeastOrNone (IsOne steps is_end roots) o → o ≡ c
      by_case None is None least = refl
      by_case None is (Some path) least = absurd (not_none path is least.is_one)
      by_case (Some best) is None least = absurd (least best (path_is_least steps is_end roots bound best is).is_one)
      by_case (Some best) is (Some path) least =
          let first = path_is_least steps is_end roots bound best is in
          ap (λ l. Some l) (worse_both path best (least.least best first.is_one) (first.least path least.is_one))

module _ (p : Program) (ranked : HasNoCycle p) where
  pub bare_is : (s : Search) (f : ℕ) → f < length p.bodies → IsSearch (base_roots p) (bare_callees p) (length p.bodies) s → (o : Option (List ℕ)) → IsLeastTo s f o → o ≡ bare_path p f
  bare_is s f inside h o least =
      same_least (bare_callees p) (λ g. g == f) (base_roots p) (length p.bodies)
      (λ g rest one. short p ranked g one.0 rest (leads_as (bare_callees p) (callees p) (bare_is_call p) g one.0 rest one.1.1) (subst (λ k. k < length p.bodies) (sym (eqb-true one.0 f one.2)) inside))
      o (least (base_roots p) (bare_callees p) (length p.bodies) h inside)

  module _ (s : Search) (x : ℕ) (h : IsSearch (handler_roots p) (callees p) (length p.bodies) s) where
    async_least : (o : Option (List ℕ)) → IsLeastOrNone (IsOne (callees p) (touches_in p x) (handler_roots p)) o → o ≡ async_path p x
    async_least = same_least (callees p) (touches_in p x) (handler_roots p) (length p.bodies) (λ g rest one. short p ranked g one.0 rest one.1.1 (within p x one.0 one.2))

    pub async_none : first_end (touches_in p x) s.order.items ≡ None → None ≡ async_path p x
    async_none is = async_least None (none_is_one s (handler_roots p) (callees p) (length p.bodies) h (touches_in p x) (within p x) is)

    pub async_is : (f : ℕ) → first_end (touches_in p x) s.order.items ≡ Some f → (o : Option (List ℕ)) → IsLeastTo s f o → o ≡ async_path p x
    async_is f is (Some v) least = async_least (Some v) (first_is_least s (handler_roots p) (callees p) (length p.bodies) h (touches_in p x) (within p x) f is v least)
    async_is f is None least =
        let first = first_in (touches_in p x) h.paths f h.rising (ap (first_end (touches_in p x)) h.order ∙ is) in
        absurd (least (handler_roots p) (callees p) (length p.bodies) h (within p x f first.passes) (turned first.path [])
        (f, at_end s (handler_roots p) (callees p) (length p.bodies) h f first.path first.at (h.back first.path first.there), grind (arith, nat_tests)))

-- ---- objects that handlers share

module _ (p : Program) (ranked : HasNoCycle p) (s : Search) (x : ℕ) (h : IsSearch (handler_roots p) (callees p) (length p.bodies) s) where
  pub shared_is : (f : ℕ) → shared_from p s.order.items x ≡ Some f → (o : Option (List ℕ)) → IsLeastTo s f o → o ≡ shared_path p x
  shared_is f is o least = by_mark (is_marked (slice_get p.objects x)) is
    where
      by_mark : (m : Bool) → (if m then None else first_end (touches_in p x) s.order.items) ≡ Some f → o ≡ (if m then None else async_path p x)
      by_mark true is = absurd (none-some f is)
      by_mark false is = async_is p ranked s x h f is o least

  pub unshared : shared_from p s.order.items x ≡ None → None ≡ shared_path p x
  unshared is = by_mark (is_marked (slice_get p.objects x)) is
    where
      by_mark : (m : Bool) → (if m then None else first_end (touches_in p x) s.order.items) ≡ None → None ≡ (if m then None else async_path p x)
      by_mark true is = refl
      by_mark false is = async_none p ranked s x h is
