-- The least chain from a handler to a command or event without `async`.
use Rattle.std.proofs.Common.{◌≡◌, ℕ, zero, suc, ◌<◌, ◌==◌, Bool, true, false, List, [], ◌∷◌, length, map, Option, Some, None, refl, sym, subst, ap, arith, ◌∙◌, eqb-true}
use Rattle.std.specs.Prelude.{slice_get, option_map}
use Rattle.std.specs.List.{list_any}
use Rattle.std.proofs.lemmas.Bool.{false≢true}
use Rattle.std.proofs.lemmas.Bool.Decides.{nat_tests}
use Rattle.std.proofs.lemmas.Option.{slice_get_within}
use Rattle.nesc_core.specs.Plain.{Body, Program}
use Rattle.nesc_core.specs.Calls.{HasNoCycle}
use Rattle.call_graph.specs.Paths.{IsIn, callees, handler_roots, Leads, IsPath, IsLeast}
use Rattle.call_graph.specs.Least.{least_path, IsOne}
use Rattle.call_graph.specs.Graph.{row_at, IsMarked, IsReached, AreReached}
use Rattle.call_graph.specs.Search.{is_end_in}
use Rattle.call_graph.specs.Shortest.{best_of, chain_from, chain_if}
use Rattle.call_graph.specs.Refusals.{is_sync, is_sync_body, IsSyncPath, last_place}
use Rattle.call_graph.proofs.Lists.{any_found, found_any}
use Rattle.call_graph.proofs.Chains.{path_is_least, no_path, short}
use Rattle.call_graph.proofs.Best.{IsChainFrom, IsAnswer, answer}
use Rattle.call_graph.proofs.Refusing.{cons_no_worse, place_exists}

ends_are : (bs : List Body) (g : ℕ) → is_end_in (map is_sync_body bs) g ≡ is_sync (slice_get bs g)
ends_are [] g = refl
ends_are (b ∷ bs) zero = refl
ends_are (b ∷ bs) (suc g) = ends_are bs g

module _ (p : Program) where
  abbrev SyncBy : (steps : ℕ → List ℕ) → List ℕ → Type 0
  SyncBy steps [] = ⊥
  SyncBy steps (f ∷ rest) = IsIn f (handler_roots p) × (g : ℕ) × IsPath (steps f) steps rest g × (is_sync (slice_get p.bodies g) ≡ true)

  as_by : (path : List ℕ) → IsSyncPath p path → SyncBy (callees p) path
  as_by [] is = is
  as_by (f ∷ rest) is = is

  by_as : (path : List ℕ) → SyncBy (callees p) path → IsSyncPath p path
  by_as [] is = is
  by_as (f ∷ rest) is = is

  sync_inside : (g : ℕ) (o : Option Body) → slice_get p.bodies g ≡ o → is_sync o ≡ true → g < length p.bodies
  sync_inside g None is sync = absurd (false≢true sync)
  sync_inside g (Some b) is sync = slice_get_within p.bodies g b is

  module _ (table : List (List ℕ)) (is_table : row_at table ≡ callees p) (size : length table ≡ length p.bodies) (ranked : HasNoCycle p)
      (handlers : List ℕ) (are_handlers : handlers ≡ handler_roots p) (syncs : List Bool) (are_syncs : syncs ≡ map is_sync_body p.bodies) where
    ends : (g : ℕ) → is_end_in syncs g ≡ is_sync (slice_get p.bodies g)
    ends g = ap (λ xs. is_end_in xs g) are_syncs ∙ ends_are p.bodies g

    abbrev Sync : List ℕ → Type 0
    Sync path = SyncBy (row_at table) path

    one_of : (f : ℕ) (rest : List ℕ) → Sync (f ∷ rest) → IsOne (row_at table) (is_end_in syncs) (row_at table f) rest
    one_of f rest is = (is.1, is.2, ends is.1 ∙ is.3)

    of_one : (f : ℕ) (rest : List ℕ) → IsIn f (handler_roots p) → IsOne (row_at table) (is_end_in syncs) (row_at table f) rest → Sync (f ∷ rest)
    of_one f rest root one = (root, one.0, one.1, sym (ends one.0) ∙ one.2)

    few : (f : ℕ) (g : ℕ) (rest : List ℕ) → Sync (f ∷ g ∷ rest) → length rest < length table
    few f g rest is =
        let inside = sync_inside is.1 (slice_get p.bodies is.1) refl is.3 in
        omega (arith, short p ranked g is.1 rest (subst (λ steps. Leads steps g rest is.1) is_table is.2.1) inside, size)

    none_there : (f : ℕ) (rest : List ℕ) → least_path (row_at table) (is_end_in syncs) (row_at table f) (length table) ≡ None → Sync (f ∷ rest) → ⊥
    none_there f [] is sync = sync.2
    none_there f (g ∷ rest) is sync = no_path (row_at table) (is_end_in syncs) (row_at table f) (length table) is g rest (few f g rest sync) (one_of f (g ∷ rest) sync)

    from_root : (f : ℕ) → IsIn f (handler_roots p) → (o : Option (List ℕ)) → least_path (row_at table) (is_end_in syncs) (row_at table f) (length table) ≡ o
        → IsChainFrom Sync Sync f (option_map (λ rest. f ∷ rest) o)
    from_root f root None is = λ rest sync. none_there f rest is sync
    from_root f root (Some rest) is =
        let least = path_is_least (row_at table) (is_end_in syncs) (row_at table f) (length table) rest is in
        record {
          rest = rest;
          is = refl;
          one = of_one f rest root least.is_one;
          least = λ other sync. cons_no_worse table f rest other (least.least other (one_of f other sync));
        }

    is_root : (f : ℕ) → list_any (λ h. h == f) handlers ≡ true → IsIn f (handler_roots p)
    is_root f is =
        let h = any_found (λ h. h == f) handlers is in
        let e : h.it ≡ f = eqb-true h.it f h.fact in
        subst (IsIn f) are_handlers (subst (λ x. IsIn x handlers) e h.there)

    no_root : (f : ℕ) → list_any (λ h. h == f) handlers ≡ false → IsIn f (handler_roots p) → ⊥
    no_root f none there = false≢true (sym none ∙ found_any (λ h. h == f) f handlers (subst (IsIn f) (sym are_handlers) there) (grind (arith, nat_tests)))

    from_each : (f : ℕ) (t : Bool) → list_any (λ h. h == f) handlers ≡ t → IsChainFrom Sync Sync f (chain_if t (chain_from table (is_end_in syncs) f))
    from_each f true is = from_root f (is_root f is) (least_path (row_at table) (is_end_in syncs) (row_at table f) (length table)) refl
    from_each f false is = λ rest sync. no_root f is sync.0

    abbrev chain : ℕ → Option (List ℕ)
    chain f = chain_if (list_any (λ h. h == f) handlers) (chain_from table (is_end_in syncs) f)

    begins_inside : (xs : List (List ℕ)) (f : ℕ) (rest : List ℕ) (g : ℕ) → IsPath (row_at xs f) (row_at table) rest g → f < length xs
    begins_inside xs f [] g is = absurd is
    begins_inside [] f (h ∷ rest) g is = absurd is.0
    begins_inside (x ∷ xs) zero (h ∷ rest) g is = omega arith
    begins_inside (x ∷ xs) (suc f) (h ∷ rest) g is = omega (arith, begins_inside xs f (h ∷ rest) g is)

    found : IsAnswer Sync Sync chain (λ f. from_each f (list_any (λ h. h == f) handlers) refl) (best_of chain (length table))
    found = answer Sync Sync chain (λ f. from_each f (list_any (λ h. h == f) handlers) refl) (length table) (λ none. none) (λ f rest sync. begins_inside table f rest sync.1 sync.2)

    to_table : (path : List ℕ) → IsSyncPath p path → Sync path
    to_table path is = subst (λ steps. SyncBy steps path) (sym is_table) (as_by path is)

    from_table : (path : List ℕ) → Sync path → IsSyncPath p path
    from_table path is = by_as path (subst (λ steps. SyncBy steps path) is_table is)

    pub none_found : (o : Option (List ℕ)) → o ≡ best_of chain (length table) → o ≡ None → (path : List ℕ) → IsSyncPath p path → ⊥
    none_found o is none path sync = at (best_of chain (length table)) (sym is ∙ none) found
      where
        at : (b : Option (List ℕ)) → b ≡ None → IsAnswer Sync Sync chain (λ f. from_each f (list_any (λ h. h == f) handlers) refl) b → ⊥
        at b e ans = subst (IsAnswer Sync Sync chain (λ f. from_each f (list_any (λ h. h == f) handlers) refl)) e ans path (to_table path sync)

    pub least_found : (o : Option (List ℕ)) (path : List ℕ) → o ≡ best_of chain (length table) → o ≡ Some path → IsLeast (IsSyncPath p) path
    least_found o path is some =
        let best = subst (IsAnswer Sync Sync chain (λ f. from_each f (list_any (λ h. h == f) handlers) refl)) (sym is ∙ some) found in
        record { is_one = from_table path best.0; least = λ other sync. best.1 other (to_table other sync) }

    -- what is reached has no mark of both kinds
    none_marked : (is_async : List Bool) → AreReached (length table) handlers (row_at table) is_async → ((f : ℕ) → IsMarked syncs f → IsMarked is_async f → ⊥)
        → (path : List ℕ) → Sync path → ⊥
    none_marked is_async reached apart [] sync = sync
    none_marked is_async reached apart (f ∷ []) sync = sync.2
    none_marked is_async reached apart (f ∷ g ∷ rest) sync =
        let inside = sync_inside sync.1 (slice_get p.bodies sync.1) refl sync.3 in
        let chain_is : IsReached handlers (row_at table) sync.1 =
        (f ∷ g ∷ rest, (subst (IsIn f) (sym are_handlers) sync.0, sync.2)) in
        apart sync.1 (ends sync.1 ∙ sync.3) (reached.complete sync.1 (omega (arith, inside, size)) chain_is)

    pub no_sync : (is_async : List Bool) → AreReached (length table) handlers (row_at table) is_async → ((f : ℕ) → IsMarked syncs f → IsMarked is_async f → ⊥)
        → (path : List ℕ) → IsSyncPath p path → ⊥
    no_sync is_async reached apart path sync = none_marked is_async reached apart path (to_table path sync)

-- such a chain has a last call
pub sync_place : (p : Program) (path : List ℕ) → IsSyncPath p path → last_place p path ≡ None → ⊥
sync_place p [] sync none = sync
sync_place p (f ∷ []) sync none = sync.2
sync_place p (f ∷ g ∷ rest) sync none = place_exists p f g sync.1 rest sync.2.0 sync.2.1 none
