-- The computed list is the report.
use Rattle.std.proofs.Common.{◌≡◌, ℕ, ◌+◌, ◌<◌, ◌≤◌, ◌==◌, Bool, true, false, if◌then◌else◌, inl, inr, List, [], ◌∷◌, ◌++◌, length, Option, Some, None, refl, sym, subst, ap, arith, ◌∙◌, eqb-true}
use Rattle.std.specs.Prelude.{slice_get}
use Rattle.std.specs.List.{list_any, flat_map}
use Rattle.std.proofs.lemmas.Bool.{false≢true}
use Rattle.std.proofs.lemmas.Bool.Decides.{nat_tests}
use Rattle.std.proofs.lemmas.Option.{slice_get_within}
use Rattle.nm_base.specs.declared.pos.Pos.{Pos}
use Rattle.nesc_core.specs.Plain.{Program, Object, Body}
use Rattle.nesc_core.specs.Calls.{HasNoCycle}
use Rattle.call_graph.specs.Uses.{Use, Access, Calls, uses, uses_of}
use Rattle.call_graph.specs.Paths.{IsIn, below, callees, bare_callees, base_roots, handler_roots, Leads, IsBarePath, IsLeast}
use Rattle.call_graph.specs.Least.{least_path, IsOne}
use Rattle.race_checker.specs.declared.row.Row.{Row}
use Rattle.race_checker.specs.Report.{touches, TouchesIn, TouchesBare, IsShared, IsAsyncPath, IsRow, HasRow}
use Rattle.race_checker.specs.Computed.{is_touching, touches_in, bare_path, async_path, row_of, rows_in, is_marked, rows_for, report_of}
use Rattle.call_graph.proofs.Lists.{Found, any_found, found_any, flat_found, in_flat, in_below}
use Rattle.call_graph.proofs.Chains.{leads_as, least_as, path_is_least, no_path, bare_is_call, short}

-- ---- what the paths are

touching : (p : Program) (x f : ℕ) (u : Use) → IsIn u (uses p f) → is_touching p x u ≡ true → TouchesIn p x f
touching p x f (Access n i place pos) there is = record { node = n; is_inside = i; place = place; pos = pos; site = there; touched = is }
touching p x f (Calls n i g pos) there is = absurd (false≢true is)

module _ (p : Program) where
  bare_one : (f : ℕ) (path : List ℕ) → IsOne (bare_callees p) (λ g. g == f) (base_roots p) path → IsBarePath p path f
  bare_one f path one = subst (IsBarePath p path) (eqb-true one.0 f one.2) one.1

  bare_back : (f : ℕ) (path : List ℕ) → IsBarePath p path f → IsOne (bare_callees p) (λ g. g == f) (base_roots p) path
  bare_back f path h = (f, h, grind (arith, nat_tests))

  async_one : (x : ℕ) (path : List ℕ) → IsOne (callees p) (touches_in p x) (handler_roots p) path → IsAsyncPath p x path
  async_one x path one = let u = any_found (is_touching p x) (uses p one.0) one.2 in (one.0, one.1, touching p x one.0 u.it u.there u.fact)

  async_back : (x : ℕ) (path : List ℕ) → IsAsyncPath p x path → IsOne (callees p) (touches_in p x) (handler_roots p) path
  async_back x path h = (h.0, h.1, found_any (is_touching p x) (Access h.2.node h.2.is_inside h.2.place h.2.pos) (uses p h.0) h.2.site h.2.touched)

  -- ---- each row is one

  module _ (r : Row) where
    of_site : (x f : ℕ) (path other : List ℕ) → IsShared p x → IsLeast (λ path. IsBarePath p path f) path → IsLeast (IsAsyncPath p x) other
        → (u : Use) → IsIn u (uses p f) → IsIn r (row_of p x f path other u) → IsRow p r
    of_site x f path other shared bare async (Calls n i g pos) there h = absurd h
    of_site x f path other shared bare async (Access n true place pos) there h = absurd h
    of_site x f path other shared bare async (Access n false place pos) there h = by_touch (touches p place x) refl h
      where
        by_touch : (t : Bool) → touches p place x ≡ t
            → IsIn r (if t then record { object = x; body = f; node = n; pos = pos; path = path; async_path = other } ∷ [] else []) → IsRow p r
        by_touch true is (inl same) = subst (IsRow p) (sym same) (record {
          shared = shared;
          touching = record { place = place; site = there; touched = is };
          path = bare;
          async_path = async;
        })
        by_touch true is (inr none) = absurd none
        by_touch false is none = absurd none

    of_body : (x f : ℕ) (other : List ℕ) → IsShared p x → IsLeast (IsAsyncPath p x) other → (o : Option (List ℕ)) → bare_path p f ≡ o → IsIn r (rows_in p x f other o) → IsRow p r
    of_body x f other shared async None is h = absurd h
    of_body x f other shared async (Some path) is h =
        let u = flat_found (row_of p x f path other) r (uses p f) h in
        let bare = least_as _ (λ path. IsBarePath p path f) (bare_one f) (bare_back f) path (path_is_least (bare_callees p) (λ g. g == f) (base_roots p) (length p.bodies) path is) in
        of_site x f path other shared bare async u.it u.there u.fact

    of_object : (x : ℕ) (o : Object) → slice_get p.objects x ≡ Some o → (m : Bool) → o.norace ≡ m → (a : Option (List ℕ)) → async_path p x ≡ a → IsIn r (rows_for p x m a) → IsRow p r
    of_object x o is true mark a found h = absurd h
    of_object x o is false mark None found h = absurd h
    of_object x o is false mark (Some other) found h =
        let async = least_as _ (IsAsyncPath p x) (async_one x) (async_back x) other (path_is_least (callees p) (touches_in p x) (handler_roots p) (length p.bodies) other found) in
        let shared : IsShared p x = record {
          object = o;
          is = is;
          unmarked = mark;
          body = async.is_one.0;
          path = other;
          reached = async.is_one.1;
          touching = async.is_one.2;
        } in
        let f = flat_found (λ f. rows_in p x f other (bare_path p f)) r (below (length p.bodies)) h in
        of_body x f.it other shared async (bare_path p f.it) refl f.fact

    of_place : (x : ℕ) (o : Option Object) → slice_get p.objects x ≡ o → IsIn r (rows_for p x (is_marked o) (async_path p x)) → IsRow p r
    of_place x None is h = absurd h
    of_place x (Some o) is h = of_object x o is o.norace refl (async_path p x) refl h

    pub is_row : IsIn r (report_of p) → IsRow p r
    is_row h = let x = flat_found (λ x. rows_for p x (is_marked (slice_get p.objects x)) (async_path p x)) r (below (length p.objects)) h in of_place x.it (slice_get p.objects x.it) refl x.fact

-- ---- each pair of a shared object and a bare site has a row

has_row : (x f node : ℕ) (rows : List Row) (s : Row) → IsIn s rows → (s.object ≡ x) × (s.body ≡ f) × (s.node ≡ node) → HasRow rows x f node
has_row x f node [] s there h = there
has_row x f node (r ∷ rows) s (inl same) h = inl (subst (λ (q : Row). (q.object ≡ x) × (q.body ≡ f) × (q.node ≡ node)) same h)
has_row x f node (r ∷ rows) s (inr there) h = inr (has_row x f node rows s there h)

-- a body with an access is one of the program's
is_body : (p : Program) (f : ℕ) (u : Use) → (o : Option Body) → slice_get p.bodies f ≡ o → IsIn u (uses_of o) → f < length p.bodies
is_body p f u None is there = absurd there
is_body p f u (Some b) is there = slice_get_within p.bodies f b is

module _ (p : Program) (ranked : HasNoCycle p) where
  bare_is_found : (f : ℕ) (path : List ℕ) → f < length p.bodies → IsBarePath p path f → bare_path p f ≡ None → ⊥
  bare_is_found f [] inside h is = h
  bare_is_found f (g ∷ rest) inside h is =
      no_path (bare_callees p) (λ k. k == f) (base_roots p) (length p.bodies) is g rest
      (short p ranked g f rest (leads_as (bare_callees p) (callees p) (bare_is_call p) g f rest h.1) inside) (bare_back p f (g ∷ rest) h)

  async_is_found : (x : ℕ) (path : List ℕ) → IsAsyncPath p x path → async_path p x ≡ None → ⊥
  async_is_found x [] h is = h.1
  async_is_found x (g ∷ rest) h is =
      no_path (callees p) (touches_in p x) (handler_roots p) (length p.bodies) is g rest
      (short p ranked g h.0 rest h.1.1 (is_body p h.0 (Access h.2.node h.2.is_inside h.2.place h.2.pos) (slice_get p.bodies h.0) refl h.2.site))
      (async_back p x (g ∷ rest) h)

  module _ (x f node : ℕ) (pos : Pos) (shared : IsShared p x) (bare : TouchesBare p x f node pos) (path : List ℕ) (is_path : IsBarePath p path f) where
    abbrev Ours : Row → Type 0
    Ours r = (r.object ≡ x) × (r.body ≡ f) × (r.node ≡ node)

    wider : {A : Type 0} (g : A → List Row) (y : A) (ys : List A) → IsIn y ys → Found Ours (g y) → Found Ours (flat_map g ys)
    wider g y ys there found = record { it = found.it; there = in_flat g y found.it ys there found.there; fact = found.fact }

    the_row : (path other : List ℕ) (t : Bool) → t ≡ true
        → Found Ours (if t then record { object = x; body = f; node = node; pos = pos; path = path; async_path = other } ∷ [] else [])
    the_row path other true is = record { it = record { object = x; body = f; node = node; pos = pos; path = path; async_path = other }; there = inl refl; fact = (refl, refl, refl) }
    the_row path other false is = absurd (false≢true is)

    in_body : (other : List ℕ) (o : Option (List ℕ)) → bare_path p f ≡ o → Found Ours (rows_in p x f other o)
    in_body other None is = absurd (bare_is_found f path (is_body p f (Access node false bare.place pos) (slice_get p.bodies f) refl bare.site) is_path is)
    in_body other (Some least) is = wider (row_of p x f least other) (Access node false bare.place pos) (uses p f) bare.site (the_row least other (touches p bare.place x) bare.touched)

    inside : f < length p.bodies
    inside = is_body p f (Access node false bare.place pos) (slice_get p.bodies f) refl bare.site

    in_object : (m : Bool) → m ≡ false → (a : Option (List ℕ)) → async_path p x ≡ a → Found Ours (rows_for p x m a)
    in_object true is a found = absurd (false≢true (sym is))
    in_object false is None found = absurd (async_is_found x shared.path (shared.body, shared.reached, shared.touching) found)
    in_object false is (Some other) found =
        wider (λ f. rows_in p x f other (bare_path p f)) f (below (length p.bodies)) (in_below f (length p.bodies) inside) (in_body other (bare_path p f) refl)

    pub has_it : HasRow (report_of p) x f node
    has_it =
        let found : Found Ours (report_of p) = wider (λ x. rows_for p x (is_marked (slice_get p.objects x)) (async_path p x)) x (below (length p.objects))
        (in_below x (length p.objects) (slice_get_within p.objects x shared.object shared.is))
        (in_object (is_marked (slice_get p.objects x)) (ap is_marked shared.is ∙ shared.unmarked) (async_path p x) refl) in
        has_row x f node (report_of p) found.it found.there found.fact
