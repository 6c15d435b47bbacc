-- Rows as they grow, site by site.
use Rattle.std.proofs.Common.{◌≡◌, ℕ, ◌+◌, ◌<◌, ◌≤◌, ◌==◌, Bool, true, false, if◌then◌else◌, List, [], ◌∷◌, ◌++◌, length, map, drop, get_or, flat_map, Option, Some, None, Bor, refl, sym, subst, ap, arith, ◌∙◌, append-nil, append_assoc, eqb-true}
use Rattle.std.specs.Prelude.{not, slice_get}
use Rattle.std.proofs.Math.ListN.{drop_of_length-le}
use Rattle.std.proofs.lemmas.Grind.{flat_map-append}
use Rattle.std.proofs.lemmas.List.{length-append}
use Rattle.std.proofs.lemmas.List.Elements.{filter-append}
use Rattle.nm_base.specs.declared.pos.Pos.{Pos}
use Rattle.nesc_core.specs.declared.tree.Place as listed_place
use Rattle.nesc_core.specs.Plain.{Program}
use Rattle.nesc_core.specs.View.{place_of}
use Rattle.call_graph.specs.declared.uses.Use as listed
use Rattle.call_graph.specs.declared.uses.Use.TheVariants as listed_
use Rattle.call_graph.specs.View.{use_of}
use Rattle.call_graph.specs.Uses.{Use, Access, Calls, uses}
use Rattle.call_graph.specs.Paths.{below}
use Rattle.call_graph.proofs.Searching.{below_next}
use Rattle.call_graph.proofs.ViewLists.{next_of}
use Rattle.race_checker.specs.declared.row.Row.{Row}
use Rattle.race_checker.specs.Report.{touches}
use Rattle.race_checker.specs.Computed.{async_path, bare_path, is_marked, row_of, rows_in, rows_for}
use Rattle.race_report.specs.declared.roots.Root.{Root}
use Rattle.race_report.specs.declared.roots.Root.TheVariants as root_
use Rattle.race_report.specs.declared.rows.Gathered.{Gathered}
use Rattle.race_report.specs.declared.rows.Site.{Site}
use Rattle.race_report.specs.Kinds.{AreKinds}
use Rattle.race_report.specs.Sites.{shared_path, row_at, rows_at, site_rows, use_rows, body_rows, object_rows, only, Grows, Gathers}
use Rattle.race_report.specs.Starts.{start, start_of, may_be}
use Rattle.race_report.proofs.FirstLemmas.{start_touches}
use Rattle.race_report.proofs.Passing.{drop_next, flat_none, flat_same}

pub not_true : (b : Bool) → not b ≡ true → b ≡ false
not_true true h = sym h
not_true false h = refl

-- ---- a list that grows

pub grows_none : (rows : List Row) → Grows (λ x. []) rows rows
grows_none rows = record {
  longer = omega arith;
  no_more = λ x. omega arith;
  these = λ few x. sym (append-nil (only x rows));
}

pub grows_then : (one two : ℕ → List Row) (a b c : List Row) → Grows one a b → Grows two b c → Grows (λ x. one x ++ two x) a c
grows_then one two a b c g h = record {
  longer = omega (arith, g.longer, h.longer);
  no_more = λ x. omega (arith, g.no_more x, h.no_more x, length-append (one x) (two x));
  these = λ few x.
      h.these few x ∙ ap (λ rows. rows ++ two x) (g.these (omega (arith, few, h.longer)) x) ∙ append_assoc (only x a) (one x) (two x);
}

pub grows_as : (one two : ℕ → List Row) (a b : List Row) → ((x : ℕ) → one x ≡ two x) → Grows one a b → Grows two a b
grows_as one two a b same g = record {
  longer = g.longer;
  no_more = λ x. omega (arith, g.no_more x, ap length (same x));
  these = λ few x. g.these few x ∙ ap (λ rows. only x a ++ rows) (same x);
}

-- past the limit nothing more is wanted
pub grows_full : (part : ℕ → List Row) (rows : List Row) → 10000 < length rows → Grows part rows rows
grows_full part rows full = record {
  longer = omega arith;
  no_more = λ x. omega arith;
  these = λ few x. absurd (omega (arith, full, few));
}

pub grows_one : (rows : List Row) (r : Row) → Grows (λ x. if r.object == x then r ∷ [] else []) rows (rows ++ r ∷ [])
grows_one rows r = record {
  longer = omega (arith, length-append rows (r ∷ []));
  no_more = λ x. omega (arith, ap length (more x), length-append (only x rows) (if r.object == x then r ∷ [] else []));
  these = λ few x. more x;
}
  where
    more : (x : ℕ) → only x (rows ++ r ∷ []) ≡ only x rows ++ (if r.object == x then r ∷ [] else [])
    more x = filter-append (λ (q : Row). q.object == x) rows (r ∷ [])

module _ (p : Program) where
  -- ---- one object

  -- where a path is missing there is no row
  pub no_row : (x : ℕ) (site : Site) (rows : List Row) → site_rows p site x ≡ [] → Grows (λ y. if x == y then site_rows p site x else []) rows rows
  no_row x site rows none = grows_as (λ y. []) (λ y. if x == y then site_rows p site x else []) rows rows (λ y. by_test (x == y)) (grows_none rows)
    where
      by_test : (b : Bool) → [] ≡ (if b then site_rows p site x else [])
      by_test true = sym none
      by_test false = refl

  pub no_other : (x : ℕ) (site : Site) → None ≡ shared_path p x → site_rows p site x ≡ []
  no_other x site is = ap (λ o. rows_at x site o (bare_path p site.body)) (sym is)

  pub no_path : (x : ℕ) (site : Site) → None ≡ bare_path p site.body → site_rows p site x ≡ []
  no_path x site is = ap (rows_at x site (shared_path p x)) (sym is) ∙ by_case (shared_path p x)
    where
      by_case : (o : Option (List ℕ)) → rows_at x site o None ≡ []
      by_case None = refl
      by_case (Some other) = refl

  pub one_row : (x : ℕ) (site : Site) (other path : List ℕ) (rows : List Row) → Some other ≡ shared_path p x → Some path ≡ bare_path p site.body
      → Grows (λ y. if x == y then site_rows p site x else []) rows (rows ++ row_at x site other path ∷ [])
  one_row x site other path rows shared bare =
      grows_as (λ y. if x == y then row_at x site other path ∷ [] else []) (λ y. if x == y then site_rows p site x else []) rows (rows ++ row_at x site other path ∷ [])
      (λ y. ap (λ (rs : List Row). if x == y then rs else []) (ap (λ o. rows_at x site o (Some path)) shared ∙ ap (rows_at x site (shared_path p x)) bare))
      (grows_one rows (row_at x site other path))

  -- ---- one object after the other

  abbrev pub parts_of : Site → List ℕ → ℕ → List Row
  parts_of site xs y = flat_map (λ x. if x == y then site_rows p site x else []) xs

  pub objects_next : (site : Site) (xs : List ℕ) (k d : ℕ) (a b c : List Row) → k < length xs
      → Grows (λ y. if get_or xs k d == y then site_rows p site (get_or xs k d) else []) a b → Grows (parts_of site (drop (k + 1) xs)) b c → Grows (parts_of site (drop k xs)) a c
  objects_next site xs k d a b c below one rest =
      subst (λ ys. Grows (parts_of site ys) a c) (sym (drop_next xs k d below))
      (grows_then (λ y. if get_or xs k d == y then site_rows p site (get_or xs k d) else []) (parts_of site (drop (k + 1) xs)) a b c one rest)

  pub objects_end : (site : Site) (xs : List ℕ) (k : ℕ) (rows : List Row) → length xs ≤ k → Grows (parts_of site (drop k xs)) rows rows
  objects_end site xs k rows past = subst (λ ys. Grows (parts_of site ys) rows rows) (sym (drop_of_length-le xs past)) (grows_none rows)

  -- ---- with the kinds

  module _ (order : List ℕ) where
    pub gathers_none : (g : Gathered) → Gathers p order (λ x. []) g g
    gathers_none g = record { from = λ kinds. record { kinds = kinds; rows = grows_none g.rows.items } }

    pub gathers_then : (one two : ℕ → List Row) (a b c : Gathered) → Gathers p order one a b → Gathers p order two b c → Gathers p order (λ x. one x ++ two x) a c
    gathers_then one two a b c g h = record {
      from = λ kinds.
          let first = g.from kinds in
          let second = h.from first.kinds in
          record { kinds = second.kinds; rows = grows_then one two a.rows.items b.rows.items c.rows.items first.rows second.rows };
    }

    pub gathers_as : (one two : ℕ → List Row) (a b : Gathered) → ((x : ℕ) → one x ≡ two x) → Gathers p order one a b → Gathers p order two a b
    gathers_as one two a b same g = record {
      from = λ kinds. record { kinds = (g.from kinds).kinds; rows = grows_as one two a.rows.items b.rows.items same (g.from kinds).rows };
    }

    pub gathers_full : (part : ℕ → List Row) (g : Gathered) → 10000 < length g.rows.items → Gathers p order part g g
    gathers_full part g full = record { from = λ kinds. record { kinds = kinds; rows = grows_full part g.rows.items full } }

    -- the kinds stay
    pub gathers_rows : (part : ℕ → List Row) (a b : Gathered) → a.kinds.items ≡ b.kinds.items → Grows part a.rows.items b.rows.items → Gathers p order part a b
    gathers_rows part a b same g = record { from = λ kinds. record { kinds = subst (AreKinds p order) same kinds; rows = g } }

    -- ---- an access

    abbrev pub root_rows : Site → Root → ℕ → List Row
    root_rows site root y = if may_be p (start_of root) y then site_rows p site y else []

    pub gathers_root : (site : Site) (root r : Root) (a b : Gathered) → root ≡ r → Gathers p order (root_rows site r) a b → Gathers p order (root_rows site root) a b
    gathers_root site root r a b is h = subst (λ q. Gathers p order (root_rows site q) a b) (sym is) h

    -- an object alone
    pub one_object : (site : Site) (x : ℕ) (y : ℕ) → (if x == y then site_rows p site x else []) ≡ root_rows site (root_.Object x) y
    one_object site x y = by_test (x == y) refl
      where
        by_test : (b : Bool) → (x == y) ≡ b → (if b then site_rows p site x else []) ≡ (if b then site_rows p site y else [])
        by_test true is = ap (site_rows p site) (eqb-true x y is)
        by_test false is = refl

    pub gathers_access : (f : ℕ) (u : listed.Use) (n : ℕ) (i : Bool) (place : Bor listed_place.Place) (pos : Pos) (root : Root) (a b : Gathered) → u ≡ listed_.Access n i place pos → i ≡ false
        → start_of root ≡ start (place_of place.now) → Gathers p order (root_rows (record { body = f; node = n; pos = pos }) root) a b → Gathers p order (use_rows p f (use_of u)) a b
    gathers_access f u n i place pos root a b is bare same =
        gathers_as (root_rows (record { body = f; node = n; pos = pos }) root) (use_rows p f (use_of u)) a b
        (λ x. ap (λ c. if c then site_rows p (record { body = f; node = n; pos = pos }) x else []) (ap (λ s. may_be p s x) same ∙ start_touches p (place_of place.now) x)
        ∙ sym (ap (λ v. use_rows p f (use_of v) x) (is ∙ ap (λ j. listed_.Access n j place pos) bare)))

    -- no rows of a call, and of an access in an atomic statement
    pub gathers_call : (f : ℕ) (u : listed.Use) (n : ℕ) (i : Bool) (callee : ℕ) (pos : Pos) (g : Gathered) → u ≡ listed_.Call n i callee pos → Gathers p order (use_rows p f (use_of u)) g g
    gathers_call f u n i callee pos g is = gathers_as (λ x. []) (use_rows p f (use_of u)) g g (λ x. sym (ap (λ v. use_rows p f (use_of v) x) is)) (gathers_none g)

    pub gathers_inside : (f : ℕ) (u : listed.Use) (n : ℕ) (i : Bool) (place : Bor listed_place.Place) (pos : Pos) (g : Gathered) → u ≡ listed_.Access n i place pos → i ≡ true
        → Gathers p order (use_rows p f (use_of u)) g g
    gathers_inside f u n i place pos g is inside =
        gathers_as (λ x. []) (use_rows p f (use_of u)) g g (λ x. sym (ap (λ v. use_rows p f (use_of v) x) (is ∙ ap (λ j. listed_.Access n j place pos) inside))) (gathers_none g)

    -- ---- one access after the other

    abbrev pub GathersRest : (f : ℕ) → List listed.Use → (old new : Gathered) → Type 0
    GathersRest f us old new = Gathers p order (λ y. flat_map (λ u. use_rows p f u y) (map use_of us)) old new

    pub uses_next : (f : ℕ) (xs : List listed.Use) (k : ℕ) (u : listed.Use) (a b c : Gathered) → k < length xs → u ≡ get_or xs k u → Gathers p order (use_rows p f (use_of u)) a b
        → GathersRest f (drop (k + 1) xs) b c → GathersRest f (drop k xs) a c
    uses_next f xs k u a b c below is one rest =
        subst (λ us. GathersRest f us a c) (sym (next_of xs k u below is))
        (gathers_then (use_rows p f (use_of u)) (λ y. flat_map (λ u. use_rows p f u y) (map use_of (drop (k + 1) xs))) a b c one rest)

    pub uses_end : (f : ℕ) (xs : List listed.Use) (k : ℕ) (g : Gathered) → length xs ≤ k → GathersRest f (drop k xs) g g
    uses_end f xs k g past = subst (λ us. GathersRest f us g g) (sym (drop_of_length-le xs past)) (gathers_none g)

    -- ---- one body after the other

    pub record HasBelow (f : ℕ) (g : Gathered) : Type 0 where
      pub kinds : AreKinds p order g.kinds.items
      pub rows : Grows (λ y. flat_map (λ f. body_rows p f y) (below f)) [] g.rows.items

    pub below_start : (g : Gathered) → g.rows.items ≡ [] → g.kinds.items ≡ [] → HasBelow 0 g
    below_start g none nothing = record {
      kinds = subst (AreKinds p order) (sym nothing) tt;
      rows = subst (Grows (λ y. []) []) (sym none) (grows_none []);
    }

    pub below_more : (f : ℕ) (a b : Gathered) → HasBelow f a → Gathers p order (body_rows p f) a b → HasBelow (f + 1) b
    below_more f a b so_far step =
        let h = step.from so_far.kinds in
        record {
          kinds = h.kinds;
          rows = grows_as (λ y. flat_map (λ f. body_rows p f y) (below f) ++ body_rows p f y) (λ y. flat_map (λ f. body_rows p f y) (below (f + 1))) [] b.rows.items
              (λ y. sym (ap (flat_map (λ f. body_rows p f y)) (below_next f) ∙ flat_map-append (λ f. body_rows p f y) (below f) (f ∷ [])
              ∙ ap (λ rs. flat_map (λ f. body_rows p f y) (below f) ++ rs) (append-nil (body_rows p f y))))
              (grows_then (λ y. flat_map (λ f. body_rows p f y) (below f)) (body_rows p f) [] a.rows.items b.rows.items so_far.rows h.rows);
        }

  -- ---- the rows of uses, bodies and objects

  abbrev pub use_with : (f x : ℕ) (other path : Option (List ℕ)) → Use → List Row
  use_with f x other path (Calls n i g pos) = []
  use_with f x other path (Access n true place pos) = []
  use_with f x other path (Access n false place pos) = if touches p place x then rows_at x (record { body = f; node = n; pos = pos }) other path else []

  use_is : (f x : ℕ) (u : Use) → use_rows p f u x ≡ use_with f x (shared_path p x) (bare_path p f) u
  use_is f x (Calls n i g pos) = refl
  use_is f x (Access n true place pos) = refl
  use_is f x (Access n false place pos) = refl

  none_either : (b : Bool) (rows : List Row) → rows ≡ [] → (if b then rows else []) ≡ []
  none_either true rows is = is
  none_either false rows is = refl

  use_without : (f x : ℕ) (path : Option (List ℕ)) (u : Use) → use_with f x None path u ≡ []
  use_without f x path (Calls n i g pos) = refl
  use_without f x path (Access n true place pos) = refl
  use_without f x path (Access n false place pos) = none_either (touches p place x) [] refl

  use_far : (f x : ℕ) (other : Option (List ℕ)) (u : Use) → use_with f x other None u ≡ []
  use_far f x other (Calls n i g pos) = refl
  use_far f x other (Access n true place pos) = refl
  use_far f x None (Access n false place pos) = none_either (touches p place x) [] refl
  use_far f x (Some other) (Access n false place pos) = none_either (touches p place x) [] refl

  use_row : (f x : ℕ) (other path : List ℕ) (u : Use) → use_with f x (Some other) (Some path) u ≡ row_of p x f path other u
  use_row f x other path (Calls n i g pos) = refl
  use_row f x other path (Access n true place pos) = refl
  use_row f x other path (Access n false place pos) = refl

  -- a body to which no bare path leads has no rows
  pub far_rows : (f x : ℕ) → None ≡ bare_path p f → [] ≡ body_rows p f x
  far_rows f x is = sym (flat_none (λ u. use_rows p f u x) (λ u. use_is f x u ∙ ap (λ o. use_with f x (shared_path p x) o u) (sym is) ∙ use_far f x (shared_path p x) u) (uses p f))

  body_without : (f x : ℕ) → shared_path p x ≡ None → body_rows p f x ≡ []
  body_without f x is = flat_none (λ u. use_rows p f u x) (λ u. use_is f x u ∙ ap (λ o. use_with f x o (bare_path p f) u) is ∙ use_without f x (bare_path p f) u) (uses p f)

  body_with : (f x : ℕ) (other : List ℕ) → shared_path p x ≡ Some other → (o : Option (List ℕ)) → bare_path p f ≡ o → body_rows p f x ≡ rows_in p x f other o
  body_with f x other is None far = sym (far_rows f x (sym far))
  body_with f x other is (Some path) near =
      flat_same (λ u. use_rows p f u x) (row_of p x f path other)
      (λ u. use_is f x u ∙ ap (λ o. use_with f x o (bare_path p f) u) is ∙ ap (λ o. use_with f x (Some other) o u) near ∙ use_row f x other path u) (uses p f)

  by_path : (x : ℕ) (a : Option (List ℕ)) → shared_path p x ≡ a → object_rows p x ≡ rows_for p x false a
  by_path x None is = flat_none (λ f. body_rows p f x) (λ f. body_without f x is) (below (length p.bodies))
  by_path x (Some other) is = flat_same (λ f. body_rows p f x) (λ f. rows_in p x f other (bare_path p f)) (λ f. body_with f x other is (bare_path p f) refl) (below (length p.bodies))

  pub object_is : (x : ℕ) → object_rows p x ≡ rows_for p x (is_marked (slice_get p.objects x)) (async_path p x)
  object_is x = by_mark (is_marked (slice_get p.objects x)) refl
    where
      by_mark : (m : Bool) → is_marked (slice_get p.objects x) ≡ m → object_rows p x ≡ rows_for p x m (async_path p x)
      by_mark true is = flat_none (λ f. body_rows p f x) (λ f. body_without f x (ap (λ b. if b then None else async_path p x) is)) (below (length p.bodies))
      by_mark false is = by_path x (async_path p x) (ap (λ b. if b then None else async_path p x) is)
