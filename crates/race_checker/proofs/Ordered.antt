-- The computed list is in order.
use Rattle.std.proofs.Common.{◌≡◌, ℕ, zero, suc, ◌+◌, ◌<◌, ◌≤◌, Bool, true, false, if◌then◌else◌, inl, inr, List, [], ◌∷◌, ◌++◌, length, Option, Some, None, refl, sym, subst, ap, arith, ◌∙◌, append_assoc, append-nil}
use Rattle.std.specs.Prelude.{slice_get}
use Rattle.std.specs.List.{flat_map}
use Rattle.nesc_core.specs.Plain.{Program}
use Rattle.call_graph.specs.Uses.{Use, Access, Calls, uses, node_of, Rising, nodes_in}
use Rattle.call_graph.specs.Paths.{IsIn, below}
use Rattle.race_checker.specs.declared.row.Row.{Row}
use Rattle.race_checker.specs.Report.{touches, IsBefore, AreOrdered}
use Rattle.race_checker.specs.Computed.{async_path, bare_path, row_of, rows_in, is_marked, rows_for, report_of, EachReportIsComputed}
use Rattle.call_graph.proofs.Lists.{in_either, flat_found, below_less}
use Rattle.std.proofs.lemmas.Grind.{flat_map-append}
use Rattle.call_graph.proofs.Rising.{each_body_rises}
use Rattle.race_checker.proofs.Computed.{is_row, has_it}

-- each row stands before all later ones
abbrev Sorted : List Row → Type 0
Sorted [] = Unit {0}
Sorted (r ∷ rest) = ((s : Row) → IsIn s rest → IsBefore r s) × Sorted rest

are_ordered : (rows : List Row) → Sorted rows → AreOrdered rows
are_ordered [] h = tt
are_ordered (r ∷ []) h = tt
are_ordered (r ∷ s ∷ rest) h = (h.0 s (inl refl), are_ordered (s ∷ rest) h.1)

sorted_both : (xs ys : List Row) → Sorted xs → Sorted ys → ((r s : Row) → IsIn r xs → IsIn s ys → IsBefore r s) → Sorted (xs ++ ys)
sorted_both [] ys h k all = k
sorted_both (x ∷ xs) ys h k all =
    (λ s there. elim (in_either s xs ys there) [ inl left ↦ h.0 s left | inr right ↦ all x s (inl refl) right ], sorted_both xs ys h.1 k (λ r s left right. all r s (inr left) right))

module _ (g : ℕ → List Row) (each : (k : ℕ) → Sorted (g k)) (between : (j k : ℕ) (r s : Row) → j < k → IsIn r (g j) → IsIn s (g k) → IsBefore r s) where
  sorted_flat : (n : ℕ) → Sorted (flat_map g (below n))
  sorted_flat zero = tt
  sorted_flat (suc n) =
      subst Sorted (sym (flat_map-append g (below n) (n ∷ []) ∙ ap (λ rows. flat_map g (below n) ++ rows) (append-nil (g n))))
      (sorted_both (flat_map g (below n)) (g n) (sorted_flat n) (each n)
      (λ r s left right. let j = flat_found g r (below n) left in between j.it n r s (below_less j.it n j.there) j.fact right))

module _ (p : Program) where
  module _ (x f : ℕ) (path other : List ℕ) where
    row_is_of : (u : Use) (r : Row) → IsIn r (row_of p x f path other u) → (r.object ≡ x) × (r.body ≡ f) × (r.node ≡ node_of u)
    row_is_of (Calls n i g pos) r h = absurd h
    row_is_of (Access n true place pos) r h = absurd h
    row_is_of (Access n false place pos) r h = by_touch (touches p place x) h
      where
        by_touch : (t : Bool) → IsIn r (if t then record { object = x; body = f; node = n; pos = pos; path = path; async_path = other } ∷ [] else [])
            → (r.object ≡ x) × (r.body ≡ f) × (r.node ≡ n)
        by_touch true (inl same) = (ap (λ (q : Row). q.object) same, ap (λ (q : Row). q.body) same, ap (λ (q : Row). q.node) same)
        by_touch true (inr none) = absurd none
        by_touch false none = absurd none

    row_sorted : (u : Use) → Sorted (row_of p x f path other u)
    row_sorted (Calls n i g pos) = tt
    row_sorted (Access n true place pos) = tt
    row_sorted (Access n false place pos) = by_touch (touches p place x)
      where
        by_touch : (t : Bool) → Sorted (if t then record { object = x; body = f; node = n; pos = pos; path = path; async_path = other } ∷ [] else [])
        by_touch true = (λ s none. absurd none, tt)
        by_touch false = tt

    node_from : (a b : ℕ) (us : List Use) → Rising a b us → (s : Row) → IsIn s (flat_map (row_of p x f path other) us) → a ≤ s.node
    node_from a b [] h s none = absurd none
    node_from a b (u ∷ us) h s there = elim (in_either s (row_of p x f path other u) (flat_map (row_of p x f path other) us) there) [
      | inl here ↦ omega (arith, h.0, (row_is_of u s here).2)
      | inr more ↦ omega (arith, h.0, node_from (node_of u + 1) b us h.1 s more)
    ]

    all_of : (us : List Use) (s : Row) → IsIn s (flat_map (row_of p x f path other) us) → (s.object ≡ x) × (s.body ≡ f)
    all_of us s h = let u = flat_found (row_of p x f path other) s us h in let is = row_is_of u.it s u.fact in (is.0, is.1)

    uses_sorted : (a b : ℕ) (us : List Use) → Rising a b us → Sorted (flat_map (row_of p x f path other) us)
    uses_sorted a b [] h = tt
    uses_sorted a b (u ∷ us) h = sorted_both (row_of p x f path other u) _ (row_sorted u) (uses_sorted (node_of u + 1) b us h.1)
        (λ r s left right. let ri = row_is_of u r left in let si = all_of us s right in
        inr (ri.0 ∙ sym si.0, inr (ri.1 ∙ sym si.1, omega (arith, ri.2, node_from (node_of u + 1) b us h.1 s right))))

  body_sorted : (x f : ℕ) (other : List ℕ) (o : Option (List ℕ)) → Sorted (rows_in p x f other o)
  body_sorted x f other None = tt
  body_sorted x f other (Some path) = uses_sorted x f path other 0 (nodes_in (slice_get p.bodies f)) (uses p f) (each_body_rises p f)

  body_is : (x f : ℕ) (other : List ℕ) (o : Option (List ℕ)) (r : Row) → IsIn r (rows_in p x f other o) → (r.object ≡ x) × (r.body ≡ f)
  body_is x f other None r h = absurd h
  body_is x f other (Some path) r h = all_of x f path other (uses p f) r h

  object_sorted : (x : ℕ) (m : Bool) (a : Option (List ℕ)) → Sorted (rows_for p x m a)
  object_sorted x true a = tt
  object_sorted x false None = tt
  object_sorted x false (Some other) = sorted_flat (λ f. rows_in p x f other (bare_path p f)) (λ f. body_sorted x f other (bare_path p f))
      (λ j k r s lt left right. let ri = body_is x j other (bare_path p j) r left in let si = body_is x k other (bare_path p k) s right in
      inr (ri.0 ∙ sym si.0, inl (omega (arith, ri.1, si.1, lt)))) (length p.bodies)

  object_is : (x : ℕ) (m : Bool) (a : Option (List ℕ)) (r : Row) → IsIn r (rows_for p x m a) → r.object ≡ x
  object_is x true a r h = absurd h
  object_is x false None r h = absurd h
  object_is x false (Some other) r h =
      let f = flat_found (λ f. rows_in p x f other (bare_path p f)) r (below (length p.bodies)) h in (body_is x f.it other (bare_path p f.it) r f.fact).0

  all_sorted : Sorted (report_of p)
  all_sorted = sorted_flat (λ x. rows_for p x (is_marked (slice_get p.objects x)) (async_path p x)) (λ x. object_sorted x (is_marked (slice_get p.objects x)) (async_path p x))
      (λ j k r s lt left right. inl (omega (arith, object_is j _ _ r left, object_is k _ _ s right, lt))) (length p.objects)

pub each_report_is_computed : EachReportIsComputed
each_report_is_computed p ranked = record {
  ordered = are_ordered (report_of p) (all_sorted p);
  only = λ r there. is_row p r there;
  all = λ x f node pos path shared bare is_path. has_it p ranked x f node pos shared bare path is_path;
}
