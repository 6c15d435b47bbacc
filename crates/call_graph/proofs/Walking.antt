-- The least of a list, one body after the other, and the path that is gone.
use Rattle.std.proofs.Common.{◌≡◌, ℕ, zero, suc, ◌+◌, ◌-◌, ◌<◌, ◌≤◌, min, Bool, true, false, inl, inr, List, [], ◌∷◌, ◌++◌, length, drop, get_or, Option, Some, None, refl, sym, subst, ap, arith, ◌∙◌, append_assoc, append-nil}
use Rattle.std.specs.List.{list_any}
use Rattle.std.proofs.Math.ListN.{drop_of_length-le}
use Rattle.call_graph.specs.Paths.{IsIn}
use Rattle.call_graph.specs.Least.{at_most, least, can, onward, best, path_of, path_at, least_path}
use Rattle.call_graph.specs.Graph.{row_at}
use Rattle.call_graph.specs.Ranks.{rank_of}
use Rattle.call_graph.specs.Search.{is_end_in, is_at, far_next, AreFar}
use Rattle.call_graph.proofs.ViewLists.{next_of}
use Rattle.call_graph.proofs.Lists.{nat_either}
use Rattle.call_graph.proofs.Searching.{least_tells, none_nearer_behind, least_there, not_any, any_tells, far_more, first_found, none_from}

-- ---- the least so far

abbrev pub with_least : Option ℕ → Option ℕ → Option ℕ
with_least None rest = rest
with_least (Some y) None = Some y
with_least (Some y) (Some z) = Some (min y z)

with_one : (x : ℕ) (so_far rest : Option ℕ) → with_least (Some (at_most x so_far)) rest ≡ with_least so_far (Some (at_most x rest))
with_one x None None = refl
with_one x None (Some z) = refl
with_one x (Some y) None = ap Some (omega arith)
with_one x (Some y) (Some z) = ap Some (omega arith)

abbrev pub one_more : (passes : Bool) (x : ℕ) → Option ℕ → Option ℕ
one_more true x so_far = Some (at_most x so_far)
one_more false x so_far = so_far

pub least_next : (test : ℕ → Bool) (so_far : Option ℕ) (xs : List ℕ) (k x : ℕ) (passes : Bool) → test x ≡ passes → k < length xs → x ≡ get_or xs k x
    → with_least (one_more passes x so_far) (least test (drop (k + 1) xs)) ≡ with_least so_far (least test (drop k xs))
least_next test so_far xs k x passes is below at = by_test passes is ∙ sym (ap (λ ys. with_least so_far (least test ys)) (next_of xs k x below at))
  where
    by_test : (t : Bool) → test x ≡ t → with_least (one_more t x so_far) (least test (drop (k + 1) xs)) ≡ with_least so_far (least test (x ∷ drop (k + 1) xs))
    by_test true is = rw is (with_one x so_far (least test (drop (k + 1) xs)))
    by_test false is = rw is refl

pub least_end : (test : ℕ → Bool) (so_far : Option ℕ) (xs : List ℕ) (k : ℕ) → (k < length xs → ⊥) → with_least so_far (least test (drop k xs)) ≡ so_far
least_end test so_far xs k past = ap (λ ys. with_least so_far (least test ys)) (drop_of_length-le xs (omega (arith, past))) ∙ at_end so_far
  where
    at_end : (o : Option ℕ) → with_least o None ≡ o
    at_end None = refl
    at_end (Some y) = refl

-- ---- the path that is gone

module _ (table : List (List ℕ)) (ends : List Bool) (k : ℕ) (roots : List ℕ) where
  abbrev steps : ℕ → List ℕ
  steps = row_at table

  abbrev is_end : ℕ → Bool
  is_end = is_end_in ends

  -- these bodies are gone, and the rest goes on from one of `from`
  pub record Going (bodies from : List ℕ) (left : ℕ) : Type 0 where
    pub whole : bodies ++ onward steps is_end (best steps is_end left) (least (can steps is_end left) from) ≡ path_of steps is_end roots k
    pub nearer : (h : ℕ) → IsIn h from → (m : ℕ) → m < left → can steps is_end m h ≡ false
    pub inside : left ≤ k

  pub begin : ((m : ℕ) → m < k → list_any (can steps is_end m) roots ≡ false) → (bodies : List ℕ) → bodies ≡ [] → Going bodies roots k
  begin first bodies none = record {
    whole = ap (λ xs. xs ++ path_of steps is_end roots k) none;
    nearer = λ h there m lt. not_any (can steps is_end m) roots (first m lt) h there;
    inside = omega arith;
  }

  module _ (same : length ends ≡ length table) (far : List (Option ℕ)) (is_far : AreFar table ends far k) where
    module _ (bodies from : List ℕ) (left : ℕ) (going : Going bodies from left) where
      tells : (o : Option ℕ) → o ≡ least (λ g. is_at left (rank_of far g)) from → least (can steps is_end left) from ≡ o
      tells o is = sym (is ∙ least_tells table ends same far k is_far from left going.inside going.nearer)

      pub stopped : (o : Option ℕ) → o ≡ least (λ g. is_at left (rank_of far g)) from → o ≡ None → bodies ≡ path_of steps is_end roots k
      stopped o is none =
          sym (append-nil bodies)
          ∙ ap (λ x. bodies ++ onward steps is_end (best steps is_end left) x) (sym (tells o is ∙ none)) ∙ going.whole

      pub gone : (o : Option ℕ) (body : ℕ) (more : List ℕ) → o ≡ least (λ g. is_at left (rank_of far g)) from → o ≡ Some body → more ≡ bodies ++ body ∷ []
          → more ++ best steps is_end left body ≡ path_of steps is_end roots k
      gone o body more is some more_is =
          ap (λ xs. xs ++ best steps is_end left body) more_is ∙ append_assoc bodies (body ∷ []) (best steps is_end left body)
          ∙ ap (λ x. bodies ++ onward steps is_end (best steps is_end left) x) (sym (tells o is ∙ some)) ∙ going.whole

      there : (o : Option ℕ) (body : ℕ) → o ≡ least (λ g. is_at left (rank_of far g)) from → o ≡ Some body → IsIn body from
      there o body is some = least_there (can steps is_end left) from body (tells o is ∙ some)

    pub arrived : (bodies from : List ℕ) (left : ℕ) → Going bodies from left → left ≡ 0 → (o : Option ℕ) (body : ℕ) (more : List ℕ)
        → o ≡ least (λ g. is_at left (rank_of far g)) from → o ≡ Some body → more ≡ bodies ++ body ∷ [] → more ≡ path_of steps is_end roots k
    arrived bodies from zero going zero_left o body more is some more_is = sym (append-nil more) ∙ gone bodies from zero going o body more is some more_is
    arrived bodies from (suc left) going zero_left o body more is some more_is = absurd (omega (arith, zero_left))

    pub goes_on : (bodies from row : List ℕ) (left less : ℕ) → Going bodies from left → left ≡ suc less → (o : Option ℕ) (body : ℕ) (more : List ℕ)
        → o ≡ least (λ g. is_at left (rank_of far g)) from → o ≡ Some body → more ≡ bodies ++ body ∷ [] → row ≡ row_at table body → Going more row less
    goes_on bodies from row zero less going one_less o body more is some more_is row_is = absurd (omega (arith, one_less))
    goes_on bodies from row (suc left) less going one_less o body more is some more_is row_is =
        let e : left ≡ less = omega (arith, one_less) in
        subst (λ l. Going more row l) e (subst (λ r. Going more r left) (sym row_is) (record {
          whole = gone bodies from (suc left) going o body more is some more_is;
          nearer = none_nearer_behind table ends same far k is_far from left body going.nearer (there bodies from (suc left) going o body is some);
          inside = omega (arith, going.inside);
        }))

pub one_before : (n : ℕ) → (n ≡ 0 → ⊥) → n ≡ suc (n - 1)
one_before zero not_zero = absurd (not_zero refl)
one_before (suc n) not_zero = omega arith

pub is_none : (o : Option ℕ) → ((x : ℕ) → o ≡ Some x → ⊥) → o ≡ None
is_none None never = refl
is_none (Some x) never = absurd (never x refl)

-- ---- the search as a whole

module _ (table : List (List ℕ)) (ends : List Bool) (same : length ends ≡ length table) (roots : List ℕ) where
  abbrev reaches : ℕ → Bool
  reaches n = list_any (can (row_at table) (is_end_in ends) n) roots

  module _ (far : List (Option ℕ)) (k : ℕ) (is_far : AreFar table ends far k) (seen : List (Option ℕ)) (seen_is : seen ≡ far) where
    pub any_is : ((m : ℕ) → m < k → reaches m ≡ false) → (t : Bool) → t ≡ list_any (λ g. is_at k (rank_of seen g)) roots → (b : Bool) → t ≡ b → reaches k ≡ b
    any_is first t t_is b b_is =
        sym (any_tells table ends same far k is_far roots first) ∙ ap (λ fs. list_any (λ g. is_at k (rank_of fs g)) roots) (sym seen_is) ∙ sym t_is ∙ b_is

    pub far_behind : (next : List (Option ℕ)) → next ≡ far_next table seen k → AreFar table ends next (k + 1)
    far_behind next next_is =
        let more : suc k ≡ k + 1 = omega arith in
        subst (λ j. AreFar table ends next j) more
        (subst (λ fs. AreFar table ends fs (suc k)) (sym (next_is ∙ ap (λ fs. far_next table fs k) seen_is)) (far_more table ends same far k is_far))

  pub none_more : (k : ℕ) → ((m : ℕ) → m < k → reaches m ≡ false) → reaches k ≡ false → (m : ℕ) → m < k + 1 → reaches m ≡ false
  none_more k first here m lt = elim (nat_either k m) [
    | inl le ↦ (let e : k ≡ m = omega (arith, le, lt) in subst (λ j. reaches j ≡ false) e here)
    | inr less ↦ first m less
  ]

  pub found_path : (k bound : ℕ) (path : List ℕ) → k < bound → reaches k ≡ true → ((m : ℕ) → m < k → reaches m ≡ false) → path ≡ path_of (row_at table) (is_end_in ends) roots k
      → Some path ≡ least_path (row_at table) (is_end_in ends) roots bound
  found_path k bound path inside here first is =
      ap Some is ∙ sym (ap (path_at (row_at table) (is_end_in ends) roots) (first_found reaches k bound inside here first))

  pub no_path_found : (k bound : ℕ) → bound ≤ k → ((m : ℕ) → m < k → reaches m ≡ false) → None ≡ least_path (row_at table) (is_end_in ends) roots bound
  no_path_found k bound past first = sym (ap (path_at (row_at table) (is_end_in ends) roots) (none_from reaches 0 bound (λ m le lt. first m (omega (arith, lt, past)))))
