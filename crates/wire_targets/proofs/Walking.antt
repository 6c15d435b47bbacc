-- What a turn of the walk keeps.
use Rattle.std.proofs.Common.{◌≡◌, ℕ, ◌+◌, ◌-◌, ◌<◌, ◌≤◌, Bool, cond, List, [], ◌∷◌, ◌++◌, ◌⊎◌, inl, inr, Some, None, true, false, ◌&&◌, ◌==◌, drop, option_and_then, refl, sym, ap, ◌∙◌, subst, arith, length, take, get_or, filter, length-append, ⊎_elim}
use Rattle.std.specs.List.{Contains, filter_map}
use Rattle.std.specs.List.{cons_option}
use Rattle.std.proofs.lemmas.List.Quantifiers.{all_pairs_push}
use Rattle.std.proofs.lemmas.List.Elements.{All-weaker, All-push, All-cons, All-nil, All-get_or, Contains-append_left, Contains-push, filter-append, filter_map-append}
use Rattle.std.proofs.Math.Seq.{take-append_seam, get_or-append_seam}
use Rattle.std.specs.Prelude.{slice_index_or}
use Rattle.std.proofs.lemmas.Bool.{cases_lt, eqb-true}
use Rattle.std.proofs.lemmas.Option.{same_Some, slice_get-get_or}
use Rattle.wire_targets.specs.declared.end.End.{End}
use Rattle.wire_targets.specs.declared.end.Wire.{Wire}
use Rattle.wire_targets.specs.Paths.{along, begins, param_at, step, follow, IsPath, ends_met, Before}
use Rattle.wire_targets.specs.Targets.{AreAll, AreTargets, IsFirstLoop, AreTooMany, NoneClosesBefore, Walks, targets_of, implements}
use Rattle.nm_base.specs.declared.limit.TheConstants.{MAX_WIRES}
use Rattle.wire_targets.specs.Next.{first_from, next_at, place_of, same_place, Follows}
use Rattle.wire_targets.proofs.Order.{IsBetween, GoesOn, before_later, before_more, before_under, before_own, before_first, before_up, before_down}
use Rattle.wire_targets.proofs.PathLemmas.{follow_more, follow_less, no_path, step_within, ends_met_more, ends_met_last}

and_left : (a b : Bool) → (a && b) ≡ true → a ≡ true
and_left true b e = refl
and_left false b e = absurd cc

and_right : (a b : Bool) → (a && b) ≡ true → b ≡ true
and_right true b e = e
and_right false b e = absurd cc

-- the same paths, by another property
pub all_same : (P Q : List ℕ → Type 0) (paths : List (List ℕ)) → ((p : List ℕ) → P p → Q p) → ((p : List ℕ) → Q p → P p) → AreAll P paths → AreAll Q paths
all_same P Q paths to from all = record {
  ordered = all.ordered;
  only = All-weaker P Q to paths all.only;
  every = λ p q. all.every p (from p q);
}

-- one more path, the last
pub all_more : (P Q : List ℕ → Type 0) (paths : List (List ℕ)) (last : List ℕ) → ((p : List ℕ) → P p → Q p × Before p last) → Q last → ((p : List ℕ) → Q p → P p ⊎ (p ≡ last)) → AreAll P paths → AreAll Q (paths ++ last ∷ [])
all_more P Q paths last to own from all = record {
  ordered = all_pairs_push Before paths last all.ordered (λ k d lt. (to (get_or paths k d) (All-get_or P paths k d lt all.only)).1);
  only = All-push Q paths last (All-weaker P Q (λ p h. (to p h).0) paths all.only) own;
  every = λ p q. ⊎_elim (λ h. Contains-append_left paths (last ∷ []) p (all.every p h)) (λ e. subst (Contains (paths ++ last ∷ [])) (sym e) (Contains-push paths last)) (from p q);
}

pub snoc_last : (c d : List ℕ) (j k : ℕ) → c ++ j ∷ [] ≡ d ++ k ∷ [] → (c ≡ d) × (j ≡ k)
snoc_last [] [] j k e = (refl, cc)
snoc_last [] (y ∷ []) j k e = absurd cc
snoc_last [] (y ∷ (z ∷ d)) j k e = absurd cc
snoc_last (x ∷ []) [] j k e = absurd cc
snoc_last (x ∷ (z ∷ c)) [] j k e = absurd cc
snoc_last (x ∷ c) (y ∷ d) j k e =
    let rest : c ++ j ∷ [] ≡ d ++ k ∷ [] = cc in
    let head : x ≡ y = cc in
    let r = snoc_last c d j k rest in
    (let tail : c ≡ d = r.0 in cc, r.1)

only_empty : (p : List ℕ) → Before p (0 ∷ []) → p ≡ []
only_empty [] b = refl
only_empty (j ∷ p) (inl lt) = absurd (omega arith)
only_empty (j ∷ p) (inr h) = absurd h.1

not_first : (p : List ℕ) (j : ℕ) → Before (p ++ j ∷ []) (0 ∷ []) → ⊥
not_first [] j (inl lt) = omega arith
not_first [] j (inr h) = h.1
not_first (i ∷ p) j (inl lt) = omega arith
not_first (i ∷ p) j (inr h) = h.1

-- a wire that leads from an end begins at its element
begins_there : (w : Wire) (e to : End) → along w e ≡ Some to → place_of w ≡ (e.instance, e.element)
begins_there w e to h = by (begins w e) refl h
  where
    by : (t : Bool) → begins w e ≡ t → cond t (Some (record { instance = w.to.instance; element = w.to.element; param = param_at w e })) None ≡ Some to → place_of w ≡ (e.instance, e.element)
    by false is found = absurd cc
    by true is found =
        let same = and_left ((w.from.instance == e.instance) && (w.from.element == e.element)) _ is in
        let i : w.from.instance ≡ e.instance = eqb-true w.from.instance e.instance (and_left (w.from.instance == e.instance) (w.from.element == e.element) same) in
        let j : w.from.element ≡ e.element = eqb-true w.from.element e.element (and_right (w.from.instance == e.instance) (w.from.element == e.element) same) in
        (λ x. (i x, j x))

module _ (wires : List Wire) (sinks : List (List Bool)) (start : End) where
  -- the paths before a wire of a path
  abbrev pub Earlier : List ℕ → List ℕ → Type 0
  Earlier q p = IsPath wires start p × Before p q

  targets_more : (paths : List (List ℕ)) (path : List ℕ) (to : End) → follow wires start path ≡ Some to → targets_of wires sinks start (paths ++ path ∷ []) ≡ targets_of wires sinks start paths ++ cond (implements sinks to) (to ∷ []) []
  targets_more paths path to h =
      ap (filter (implements sinks)) (filter_map-append (follow wires start) paths (path ∷ []) ∙ ap (λ o. filter_map (follow wires start) paths ++ cons_option o []) h)
      ∙ filter-append (implements sinks) (filter_map (follow wires start) paths) (to ∷ [])

  module _ (path : List ℕ) (here : End) (next k : ℕ) (leads : follow wires start path ≡ Some here) (none : (j : ℕ) → next ≤ j → j < k → step wires here j ≡ None) where
    -- no path lies between the wire to look at next and the next that leads on
    skip : (p : List ℕ) → IsPath wires start p → Before p (path ++ k ∷ []) → Before p (path ++ next ∷ [])
    skip p is b =
        ⊎_elim
        (λ h. h)
        (λ (h : IsBetween path p next k). absurd (no_path wires start here path h.rest h.wire p leads (none h.wire h.from h.below) h.is is))
        (before_later path p next k b)

    module _ (up : next ≤ k) (to : End) (leading : step wires here k ≡ Some to) where
      arrives : follow wires start (path ++ k ∷ []) ≡ Some to
      arrives = follow_more wires start here to path k leads leading

      skip_all : (paths : List (List ℕ)) → AreAll (Earlier (path ++ next ∷ [])) paths → AreAll (Earlier (path ++ k ∷ [])) paths
      skip_all paths all =
          all_same (Earlier (path ++ next ∷ [])) (Earlier (path ++ k ∷ [])) paths
          (λ p h. (h.0, before_more path p next k up h.1))
          (λ p h. (h.0, skip p h.0 h.1))
          all

      -- of a wire that closes no path, none closes up to it
      none_later : NoneClosesBefore wires start (path ++ next ∷ []) → NoneClosesBefore wires start (path ++ k ∷ [])
      none_later none p j b closes = none p j (skip (p ++ j ∷ []) (closes.0, closes.1) b) closes

      none_own : NoneClosesBefore wires start (path ++ next ∷ []) → (Contains (ends_met wires start path) to → ⊥) → NoneClosesBefore wires start ((path ++ k ∷ []) ++ 0 ∷ [])
      none_own none new p j b closes =
          ⊎_elim
          (λ h. none_later none p j h closes)
          (λ (e : p ++ j ∷ [] ≡ path ++ k ∷ []).
          let parts = snoc_last p path j k e in
          let end : closes.0 ≡ to = same_Some closes.0 to (sym (closes.1) ∙ (ap (follow wires start) e ∙ arrives)) in
          new (subst (Contains (ends_met wires start path)) end (subst (λ q. Contains (ends_met wires start q) closes.0) parts.0 closes.2)))
          (before_first (path ++ k ∷ []) (p ++ j ∷ []) b)

      pub enter_walks : (ends found : List End) (met : ℕ) → (w : Walks wires sinks start here path ends next met found) → (Contains ends to → ⊥) → met < MAX_WIRES → Walks wires sinks start to (path ++ k ∷ []) (ends ++ to ∷ []) 0 (met + 1) (found ++ cond (implements sinks to) (to ∷ []) [])
      enter_walks ends found met w new room = record {
        leads = arrives;
        ends_are = ap (λ es. es ++ to ∷ []) w.ends_are ∙ sym (ends_met_more wires start here to path k leads leading);
        none_closes = none_own w.none_closes (λ h. new (subst (λ es. Contains es to) (sym w.ends_are) h));
        paths = w.paths ++ (path ++ k ∷ []) ∷ [];
        before =
            all_more (Earlier (path ++ next ∷ [])) (Earlier ((path ++ k ∷ []) ++ 0 ∷ [])) w.paths (path ++ k ∷ [])
            (λ p h. let b = before_more path p next k up h.1 in ((h.0, before_under (path ++ k ∷ []) p (0 ∷ []) b), b))
            ((to, arrives), before_own (path ++ k ∷ []) 0 [])
            (λ p h. ⊎_elim (λ b. inl (h.0, skip p h.0 b)) (λ e. inr e) (before_first (path ++ k ∷ []) p h.1))
            w.before;
        count = let c = w.count in omega (arith, c, length-append w.paths ((path ++ k ∷ []) ∷ []));
        few = omega arith;
        found_are = ap (λ fs. fs ++ cond (implements sinks to) (to ∷ []) []) w.found_are ∙ sym (targets_more w.paths (path ++ k ∷ []) to arrives);
      }

      pub enter_loop : (ends found : List End) (met : ℕ) → (w : Walks wires sinks start here path ends next met found) → Contains ends to → IsFirstLoop wires start k
      enter_loop ends found met w old = record {
        path = path;
        closes = (to, arrives, subst (λ es. Contains es to) w.ends_are old);
        none_before = none_later w.none_closes;
        paths = w.paths;
        before = skip_all w.paths w.before;
        few = let c = w.count in let f = w.few in omega arith;
      }

      pub enter_many : (ends found : List End) (met : ℕ) → (w : Walks wires sinks start here path ends next met found) → (Contains ends to → ⊥) → MAX_WIRES ≤ met → AreTooMany wires start
      enter_many ends found met w new full = record {
        path = path ++ k ∷ [];
        is_path = (to, arrives);
        none_before = none_own w.none_closes (λ h. new (subst (λ es. Contains es to) (sym w.ends_are) h));
        paths = w.paths;
        before = skip_all w.paths w.before;
        many = let c = w.count in let f = w.few in omega arith;
      }

  less_last : (ends front : List End) (last : End) → ends ≡ front ++ last ∷ [] → take (length ends - 1) ends ≡ front
  less_last ends front last e =
      let n : length ends - 1 ≡ length front = omega (arith, ap length e, length-append front (last ∷ [])) in
      rw (n, e) (take-append_seam front (last ∷ []))

  module _ (here : End) (next : ℕ) (none : (j : ℕ) → next ≤ j → step wires here j ≡ None) where
    not_on : (path : List ℕ) (k : ℕ) (p : List ℕ) → follow wires start (path ++ k ∷ []) ≡ Some here → IsPath wires start p → Before p (path ++ (k + 1) ∷ []) → Before p ((path ++ k ∷ []) ++ next ∷ [])
    not_on path k p leads is b =
        ⊎_elim
        (λ h. h)
        (λ (h : GoesOn path p k next). absurd (no_path wires start here (path ++ k ∷ []) h.rest h.wire p leads (none h.wire h.from) h.is is))
        (before_down path p k next b)

    -- back at the end before the last wire
    pub record Left (path : List ℕ) (k : ℕ) (ends found : List End) (met : ℕ) : Type 0 where
      pub back : End
      pub step_is : step wires back k ≡ Some here
      pub walks : Walks wires sinks start back path (take (length ends - 1) ends) (k + 1) met found

    pub leave_walks : (path : List ℕ) (k : ℕ) (ends found : List End) (met : ℕ) → (w : Walks wires sinks start here (path ++ k ∷ []) ends next met found) → Left path k ends found met
    leave_walks path k ends found met w =
        let before = follow_less wires start here path k w.leads in
        record {
          back = before.0;
          step_is = before.2;
          walks = record {
            leads = before.1;
            ends_are = less_last ends (ends_met wires start path) here (w.ends_are ∙ ends_met_more wires start before.0 here path k before.1 before.2);
            none_closes = λ p j b closes. w.none_closes p j (not_on path k (p ++ j ∷ []) w.leads (closes.0, closes.1) b) closes;
            paths = w.paths;
            before =
                all_same (Earlier ((path ++ k ∷ []) ++ next ∷ [])) (Earlier (path ++ (k + 1) ∷ [])) w.paths
                (λ p h. (h.0, before_up path p k next h.1))
                (λ p h. (h.0, not_on path k p w.leads h.0 h.1))
                w.before;
            count = w.count;
            few = w.few;
            found_are = w.found_are;
          };
        }

    begins_all : (p : List ℕ) → start ≡ here → IsPath wires start p → Before p (next ∷ [])
    begins_all [] same is = tt
    begins_all (m ∷ r) same is =
        ⊎_elim
        (λ lt. inl lt)
        (λ le. absurd (no_path wires start here [] r m (m ∷ r) (ap (λ e. Some e) same) (none m le) refl is))
        (cases_lt m next)

    pub ended : (ends found : List End) (met : ℕ) → (w : Walks wires sinks start here [] ends next met found) → AreTargets wires sinks start found
    ended ends found met w =
        let at : start ≡ here = same_Some start here w.leads in
        record {
          paths = w.paths;
          all =
              all_same (Earlier (next ∷ [])) (IsPath wires start) w.paths
              (λ p h. h.0)
              (λ p h. (h, begins_all p at h))
              w.before;
          none_closes = λ p j closes. w.none_closes p j (begins_all (p ++ j ∷ []) at (closes.0, closes.1)) closes;
          few = let c = w.count in let f = w.few in omega arith;
          targets_are = w.found_are;
        }

  pub starts : Walks wires sinks start start [] (start ∷ []) 0 1 (cond (implements sinks start) (start ∷ []) [])
  starts = record {
    leads = refl;
    ends_are = refl;
    none_closes = λ p j b closes. not_first p j b;
    paths = [] ∷ [];
    before = record {
      ordered = λ i j d lt within. absurd (omega arith);
      only = All-cons (Earlier (0 ∷ [])) [] [] ((start, refl), tt) (All-nil (Earlier (0 ∷ [])));
      every = λ p h. subst (Contains ([] ∷ [])) (sym (only_empty p h.1)) (0, omega arith, refl);
    };
    count = refl;
    few = omega arith;
    found_are = refl;
  }

  -- a wire that leads on from an end stands at its element
  at_element : (back here : End) (k : ℕ) (d : Wire) → step wires back k ≡ Some here → k < length wires → place_of (get_or wires k d) ≡ (back.instance, back.element)
  at_element back here k d is within = begins_there (get_or wires k d) back here (sym (ap (option_and_then (λ w. along w back)) (slice_get-get_or wires k d within)) ∙ is)

  module _ (path : List ℕ) (here : End) (ends : List End) (from met : ℕ) (found : List End) (w : Walks wires sinks start here path ends from met found) where
    -- the last end met is the one that the walk stands at
    pub here_of : (i : ℕ) (r : End) → i ≡ length ends - 1 → r ≡ get_or ends i r → here ≡ r
    here_of i r at read =
        let last = ends_met_last wires start here path w.leads in
        let e : ends ≡ last.0 ++ here ∷ [] = w.ends_are ∙ last.1 in
        let n : i ≡ length last.0 = omega (arith, at, ap length e, length-append last.0 (here ∷ [])) in
        sym (read ∙ (ap (λ es. get_or es i r) e ∙ (ap (λ k. get_or (last.0 ++ here ∷ []) k r) n ∙ get_or-append_seam last.0 here [] r)))

    -- the walk, by the end that was read
    pub at_read : (i : ℕ) (r : End) → i ≡ length ends - 1 → r ≡ get_or ends i r → Walks wires sinks start r path ends from met found
    at_read i r at read = subst (λ e. Walks wires sinks start e path ends from met found) (here_of i r at read) w

    pub next_read : (i : ℕ) (r : End) → i ≡ length ends - 1 → r ≡ get_or ends i r → (next : ℕ) → next ≡ first_from wires here from → next ≡ first_from wires r from
    next_read i r at read next is = is ∙ ap (λ e. first_from wires e from) (here_of i r at read)

    pub some_end : 0 < length ends
    some_end =
        let last = ends_met_last wires start here path w.leads in
        omega (arith, ap length (w.ends_are ∙ last.1), length-append last.0 (here ∷ []))

    pub wires_within : (front : List ℕ) (last : ℕ) → path ≡ front ++ last ∷ [] → last < length wires
    wires_within front last e =
        let before = follow_less wires start here front last (ap (follow wires start) (sym e) ∙ w.leads) in
        step_within wires before.0 here last before.2

    module _ (k : ℕ) (to : End) (on : (from ≤ k) × (step wires here k ≡ Some to) × ((j : ℕ) → from ≤ j → j < k → step wires here j ≡ None)) where
      pub turn_enters : (Contains ends to → ⊥) → met < MAX_WIRES → Walks wires sinks start to (path ++ k ∷ []) (ends ++ to ∷ []) 0 (met + 1) (found ++ cond (implements sinks to) (to ∷ []) [])
      turn_enters = enter_walks path here from k w.leads on.2 on.0 to on.1 ends found met w

      pub turn_closes : Contains ends to → IsFirstLoop wires start k
      turn_closes = enter_loop path here from k w.leads on.2 on.0 to on.1 ends found met w

      pub turn_meets : (Contains ends to → ⊥) → MAX_WIRES ≤ met → AreTooMany wires start
      turn_meets = enter_many path here from k w.leads on.2 on.0 to on.1 ends found met w

    module _ (none : (j : ℕ) → from ≤ j → step wires here j ≡ None) where
      -- the walk goes back, and on by the next wire of the element
      pub turn_leaves : (front : List ℕ) (last next : ℕ) (after : List ℕ) → path ≡ front ++ last ∷ [] → Follows wires after → next ≡ slice_index_or after last 0 →
          (back : End) × Walks wires sinks start back front (take (length ends - 1) ends) (last + 1) met found × (next ≡ first_from wires back (last + 1))
      turn_leaves front last next after e table is =
          let v : Walks wires sinks start here (front ++ last ∷ []) ends from met found = subst (λ p. Walks wires sinks start here p ends from met found) e w in
          let left = leave_walks here from none front last ends found met v in
          let d : Wire = record { from = here; to = here } in
          let within = wires_within front last e in
          (left.back, left.walks, is ∙ (table.next last d within ∙ ap (λ p. next_at p (last + 1) (drop (last + 1) wires)) (at_element left.back here last d left.step_is within)))

      pub turn_ends : path ≡ [] → AreTargets wires sinks start found
      turn_ends e =
          let v : Walks wires sinks start here [] ends from met found = subst (λ p. Walks wires sinks start here p ends from met found) e w in
          ended here from none ends found met v
