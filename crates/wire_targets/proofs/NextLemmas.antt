-- The next wire, one wire on.
use Rattle.std.proofs.Common.{◌≡◌, ℕ, ◌+◌, ◌<◌, Bool, true, false, cond, List, length, drop, get_or, Option, Some, unwrap_or, refl, ap, ◌∙◌}
use Rattle.std.proofs.Common.{◌≤◌, ◌≢◌, ⊎_elim, subst, arith, set, get_or-set_same, get_or-set_other}
use Rattle.std.proofs.lemmas.Bool.{cases_lt, eqb-true}
use Rattle.std.proofs.lemmas.List.{drop_more}
use Rattle.wire_targets.specs.declared.end.Wire.{Wire}
use Rattle.wire_targets.specs.declared.end.End.{End}
use Rattle.wire_targets.specs.Paths.{along, step}
use Rattle.std.proofs.Common.{nat_eq, ◌&&◌, [], ◌∷◌, None, sym, zero, suc, ◌-◌, get_or-drop, length-drop, option_and_then}
use Rattle.std.proofs.lemmas.Option.{slice_get-get_or, slice_get_past}
use Rattle.wire_targets.specs.Next.{Place, place_of, same_place, next_at, first_from}

pub next_first : (wires : List Wire) (p : Place) (i : ℕ) (d : Wire) → i < length wires → next_at p i (drop i wires) ≡ cond (same_place (place_of (get_or wires i d)) p) i (next_at p (i + 1) (drop (i + 1) wires))
next_first wires p i d within = ap (next_at p i) (drop_more wires i d within)

pub found : (t : Bool) (i n : ℕ) (o : Option ℕ) → unwrap_or (cond t (Some i) o) n ≡ cond t i (unwrap_or o n)
found true i n o = refl
found false i n o = refl

-- the next wire of the same element behind wire k
abbrev pub next_behind : List Wire → ℕ → Wire → ℕ
next_behind wires k d = next_at (place_of (get_or wires k d)) (k + 1) (drop (k + 1) wires)

pub after_more : (wires : List Wire) (after : List ℕ) (i v : ℕ) → length after ≡ length wires → i < length wires → ((k : ℕ) (d : Wire) → i + 1 ≤ k → k < length wires → get_or after k 0 ≡ next_behind wires k d) → ((d : Wire) → v ≡ next_behind wires i d) → (k : ℕ) (d : Wire) → i ≤ k → k < length wires → get_or (set after i v) k 0 ≡ next_behind wires k d
after_more wires after i v size inside old now k d low within =
    ⊎_elim
    (λ lt. let apart : k ≢ i = omega arith in get_or-set_other after i k v 0 apart ∙ old k d (omega arith) within)
    (λ le.
    let e : i ≡ k = omega arith in
    let lt : i < length after = omega arith in
    subst (λ j. get_or (set after i v) j 0 ≡ next_behind wires j d) e (get_or-set_same after i v 0 lt ∙ now d))
    (cases_lt i k)

-- what `next_at` passes over does not begin at the place
pub next_least : (p : Place) (k : ℕ) (ws : List Wire) → k ≤ next_at p k ws
next_least p k [] = omega arith
next_least p k (w ∷ ws) = by (same_place (place_of w) p) (next_least p (k + 1) ws)
  where
    by : (t : Bool) → k + 1 ≤ next_at p (k + 1) ws → k ≤ cond t k (next_at p (k + 1) ws)
    by true h = omega arith
    by false h = omega (arith, h)

passed_by : (p : Place) (k : ℕ) (w : Wire) (ws : List Wire) (j : ℕ) (d : Wire) → ((i : ℕ) → i < length ws → k + 1 + i < next_at p (k + 1) ws → same_place (place_of (get_or ws i d)) p ≡ false) → (t : Bool) → same_place (place_of w) p ≡ t → j < length (w ∷ ws) → k + j < cond t k (next_at p (k + 1) ws) → same_place (place_of (get_or (w ∷ ws) j d)) p ≡ false
passed_by p k w ws j d h true e within lt = absurd (omega arith)
passed_by p k w ws zero d h false e within lt = e
passed_by p k w ws (suc j) d h false e within lt = h j (omega arith) (omega arith)

pub passed : (p : Place) (k : ℕ) (ws : List Wire) (j : ℕ) (d : Wire) → j < length ws → k + j < next_at p k ws → same_place (place_of (get_or ws j d)) p ≡ false
passed p k [] j d within lt = absurd (omega arith)
passed p k (w ∷ ws) j d within lt = passed_by p k w ws j d (λ i inside b. passed p (k + 1) ws i d inside b) (same_place (place_of w) p) refl within lt

-- a wire that begins elsewhere leads nowhere from here
elsewhere : (w : Wire) (e : End) → same_place (place_of w) (e.instance, e.element) ≡ false → along w e ≡ None
elsewhere w e h = rw h refl

step_elsewhere : (wires : List Wire) (e : End) (j : ℕ) (d : Wire) → j < length wires → same_place (place_of (get_or wires j d)) (e.instance, e.element) ≡ false → step wires e j ≡ None
step_elsewhere wires e j d within h = ap (option_and_then (λ w. along w e)) (slice_get-get_or wires j d within) ∙ elsewhere (get_or wires j d) e h

-- between a wire and the next of the element none leads on
pub none_between : (wires : List Wire) (e : End) (k j : ℕ) → k ≤ j → j < next_at (e.instance, e.element) k (drop k wires) → step wires e j ≡ None
none_between wires e k j low high =
    ⊎_elim
    (λ lt.
    let d : Wire = record { from = e; to = e } in
    let n : length (drop k wires) ≡ length wires - k = length-drop k wires in
    let at : get_or (drop k wires) (j - k) d ≡ get_or wires j d = get_or-drop k wires (j - k) d ∙ ap (λ i. get_or wires i d) (let s : k + (j - k) ≡ j = omega arith in s) in
    let apart = passed (e.instance, e.element) k (drop k wires) (j - k) d (omega (arith, n)) (omega arith) in
    step_elsewhere wires e j d lt (ap (λ w. same_place (place_of w) (e.instance, e.element)) (sym at) ∙ apart))
    (λ le. ap (option_and_then (λ w. along w e)) (slice_get_past wires j le))
    (cases_lt j (length wires))

found_by : (p : Place) (k : ℕ) (w : Wire) (ws : List Wire) (j : ℕ) (d : Wire) → ((i : ℕ) → k + 1 + i ≡ next_at p (k + 1) ws → i < length ws → same_place (place_of (get_or ws i d)) p ≡ true) → k + 1 ≤ next_at p (k + 1) ws → (t : Bool) → same_place (place_of w) p ≡ t → k + j ≡ cond t k (next_at p (k + 1) ws) → j < length (w ∷ ws) → same_place (place_of (get_or (w ∷ ws) j d)) p ≡ true
found_by p k w ws zero d h least true e at within = e
found_by p k w ws (suc j) d h least true e at within = absurd (omega arith)
found_by p k w ws zero d h least false e at within = absurd (omega (arith, at, least))
found_by p k w ws (suc j) d h least false e at within = h j (omega (arith, at)) (omega arith)

-- what `next_at` finds begins at the place
found_place : (p : Place) (k : ℕ) (ws : List Wire) (j : ℕ) (d : Wire) → k + j ≡ next_at p k ws → j < length ws → same_place (place_of (get_or ws j d)) p ≡ true
found_place p k [] j d at within = absurd (omega arith)
found_place p k (w ∷ ws) j d at within = found_by p k w ws j d (λ i e inside. found_place p (k + 1) ws i d e inside) (next_least p (k + 1) ws) (same_place (place_of w) p) refl at within

both : (a b : Bool) → (a && b) ≡ true → (a ≡ true) × (b ≡ true)
both true b e = (refl, e)
both false b e = absurd cc

same_is : (p q : Place) → same_place p q ≡ true → p ≡ q
same_is p q e =
    let parts = both (nat_eq p.0 q.0) (nat_eq p.1 q.1) e in
    let a : p.0 ≡ q.0 = eqb-true p.0 q.0 parts.0 in
    let b : p.1 ≡ q.1 = eqb-true p.1 q.1 parts.1 in
    (λ i. (a i, b i))

-- a search from `from` on stands at wire `at`
pub record Stands (wires : List Wire) (e : End) (from at : ℕ) : Type 0 where
  pub up : from ≤ at
  pub none : (j : ℕ) → from ≤ j → j < at → step wires e j ≡ None
  pub here : (d : Wire) → at < length wires → same_place (place_of (get_or wires at d)) (e.instance, e.element) ≡ true

module _ (wires : List Wire) (e : End) where
  at_first : (k at : ℕ) (d : Wire) → at ≡ first_from wires e k → at < length wires → same_place (place_of (get_or wires at d)) (e.instance, e.element) ≡ true
  at_first k at d is within =
      let least = next_least (e.instance, e.element) k (drop k wires) in
      let n = length-drop k wires in
      let s : k + (at - k) ≡ at = omega (arith, is, least) in
      let f = found_place (e.instance, e.element) k (drop k wires) (at - k) d (s ∙ is) (omega (arith, n, is, least)) in
      ap (λ w. same_place (place_of w) (e.instance, e.element)) (ap (λ i. get_or wires i d) (sym s) ∙ sym (get_or-drop k wires (at - k) d)) ∙ f

  pub stands_first : (from at : ℕ) → at ≡ first_from wires e from → Stands wires e from at
  stands_first from at is = record {
    up = let least = next_least (e.instance, e.element) from (drop from wires) in omega (arith, is, least);
    none = λ j low high. none_between wires e from j low (omega (arith, is));
    here = λ d within. at_first from at d is within;
  }

  pub stands_next : (from at next : ℕ) (d : Wire) → Stands wires e from at → at < length wires → step wires e at ≡ None → next ≡ next_at (place_of (get_or wires at d)) (at + 1) (drop (at + 1) wires) → Stands wires e from next
  stands_next from at next d s within none is =
      let q : place_of (get_or wires at d) ≡ (e.instance, e.element) = same_is (place_of (get_or wires at d)) (e.instance, e.element) (s.here d within) in
      let at_e : next ≡ first_from wires e (at + 1) = is ∙ ap (λ p. next_at p (at + 1) (drop (at + 1) wires)) q in
      let more = stands_first (at + 1) next at_e in
      let up = more.up in
      let low = s.up in
      record {
        up = omega (arith, up, low);
        none = λ j from_j j_next.
            ⊎_elim
            (λ lt. s.none j from_j lt)
            (λ le. ⊎_elim (λ lt. more.none j (omega arith) j_next) (λ ge. let same : at ≡ j = omega arith in subst (λ k. step wires e k ≡ None) same none) (cases_lt at j))
            (cases_lt j at);
        here = more.here;
      }

  pub along_at : (at : ℕ) (d : Wire) (o : Option End) → at < length wires → along (get_or wires at d) e ≡ o → step wires e at ≡ o
  along_at at d o within h = ap (option_and_then (λ w. along w e)) (slice_get-get_or wires at d within) ∙ h

  pub stands_past : (from at k : ℕ) → Stands wires e from at → length wires ≤ at → from ≤ k → step wires e k ≡ None
  stands_past from at k s past low =
      ⊎_elim (λ lt. s.none k low lt) (λ le. ap (option_and_then (λ w. along w e)) (slice_get_past wires k (omega arith))) (cases_lt k at)
