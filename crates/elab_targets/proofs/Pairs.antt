-- Numbers of pairs of names, where a pair gets one if it has none.
use Rattle.std.proofs.Common.{◌≡◌, ℕ, ◌≤◌, Bool, true, false, ◌&&◌, nat_eq, List, length, position, Option, Some, None, option_and_then, refl, sym, ap, subst, ◌∙◌, arith, bytes_eq, eqb-true}
use Rattle.std.specs.List.{position_or_len}
use Rattle.std.specs.Option.{option_or}
use Rattle.std.proofs.lemmas.Slice.Eq.{bytes_eq-Decides}
use Rattle.wire_names.specs.Texts.{same_text}
use Rattle.elab_targets.specs.Tables.{AreNamed, IsKept, is_pair, item_place, numbers_at, same_pair, when, with_element}
use Rattle.elab_targets.specs.declared.items.ItemPlaces.{ItemPlaces}
use Rattle.elab_targets.proofs.Naming.{Grown, stays, comes, added, grown, numbered, longer, within, one_name}

then_grown : (n m : ℕ) (a b c : Option ℕ) → n ≤ m → Grown n a b → Grown m b c → Grown n a c
then_grown n m a b c l (stays p) (stays q) = stays (q ∙ p)
then_grown n m a b c l (stays p) (comes k none least is) = comes k (sym p ∙ none) (omega (arith, l, least)) is
then_grown n m a b c l (comes k none least is) (stays q) = comes k none least (q ∙ is)
then_grown n m a b c l (comes k none least is) (comes j absent other q) = absurd (cc)

kept_none : (n : ℕ) (old new : Option ℕ) → Grown n old new → new ≡ None → old ≡ None
kept_none n old new (stays p) none = sym p ∙ none
kept_none n old new (comes k is least p) none = is

kept_some : (n k : ℕ) (old new : Option ℕ) → Grown n old new → old ≡ Some k → new ≡ Some k
kept_some n k old new (stays p) is = p ∙ is
kept_some n k old new (comes j none least p) is = absurd (cc)

nothing : (o : Option ℕ) (f : ℕ → ℕ → Option ℕ) → option_and_then (λ i. option_and_then (f i) None) o ≡ None
nothing None f = refl
nothing (Some i) f = refl

never : (b : Bool) → (b && false) ≡ false
never true = refl
never false = refl

-- what the two numbers led to before
module _ (n : ℕ) (at : ℕ → ℕ → Option ℕ) (left : (i j : ℕ) → n ≤ i → at i j ≡ None) (right : (i j : ℕ) → n ≤ j → at i j ≡ None) where
  looked : (x y : Option ℕ) (i j : ℕ) → Grown n x (Some i) → Grown n y (Some j) → option_and_then (λ k. option_and_then (at k) y) x ≡ at i j
  looked x y i j (stays p) (stays q) = ap (λ o. option_and_then (λ k. option_and_then (at k) y) o) (sym p) ∙ ap (λ o. option_and_then (at i) o) (sym q)
  looked x y i j (stays p) (comes k none least q) = let e : j ≡ k = cc in ap (λ o. option_and_then (λ m. option_and_then (at m) o) x) none ∙ nothing x at ∙ sym (right i j (omega (arith, least, e)))
  looked x y i j (comes k none least p) other = let e : i ≡ k = cc in ap (λ o. option_and_then (λ m. option_and_then (at m) y) o) none ∙ sym (left i j (omega (arith, least, e)))

module _ (element item : List ℕ) (place : ℕ) (old new : ItemPlaces) (mid : List (List ℕ))
    (first : mid ≡ added element old.names) (second : new.names ≡ added item mid)
    (placed : (i j : ℕ) → numbers_at new i j ≡ option_or (numbers_at old i j) (when (same_pair (position_or_len (same_text element) old.names, position_or_len (same_text item) mid) (i, j)) place))
  where
    abbrev e : ℕ
    e = position_or_len (same_text element) old.names

    abbrev f : ℕ
    f = position_or_len (same_text item) mid

    both_grown : (x : List ℕ) → Grown (length old.names) (position (same_text x) old.names) (position (same_text x) new.names)
    both_grown x =
        let up : length old.names ≤ length mid = subst (λ ns. length old.names ≤ length ns) (sym first) (longer element old.names) in
        then_grown (length old.names) (length mid) _ (position (same_text x) mid) _ up
        (subst (λ (ns : List (List ℕ)). Grown (length old.names) (position (same_text x) old.names) (position (same_text x) ns)) (sym first) (grown element x old.names))
        (subst (λ (ns : List (List ℕ)). Grown (length mid) (position (same_text x) mid) (position (same_text x) ns)) (sym second) (grown item x mid))

    at_most : length old.names ≤ length new.names
    at_most =
        let up : length old.names ≤ length mid = subst (λ ns. length old.names ≤ length ns) (sym first) (longer element old.names) in
        let more : length mid ≤ length new.names = subst (λ ns. length mid ≤ length ns) (sym second) (longer item mid) in
        omega (arith, up, more)

    element_at : position (same_text element) new.names ≡ Some e
    element_at =
        let here : position (same_text element) mid ≡ Some e = ap (position (same_text element)) first ∙ numbered element old.names in
        kept_some (length mid) e _ (position (same_text element) new.names) (subst (λ (ns : List (List ℕ)). Grown (length mid) (position (same_text element) mid) (position (same_text element) ns)) (sym second) (grown item element mid)) here

    item_at : position (same_text item) new.names ≡ Some f
    item_at = ap (position (same_text item)) second ∙ numbered item mid

    -- a name has the number of another one only if it is that
    same_number : (a x : List ℕ) (n i : ℕ) → position (same_text a) new.names ≡ Some n → position (same_text x) new.names ≡ Some i → nat_eq n i ≡ bytes_eq a x
    same_number a x n i p q = by (nat_eq n i) (bytes_eq a x) refl refl where
      by : (s t : Bool) → nat_eq n i ≡ s → bytes_eq a x ≡ t → s ≡ t
      by true true h g = refl
      by false false h g = refl
      by true false h g =
          let eq : n ≡ i = eqb-true n i h in
          let is : a ≡ x = one_name a x n new.names p (q ∙ ap Some (sym eq)) in
          sym ((bytes_eq-Decides a x).1 is) ∙ g
      by false true h g =
          let is : a ≡ x = (bytes_eq-Decides a x).0 g in
          let eq : Some n ≡ Some i = sym p ∙ ap (λ (y : List ℕ). position (same_text y) new.names) is ∙ q in
          absurd (grind (arith, eq, h))

    missing : (a x : List ℕ) (n : ℕ) → position (same_text a) new.names ≡ Some n → position (same_text x) new.names ≡ None → bytes_eq a x ≡ false
    missing a x n p q = by (bytes_eq a x) refl where
      by : (t : Bool) → bytes_eq a x ≡ t → t ≡ false
      by false h = refl
      by true h =
          let is : a ≡ x = (bytes_eq-Decides a x).0 h in
          let eq : Some n ≡ None = sym p ∙ ap (λ (y : List ℕ). position (same_text y) new.names) is ∙ q in
          absurd (cc)

    named_left : AreNamed old → (i j : ℕ) → length new.names ≤ i → numbers_at new i j ≡ None
    named_left named i j l =
        let up = at_most in
        let small = within element e new.names element_at in
        let ne : nat_eq e i ≡ false = grind (arith, small, l) in
        placed i j ∙ ap (λ o. option_or o (when (nat_eq e i && nat_eq f j) place)) (named.left i j (omega (arith, up, l))) ∙ ap (λ b. when (b && nat_eq f j) place) ne

    named_right : AreNamed old → (i j : ℕ) → length new.names ≤ j → numbers_at new i j ≡ None
    named_right named i j l =
        let up = at_most in
        let small = within item f new.names item_at in
        let ne : nat_eq f j ≡ false = grind (arith, small, l) in
        placed i j ∙ ap (λ o. option_or o (when (nat_eq e i && nat_eq f j) place)) (named.right i j (omega (arith, up, l))) ∙ ap (λ b. when (nat_eq e i && b) place) ne
        ∙ ap (λ b. when b place) (never (nat_eq e i))

    module _ (named : AreNamed old) (x y : List ℕ) where
      abbrev old_x : Option ℕ
      old_x = position (same_text x) old.names

      abbrev old_y : Option ℕ
      old_y = position (same_text y) old.names

      no_left : position (same_text x) new.names ≡ None → option_and_then (with_element new y) None ≡ option_or (option_and_then (with_element old y) old_x) (when (bytes_eq element x && bytes_eq item y) place)
      no_left none =
          ap (λ b. when (b && bytes_eq item y) place) (sym (missing element x e element_at none))
          ∙ ap (λ o. option_or (option_and_then (with_element old y) o) (when (bytes_eq element x && bytes_eq item y) place)) (sym (kept_none (length old.names) old_x _ (both_grown x) none))

      no_right : position (same_text y) new.names ≡ None → None ≡ option_or (option_and_then (with_element old y) old_x) (when (bytes_eq element x && bytes_eq item y) place)
      no_right none =
          sym (ap (λ o. option_or (option_and_then (λ i. option_and_then (numbers_at old i) o) old_x) (when (bytes_eq element x && bytes_eq item y) place)) (kept_none (length old.names) old_y _ (both_grown y) none)
          ∙ ap (λ o. option_or o (when (bytes_eq element x && bytes_eq item y) place)) (nothing old_x (numbers_at old))
          ∙ ap (λ b. when (bytes_eq element x && b) place) (missing item y f item_at none)
          ∙ ap (λ b. when b place) (never (bytes_eq element x)))

      both_there : (i j : ℕ) → position (same_text x) new.names ≡ Some i → position (same_text y) new.names ≡ Some j
          → numbers_at new i j ≡ option_or (option_and_then (with_element old y) old_x) (when (bytes_eq element x && bytes_eq item y) place)
      both_there i j p q =
          placed i j
          ∙ ap (λ o. option_or o (when (nat_eq e i && nat_eq f j) place))
          (sym (looked (length old.names) (numbers_at old) named.left named.right old_x old_y i j (subst (Grown (length old.names) old_x) p (both_grown x)) (subst (Grown (length old.names) old_y) q (both_grown y))))
          ∙ ap (λ b. option_or (option_and_then (with_element old y) old_x) (when (b && nat_eq f j) place)) (same_number element x e i element_at p)
          ∙ ap (λ b. option_or (option_and_then (with_element old y) old_x) (when (bytes_eq element x && b) place)) (same_number item y f j item_at q)

      places_are : item_place new x y ≡ option_or (item_place old x y) (when (is_pair element item x y) place)
      places_are = by (position (same_text x) new.names) (position (same_text y) new.names) refl refl where
        by : (a b : Option ℕ) → position (same_text x) new.names ≡ a → position (same_text y) new.names ≡ b
            → option_and_then (λ i. option_and_then (numbers_at new i) b) a ≡ option_or (option_and_then (with_element old y) old_x) (when (bytes_eq element x && bytes_eq item y) place)
        by None b p q = no_left p
        by (Some i) None p q = no_right q
        by (Some i) (Some j) p q = both_there i j p q

    pub kept : IsKept element item place old new
    kept = record {
      named = λ named. record { left = named_left named; right = named_right named };
      places = places_are;
    }

-- the same with the numbers that were given
pub kept_at : (element item : List ℕ) (place : ℕ) (old new : ItemPlaces) (mid : List (List ℕ)) (e f : ℕ)
    → e ≡ position_or_len (same_text element) old.names → f ≡ position_or_len (same_text item) mid → mid ≡ added element old.names → new.names ≡ added item mid
    → ((i j : ℕ) → numbers_at new i j ≡ option_or (numbers_at old i j) (when (same_pair (e, f) (i, j)) place)) → IsKept element item place old new
kept_at element item place old new mid e f is_e is_f first second placed = kept element item place old new mid first second (λ i j.
    placed i j
    ∙ ap (λ (n : ℕ). option_or (numbers_at old i j) (when (same_pair (n, f) (i, j)) place)) is_e
    ∙ ap (λ (n : ℕ). option_or (numbers_at old i j) (when (same_pair (position_or_len (same_text element) old.names, n) (i, j)) place)) is_f)
