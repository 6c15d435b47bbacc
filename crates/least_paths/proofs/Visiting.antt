-- A search in breadth: the chains that are found stand in their order, each is the least to its last body, and each body that is
-- called by one that has been looked at is found.
use Rattle.std.proofs.Common.{◌≡◌, ℕ, zero, suc, ◌+◌, ◌<◌, ◌≤◌, Bool, true, false, if◌then◌else◌, ◌⊎◌, inl, inr, List, [], ◌∷◌, ◌++◌, length, length-append, append-nil, append_assoc, replicate, Option, Some, None, refl, sym, subst, ap, arith, ◌∙◌}
use Rattle.std.specs.Prelude.{slice_set}
use Rattle.std.proofs.lemmas.List.{length-replicate}
use Rattle.call_graph.specs.Paths.{IsIn}
use Rattle.call_graph.proofs.Lists.{nat_either, in_either, in_left, in_right}
use Rattle.least_paths.specs.declared.ways.Way.{Way}
use Rattle.least_paths.specs.declared.ways.Way.TheVariants.{Root, CalledBy}
use Rattle.least_paths.specs.declared.ways.Search.{Search}
use Rattle.least_paths.specs.Backward.{next, IsBack, EndsAt, IsUnder, AreRising, ends}
use Rattle.least_paths.specs.Visits.{way_at, is_found, is_new, with_way, waiting_with, all_ways, all_waiting}
use Rattle.least_paths.specs.Ascending.{IsAscending, IsArranged}
use Rattle.least_paths.specs.Searched.{way_of, IsTraced, IsSearch}
use Rattle.least_paths.proofs.Order.{irreflexive, transitive, both_same, either, longer}
use Rattle.least_paths.proofs.WayTables.{set_length, new_inside, old_found, not_both, here, kept, found_kept, found_before, count_found, count_open, few_found, one_more_found, one_less_open, none_yet}

-- ---- lists of chains

abbrev pub behind : List ℕ → List ℕ
behind [] = []
behind (x ∷ xs) = xs

behind_under : (e n : List ℕ) → IsUnder e n → IsUnder (behind e) n
behind_under [] n h = h
behind_under (x ∷ xs) n h = transitive xs (x ∷ xs) n (longer xs x) h

ends_both : (ps qs : List (List ℕ)) → ends (ps ++ qs) ≡ ends ps ++ ends qs
ends_both [] qs = refl
ends_both ([] ∷ ps) qs = ends_both ps qs
ends_both ((f ∷ rest) ∷ ps) qs = ap (λ fs. f ∷ fs) (ends_both ps qs)

in_more : {A : Type 0} (p n : A) (ps : List A) → IsIn p (ps ++ n ∷ []) → IsIn p ps ⊎ (p ≡ n)
in_more p n ps there = elim (in_either p ps (n ∷ []) there) [ inl was ↦ inl was | inr now ↦ only now ]
  where
    only : IsIn p (n ∷ []) → IsIn p ps ⊎ (p ≡ n)
    only (inl same) = inr same
    only (inr none) = absurd none

rising_more : (ps : List (List ℕ)) (n : List ℕ) → AreRising ps → ((p : List ℕ) → IsIn p ps → IsUnder p n) → AreRising (ps ++ n ∷ [])
rising_more [] n r under = (λ q there. absurd there, tt)
rising_more (p ∷ ps) n r under = (
  λ q there. elim (in_more q n ps there) [ inl was ↦ r.0 q was | inr same ↦ subst (IsUnder p) (sym same) (under p (inl refl)) ],
  rising_more ps n r.1 (λ q there. under q (inr there)),
)

rising_right : (ps qs : List (List ℕ)) → AreRising (ps ++ qs) → AreRising qs
rising_right [] qs r = r
rising_right (p ∷ ps) qs r = rising_right ps qs r.1

-- what is under p stands before it
in_done : (done ahead : List (List ℕ)) (p e : List ℕ) → AreRising (done ++ p ∷ ahead) → IsIn e (done ++ p ∷ ahead) → IsUnder e p → IsIn e done
in_done done ahead p e r there under = elim (in_either e done (p ∷ ahead) there) [ inl is ↦ is | inr from ↦ never from ]
  where
    never : IsIn e (p ∷ ahead) → IsIn e done
    never (inl same) = absurd (irreflexive p (subst (λ v. IsUnder v p) same under))
    never (inr later) = absurd (irreflexive p (transitive p e p ((rising_right done (p ∷ ahead) r).0 e later) under))

traced_kept : (ways : List (Option Way)) (g : ℕ) (w : Way) → is_new ways g ≡ true → (p : List ℕ) → IsTraced ways p → IsTraced (slice_set ways g (Some w)) p
traced_kept ways g w new [] t = tt
traced_kept ways g w new (f ∷ rest) t = (kept ways g f w (way_of rest) new t.0, traced_kept ways g w new rest t.1)

module _ (roots : List ℕ) (steps : ℕ → List ℕ) (count : ℕ) where
  ends_next : (e : List ℕ) (g : ℕ) → EndsAt g e → next roots steps e ≡ steps g
  ends_next [] g h = absurd h
  ends_next (f ∷ rest) g h = ap steps h

  -- ---- what is known of all chains so far

  pub record AreKnown (ways : List (Option Way)) (paths : List (List ℕ)) : Type 0 where
    pub size : length ways ≡ count
    pub back : (p : List ℕ) → IsIn p paths → IsBack roots steps p
    pub traced : (p : List ℕ) → IsIn p paths → IsTraced ways p
    pub short : (p : List ℕ) → IsIn p paths → length p ≤ count_found ways
    pub rising : AreRising paths
    pub least : (f : ℕ) (p q : List ℕ) → IsIn p paths → EndsAt f p → IsBack roots steps q → EndsAt f q → (p ≡ q) ⊎ IsUnder p q
    pub found : (f : ℕ) → is_found ways f ≡ true → (p : List ℕ) × IsIn p paths × EndsAt f p

  module _ (ways : List (Option Way)) (paths : List (List ℕ)) (g : ℕ) (rest : List ℕ) (new : is_new ways g ≡ true) (there : IsIn rest paths) (step : IsIn g (next roots steps rest))
      (under : (p : List ℕ) → IsIn p paths → IsUnder p (g ∷ rest)) (first : (q : List ℕ) → IsBack roots steps q → EndsAt g q → ((g ∷ rest) ≡ q) ⊎ IsUnder (g ∷ rest) q) (k : AreKnown ways paths) where
    abbrev later : List (Option Way)
    later = slice_set ways g (Some (way_of rest))

    by_case : (P : List ℕ → Type 0) → ((p : List ℕ) → IsIn p paths → P p) → P (g ∷ rest) → (p : List ℕ) → IsIn p (paths ++ (g ∷ rest) ∷ []) → P p
    by_case P old now p is = elim (in_more p (g ∷ rest) paths is) [ inl was ↦ old p was | inr same ↦ subst P (sym same) now ]

    least_again : (f : ℕ) (q : List ℕ) → EndsAt f (g ∷ rest) → IsBack roots steps q → EndsAt f q → ((g ∷ rest) ≡ q) ⊎ IsUnder (g ∷ rest) q
    least_again f q is back at = first q back (subst (λ v. EndsAt v q) (sym is) at)

    found_again : (f : ℕ) → is_found later f ≡ true → (p : List ℕ) × IsIn p (paths ++ (g ∷ rest) ∷ []) × EndsAt f p
    found_again f is = elim (found_before ways g f (way_of rest) is) [
      | inl was ↦ (let o = k.found f was in (o.0, in_left o.0 paths ((g ∷ rest) ∷ []) o.1, o.2))
      | inr same ↦ (g ∷ rest, in_right (g ∷ rest) paths ((g ∷ rest) ∷ []) (inl refl), sym same)
    ]

    pub with_one : AreKnown later (paths ++ (g ∷ rest) ∷ [])
    with_one = record {
      size = set_length ways g (way_of rest) ∙ k.size;
      back = by_case (IsBack roots steps) k.back (step, k.back rest there);
      traced = by_case (IsTraced later) (λ p is. traced_kept ways g (way_of rest) new p (k.traced p is)) (here ways g (way_of rest) new, traced_kept ways g (way_of rest) new rest (k.traced rest there));
      short = by_case (λ p. length p ≤ count_found later) (λ p is. omega (arith, k.short p is, one_more_found ways g (way_of rest) new)) (omega (arith, k.short rest there, one_more_found ways g (way_of rest) new));
      rising = rising_more paths (g ∷ rest) k.rising under;
      least = λ f p q is. by_case (λ p. EndsAt f p → IsBack roots steps q → EndsAt f q → (p ≡ q) ⊎ IsUnder p q) (λ p is. k.least f p q is) (least_again f q) p is;
      found = found_again;
    }

  -- ---- one chain p is looked at: those in `done` have been, those in `ahead` wait, and the bodies in `left` are to come

  pub record IsVisiting (ways : List (Option Way)) (done : List (List ℕ)) (p : List ℕ) (ahead : List (List ℕ)) (left : List ℕ) : Type 0 where
    pub known : AreKnown ways (done ++ p ∷ ahead)
    pub empty : IsIn [] (done ++ p ∷ ahead)
    pub closed : (e : List ℕ) (g : ℕ) → IsIn e done → IsIn g (next roots steps e) → g < count → is_found ways g ≡ true
    pub near : (e q : List ℕ) → IsIn e (done ++ p ∷ ahead) → IsIn q ahead → IsUnder (behind e) q
    pub before : (e : List ℕ) (g : ℕ) → IsIn e (done ++ p ∷ ahead) → IsIn g left → IsUnder e (g ∷ p) ⊎ (is_found ways g ≡ true)
    pub owed : (g : ℕ) → IsIn g (next roots steps p) → g < count → (is_found ways g ≡ true) ⊎ IsIn g left
    pub callees : (g : ℕ) → IsIn g left → IsIn g (next roots steps p)
    pub ascending : IsAscending left

  -- between two of them
  pub record IsSearching (ways : List (Option Way)) (order waiting : List ℕ) : Type 0 where
    pub done : List (List ℕ)
    pub ahead : List (List ℕ)
    pub known : AreKnown ways (done ++ ahead)
    pub empty : IsIn [] done
    pub closed : (e : List ℕ) (g : ℕ) → IsIn e done → IsIn g (next roots steps e) → g < count → is_found ways g ≡ true
    pub near : (e q : List ℕ) → IsIn e (done ++ ahead) → IsIn q ahead → IsUnder (behind e) q
    pub in_order : ends done ≡ order
    pub in_wait : ends ahead ≡ waiting

  module _ (limited : (f g : ℕ) → IsIn g (steps f) → f < count) where
    module _ (done : List (List ℕ)) (p : List ℕ) where
      module _ (ways : List (Option Way)) (ahead : List (List ℕ)) (g : ℕ) (left : List ℕ) (v : IsVisiting ways done p ahead (g ∷ left)) where
        -- where a chain under p goes on, one of those that have been looked at goes on too
        processed : (q : List ℕ) (x : ℕ) → IsBack roots steps q → IsIn x (next roots steps q) → IsUnder q p → (e : List ℕ) × IsIn e done × (next roots steps e ≡ next roots steps q)
        processed [] x back step under = ([], in_done done ahead p [] v.known.rising v.empty under, refl)
        processed (h ∷ rest) x back step under =
            let b = processed rest h back.1 back.0 (transitive rest (h ∷ rest) p (longer rest h) under) in
            let is = v.closed b.0 h b.1 (subst (IsIn h) (sym b.2) back.0) (limited h x step) in
            let e = v.known.found h is in
            let below : IsUnder e.0 p = elim (v.known.least h e.0 (h ∷ rest) e.1 e.2 back refl) [ inl same ↦ subst (λ w. IsUnder w p) (sym same) under | inr less ↦ transitive e.0 (h ∷ rest) p less under ] in
            (e.0, in_done done ahead p e.0 v.known.rising e.1 below, ends_next e.0 h e.2)

        other : is_new ways g ≡ false → IsVisiting ways done p ahead left
        other old = record {
          known = v.known;
          empty = v.empty;
          closed = v.closed;
          near = v.near;
          before = λ e h there is. v.before e h there (inr is);
          owed = λ h step below. elim (v.owed h step below) [ inl is ↦ inl is | inr owed ↦ first h below owed ];
          callees = λ h is. v.callees h (inr is);
          ascending = v.ascending.1;
        }
          where
            first : (h : ℕ) → h < count → IsIn h (g ∷ left) → (is_found ways h ≡ true) ⊎ IsIn h left
            first h below (inl same) = inl (subst (λ k. is_found ways k ≡ true) (sym same) (old_found ways g old (omega (arith, same, below, v.known.size))))
            first h below (inr is) = inr is

        module _ (new : is_new ways g ≡ true) where
          abbrev ways_then : List (Option Way)
          ways_then = slice_set ways g (Some (way_of p))

          inside : g < count
          inside = omega (arith, new_inside ways g new, v.known.size)

          first : (q : List ℕ) → IsBack roots steps q → EndsAt g q → ((g ∷ p) ≡ q) ⊎ IsUnder (g ∷ p) q
          first [] back at = absurd at
          first (x ∷ rest) back at = by_order (either p rest)
            where
              step : IsIn g (next roots steps rest)
              step = subst (λ h. IsIn h (next roots steps rest)) at back.0

              by_order : IsUnder p rest ⊎ ((p ≡ rest) ⊎ IsUnder rest p) → ((g ∷ p) ≡ (x ∷ rest)) ⊎ IsUnder (g ∷ p) (x ∷ rest)
              by_order (inl less) = inr (inl less)
              by_order (inr (inl same)) = inl (both_same g x p rest (sym at) same)
              by_order (inr (inr less)) = let e = processed rest g back.1 step less in absurd (not_both ways g new (v.closed e.0 g e.1 (subst (IsIn g) (sym e.2) step) inside))

          under : (e : List ℕ) → IsIn e (done ++ p ∷ ahead) → IsUnder e (g ∷ p)
          under e there = elim (v.before e g there (inl refl)) [ inl is ↦ is | inr found ↦ absurd (not_both ways g new found) ]

          here_is : IsIn p (done ++ p ∷ ahead)
          here_is = in_right p done (p ∷ ahead) (inl refl)

          shifted : ((done ++ p ∷ ahead) ++ (g ∷ p) ∷ []) ≡ (done ++ p ∷ (ahead ++ (g ∷ p) ∷ []))
          shifted = append_assoc done (p ∷ ahead) ((g ∷ p) ∷ [])

          split : (e : List ℕ) → IsIn e (done ++ p ∷ (ahead ++ (g ∷ p) ∷ [])) → IsIn e (done ++ p ∷ ahead) ⊎ (e ≡ g ∷ p)
          split e there = in_more e (g ∷ p) (done ++ p ∷ ahead) (subst (IsIn e) (sym shifted) there)

          found_still : (h : ℕ) → is_found ways h ≡ true → is_found ways_then h ≡ true
          found_still h is = found_kept ways g h (way_of p) is

          found_now : (h : ℕ) → h ≡ g → is_found ways_then h ≡ true
          found_now h same = subst (λ k. is_found ways_then k ≡ true) (sym same) (rw (here ways g (way_of p) new) refl)

          near_again : (e q : List ℕ) → IsIn e (done ++ p ∷ (ahead ++ (g ∷ p) ∷ [])) → IsIn q (ahead ++ (g ∷ p) ∷ []) → IsUnder (behind e) q
          near_again e q there at = both (split e there) (in_more q (g ∷ p) ahead at)
            where
              both : IsIn e (done ++ p ∷ ahead) ⊎ (e ≡ g ∷ p) → IsIn q ahead ⊎ (q ≡ g ∷ p) → IsUnder (behind e) q
              both (inl was) (inl waits) = v.near e q was waits
              both (inl was) (inr now) = subst (IsUnder (behind e)) (sym now) (behind_under e (g ∷ p) (under e was))
              both (inr same) (inl waits) = subst (λ w. IsUnder (behind w) q) (sym same) ((rising_right done (p ∷ ahead) v.known.rising).0 q waits)
              both (inr same) (inr now) = subst (λ w. IsUnder (behind w) q) (sym same) (subst (IsUnder p) (sym now) (longer p g))

          before_again : (e : List ℕ) (h : ℕ) → IsIn e (done ++ p ∷ (ahead ++ (g ∷ p) ∷ [])) → IsIn h left → IsUnder e (h ∷ p) ⊎ (is_found ways_then h ≡ true)
          before_again e h there is = by_split (split e there)
            where
              by_number : e ≡ g ∷ p → (h ≤ g) ⊎ (g < h) → IsUnder e (h ∷ p) ⊎ (is_found ways_then h ≡ true)
              by_number same (inl le) = inr (found_now h (omega (arith, le, v.ascending.0 h is)))
              by_number same (inr lt) = inl (subst (λ w. IsUnder w (h ∷ p)) (sym same) (inr (refl, lt)))

              by_split : IsIn e (done ++ p ∷ ahead) ⊎ (e ≡ g ∷ p) → IsUnder e (h ∷ p) ⊎ (is_found ways_then h ≡ true)
              by_split (inl was) = elim (v.before e h was (inr is)) [ inl below ↦ inl below | inr found ↦ inr (found_still h found) ]
              by_split (inr same) = by_number same (nat_either h g)

          owed_again : (h : ℕ) → IsIn h (g ∷ left) → (is_found ways_then h ≡ true) ⊎ IsIn h left
          owed_again h (inl same) = inl (found_now h same)
          owed_again h (inr is) = inr is

          one : IsVisiting ways_then done p (ahead ++ (g ∷ p) ∷ []) left
          one = record {
            known = subst (AreKnown ways_then) shifted (with_one ways (done ++ p ∷ ahead) g p new here_is (v.callees g (inl refl)) under first v.known);
            empty = subst (IsIn []) shifted (in_left [] (done ++ p ∷ ahead) ((g ∷ p) ∷ []) v.empty);
            closed = λ e h there step below. found_still h (v.closed e h there step below);
            near = near_again;
            before = before_again;
            owed = λ h step below. elim (v.owed h step below) [ inl is ↦ inl (found_still h is) | inr owed ↦ owed_again h owed ];
            callees = λ h is. v.callees h (inr is);
            ascending = v.ascending.1;
          }

      -- all of them
      pub record Visited (ways : List (Option Way)) (waiting : List ℕ) : Type 0 where
        pub ahead : List (List ℕ)
        pub state : IsVisiting ways done p ahead []
        pub is : ends ahead ≡ waiting

      visited : (left : List ℕ) (ways : List (Option Way)) (ahead : List (List ℕ)) (waiting : List ℕ) → ends ahead ≡ waiting → IsVisiting ways done p ahead left
          → Visited (all_ways (way_of p) ways left) (all_waiting (way_of p) ways waiting left)
      visited [] ways ahead waiting e v = record { ahead = ahead; state = v; is = e }
      visited (g ∷ left) ways ahead waiting e v =
          by_test (is_new ways g) refl
          (λ new. visited left (slice_set ways g (Some (way_of p))) (ahead ++ (g ∷ p) ∷ []) (waiting ++ g ∷ []) (ends_both ahead ((g ∷ p) ∷ []) ∙ ap (λ l. l ++ g ∷ []) e) (one ways ahead g left v new))
          (λ old. visited left ways ahead waiting e (other ways ahead g left v old))
        where
          by_test : (t : Bool) → is_new ways g ≡ t
              → (is_new ways g ≡ true → Visited (all_ways (way_of p) (slice_set ways g (Some (way_of p))) left) (all_waiting (way_of p) (slice_set ways g (Some (way_of p))) (waiting ++ g ∷ []) left))
              → (is_new ways g ≡ false → Visited (all_ways (way_of p) ways left) (all_waiting (way_of p) ways waiting left))
              → Visited (all_ways (way_of p) (if t then slice_set ways g (Some (way_of p)) else ways) left)
              (all_waiting (way_of p) (if t then slice_set ways g (Some (way_of p)) else ways) (if t then waiting ++ g ∷ [] else waiting) left)
          by_test true is new old = new is
          by_test false is new old = old is

    -- ---- between two of them

    looked_at : (ways : List (Option Way)) (done : List (List ℕ)) (p : List ℕ) (ahead : List (List ℕ)) (order waiting : List ℕ)
        → ends (done ++ p ∷ []) ≡ order → ends ahead ≡ waiting → IsVisiting ways done p ahead [] → IsSearching ways order waiting
    looked_at ways done p ahead order waiting e f v = record {
      done = done ++ p ∷ [];
      ahead = ahead;
      known = subst (AreKnown ways) (sym joined) v.known;
      empty = first v.empty;
      closed = λ d g there step below. elim (in_more d p done there) [ inl was ↦ v.closed d g was step below | inr same ↦ last d g same step below ];
      near = λ d q there is. v.near d q (subst (IsIn d) joined there) is;
      in_order = e;
      in_wait = f;
    }
      where
        joined : ((done ++ p ∷ []) ++ ahead) ≡ (done ++ p ∷ ahead)
        joined = append_assoc done (p ∷ []) ahead

        last : (d : List ℕ) (g : ℕ) → d ≡ p → IsIn g (next roots steps d) → g < count → is_found ways g ≡ true
        last d g same step below = elim (v.owed g (subst (λ w. IsIn g (next roots steps w)) same step) below) [ inl is ↦ is | inr owed ↦ absurd owed ]

        later : IsIn [] (p ∷ ahead) → IsIn [] (done ++ p ∷ [])
        later (inl same) = in_right [] done (p ∷ []) (inl same)
        later (inr there) = absurd (v.near [] [] v.empty there)

        first : IsIn [] (done ++ p ∷ ahead) → IsIn [] (done ++ p ∷ [])
        first there = elim (in_either [] done (p ∷ ahead) there) [ inl was ↦ in_left [] done (p ∷ []) was | inr is ↦ later is ]

    -- the roots
    pub started : (left : List ℕ) → IsArranged roots left → IsSearching (all_ways Root (replicate count None) left) [] (all_waiting Root (replicate count None) [] left)
    started left a = let d = visited [] [] left (replicate count None) [] [] refl begun in looked_at _ [] [] d.ahead [] _ refl d.is d.state
      where
        only_empty : (P : List ℕ → Type 0) → P [] → (p : List ℕ) → IsIn p ([] ∷ []) → P p
        only_empty P h p (inl same) = subst P (sym same) h
        only_empty P h p (inr none) = absurd none

        known : AreKnown (replicate count None) ([] ∷ [])
        known = record {
          size = length-replicate count None;
          back = only_empty (IsBack roots steps) tt;
          traced = only_empty (IsTraced (replicate count None)) tt;
          short = only_empty (λ p. length p ≤ count_found (replicate count None)) (omega arith);
          rising = (λ q there. absurd there, tt);
          least = λ f p q is. only_empty (λ p. EndsAt f p → IsBack roots steps q → EndsAt f q → (p ≡ q) ⊎ IsUnder p q) (λ never. absurd never) p is;
          found = λ f is. absurd (none_yet count f is);
        }

        begun : IsVisiting (replicate count None) [] [] [] left
        begun = record {
          known = known;
          empty = inl refl;
          closed = λ e g there. absurd there;
          near = λ e q there is. absurd is;
          before = λ e g there is. inl (only_empty (λ e. IsUnder e (g ∷ [])) tt e there);
          owed = λ g step below. inr (a.all g step);
          callees = a.only;
          ascending = a.ascending;
        }

    module _ (ways : List (Option Way)) (order waiting : List ℕ) (f : ℕ) (left : List ℕ) (a : IsArranged (steps f) left) (s : IsSearching ways order (f ∷ waiting)) where
      at_first : (h : ℕ) (rest : List ℕ) (others : List (List ℕ)) → s.ahead ≡ (h ∷ rest) ∷ others → h ≡ f → IsVisiting ways s.done (h ∷ rest) others left
      at_first h rest others is same = record {
        known = subst (λ l. AreKnown ways (s.done ++ l)) is s.known;
        empty = in_left [] s.done ((h ∷ rest) ∷ others) s.empty;
        closed = s.closed;
        near = λ e q there waits. s.near e q (back e there) (subst (IsIn q) (sym is) (inr waits));
        before = λ e g there g_left. inl (below e g there);
        owed = λ g step inside. inr (a.all g (subst (λ k. IsIn g (steps k)) same step));
        callees = λ g there. subst (λ k. IsIn g (steps k)) (sym same) (a.only g there);
        ascending = a.ascending;
      }
        where
          back : (e : List ℕ) → IsIn e (s.done ++ (h ∷ rest) ∷ others) → IsIn e (s.done ++ s.ahead)
          back e there = subst (λ l. IsIn e (s.done ++ l)) (sym is) there

          below : (e : List ℕ) (g : ℕ) → IsIn e (s.done ++ (h ∷ rest) ∷ others) → IsUnder e (g ∷ h ∷ rest)
          below [] g there = tt
          below (x ∷ xs) g there = inl (s.near (x ∷ xs) (h ∷ rest) (back (x ∷ xs) there) (subst (IsIn (h ∷ rest)) (sym is) (inl refl)))

      by_ahead : (l : List (List ℕ)) → s.ahead ≡ l → ends l ≡ f ∷ waiting → IsSearching (all_ways (CalledBy f) ways left) (order ++ f ∷ []) (all_waiting (CalledBy f) ways waiting left)
      by_ahead [] is e = absurd (omega (arith, ap length e))
      by_ahead ([] ∷ others) is e = absurd (s.near [] [] (in_left [] s.done s.ahead s.empty) (subst (IsIn []) (sym is) (inl refl)))
      by_ahead ((h ∷ rest) ∷ others) is e =
          let same : h ≡ f = ap (first_of h) e in
          let v = visited s.done (h ∷ rest) left ways others waiting (ap behind e) (at_first h rest others is same) in
          subst (λ k. IsSearching (all_ways (CalledBy k) ways left) (order ++ k ∷ []) (all_waiting (CalledBy k) ways waiting left)) same
          (looked_at _ s.done (h ∷ rest) v.ahead _ _ (ends_both s.done ((h ∷ rest) ∷ []) ∙ ap (λ l. l ++ h ∷ []) s.in_order) v.is v.state)
        where
          first_of : ℕ → List ℕ → ℕ
          first_of d [] = d
          first_of d (x ∷ xs) = x

      pub went_on : IsSearching (all_ways (CalledBy f) ways left) (order ++ f ∷ []) (all_waiting (CalledBy f) ways waiting left)
      went_on = by_ahead s.ahead refl s.in_wait

    -- ---- at the end

    module _ (ways : List (Option Way)) (order : List ℕ) (s : IsSearching ways order []) where
      none_ahead : (l : List (List ℕ)) → s.ahead ≡ l → ends l ≡ [] → l ≡ []
      none_ahead [] is e = refl
      none_ahead ([] ∷ later) is e = absurd (s.near [] [] (in_left [] s.done s.ahead s.empty) (subst (IsIn []) (sym is) (inl refl)))
      none_ahead ((h ∷ rest) ∷ later) is e = absurd (omega (arith, ap length e))

      all_done : (s.done ++ s.ahead) ≡ s.done
      all_done = ap (λ l. s.done ++ l) (none_ahead s.ahead refl s.in_wait) ∙ append-nil s.done

      known : AreKnown ways s.done
      known = subst (AreKnown ways) all_done s.known

      reached : (q : List ℕ) (x : ℕ) → IsBack roots steps q → IsIn x (next roots steps q) → (e : List ℕ) × IsIn e s.done × (next roots steps e ≡ next roots steps q)
      reached [] x back step = ([], s.empty, refl)
      reached (h ∷ rest) x back step =
          let b = reached rest h back.1 back.0 in
          let e = known.found h (s.closed b.0 h b.1 (subst (IsIn h) (sym b.2) back.0) (limited h x step)) in
          (e.0, e.1, ends_next e.0 h e.2)

      complete : (f : ℕ) (q : List ℕ) → f < count → IsBack roots steps q → EndsAt f q → is_found ways f ≡ true
      complete f [] inside back at = absurd at
      complete f (g ∷ rest) inside back at =
          let b = reached rest g back.1 back.0 in
          subst (λ k. is_found ways k ≡ true) at (s.closed b.0 g b.1 (subst (IsIn g) (sym b.2) back.0) (omega (arith, at, inside)))

      pub ended : (r : Search) → r.ways.items ≡ ways → r.order.items ≡ order → IsSearch roots steps count r
      ended r same in_order = record {
        size = ap length same ∙ known.size;
        paths = s.done;
        order = s.in_order ∙ sym in_order;
        back = known.back;
        traced = λ p there. subst (λ w. IsTraced w p) (sym same) (known.traced p there);
        short = λ p there. omega (arith, known.short p there, few_found ways, known.size);
        rising = known.rising;
        least = known.least;
        found = λ f is. known.found f (subst (λ w. is_found w f ≡ true) same is);
        complete = λ f q inside back at. subst (λ w. is_found w f ≡ true) (sym same) (complete f q inside back at);
      }

-- ---- each turn looks at one body more

abbrev pub weight : List (Option Way) → List ℕ → ℕ
weight ways waiting = count_open ways + length waiting

steady_one : (way : Way) (ways : List (Option Way)) (waiting : List ℕ) (g : ℕ) → weight (with_way ways g way) (waiting_with ways waiting g) ≡ weight ways waiting
steady_one way ways waiting g = by_test (is_new ways g) refl
  where
    by_test : (t : Bool) → is_new ways g ≡ t → weight (if t then slice_set ways g (Some way) else ways) (if t then waiting ++ g ∷ [] else waiting) ≡ weight ways waiting
    by_test true new = omega (arith, one_less_open ways g way new, length-append waiting (g ∷ []))
    by_test false old = refl

pub steady : (way : Way) (ways : List (Option Way)) (waiting left : List ℕ) → weight (all_ways way ways left) (all_waiting way ways waiting left) ≡ weight ways waiting
steady way ways waiting [] = refl
steady way ways waiting (g ∷ left) = steady way (with_way ways g way) (waiting_with ways waiting g) left ∙ steady_one way ways waiting g
