-- The first bodies that touch objects, found one after the other.
use Rattle.std.proofs.Common.{◌≡◌, ℕ, zero, suc, ◌+◌, ◌<◌, ◌≤◌, ◌==◌, Bool, true, false, if◌then◌else◌, ◌||◌, Bor, List, [], ◌∷◌, ◌++◌, length, map, drop, get_or, replicate, Option, Some, None, refl, sym, subst, ap, arith, ◌∙◌, eqb-true}
use Rattle.std.specs.Prelude.{slice_get, slice_set}
use Rattle.std.specs.List.{list_any}
use Rattle.std.proofs.Math.ListN.{drop_of_length-le}
use Rattle.std.proofs.lemmas.Bool.{eq-eqb, false≢true}
use Rattle.std.proofs.lemmas.List.{length-set, get_or-set_same, get_or-set_other, get_or-replicate, length-replicate}
use Rattle.std.proofs.lemmas.Option.{slice_get_within}
use Rattle.nesc_core.specs.declared.tree.CoreType.{CoreType}
use Rattle.nesc_core.specs.Parts.{same_type}
use Rattle.nesc_core.specs.declared.tree.Place as listed_place
use Rattle.nm_base.specs.declared.pos.Pos.{Pos}
use Rattle.nesc_core.specs.Plain.{Ty, Place, object, local, deref, index, field, Object, Program}
use Rattle.nesc_core.specs.View.{place_of, type_of}
use Rattle.nesc_core.proofs.PlaceLemmas.{same_type-is}
use Rattle.call_graph.specs.declared.uses.Use as listed
use Rattle.call_graph.specs.declared.uses.Use.TheVariants as listed_
use Rattle.call_graph.specs.View.{use_of}
use Rattle.call_graph.proofs.ViewLists.{next_of}
use Rattle.least_paths.specs.Searched.{first_end}
use Rattle.race_checker.specs.Report.{is_pointed_at, touches}
use Rattle.race_checker.specs.Computed.{is_touching, is_marked, touches_in}
use Rattle.race_report.specs.declared.touched.Touched.{Touched}
use Rattle.race_report.specs.declared.roots.Root.{Root}
use Rattle.race_report.specs.Starts.{start, start_of, is_pointed, may_be, pointed}
use Rattle.race_report.specs.Firsts.{first_at, is_some, is_none, is_untouched, with_first, with_firsts, then_first, IsFollowed, AreFollowed, IsSound, Touches, AreFirsts, shared_from}
use Rattle.race_report.proofs.Passing.{drop_next, met}

abbrev pub nobody : Option ℕ
nobody = None

-- ---- one body more

then_none : (o : Option ℕ) (f : ℕ) → then_first o false f ≡ o
then_none None f = refl
then_none (Some g) f = refl

then_then : (o : Option ℕ) (a b : Bool) (f : ℕ) → then_first (then_first o a f) b f ≡ then_first o (a || b) f
then_then (Some g) a b f = refl
then_then None true b f = refl
then_then None false b f = refl

then_some : (o : Option ℕ) (b : Bool) (f : ℕ) → is_some o ≡ true → then_first o b f ≡ o
then_some None b f h = absurd (false≢true h)
then_some (Some g) b f h = refl

then_true : (o : Option ℕ) (f : ℕ) → is_some (then_first o true f) ≡ true
then_true None f = refl
then_true (Some g) f = refl

-- ---- one object more in the table

untouched_inside : (firsts : List (Option ℕ)) (x : ℕ) → is_untouched firsts x ≡ true → x < length firsts
untouched_inside [] x new = absurd (false≢true new)
untouched_inside (o ∷ firsts) zero new = omega arith
untouched_inside (o ∷ firsts) (suc x) new = omega (arith, untouched_inside firsts x new)

none_is : (o : Option ℕ) → is_none o ≡ true → o ≡ None
none_is None h = refl
none_is (Some f) h = absurd (false≢true h)

some_is : (o : Option ℕ) → is_none o ≡ false → is_some o ≡ true
some_is None h = absurd (false≢true (sym h))
some_is (Some f) h = refl

untouched_none : (firsts : List (Option ℕ)) (x : ℕ) → is_untouched firsts x ≡ true → first_at firsts x ≡ None
untouched_none [] x new = refl
untouched_none (o ∷ firsts) zero new = none_is o new
untouched_none (o ∷ firsts) (suc x) new = untouched_none firsts x new

touched_some : (firsts : List (Option ℕ)) (x : ℕ) → is_untouched firsts x ≡ false → x < length firsts → is_some (first_at firsts x) ≡ true
touched_some [] x old inside = absurd (omega (arith, inside))
touched_some (o ∷ firsts) zero old inside = some_is o old
touched_some (o ∷ firsts) (suc x) old inside = touched_some firsts x old (omega (arith, inside))

module _ (f : ℕ) where
  size_first : (firsts : List (Option ℕ)) (x : ℕ) → length (with_first f firsts x) ≡ length firsts
  size_first firsts x = by_test (is_untouched firsts x)
    where
      by_test : (b : Bool) → length (if b then slice_set firsts x (Some f) else firsts) ≡ length firsts
      by_test true = length-set firsts x (Some f)
      by_test false = refl

  with_first_at : (firsts : List (Option ℕ)) (x y : ℕ) → y < length firsts → first_at (with_first f firsts x) y ≡ then_first (first_at firsts y) (x == y) f
  with_first_at firsts x y inside = by_both (is_untouched firsts x) (x == y) refl refl
    where
      by_both : (b c : Bool) → is_untouched firsts x ≡ b → (x == y) ≡ c → first_at (if b then slice_set firsts x (Some f) else firsts) y ≡ then_first (first_at firsts y) c f
      by_both true true new is =
          let same : x ≡ y = eqb-true x y is in
          ap (λ k. first_at (slice_set firsts x (Some f)) k) (sym same)
          ∙ get_or-set_same firsts x (Some f) None (untouched_inside firsts x new)
          ∙ ap (λ o. then_first o true f) (sym (ap (first_at firsts) (sym same) ∙ untouched_none firsts x new))
      by_both true false new is = get_or-set_other firsts x y (Some f) None (λ same. false≢true (sym is ∙ eq-eqb x y (sym same))) ∙ sym (then_none (first_at firsts y) f)
      by_both false true old is =
          let same : x ≡ y = eqb-true x y is in
          sym (then_some (first_at firsts y) true f
          (subst (λ k. is_some (first_at firsts k) ≡ true) same (touched_some firsts x old (omega (arith, same, inside)))))
      by_both false false old is = sym (then_none (first_at firsts y) f)

  size_firsts : (firsts : List (Option ℕ)) (xs : List ℕ) → length (with_firsts f firsts xs) ≡ length firsts
  size_firsts firsts [] = refl
  size_firsts firsts (x ∷ xs) = size_firsts (with_first f firsts x) xs ∙ size_first firsts x

  with_firsts_at : (firsts : List (Option ℕ)) (xs : List ℕ) (y : ℕ) → y < length firsts
      → first_at (with_firsts f firsts xs) y ≡ then_first (first_at firsts y) (list_any (λ x. x == y) xs) f
  with_firsts_at firsts [] y inside = sym (then_none (first_at firsts y) f)
  with_firsts_at firsts (x ∷ xs) y inside =
      with_firsts_at (with_first f firsts x) xs y (omega (arith, inside, size_first firsts x))
      ∙ ap (λ o. then_first o (list_any (λ x. x == y) xs) f) (with_first_at firsts x y inside)
      ∙ then_then (first_at firsts y) (x == y) (list_any (λ x. x == y) xs) f

-- an access touches what its place begins with
pub start_touches : (p : Program) (place : Place) (x : ℕ) → may_be p (start place) x ≡ touches p place x
start_touches p (object k) x = refl
start_touches p (local y) x = refl
start_touches p (deref e t) x = refl
start_touches p (index place e) x = start_touches p place x
start_touches p (field place k) x = start_touches p place x

-- ---- what types that were followed say

module _ (p : Program) where
  pub pointed_inside : (t : Ty) (x : ℕ) → is_pointed p t x ≡ true → x < length p.objects
  pointed_inside t x holds = by_object (slice_get p.objects x) refl holds
    where
      by_object : (o : Option Object) → slice_get p.objects x ≡ o → is_pointed_at p t o ≡ true → x < length p.objects
      by_object None is h = absurd (false≢true h)
      by_object (Some o) is h = slice_get_within p.objects x o is

  followed_is : (firsts : List (Option ℕ)) (t : Ty) (us : List (Bor CoreType)) → AreFollowed p firsts us → list_any (λ u. same_type (type_of u.now) t) us ≡ true → IsFollowed p firsts t
  followed_is firsts t [] are h = absurd (false≢true h)
  followed_is firsts t (u ∷ us) are h = by_test (same_type (type_of u.now) t) refl (followed_is firsts t us are.1) h
    where
      by_test : (b : Bool) → same_type (type_of u.now) t ≡ b → (list_any (λ u. same_type (type_of u.now) t) us ≡ true → IsFollowed p firsts t)
          → (b || list_any (λ u. same_type (type_of u.now) t) us) ≡ true → IsFollowed p firsts t
      by_test true is rest any = subst (IsFollowed p firsts) (same_type-is (type_of u.now) t is) are.0
      by_test false is rest any = rest any

  -- what is touched stays so
  abbrev Keeps : List (Option ℕ) → List (Option ℕ) → Type 0
  Keeps old new = (x : ℕ) → x < length p.objects → is_some (first_at old x) ≡ true → is_some (first_at new x) ≡ true

  still_followed : (old new : List (Option ℕ)) → Keeps old new → (us : List (Bor CoreType)) → AreFollowed p old us → AreFollowed p new us
  still_followed old new keeps [] are = tt
  still_followed old new keeps (u ∷ us) are = (λ x is. keeps x (pointed_inside (type_of u.now) x is) (are.0 x is), still_followed old new keeps us are.1)

  one_more : (firsts : List (Option ℕ)) (t : Bor CoreType) (us : List (Bor CoreType)) → AreFollowed p firsts us → IsFollowed p firsts (type_of t.now) → AreFollowed p firsts (us ++ t ∷ [])
  one_more firsts t [] are is = (is, tt)
  one_more firsts t (u ∷ us) are is = (are.0, one_more firsts t us are.1 is)

  module _ (f : ℕ) where
    kept : (test : ℕ → Bool) (old new : List (Option ℕ)) → ((x : ℕ) → x < length p.objects → first_at new x ≡ then_first (first_at old x) (test x) f) → Keeps old new
    kept test old new first x inside h = ap is_some (first x inside ∙ then_some (first_at old x) (test x) f h) ∙ h

    -- ---- steps

    pub touches_none : (s : Touched) → Touches p f (λ x. false) s s
    touches_none s = record { from = λ sound. record { sound = sound; first = λ x inside. sym (then_none (first_at s.first.items x) f) } }

    pub touches_then : (t u : ℕ → Bool) (a b c : Touched) → Touches p f t a b → Touches p f u b c → Touches p f (λ x. t x || u x) a c
    touches_then t u a b c one two = record {
      from = λ sound.
          let h = one.from sound in
          let k = two.from h.sound in
          record {
            sound = k.sound;
            first = λ x inside.
                k.first x inside ∙ ap (λ o. then_first o (u x) f) (h.first x inside) ∙ then_then (first_at a.first.items x) (t x) (u x) f;
          };
    }

    pub touches_as : (t u : ℕ → Bool) (a b : Touched) → ((x : ℕ) → t x ≡ u x) → Touches p f t a b → Touches p f u a b
    touches_as t u a b same h = record {
      from = λ sound. record {
        sound = (h.from sound).sound;
        first = λ x inside. (h.from sound).first x inside ∙ ap (λ c. then_first (first_at a.first.items x) c f) (same x);
      };
    }

    pub touched_one : (x : ℕ) (old new : Touched) → new.first.items ≡ with_first f old.first.items x → new.followed.items ≡ old.followed.items → Touches p f (λ y. x == y) old new
    touched_one x old new is same = record {
      from = λ sound.
          let first : (y : ℕ) → y < length p.objects → first_at new.first.items y ≡ then_first (first_at old.first.items y) (x == y) f =
          λ y inside. ap (λ fs. first_at fs y) is ∙ with_first_at f old.first.items x y (omega (arith, inside, sound.size)) in
          record {
            sound = record {
              size = ap length is ∙ size_first f old.first.items x ∙ sound.size;
              followed = subst (AreFollowed p new.first.items) (sym same)
                  (still_followed old.first.items new.first.items (kept (λ y. x == y) old.first.items new.first.items first) old.followed.items sound.followed);
            };
            first = first;
          };
    }

    pub touched_all : (t : Bor CoreType) (objects : List ℕ) (old new : Touched) → objects ≡ pointed p (type_of t.now) → new.first.items ≡ with_firsts f old.first.items objects
        → new.followed.items ≡ old.followed.items ++ t ∷ [] → Touches p f (is_pointed p (type_of t.now)) old new
    touched_all t objects old new are is more = record {
      from = λ sound.
          let first : (y : ℕ) → y < length p.objects → first_at new.first.items y ≡ then_first (first_at old.first.items y) (is_pointed p (type_of t.now) y) f =
          λ y inside.
          ap (λ fs. first_at fs y) is ∙ with_firsts_at f old.first.items objects y (omega (arith, inside, sound.size))
          ∙ ap (λ b. then_first (first_at old.first.items y) b f)
          (ap (list_any (λ x. x == y)) are ∙ met (is_pointed p (type_of t.now)) y (length p.objects) inside) in
          let here : IsFollowed p new.first.items (type_of t.now) =
          λ x holds.
          ap is_some (first x (pointed_inside (type_of t.now) x holds) ∙ ap (λ b. then_first (first_at old.first.items x) b f) holds)
          ∙ then_true (first_at old.first.items x) f in
          record {
            sound = record {
              size = ap length is ∙ size_firsts f old.first.items objects ∙ sound.size;
              followed = subst (AreFollowed p new.first.items) (sym more)
                  (one_more new.first.items t old.followed.items
                  (still_followed old.first.items new.first.items (kept (is_pointed p (type_of t.now)) old.first.items new.first.items first) old.followed.items sound.followed) here);
            };
            first = first;
          };
    }

    pub already : (t : Ty) (s : Touched) → list_any (λ u. same_type (type_of u.now) t) s.followed.items ≡ true → Touches p f (is_pointed p t) s s
    already t s any = record {
      from = λ sound. record {
        sound = sound;
        first = λ x inside. by_test s.first.items x (followed_is s.first.items t s.followed.items sound.followed any x) (is_pointed p t x) refl;
      };
    }
      where
        by_test : (firsts : List (Option ℕ)) (x : ℕ) → (is_pointed p t x ≡ true → is_some (first_at firsts x) ≡ true) → (b : Bool) → is_pointed p t x ≡ b
            → first_at firsts x ≡ then_first (first_at firsts x) b f
        by_test firsts x h true is = sym (then_some (first_at firsts x) true f (h is))
        by_test firsts x h false is = sym (then_none (first_at firsts x) f)

    -- ---- an access

    pub touched_root : (root r : Root) (old new : Touched) → root ≡ r → Touches p f (may_be p (start_of r)) old new → Touches p f (may_be p (start_of root)) old new
    touched_root root r old new is h = subst (λ q. Touches p f (may_be p (start_of q)) old new) (sym is) h

    pub touched_access : (u : listed.Use) (n : ℕ) (i : Bool) (place : Bor listed_place.Place) (pos : Pos) (root : Root) (old new : Touched) → u ≡ listed_.Access n i place pos
        → start_of root ≡ start (place_of place.now) → Touches p f (may_be p (start_of root)) old new → Touches p f (λ x. is_touching p x (use_of u)) old new
    touched_access u n i place pos root old new is same =
        touches_as (may_be p (start_of root)) (λ x. is_touching p x (use_of u)) old new
        (λ x. ap (λ s. may_be p s x) same ∙ start_touches p (place_of place.now) x ∙ sym (ap (λ v. is_touching p x (use_of v)) is))

    pub touched_call : (u : listed.Use) (n : ℕ) (i : Bool) (g : ℕ) (pos : Pos) (s : Touched) → u ≡ listed_.Call n i g pos → Touches p f (λ x. is_touching p x (use_of u)) s s
    touched_call u n i g pos s is = touches_as (λ x. false) (λ x. is_touching p x (use_of u)) s s (λ x. sym (ap (λ v. is_touching p x (use_of v)) is)) (touches_none s)

    -- ---- one access after the other

    abbrev pub TouchesRest : List listed.Use → (old new : Touched) → Type 0
    TouchesRest us old new = Touches p f (λ x. list_any (is_touching p x) (map use_of us)) old new

    pub uses_next : (xs : List listed.Use) (k : ℕ) (u : listed.Use) (a b c : Touched) → k < length xs → u ≡ get_or xs k u → Touches p f (λ x. is_touching p x (use_of u)) a b
        → TouchesRest (drop (k + 1) xs) b c → TouchesRest (drop k xs) a c
    uses_next xs k u a b c below is one rest =
        subst (λ us. TouchesRest us a c) (sym (next_of xs k u below is))
        (touches_then (λ x. is_touching p x (use_of u)) (λ x. list_any (is_touching p x) (map use_of (drop (k + 1) xs))) a b c one rest)

    pub uses_end : (xs : List listed.Use) (k : ℕ) (s : Touched) → length xs ≤ k → TouchesRest (drop k xs) s s
    uses_end xs k s past = subst (λ us. TouchesRest us s s) (sym (drop_of_length-le xs past)) (touches_none s)

  -- ---- one body after the other

  abbrev onward : Option ℕ → (ℕ → Bool) → List ℕ → Option ℕ
  onward None test rest = first_end test rest
  onward (Some g) test rest = Some g

  onward_then : (o : Option ℕ) (test : ℕ → Bool) (f : ℕ) (rest : List ℕ) → onward (then_first o (test f) f) test rest ≡ onward o test (f ∷ rest)
  onward_then (Some g) test f rest = refl
  onward_then None test f rest = by_test (test f)
    where
      by_test : (b : Bool) → onward (then_first None b f) test rest ≡ (if b then Some f else first_end test rest)
      by_test true = refl
      by_test false = refl

  onward_end : (o : Option ℕ) (test : ℕ → Bool) → onward o test [] ≡ o
  onward_end None test = refl
  onward_end (Some g) test = refl

  pub record IsGoing (order rest : List ℕ) (s : Touched) : Type 0 where
    pub sound : IsSound p s
    pub first : (x : ℕ) → x < length p.objects → onward (first_at s.first.items x) (touches_in p x) rest ≡ first_end (touches_in p x) order

  pub going_start : (order : List ℕ) (s : Touched) → s.first.items ≡ replicate (length p.objects) nobody → s.followed.items ≡ [] → IsGoing order order s
  going_start order s none nothing = record {
    sound = record {
      size = ap length none ∙ length-replicate (length p.objects) nobody;
      followed = subst (AreFollowed p s.first.items) (sym nothing) tt;
    };
    first = λ x inside.
        ap (λ o. onward o (touches_in p x) order) (ap (λ fs. first_at fs x) none ∙ get_or-replicate (length p.objects) x nobody nobody inside);
  }

  pub going_next : (order xs : List ℕ) (k d : ℕ) (a b : Touched) → k < length xs → Touches p (get_or xs k d) (λ x. touches_in p x (get_or xs k d)) a b
      → IsGoing order (drop k xs) a → IsGoing order (drop (k + 1) xs) b
  going_next order xs k d a b below step going =
      let h = step.from going.sound in
      record {
        sound = h.sound;
        first = λ x inside.
            ap (λ o. onward o (touches_in p x) (drop (k + 1) xs)) (h.first x inside)
            ∙ onward_then (first_at a.first.items x) (touches_in p x) (get_or xs k d) (drop (k + 1) xs)
            ∙ ap (onward (first_at a.first.items x) (touches_in p x)) (sym (drop_next xs k d below))
            ∙ going.first x inside;
      }

  pub going_end : (order xs : List ℕ) (k : ℕ) (s : Touched) → length xs ≤ k → IsGoing order (drop k xs) s → AreFirsts p order s.first.items
  going_end order xs k s past going = λ x inside.
      sym (onward_end (first_at s.first.items x) (touches_in p x))
      ∙ ap (onward (first_at s.first.items x) (touches_in p x)) (sym (drop_of_length-le xs past))
      ∙ going.first x inside

  -- ---- objects with `norace`

  pub marked_first : (order : List ℕ) (x : ℕ) → is_marked (slice_get p.objects x) ≡ true → None ≡ shared_from p order x
  marked_first order x is = ap (λ b. if b then None else first_end (touches_in p x) order) (sym is)

  pub unmarked_first : (order : List ℕ) (firsts : List (Option ℕ)) (x : ℕ) → AreFirsts p order firsts → is_marked (slice_get p.objects x) ≡ false → first_at firsts x ≡ shared_from p order x
  unmarked_first order firsts x are is = are x (inside (slice_get p.objects x) refl is) ∙ ap (λ b. if b then None else first_end (touches_in p x) order) (sym is)
    where
      inside : (o : Option Object) → slice_get p.objects x ≡ o → is_marked o ≡ false → x < length p.objects
      inside None there h = absurd (false≢true (sym h))
      inside (Some o) there h = slice_get_within p.objects x o there

-- ---- the rules

pub firsts_next : (f : ℕ) (firsts : List (Option ℕ)) (xs : List ℕ) (k x : ℕ) → k < length xs → x ≡ get_or xs k x
    → with_firsts f firsts (drop k xs) ≡ with_firsts f (with_first f firsts x) (drop (k + 1) xs)
firsts_next f firsts xs k x below is = ap (with_firsts f firsts) (next_of xs k x below is)

pub followed_next : (t : Ty) (xs : List (Bor CoreType)) (k : ℕ) (u : Bor CoreType) → k < length xs → u ≡ get_or xs k u
    → list_any (λ u. same_type (type_of u.now) t) (drop k xs) ≡ (same_type (type_of u.now) t || list_any (λ u. same_type (type_of u.now) t) (drop (k + 1) xs))
followed_next t xs k u below is = ap (list_any (λ u. same_type (type_of u.now) t)) (next_of xs k u below is)

pub ruleset steps = (firsts_next, followed_next, drop_of_length-le)
