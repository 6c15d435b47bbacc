-- Marking what chains of calls reach: all that is marked is reached, and what waits and what is owed is marked at the end.
use Rattle.std.proofs.Common.{◌≡◌, ℕ, zero, suc, ◌+◌, ◌*◌, ◌<◌, ◌≤◌, Bool, true, false, if◌then◌else◌, ◌⊎◌, inl, inr, List, [], ◌∷◌, ◌++◌, length, length-append, length-take, append-nil, ◌-◌, min, take, replicate, drop, get_or, refl, sym, subst, ap, arith, ◌∙◌}
use Rattle.std.specs.Prelude.{slice_index_or, slice_set}
use Rattle.std.proofs.lemmas.Bool.{false≢true}
use Rattle.call_graph.specs.Paths.{IsIn, Leads}
use Rattle.call_graph.specs.Graph.{row_at, IsMarked, IsReached, AreReached}
use Rattle.call_graph.specs.Reach.{waiting_with, all_marked, all_waiting}
use Rattle.call_graph.proofs.Lists.{in_either, in_left, in_right}
use Rattle.std.proofs.Math.ListN.{drop_of_length-le}
use Rattle.call_graph.proofs.ViewLists.{next_of}
use Rattle.call_graph.proofs.Chains.{leads_on}

-- ---- one mark more

kept : (m : List Bool) (g h : ℕ) → IsMarked m h → IsMarked (slice_set m g true) h
kept [] g h is = is
kept (b ∷ m) zero zero is = refl
kept (b ∷ m) zero (suc h) is = is
kept (b ∷ m) (suc g) zero is = is
kept (b ∷ m) (suc g) (suc h) is = kept m g h is

same : (m : List Bool) (g : ℕ) → g < length m → IsMarked (slice_set m g true) g
same [] g below = absurd (omega (arith, below))
same (b ∷ m) zero below = refl
same (b ∷ m) (suc g) below = same m g (omega (arith, below))

before : (m : List Bool) (g h : ℕ) → IsMarked (slice_set m g true) h → IsMarked m h ⊎ (h ≡ g)
before [] g h is = inl is
before (b ∷ m) zero zero is = inr refl
before (b ∷ m) zero (suc h) is = inl is
before (b ∷ m) (suc g) zero is = inl is
before (b ∷ m) (suc g) (suc h) is = elim (before m g h is) [ inl was ↦ inl was | inr now ↦ inr (omega (arith, now)) ]

set_length : (m : List Bool) (g : ℕ) → length (slice_set m g true) ≡ length m
set_length [] g = refl
set_length (b ∷ m) zero = refl
set_length (b ∷ m) (suc g) = omega (arith, set_length m g)

old_mark : (m : List Bool) (g : ℕ) → slice_index_or m g true ≡ true → IsMarked (slice_set m g true) g → IsMarked m g
old_mark [] g is now = now
old_mark (b ∷ m) zero is now = is
old_mark (b ∷ m) (suc g) is now = old_mark m g is now

fresh_mark : (m : List Bool) (g : ℕ) → slice_index_or m g true ≡ false → IsMarked (slice_set m g true) g
fresh_mark [] g is = absurd (false≢true (sym is))
fresh_mark (b ∷ m) zero is = refl
fresh_mark (b ∷ m) (suc g) is = fresh_mark m g is

-- ---- what waits

module _ (m : List Bool) (w : List ℕ) (g : ℕ) where
  wait_kept : (h : ℕ) → IsIn h w → IsIn h (waiting_with m w g)
  wait_kept h there = by_test (slice_index_or m g true)
    where
      by_test : (t : Bool) → IsIn h (if t then w else w ++ g ∷ [])
      by_test true = there
      by_test false = in_left h w (g ∷ []) there

  wait_before : (h : ℕ) → IsIn h (waiting_with m w g) → IsIn h w ⊎ ((h ≡ g) × (slice_index_or m g true ≡ false))
  wait_before h = by_test (slice_index_or m g true) refl
    where
      only : slice_index_or m g true ≡ false → IsIn h (g ∷ []) → IsIn h w ⊎ ((h ≡ g) × (slice_index_or m g true ≡ false))
      only is (inl e) = inr (e, is)
      only is (inr none) = absurd none

      by_test : (t : Bool) → slice_index_or m g true ≡ t → IsIn h (if t then w else w ++ g ∷ []) → IsIn h w ⊎ ((h ≡ g) × (slice_index_or m g true ≡ false))
      by_test true is there = inl there
      by_test false is there = elim (in_either h w (g ∷ []) there) [ inl was ↦ inl was | inr now ↦ only is now ]

  -- what is marked now was, or waits
  wait_new : (h : ℕ) → IsMarked (slice_set m g true) h → IsMarked m h ⊎ IsIn h (waiting_with m w g)
  wait_new h now = elim (before m g h now) [ inl was ↦ inl was | inr e ↦ by_test (slice_index_or m g true) refl e ]
    where
      by_test : (t : Bool) → slice_index_or m g true ≡ t → h ≡ g → IsMarked m h ⊎ IsIn h (if t then w else w ++ g ∷ [])
      by_test true is e = inl (subst (IsMarked m) (sym e) (old_mark m g is (subst (IsMarked (slice_set m g true)) e now)))
      by_test false is e = inr (in_right h w (g ∷ []) (inl e))

-- ---- the whole state

module _ (table : List (List ℕ)) (roots : List ℕ) where
  abbrev Reached : ℕ → Type 0
  Reached f = IsReached roots (row_at table) f

  -- the roots in `left` and the callees of `owner` in `row` are owed
  pub record Reaching (m : List Bool) (w left : List ℕ) (owner : ℕ) (row : List ℕ) : Type 0 where
    pub size : length m ≡ length table
    pub sound : (f : ℕ) → IsMarked m f → Reached f
    pub waits : (f : ℕ) → IsIn f w → IsMarked m f
    pub rooted : (f : ℕ) → IsIn f roots → f < length table → IsMarked m f ⊎ IsIn f left
    pub closed : (f g : ℕ) → IsMarked m f → IsIn g (row_at table f) → g < length table → IsMarked m g ⊎ (IsIn f w ⊎ ((f ≡ owner) × IsIn g row))

  module _ (m : List Bool) (w : List ℕ) (owner g : ℕ) (reached : Reached g) where
    step : (left row fewer shorter : List ℕ) → ((f : ℕ) → IsIn f left → IsIn f fewer ⊎ (f ≡ g)) → ((f : ℕ) → IsIn f row → IsIn f shorter ⊎ (f ≡ g))
        → Reaching m w left owner row → Reaching (slice_set m g true) (waiting_with m w g) fewer owner shorter
    step left row fewer shorter root callee r = record {
      size = set_length m g ∙ r.size;
      sound = λ f now. elim (before m g f now) [ inl was ↦ r.sound f was | inr e ↦ subst Reached (sym e) reached ];
      waits = λ f there. elim (wait_before m w g f there) [ inl was ↦ kept m g f (r.waits f was) | inr e ↦ subst (IsMarked (slice_set m g true)) (sym e.0) (fresh_mark m g e.1) ];
      rooted = λ f there below. elim (r.rooted f there below) [ inl was ↦ inl (kept m g f was) | inr owed ↦ elim (root f owed) [ inl still ↦ inr still | inr e ↦ inl (marked f e below) ] ];
      closed = λ f h now there below. elim (wait_new m w g f now) [ inl was ↦ again f h below (r.closed f h was there below) | inr waits ↦ inr (inl waits) ];
    }
      where
        marked : (f : ℕ) → f ≡ g → f < length table → IsMarked (slice_set m g true) f
        marked f e below = subst (IsMarked (slice_set m g true)) (sym e) (same m g (omega (arith, e, below, r.size)))

        again : (f h : ℕ) → h < length table → IsMarked m h ⊎ (IsIn f w ⊎ ((f ≡ owner) × IsIn h row)) → IsMarked (slice_set m g true) h ⊎ (IsIn f (waiting_with m w g) ⊎ ((f ≡ owner) × IsIn h shorter))
        again f h below (inl was) = inl (kept m g h was)
        again f h below (inr (inl waits)) = inr (inl (wait_kept m w g f waits))
        again f h below (inr (inr owed)) = elim (callee h owed.1) [ inl still ↦ inr (inr (owed.0, still)) | inr e ↦ inl (marked h e below) ]

  first_gone : (f g : ℕ) (xs : List ℕ) → IsIn f (g ∷ xs) → IsIn f xs ⊎ (f ≡ g)
  first_gone f g xs (inl e) = inr e
  first_gone f g xs (inr there) = inl there

  -- all roots
  pub roots_done : (bodies : List ℕ) → ((g : ℕ) → IsIn g bodies → Reached g) → (m : List Bool) (w : List ℕ) (owner : ℕ)
      → Reaching m w bodies owner [] → Reaching (all_marked m bodies) (all_waiting m w bodies) [] owner []
  roots_done [] reached m w owner r = r
  roots_done (g ∷ bodies) reached m w owner r =
      roots_done bodies (λ h there. reached h (inr there)) (slice_set m g true) (waiting_with m w g) owner
      (step m w owner g (reached g (inl refl)) (g ∷ bodies) [] bodies [] (λ f there. first_gone f g bodies there) (λ f there. absurd there) r)

  -- all callees of a body
  pub row_done : (bodies : List ℕ) → ((g : ℕ) → IsIn g bodies → Reached g) → (m : List Bool) (w : List ℕ) (owner : ℕ)
      → Reaching m w [] owner bodies → Reaching (all_marked m bodies) (all_waiting m w bodies) [] owner []
  row_done [] reached m w owner r = r
  row_done (g ∷ bodies) reached m w owner r =
      row_done bodies (λ h there. reached h (inr there)) (slice_set m g true) (waiting_with m w g) owner
      (step m w owner g (reached g (inl refl)) [] (g ∷ bodies) [] bodies (λ f there. absurd there) (λ f there. first_gone f g bodies there) r)

  one_more : (f g : ℕ) → Reached f → IsIn g (row_at table f) → Reached g
  one_more f g ([], is) there = absurd is
  one_more f g (x ∷ rest, is) there = (x ∷ (rest ++ g ∷ []), (is.0, leads_on (row_at table) x f g rest is.1 there))

  -- a body that waited is taken
  pub taken : (m : List Bool) (w : List ℕ) (f owner : ℕ) → Reaching m (w ++ f ∷ []) [] owner [] → Reaching (all_marked m (row_at table f)) (all_waiting m w (row_at table f)) [] f []
  taken m w f owner r = row_done (row_at table f) (λ g there. one_more f g (r.sound f (r.waits f (in_right f w (f ∷ []) (inl refl)))) there) m w f (record {
    size = r.size;
    sound = r.sound;
    waits = λ h there. r.waits h (in_left h w (f ∷ []) there);
    rooted = r.rooted;
    closed = λ h g was there below. again h g there (r.closed h g was there below);
  })
    where
      again : (h g : ℕ) → IsIn g (row_at table h) → IsMarked m g ⊎ (IsIn h (w ++ f ∷ []) ⊎ ((h ≡ owner) × IsIn g [])) → IsMarked m g ⊎ (IsIn h w ⊎ ((h ≡ f) × IsIn g (row_at table f)))
      again h g there (inl was) = inl was
      again h g there (inr (inl waits)) = elim (in_either h w (f ∷ []) waits) [ inl still ↦ inr (inl still) | inr now ↦ last now ]
        where
          last : IsIn h (f ∷ []) → IsMarked m g ⊎ (IsIn h w ⊎ ((h ≡ f) × IsIn g (row_at table f)))
          last (inl e) = inr (inr (e, subst (λ k. IsIn g (row_at table k)) e there))
          last (inr none) = absurd none
      again h g there (inr (inr owed)) = absurd owed.1

  unmarked_at : (n f : ℕ) → IsMarked (replicate n false) f → ⊥
  unmarked_at zero f is = false≢true is
  unmarked_at (suc n) zero is = false≢true is
  unmarked_at (suc n) (suc f) is = unmarked_at n f is

  replicate_length : (n : ℕ) → length (replicate n false) ≡ n
  replicate_length zero = refl
  replicate_length (suc n) = omega (arith, replicate_length n)

  -- nothing is marked, and all roots are owed
  pub begun : Reaching (replicate (length table) false) [] roots 0 []
  begun = record {
    size = replicate_length (length table);
    sound = λ f is. absurd (unmarked_at (length table) f is);
    waits = λ f there. absurd there;
    rooted = λ f there below. inr there;
    closed = λ f g is there below. absurd (unmarked_at (length table) f is);
  }

  pub rooted_all : Reaching (all_marked (replicate (length table) false) roots) (all_waiting (replicate (length table) false) [] roots) [] 0 []
  rooted_all = roots_done roots (λ g there. (g ∷ [], (there, refl))) (replicate (length table) false) [] 0 begun

  -- nothing waits and nothing is owed
  module _ (m : List Bool) (owner : ℕ) (r : Reaching m [] [] owner []) where
    row_inside : (xs : List (List ℕ)) (f g : ℕ) → IsIn g (row_at xs f) → f < length xs
    row_inside [] f g there = absurd there
    row_inside (x ∷ xs) zero g there = omega arith
    row_inside (x ∷ xs) (suc f) g there = omega (arith, row_inside xs f g there)

    paid : (f g : ℕ) → IsMarked m g ⊎ (⊥ ⊎ ((f ≡ owner) × ⊥)) → IsMarked m g
    paid f g (inl is) = is
    paid f g (inr (inl none)) = absurd none
    paid f g (inr (inr none)) = absurd none.1

    along : (f g : ℕ) (rest : List ℕ) → IsMarked m f → Leads (row_at table) f rest g → g < length table → IsMarked m g
    along f g [] is leads below = subst (IsMarked m) leads is
    along f g (x ∷ rest) is leads below = along x g rest (paid f x (r.closed f x is leads.0 (inside x rest leads.1))) leads.1 below
      where
        inside : (x : ℕ) (rest : List ℕ) → Leads (row_at table) x rest g → x < length table
        inside x [] e = omega (arith, e, below)
        inside x (y ∷ rest) more = row_inside table x y more.0

    from_root : (f : ℕ) → IsMarked m f ⊎ IsIn f [] → IsMarked m f
    from_root f (inl is) = is
    from_root f (inr none) = absurd none

    first_inside : (x g : ℕ) (rest : List ℕ) → Leads (row_at table) x rest g → g < length table → x < length table
    first_inside x g [] e below = omega (arith, e, below)
    first_inside x g (y ∷ rest) more below = row_inside table x y more.0

    found : (g : ℕ) → g < length table → Reached g → IsMarked m g
    found g below ([], is) = absurd is
    found g below (f ∷ rest, is) = along f g rest (from_root f (r.rooted f is.0 (first_inside f g rest is.1 below))) is.1 below

    pub all_reached : AreReached (length table) roots (row_at table) m
    all_reached = record { size = r.size; sound = r.sound; complete = found }

-- ---- the steps of the code

-- what gave nothing was empty
pub nothing_left : (old new : List ℕ) (n : ℕ) → old ≡ new ++ [] → new ≡ take (n - 1) old → n ≡ length old → old ≡ []
nothing_left [] new n is rest long = refl
nothing_left (x ∷ old) new n is rest long =
    let same : length (x ∷ old) ≡ length new = ap length is ∙ ap length (append-nil new) in
    let less : length new ≡ min (n - 1) (length (x ∷ old)) = ap length rest ∙ length-take (n - 1) (x ∷ old) in
    absurd (omega (arith, same, less, long))

pub started : (table : List (List ℕ)) (roots : List ℕ) (m0 m : List Bool) (w0 w : List ℕ) → m0 ≡ replicate (length table) false → w0 ≡ []
    → m ≡ all_marked m0 roots → w ≡ all_waiting m0 w0 roots → Reaching table roots m w [] 0 []
started table roots m0 m w0 w m0_is w0_is m_is w_is =
    subst (λ x. Reaching table roots x w [] 0 []) (sym (m_is ∙ ap (λ x. all_marked x roots) m0_is))
    (subst (λ x. Reaching table roots (all_marked (replicate (length table) false) roots) x [] 0 [])
    (sym (w_is ∙ ap (λ x. all_waiting x w0 roots) m0_is ∙ ap (λ x. all_waiting (replicate (length table) false) x roots) w0_is)) (rooted_all table roots))

pub went_on : (table : List (List ℕ)) (roots : List ℕ) (m0 m : List Bool) (w0 w1 w row : List ℕ) (f owner : ℕ) → Reaching table roots m0 w0 [] owner [] → w0 ≡ w1 ++ f ∷ []
    → row ≡ row_at table f → m ≡ all_marked m0 row → w ≡ all_waiting m0 w1 row → Reaching table roots m w [] f []
went_on table roots m0 m w0 w1 w row f owner r w0_is row_is m_is w_is =
    subst (λ x. Reaching table roots x w [] f []) (sym (m_is ∙ ap (λ x. all_marked m0 x) row_is))
    (subst (λ x. Reaching table roots (all_marked m0 (row_at table f)) x [] f []) (sym (w_is ∙ ap (λ x. all_waiting m0 w1 x) row_is))
    (taken table roots m0 w1 f owner (subst (λ x. Reaching table roots m0 x [] owner []) w0_is r)))

pub ended : (table : List (List ℕ)) (roots : List ℕ) (m : List Bool) (w : List ℕ) (owner : ℕ) → Reaching table roots m w [] owner [] → w ≡ [] → AreReached (length table) roots (row_at table) m
ended table roots m w owner r w_is = all_reached table roots m owner (subst (λ x. Reaching table roots m x [] owner []) w_is r)

-- ---- the search ends

abbrev unmarked : List Bool → ℕ
unmarked [] = 0
unmarked (b ∷ m) = if b then unmarked m else suc (unmarked m)

abbrev pub weight : List Bool → List ℕ → ℕ
weight m w = 2 * unmarked m + length w

fewer : (m : List Bool) (g : ℕ) → unmarked (slice_set m g true) ≤ unmarked m
fewer [] g = omega arith
fewer (true ∷ m) zero = omega arith
fewer (false ∷ m) zero = omega arith
fewer (true ∷ m) (suc g) = fewer m g
fewer (false ∷ m) (suc g) = omega (arith, fewer m g)

one_fewer : (m : List Bool) (g : ℕ) → slice_index_or m g true ≡ false → suc (unmarked (slice_set m g true)) ≡ unmarked m
one_fewer [] g is = absurd (false≢true (sym is))
one_fewer (true ∷ m) zero is = absurd (false≢true (sym is))
one_fewer (false ∷ m) zero is = refl
one_fewer (true ∷ m) (suc g) is = one_fewer m g is
one_fewer (false ∷ m) (suc g) is = omega (arith, one_fewer m g is)

lighter : (m : List Bool) (w : List ℕ) (g : ℕ) → weight (slice_set m g true) (waiting_with m w g) ≤ weight m w
lighter m w g = by_test (slice_index_or m g true) refl
  where
    by_test : (t : Bool) → slice_index_or m g true ≡ t → weight (slice_set m g true) (if t then w else w ++ g ∷ []) ≤ weight m w
    by_test true is = omega (arith, fewer m g)
    by_test false is = omega (arith, one_fewer m g is, length-append w (g ∷ []))

pub no_heavier : (m : List Bool) (w bodies : List ℕ) → weight (all_marked m bodies) (all_waiting m w bodies) ≤ weight m w
no_heavier m w [] = omega arith
no_heavier m w (g ∷ bodies) = omega (arith, no_heavier (slice_set m g true) (waiting_with m w g) bodies, lighter m w g)

pub falls : (m0 m : List Bool) (w0 w1 w row : List ℕ) (f : ℕ) → w0 ≡ w1 ++ f ∷ [] → m ≡ all_marked m0 row → w ≡ all_waiting m0 w1 row → weight m w < weight m0 w0
falls m0 m w0 w1 w row f w0_is m_is w_is =
    let less : weight (all_marked m0 row) (all_waiting m0 w1 row) < weight m0 (w1 ++ f ∷ []) = omega (arith, no_heavier m0 w1 row, length-append w1 (f ∷ [])) in
    subst (λ x. weight m w < weight m0 x) (sym w0_is)
    (subst (λ x. weight x w < weight m0 (w1 ++ f ∷ [])) (sym m_is) (subst (λ x. weight (all_marked m0 row) x < weight m0 (w1 ++ f ∷ [])) (sym w_is) less))

-- ---- one body after the other

pub marked_next : (m : List Bool) (xs : List ℕ) (k x : ℕ) → k < length xs → x ≡ get_or xs k x → all_marked m (drop k xs) ≡ all_marked (slice_set m x true) (drop (k + 1) xs)
marked_next m xs k x below is = ap (λ ys. all_marked m ys) (next_of xs k x below is)

pub waiting_next : (m : List Bool) (w xs : List ℕ) (k x : ℕ) → k < length xs → x ≡ get_or xs k x
    → all_waiting m w (drop k xs) ≡ all_waiting (slice_set m x true) (waiting_with m w x) (drop (k + 1) xs)
waiting_next m w xs k x below is = ap (λ ys. all_waiting m w ys) (next_of xs k x below is)

pub ruleset steps = (marked_next, waiting_next, drop_of_length-le)
