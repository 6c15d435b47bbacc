-- A round of the search finds the bodies that are one call further away, and the path that is gone is the least.
use Rattle.std.proofs.Common.{◌≡◌, ℕ, zero, suc, ◌+◌, ◌<◌, ◌≤◌, ◌==◌, Bool, true, false, if◌then◌else◌, ◌⊎◌, inl, inr, List, [], ◌∷◌, ◌++◌, length, length-append, map, get_or, Option, Some, None, refl, sym, subst, ap, arith, ◌∙◌, eqb-true}
use Rattle.std.specs.Prelude.{slice_index_or, ◌||◌}
use Rattle.std.proofs.Math.ListN.{get_or-append}
use Rattle.std.proofs.Math.Path.{fun_ext}
use Rattle.std.proofs.lemmas.List.{length-map, map-append}
use Rattle.std.proofs.Math.Seq.{get_or-append_seam}
use Rattle.std.specs.List.{list_any}
use Rattle.std.proofs.lemmas.Bool.{false≢true}
use Rattle.std.proofs.lemmas.Bool.Decides.{nat_tests}
use Rattle.call_graph.specs.Paths.{IsIn, below}
use Rattle.call_graph.specs.Least.{least, at_most, first_from, can}
use Rattle.call_graph.specs.Graph.{row_at}
use Rattle.call_graph.specs.Ranks.{rank_of}
use Rattle.call_graph.specs.Search.{is_end_in, is_at, at_end, further, far_next, AreFar}
use Rattle.call_graph.proofs.Lists.{nat_either, found_any}
use Rattle.call_graph.proofs.Least.{IsLeastOf, least_is}
use Rattle.call_graph.proofs.Chains.{IsFirst, first_is}

-- ---- tests that agree

pub any_same : (p q : ℕ → Bool) (xs : List ℕ) → ((x : ℕ) → IsIn x xs → p x ≡ q x) → list_any p xs ≡ list_any q xs
any_same p q [] h = refl
any_same p q (x ∷ xs) h = ap (λ t. t || list_any p xs) (h x (inl refl)) ∙ ap (λ t. q x || t) (any_same p q xs (λ y there. h y (inr there)))

pub least_same : (p q : ℕ → Bool) (xs : List ℕ) → ((x : ℕ) → IsIn x xs → p x ≡ q x) → least p xs ≡ least q xs
least_same p q [] h = refl
least_same p q (x ∷ xs) h =
    ap (λ t. if t then Some (at_most x (least p xs)) else least p xs) (h x (inl refl))
    ∙ ap (λ o. if q x then Some (at_most x o) else o) (least_same p q xs (λ y there. h y (inr there)))

bool_cases : (b : Bool) → (b ≡ true → ⊥) → b ≡ false
bool_cases true never = absurd (never refl)
bool_cases false never = refl

none_passes : (p : ℕ → Bool) (xs : List ℕ) → ((x : ℕ) → IsIn x xs → p x ≡ false) → list_any p xs ≡ false
none_passes p [] h = refl
none_passes p (x ∷ xs) h = ap (λ t. t || list_any p xs) (h x (inl refl)) ∙ none_passes p xs (λ y there. h y (inr there))

pub not_any : (p : ℕ → Bool) (xs : List ℕ) → list_any p xs ≡ false → (x : ℕ) → IsIn x xs → p x ≡ false
not_any p xs none x there = bool_cases (p x) (λ is. false≢true (sym none ∙ found_any p x xs there is))

-- ---- the first of some numbers

-- k is the first of them exactly where it passes
at_first : (test : ℕ → Bool) (k bound : ℕ) → k < bound → ((m : ℕ) → m < k → test m ≡ false) → is_at k (first_from test 0 bound) ≡ test k
at_first test k bound inside before = by_case (first_from test 0 bound) (first_is test 0 bound)
  where
    same : (d : ℕ) → test d ≡ true → (k ≤ d) → ((m : ℕ) → m < d → test m ≡ false) → (t : Bool) → test k ≡ t → (d == k) ≡ t
    same d here le first true is = let e : d ≡ k = equal in subst (λ x. (x == k) ≡ true) (sym e) (grind (arith, nat_tests))
      where
        equal : d ≡ k
        equal = elim (nat_either d k) [ inl ge ↦ omega (arith, le, ge) | inr lt ↦ absurd (false≢true (sym (first k lt) ∙ is)) ]
    same d here le first false is = bool_cases (d == k) (λ e. false≢true (sym is ∙ subst (λ x. test x ≡ true) (eqb-true d k e) here))

    by_case : (o : Option ℕ) → IsFirst test 0 bound o → is_at k o ≡ test k
    by_case None none = sym (none k (omega arith) (omega (arith, inside)))
    by_case (Some d) h = same d h.1 (elim (nat_either k d) [ inl le ↦ le | inr lt ↦ absurd (false≢true (sym (before d lt) ∙ h.1)) ]) (λ m lt. h.2 m (omega arith) lt) (test k) refl

abbrev or_last : (test : ℕ → Bool) (n : ℕ) → Option ℕ → Option ℕ
or_last test n (Some d) = Some d
or_last test n None = if test n then Some n else None

last_of : (test : ℕ → Bool) (n bound : ℕ) → first_from test n (suc bound) ≡ or_last test (n + bound) (first_from test n bound)
last_of test n zero =
    let same : n ≡ n + 0 = omega arith in
    subst (λ m. (if test n then Some n else None) ≡ (if test m then Some m else None)) same refl
last_of test n (suc bound) = by_test (test n) (last_of test (suc n) bound)
  where
    e : suc n + bound ≡ n + suc bound
    e = omega arith

    by_test : (t : Bool) → first_from test (suc n) (suc bound) ≡ or_last test (suc n + bound) (first_from test (suc n) bound)
        → (if t then Some n else first_from test (suc n) (suc bound)) ≡ or_last test (n + suc bound) (if t then Some n else first_from test (suc n) bound)
    by_test true h = refl
    by_test false h = h ∙ ap (λ m. or_last test m (first_from test (suc n) bound)) e

-- ---- lists by number

below_length : (n : ℕ) → length (below n) ≡ n
below_length zero = refl
below_length (suc n) = omega (arith, length-append (below n) (n ∷ []), below_length n)

pub at_map : {A : Type 0} (d : A) (f : ℕ → A) (n k : ℕ) → k < n → get_or (map f (below n)) k d ≡ f k
at_map d f zero k lt = absurd (omega (arith, lt))
at_map {A} d f (suc n) k lt = ap (λ xs. get_or xs k d) (map-append f (below n) (n ∷ [])) ∙ split (at_map d f n k) (nat_either n k)
  where
    size : length (map f (below n)) ≡ n
    size = length-map (below n) f ∙ below_length n

    split : (k < n → get_or (map f (below n)) k d ≡ f k) → (n ≤ k) ⊎ (k < n) → get_or (map f (below n) ++ f n ∷ []) k d ≡ f k
    split earlier (inl ge) =
        let e : n ≡ k = omega (arith, ge, lt) in
        subst (λ j. get_or (map f (below n) ++ f n ∷ []) j d ≡ f j) e (subst (λ j. get_or (map f (below n) ++ f n ∷ []) j d ≡ f n) size (get_or-append_seam (map f (below n)) (f n) [] d))
    split earlier (inr less) = get_or-append (map f (below n)) (f n ∷ []) d k (omega (arith, size, less)) ∙ earlier less

pub past_end : {A : Type 0} (d : A) (xs : List A) (k : ℕ) → length xs ≤ k → get_or xs k d ≡ d
past_end d [] k le = refl
past_end d (x ∷ xs) zero le = absurd (omega (arith, le))
past_end d (x ∷ xs) (suc k) le = past_end d xs k (omega (arith, le))

-- ---- how far bodies are

module _ (table : List (List ℕ)) (ends : List Bool) (same : length ends ≡ length table) where
  abbrev can_go : (n g : ℕ) → Bool
  can_go n g = can (row_at table) (is_end_in ends) n g

  abbrev first_of : ℕ → ℕ → Option ℕ
  first_of f bound = first_from (λ n. can_go n f) 0 bound

  -- a body that is none of the program's goes nowhere
  nowhere : (f n : ℕ) → length table ≤ f → can_go n f ≡ false
  nowhere f zero past = past_end false ends f (omega (arith, past, same))
  nowhere f (suc n) past = ap (λ (row : List ℕ). list_any (λ g. can_go n g) row) (past_end [] table f past)

  never : (test : ℕ → Bool) (n bound : ℕ) → ((m : ℕ) → test m ≡ false) → first_from test n bound ≡ None
  never test n zero fails = refl
  never test n (suc bound) fails = let e : test n ≡ false = fails n in rw e (never test (suc n) bound fails)

  at_start : (f : ℕ) (b : Bool) → is_end_in ends f ≡ b → at_end b ≡ first_of f 1
  at_start f true is = rw is refl
  at_start f false is = rw is refl

  start_entry : (es : List Bool) (f : ℕ) → rank_of (map at_end es) f ≡ at_end (slice_index_or es f false)
  start_entry [] f = refl
  start_entry (e ∷ es) zero = refl
  start_entry (e ∷ es) (suc f) = start_entry es f

  pub far_start : AreFar table ends (map at_end ends) 0
  far_start = record { size = length-map ends at_end ∙ same; each = λ f. start_entry ends f ∙ at_start f (is_end_in ends f) refl }

  module _ (far : List (Option ℕ)) (k : ℕ) (is_far : AreFar table ends far k) where
    -- where none is nearer, being k calls away is told by `far`
    tells : (g : ℕ) (j : ℕ) → j ≤ k → ((m : ℕ) → m < j → can_go m g ≡ false) → is_at j (rank_of far g) ≡ can_go j g
    tells g j le none = ap (is_at j) (is_far.each g) ∙ at_first (λ n. can_go n g) j (suc k) (omega (arith, le)) none

    callee_none : (f g m : ℕ) → IsIn g (row_at table f) → can_go (suc m) f ≡ false → can_go m g ≡ false
    callee_none f g m there none = not_any (λ h. can_go m h) (row_at table f) none g there

    none_yet : (f : ℕ) → first_of f (suc k) ≡ None → (m : ℕ) → m < suc k → can_go m f ≡ false
    none_yet f is m lt = subst (IsFirst (λ n. can_go n f) 0 (suc k)) is (first_is (λ n. can_go n f) 0 (suc k)) m (omega arith) (omega (arith, lt))

    one_round : (f : ℕ) (o : Option ℕ) → first_of f (suc k) ≡ o → further table far k f o ≡ first_of f (suc (suc k))
    one_round f (Some d) is = sym (last_of (λ n. can_go n f) 0 (suc k) ∙ ap (or_last (λ n. can_go n f) (0 + suc k)) is)
    one_round f None is =
        let agree : list_any (λ g. is_at k (rank_of far g)) (row_at table f) ≡ can_go (suc k) f =
        any_same (λ g. is_at k (rank_of far g)) (λ g. can_go k g) (row_at table f)
        (λ g there. tells g k (omega arith) (λ m lt. callee_none f g m there (none_yet f is (suc m) (omega (arith, lt))))) in
        let next : suc k ≡ k + 1 = omega arith in
        ap (λ t. if t then Some (k + 1) else None) agree
        ∙ ap (λ j. if can_go (suc k) f then Some j else None) (sym next)
        ∙ sym (last_of (λ n. can_go n f) 0 (suc k) ∙ ap (or_last (λ n. can_go n f) (0 + suc k)) is ∙ ap (λ j. if can_go j f then Some j else None) zero_more)
      where
        zero_more : 0 + suc k ≡ suc k
        zero_more = omega arith

    entry : (f : ℕ) → (length table ≤ f) ⊎ (f < length table) → rank_of (far_next table far k) f ≡ first_of f (suc (suc k))
    entry f (inl past) =
        past_end None (far_next table far k) f (subst (λ n. n ≤ f) (sym (length-map (below (length table)) (λ f. further table far k f (rank_of far f)) ∙ below_length (length table))) past)
        ∙ sym (never (λ n. can_go n f) 0 (suc (suc k)) (λ m. nowhere f m past))
    entry f (inr inside) =
        at_map None (λ f. further table far k f (rank_of far f)) (length table) f inside
        ∙ ap (further table far k f) (is_far.each f) ∙ one_round f (first_of f (suc k)) refl

    pub far_more : AreFar table ends (far_next table far k) (suc k)
    far_more = record { size = length-map (below (length table)) (λ f. further table far k f (rank_of far f)) ∙ below_length (length table); each = λ f. entry f (nat_either (length table) f) }

    -- ---- the path

    -- from these bodies, none of which is nearer
    abbrev pub NoneNearer : (from : List ℕ) (left : ℕ) → Type 0
    NoneNearer from left = (h : ℕ) → IsIn h from → (m : ℕ) → m < left → can_go m h ≡ false

    pub least_tells : (from : List ℕ) (left : ℕ) → left ≤ k → NoneNearer from left
        → least (λ g. is_at left (rank_of far g)) from ≡ least (λ g. can_go left g) from
    least_tells from left le none = least_same (λ g. is_at left (rank_of far g)) (λ g. can_go left g) from (λ g there. tells g left le (none g there))

    pub none_nearer_behind : (from : List ℕ) (left h : ℕ) → NoneNearer from (suc left) → IsIn h from → NoneNearer (row_at table h) left
    none_nearer_behind from left h none there g called m lt = callee_none h g m called (none h there (suc m) (omega (arith, lt)))

    pub any_tells : (roots : List ℕ) → ((m : ℕ) → m < k → list_any (λ g. can_go m g) roots ≡ false)
        → list_any (λ g. is_at k (rank_of far g)) roots ≡ list_any (λ g. can_go k g) roots
    any_tells roots none = any_same (λ g. is_at k (rank_of far g)) (λ g. can_go k g) roots
        (λ g there. tells g k (omega arith) (λ m lt. not_any (λ h. can_go m h) roots (none m lt) g there))

pub least_there : (test : ℕ → Bool) (xs : List ℕ) (y : ℕ) → least test xs ≡ Some y → IsIn y xs
least_there test xs y is = (subst (IsLeastOf test xs) is (least_is test xs)).there

-- the first number that passes is found by going up
pub first_found : (test : ℕ → Bool) (n bound : ℕ) → n < bound → test n ≡ true → ((m : ℕ) → m < n → test m ≡ false) → first_from test 0 bound ≡ Some n
first_found test n bound inside is before = by_case (first_from test 0 bound) (first_is test 0 bound)
  where
    by_case : (o : Option ℕ) → IsFirst test 0 bound o → o ≡ Some n
    by_case None none = absurd (false≢true (sym (none n (omega arith) (omega (arith, inside))) ∙ is))
    by_case (Some d) h = ap Some (equal (nat_either d n) (nat_either n d))
      where
        equal : (d ≤ n) ⊎ (n < d) → (n ≤ d) ⊎ (d < n) → d ≡ n
        equal (inl le) (inl ge) = omega (arith, le, ge)
        equal (inr lt) more = absurd (false≢true (sym (h.2 n (omega arith) lt) ∙ is))
        equal (inl le) (inr lt) = absurd (false≢true (sym (before d lt) ∙ h.1))

pub none_from : (test : ℕ → Bool) (n bound : ℕ) → ((m : ℕ) → n ≤ m → m < n + bound → test m ≡ false) → first_from test n bound ≡ None
none_from test n zero before = refl
none_from test n (suc bound) before =
    let e : test n ≡ false = before n (omega arith) (omega arith) in
    rw e (none_from test (suc n) bound (λ m le lt. before m (omega (arith, le)) (omega (arith, lt))))

-- ---- one entry of a round

module _ (table : List (List ℕ)) (far : List (Option ℕ)) (k f : ℕ) (o : Option ℕ) (is : o ≡ rank_of far f) (none : o ≡ None) (row : List ℕ) (row_is : row ≡ row_at table f) (t : Bool)
    (t_is : t ≡ list_any (λ g. is_at k (rank_of far g)) row) where
  entry_is : (b : Bool) → t ≡ b → further table far k f (rank_of far f) ≡ (if b then Some (k + 1) else None)
  entry_is b b_is =
      ap (further table far k f) (sym is ∙ none)
      ∙ ap (λ x. if x then Some (k + 1) else None) (ap (λ r. list_any (λ g. is_at k (rank_of far g)) r) (sym row_is) ∙ sym t_is ∙ b_is)

  pub entry_then : t ≡ true → Some (k + 1) ≡ further table far k f (rank_of far f)
  entry_then yes_ = sym (entry_is true yes_)

  pub entry_else : t ≡ false → None ≡ further table far k f (rank_of far f)
  entry_else no_ = sym (entry_is false no_)

-- ---- one number more

pub below_next : (n : ℕ) → below (n + 1) ≡ below n ++ n ∷ []
below_next n = let e : n + 1 ≡ suc n = omega arith in ap below e

pub map_next : {A : Type 0} (f : ℕ → A) (n : ℕ) → map f (below (n + 1)) ≡ map f (below n) ++ f n ∷ []
map_next f n = ap (map f) (below_next n) ∙ map-append f (below n) (n ∷ [])

pub ruleset numbers = (map_next)

-- ---- one body alone

pub only_size : (f n : ℕ) (marks : List Bool) → marks ≡ map (λ g. g == f) (below n) → length marks ≡ n
only_size f n marks is = ap length is ∙ length-map (below n) (λ g. g == f) ∙ below_length n

pub only_is : (f n : ℕ) (marks : List Bool) → f < n → marks ≡ map (λ g. g == f) (below n) → is_end_in marks ≡ (λ g. g == f)
only_is f n marks inside is = fun_ext (λ g. ap (λ xs. get_or xs g false) is ∙ at (nat_either n g))
  where
    at : {g : ℕ} → (n ≤ g) ⊎ (g < n) → get_or (map (λ h. h == f) (below n)) g false ≡ (g == f)
    at {g} (inl past) =
        past_end false (map (λ h. h == f) (below n)) g (subst (λ k. k ≤ g) (sym (length-map (below n) (λ h. h == f) ∙ below_length n)) past)
        ∙ sym (bool_cases (g == f) (λ e. omega (arith, eqb-true g f e, past, inside)))
    at {g} (inr less) = at_map false (λ h. h == f) n g less
