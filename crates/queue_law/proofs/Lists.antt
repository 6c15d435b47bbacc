-- Lists of tasks: what stands behind each, when one is put last or the first is taken.
use Rattle.std.proofs.Common.{◌≡◌, ◌≢◌, ℕ, ◌+◌, ◌<◌, ◌≤◌, Bool, true, false, List, [], ◌∷◌, ◌++◌, refl, sym, subst, ap, ◌∙◌, arith}
use Rattle.std.specs.Prelude.{◌==◌, ◌||◌, if◌then◌else◌}
use Rattle.std.proofs.lemmas.Bool.{false≢true}
use Rattle.std.proofs.lemmas.Bool.Decides.{Decides-eqb, same_from_decides}
use Rattle.run_meaning.specs.Runs.{is_listed}
use Rattle.queue_law.specs.Bytes.{entry_of, last_of, behind, AreTasks}

pub equal : (a b : ℕ) → (a == b) ≡ true → a ≡ b
equal a b is = (Decides-eqb a b).0 is

pub unequal : (a b : ℕ) → (a == b) ≡ false → a ≢ b
unequal a b is same = false≢true (sym is ∙ (Decides-eqb a b).1 same)

pub is_same : (a : ℕ) → (a == a) ≡ true
is_same a = (Decides-eqb a a).1 refl

pub is_other : (a b : ℕ) → a ≢ b → (a == b) ≡ false
is_other a b other = by_test (a == b) refl
  where
    by_test : (t : Bool) → (a == b) ≡ t → (a == b) ≡ false
    by_test false is = is
    by_test true is = absurd (other (equal a b is))

-- two tasks are one where their entries are
entries_same : (a b : ℕ) → (a + 1 == b + 1) ≡ (a == b)
entries_same a b =
    let d = Decides-eqb a b in
    same_from_decides (a + 1 == b + 1) (a == b) (Decides-eqb (a + 1) (b + 1)) ((λ e. ap (λ x. x + 1) (d.0 e)), (λ e. d.1 (omega (arith, e))))

-- the head or the others
listed_cons : (j k : ℕ) (rest : List ℕ) (t : Bool) → (j == k) ≡ t → is_listed (j ∷ rest) k ≡ (t || is_listed rest k)
listed_cons j k rest t is = ap (λ b. b || is_listed rest k) is

-- ---- the first and the last entry

pub first_none : (tasks : List ℕ) → entry_of tasks ≡ 0 → tasks ≡ []
first_none [] is = refl
first_none (k ∷ rest) is = absurd (omega (arith, is))

pub last_none : (tasks : List ℕ) → last_of tasks ≡ 0 → tasks ≡ []
last_none [] is = refl
last_none (k ∷ []) is = absurd (omega (arith, is))
last_none (k ∷ j ∷ rest) is = absurd (not_none (last_none (j ∷ rest) is))
  where
    not_none : j ∷ rest ≡ [] → ⊥
    not_none e = absurd (cc)

module _ (count : ℕ) where
  pub first_most : (tasks : List ℕ) → AreTasks count tasks → entry_of tasks ≤ count
  first_most [] are = omega arith
  first_most (k ∷ rest) are = let low = are.0 in omega (arith, low)

  pub last_most : (tasks : List ℕ) → AreTasks count tasks → last_of tasks ≤ count
  last_most [] are = omega arith
  last_most (k ∷ []) are = let low = are.0 in omega (arith, low)
  last_most (k ∷ j ∷ rest) are = last_most (j ∷ rest) are.2

  pub behind_most : (tasks : List ℕ) (k : ℕ) → AreTasks count tasks → behind tasks k ≤ count
  behind_most [] k are = omega arith
  behind_most (j ∷ rest) k are = by_test (j == k) (behind_most rest k are.2)
    where
      by_test : (t : Bool) → behind rest k ≤ count → (if t then entry_of rest else behind rest k) ≤ count
      by_test true most = first_most rest are.2
      by_test false most = most

-- ---- whether a task waits

-- one that is not listed has none behind it, and is not the last
pub absent : (tasks : List ℕ) (k : ℕ) → is_listed tasks k ≡ false → behind tasks k ≡ 0
absent [] k out = refl
absent (j ∷ rest) k out = by_test (j == k) refl (absent rest k)
  where
    by_test : (t : Bool) → (j == k) ≡ t → (is_listed rest k ≡ false → behind rest k ≡ 0) → behind (j ∷ rest) k ≡ 0
    by_test true is later = absurd (false≢true (sym out ∙ listed_cons j k rest true is))
    by_test false is later = ap (λ t. if t then entry_of rest else behind rest k) is ∙ later (sym (listed_cons j k rest false is) ∙ out)

pub not_last : (tasks : List ℕ) (k : ℕ) → is_listed tasks k ≡ false → last_of tasks ≢ k + 1
not_last [] k out is = omega (arith, is)
not_last (j ∷ []) k out is = absurd (false≢true (sym out ∙ listed_cons j k [] true ((Decides-eqb j k).1 (omega (arith, is)))))
not_last (j ∷ i ∷ rest) k out is = by_test (j == k) refl (λ outside. not_last (i ∷ rest) k outside is)
  where
    by_test : (t : Bool) → (j == k) ≡ t → (is_listed (i ∷ rest) k ≡ false → ⊥) → ⊥
    by_test true same later = false≢true (sym out ∙ listed_cons j k (i ∷ rest) true same)
    by_test false other later = later (sym (listed_cons j k (i ∷ rest) false other) ∙ out)

-- one that is listed and has none behind it is the last
pub alone_last : (tasks : List ℕ) (k : ℕ) → is_listed tasks k ≡ true → behind tasks k ≡ 0 → last_of tasks ≡ k + 1
alone_last [] k into is = absurd (false≢true into)
alone_last (j ∷ rest) k into is = by_test (j == k) refl (λ inside alone. alone_last rest k inside alone)
  where
    ends : (rest : List ℕ) → rest ≡ [] → last_of (j ∷ rest) ≡ j + 1
    ends rest none_left = ap (λ r. last_of (j ∷ r)) none_left

    goes : (rest : List ℕ) → is_listed rest k ≡ true → last_of rest ≡ k + 1 → last_of (j ∷ rest) ≡ k + 1
    goes [] into last = absurd (false≢true into)
    goes (i ∷ rest) into last = last

    by_test : (t : Bool) → (j == k) ≡ t → (is_listed rest k ≡ true → behind rest k ≡ 0 → last_of rest ≡ k + 1) → last_of (j ∷ rest) ≡ k + 1
    by_test true same later =
        ends rest (first_none rest (sym (ap (λ t. if t then entry_of rest else behind rest k) same) ∙ is)) ∙ ap (λ x. x + 1) (equal j k same)
    by_test false other later =
        let in_rest : is_listed rest k ≡ true = sym (listed_cons j k rest false other) ∙ into in
        goes rest in_rest (later in_rest (sym (ap (λ t. if t then entry_of rest else behind rest k) other) ∙ is))

-- ---- one put last

pub last_put : (tasks : List ℕ) (k : ℕ) → last_of (tasks ++ k ∷ []) ≡ k + 1
last_put [] k = refl
last_put (j ∷ []) k = refl
last_put (j ∷ i ∷ rest) k = last_put (i ∷ rest) k

-- one more is listed
listed_put : (tasks : List ℕ) (j k : ℕ) → is_listed tasks j ≡ false → (k == j) ≡ false → is_listed (tasks ++ k ∷ []) j ≡ false
listed_put [] j k out other = listed_cons k j [] false other
listed_put (h ∷ rest) j k out other = by_test (h == j) refl (λ outside. listed_put rest j k outside other)
  where
    by_test : (t : Bool) → (h == j) ≡ t → (is_listed rest j ≡ false → is_listed (rest ++ k ∷ []) j ≡ false) → is_listed ((h ∷ rest) ++ k ∷ []) j ≡ false
    by_test true same later = absurd (false≢true (sym out ∙ listed_cons h j rest true same))
    by_test false apart later = listed_cons h j (rest ++ k ∷ []) false apart ∙ later (sym (listed_cons h j rest false apart) ∙ out)

module _ (count : ℕ) where
  -- behind the last one stands k, and behind each other what stood there
  pub behind_put : (j : ℕ) (rest : List ℕ) (k i : ℕ) → AreTasks count (j ∷ rest) → is_listed (j ∷ rest) k ≡ false
      → behind ((j ∷ rest) ++ k ∷ []) i ≡ (if last_of (j ∷ rest) == i + 1 then k + 1 else behind (j ∷ rest) i)
  behind_put j [] k i are out = by_test (j == i) (k == i) ∙ sym (ap (λ t. if t then k + 1 else (if j == i then 0 else 0)) (entries_same j i))
    where
      by_test : (s t : Bool) → (if s then k + 1 else (if t then 0 else 0)) ≡ (if s then k + 1 else (if s then 0 else 0))
      by_test true t = refl
      by_test false true = refl
      by_test false false = refl
  behind_put j (h ∷ rest) k i are out = by_test (j == i) refl (λ outside. behind_put h rest k i are.2 outside)
    where
      out_rest : is_listed (h ∷ rest) k ≡ false
      out_rest = by_head (j == k) refl
        where
          by_head : (t : Bool) → (j == k) ≡ t → is_listed (h ∷ rest) k ≡ false
          by_head true same = absurd (false≢true (sym out ∙ listed_cons j k (h ∷ rest) true same))
          by_head false other = sym (listed_cons j k (h ∷ rest) false other) ∙ out

      by_test : (t : Bool) → (j == i) ≡ t
          → (is_listed (h ∷ rest) k ≡ false → behind ((h ∷ rest) ++ k ∷ []) i ≡ (if last_of (h ∷ rest) == i + 1 then k + 1 else behind (h ∷ rest) i))
          → (if j == i then h + 1 else behind ((h ∷ rest) ++ k ∷ []) i) ≡ (if last_of (h ∷ rest) == i + 1 then k + 1 else (if j == i then h + 1 else behind (h ∷ rest) i))
      by_test true same later =
          let other : (last_of (h ∷ rest) == i + 1) ≡ false = is_other _ _ (λ e. not_last (h ∷ rest) j are.1 (e ∙ ap (λ x. x + 1) (sym (equal j i same)))) in
          ap (λ t. if t then h + 1 else behind ((h ∷ rest) ++ k ∷ []) i) same
          ∙ sym (ap (λ t. if t then k + 1 else (if j == i then h + 1 else behind (h ∷ rest) i)) other ∙ ap (λ t. if t then h + 1 else behind (h ∷ rest) i) same)
      by_test false other later =
          ap (λ t. if t then h + 1 else behind ((h ∷ rest) ++ k ∷ []) i) other
          ∙ later out_rest
          ∙ sym (ap (λ t. if last_of (h ∷ rest) == i + 1 then k + 1 else (if t then h + 1 else behind (h ∷ rest) i)) other)

  pub are_put : (tasks : List ℕ) (k : ℕ) → k < count → AreTasks count tasks → is_listed tasks k ≡ false → AreTasks count (tasks ++ k ∷ [])
  are_put [] k low are out = (low, refl, tt)
  are_put (j ∷ rest) k low are out = by_test (j == k) refl (λ outside. are_put rest k low are.2 outside)
    where
      by_test : (t : Bool) → (j == k) ≡ t → (is_listed rest k ≡ false → AreTasks count (rest ++ k ∷ [])) → AreTasks count ((j ∷ rest) ++ k ∷ [])
      by_test true same later = absurd (false≢true (sym out ∙ listed_cons j k rest true same))
      by_test false other later =
          (are.0, listed_put rest j k are.1 (is_other k j (λ e. unequal j k other (sym e))), later (sym (listed_cons j k rest false other) ∙ out))

  -- ---- the first taken

  -- behind the first one stands none then, and behind each other what stood there
  pub behind_taken : (j : ℕ) (rest : List ℕ) (i : ℕ) → AreTasks count (j ∷ rest) → behind rest i ≡ (if j == i then 0 else behind (j ∷ rest) i)
  behind_taken j rest i are = by_test (j == i) refl
    where
      by_test : (t : Bool) → (j == i) ≡ t → behind rest i ≡ (if j == i then 0 else (if j == i then entry_of rest else behind rest i))
      by_test true same =
          absent rest i (subst (λ x. is_listed rest x ≡ false) (equal j i same) are.1)
          ∙ sym (ap (λ t. if t then 0 else (if j == i then entry_of rest else behind rest i)) same)
      by_test false other =
          sym (ap (λ t. if t then 0 else (if j == i then entry_of rest else behind rest i)) other ∙ ap (λ t. if t then entry_of rest else behind rest i) other)
