-- The test of the kernel's bytes says for which lists they stand.
use Rattle.std.proofs.Common.{◌≡◌, ℕ, zero, suc, ◌+◌, ◌<◌, ◌≤◌, Bool, true, false, List, [], ◌∷◌, length, Some, refl, sym, ap, subst, ◌∙◌, ◌⊎◌, inl, inr, arith}
use Rattle.std.specs.Prelude.{◌==◌, ◌&&◌, nat_le, nat_lt, not, slice_get}
use Rattle.std.proofs.lemmas.Bool.{and_from, and_parts, cases_lt, eqb-true, eq-eqb, false≢true, le-leb, lt-ltb, ltb-true}
use Rattle.nesc_core.specs.Plain.{Program}
use Rattle.run_meaning.specs.Runs.{is_listed}
use Rattle.task_queue.specs.Kernel.{Fits}
use Rattle.queue_law.specs.Contract.{first_of}
use Rattle.queue_law.specs.Bytes.{AreTasks, StandsIn, address_in, behind, entry_of, is_byte_in, last_of}
use Rattle.loop_runs.specs.Kernel.{IsQueue, Stands}
use Rattle.kernel_contract.specs.Bytes.{are_tasks, each_below, queue_of}

each_is : (n : ℕ) (test : ℕ → Bool) → each_below n test ≡ true → (k : ℕ) → k < n → test k ≡ true
each_is zero test h k lt = absurd (omega (arith, lt))
each_is (suc n) test h k lt = by (cases_lt k n) (each_is n test (and_parts (test n) (each_below n test) h).1 k)
  where
    by : (k < n) ⊎ (n ≤ k) → (k < n → test k ≡ true) → test k ≡ true
    by (inl less) before = before less
    by (inr more) before = let same : n ≡ k = omega (arith, lt, more) in ap test (sym same) ∙ (and_parts (test n) (each_below n test) h).0

each_from : (n : ℕ) (test : ℕ → Bool) → ((k : ℕ) → k < n → test k ≡ true) → each_below n test ≡ true
each_from zero test h = refl
each_from (suc n) test h = and_from (test n) (each_below n test) (h n (omega arith)) (each_from n test (λ k lt. h k (omega (arith, lt))))

not_is : (t : Bool) → not t ≡ true → t ≡ false
not_is true e = absurd (false≢true e)
not_is false e = refl

are_is : (count : ℕ) (tasks : List ℕ) → are_tasks count tasks ≡ true → AreTasks count tasks
are_is count [] h = tt
are_is count (k ∷ rest) h =
    let all = and_parts (nat_lt k count && not (is_listed rest k)) (are_tasks count rest) h in
    let first = and_parts (nat_lt k count) (not (is_listed rest k)) all.0 in
    (ltb-true k count first.0, not_is (is_listed rest k) first.1, are_is count rest all.1)

are_from : (count : ℕ) (tasks : List ℕ) → AreTasks count tasks → are_tasks count tasks ≡ true
are_from count [] h = refl
are_from count (k ∷ rest) h =
    and_from (nat_lt k count && not (is_listed rest k)) (are_tasks count rest)
    (and_from (nat_lt k count) (not (is_listed rest k)) (lt-ltb k count h.0) (ap not h.1)) (are_from count rest h.2)

within : {A : Type 0} (xs : List A) (k : ℕ) → k < length xs → (x : A) × (slice_get xs k ≡ Some x)
within [] k lt = absurd (omega (arith, lt))
within (x ∷ xs) zero lt = (x, refl)
within (x ∷ xs) (suc k) lt = within xs k (omega (arith, lt))

module _ (p : Program) where
  abbrev A : ℕ
  A = address_in p

  abbrev N : ℕ
  N = length p.tasks

  abbrev test : (ℕ → ℕ) → List ℕ → ℕ → Bool
  test st tasks k = st (A + (k + 2)) == behind tasks k

  pub stands_is : (st : ℕ → ℕ) (tasks : List ℕ) → Stands (queue_of p) st tasks → StandsIn p st tasks
  stands_is st tasks h =
      let all = and_parts ((st A == entry_of tasks) && (st (A + 1) == last_of tasks)) (each_below N (test st tasks) && are_tasks N tasks) h in
      let ends = and_parts (st A == entry_of tasks) (st (A + 1) == last_of tasks) all.0 in
      let rest = and_parts (each_below N (test st tasks)) (are_tasks N tasks) all.1 in
      record {
        head = eqb-true (st A) (entry_of tasks) ends.0;
        tail = eqb-true (st (A + 1)) (last_of tasks) ends.1;
        next = λ k lt. eqb-true (st (A + (k + 2))) (behind tasks k) (each_is N (test st tasks) rest.0 k lt);
        are = are_is N tasks rest.1;
      }

  pub stands_from : (st : ℕ → ℕ) (tasks : List ℕ) → StandsIn p st tasks → Stands (queue_of p) st tasks
  stands_from st tasks h =
      and_from ((st A == entry_of tasks) && (st (A + 1) == last_of tasks)) (each_below N (test st tasks) && are_tasks N tasks)
      (and_from (st A == entry_of tasks) (st (A + 1) == last_of tasks) (eq-eqb (st A) (entry_of tasks) h.head) (eq-eqb (st (A + 1)) (last_of tasks) h.tail))
      (and_from (each_below N (test st tasks)) (are_tasks N tasks) (each_from N (test st tasks) (λ k lt. eq-eqb (st (A + (k + 2))) (behind tasks k) (h.next k lt))) (are_from N tasks h.are))

  is_byte : (i : ℕ) → i < N + 2 → is_byte_in p (A + i) ≡ true
  is_byte i lt = and_from (nat_le A (A + i)) (nat_lt (A + i) (A + (N + 2))) (le-leb A (A + i) (omega arith)) (lt-ltb (A + i) (A + (N + 2)) (omega (arith, lt)))

  here : (st st' : ℕ → ℕ) (tasks : List ℕ) → ((a : ℕ) → is_byte_in p a ≡ true → st a ≡ st' a) → StandsIn p st tasks → StandsIn p st' tasks
  here st st' tasks same h =
      let first : A + 0 ≡ A = omega arith in
      record {
        head = sym (same A (subst (λ a. is_byte_in p a ≡ true) first (is_byte 0 (omega arith)))) ∙ h.head;
        tail = sym (same (A + 1) (is_byte 1 (omega arith))) ∙ h.tail;
        next = λ k lt. sym (same (A + (k + 2)) (is_byte (k + 2) (omega (arith, lt)))) ∙ h.next k lt;
        are = h.are;
      }

  -- a listed task is one of the program's
  pub listed : (st : ℕ → ℕ) (k : ℕ) (tasks : List ℕ) → Stands (queue_of p) st (k ∷ tasks) → (body : ℕ) × (slice_get p.tasks k ≡ Some body)
  listed st k tasks h = within p.tasks k ((stands_is st (k ∷ tasks) h).are.0)

  pub is_queue : Fits p → IsQueue (queue_of p)
  is_queue fits = record {
    here = λ st st' tasks same h. stands_from st' tasks (here st st' tasks same (stands_is st tasks h));
    empty = stands_from (λ a. 0) [] (record { head = refl; tail = refl; next = λ k lt. refl; are = tt });
    places = λ st k tasks h. let are = (stands_is st (k ∷ tasks) h).are in let low = are.0 in let few = fits.tasks in omega (arith, low, few);
  }

  pub first_small : Fits p → (st : ℕ → ℕ) (tasks : List ℕ) → StandsIn p st tasks → first_of tasks < 256
  first_small fits st [] h = omega arith
  first_small fits st (k ∷ tasks) h = let low = h.are.0 in let few = fits.tasks in omega (arith, low, few)
