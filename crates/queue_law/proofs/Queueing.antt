-- A call of `queue` on bytes that stand for a list.
use Rattle.std.proofs.Common.{◌≡◌, ℕ, ℤ, pos, zero, ◌+◌, ◌<◌, ◌≤◌, Bool, true, false, List, [], ◌∷◌, ◌++◌, length, Some, refl, sym, subst, ap, ◌∙◌, arith}
use Rattle.std.specs.Prelude.{◌==◌, if◌then◌else◌, not}
use Rattle.std.specs.Ordering.{int_eq}
use Rattle.nm_base.specs.Behaviour.{Behaviour, Does}
use Rattle.nm_base.specs.declared.action.Action.TheVariants.{End}
use Rattle.nm_base.specs.declared.int_type.IntType.TheVariants.{U8}
use Rattle.nesc_core.specs.Plain.{Expr, Program, Stmts, more_stmts, no_stmts, return, branch, convert, local}
use Rattle.core_meaning.specs.declared.flow.Flow.{Flow}
use Rattle.core_meaning.specs.Flow.{result, on}
use Rattle.core_meaning.specs.Numbers.{truth, is_zero}
use Rattle.core_meaning.specs.Work.{Locals, give}
use Rattle.core_meaning.specs.SourceOf.{put_last}
use Rattle.core_meaning.specs.Act.{Calls, run, run_from, tested, value}
use Rattle.run_meaning.specs.State.{stored}
use Rattle.run_meaning.specs.Runs.{is_listed}
use Rattle.task_queue.specs.Kernel.{Fits, kernel_program, waits, link, put, head, tail, next, task, the_task, the_other, sum, value_at, word, byte, is_equal, nothing, busy, success}
use Rattle.queue_law.specs.Contract.{posted, answer_of}
use Rattle.queue_law.specs.Bytes.{StandsIn, address_in, behind, last_of}
use Rattle.queue_law.proofs.Lists.{equal, unequal, absent, not_last, alone_last, last_put, behind_put, are_put, last_none, last_most, behind_most}
use Rattle.queue_law.proofs.Stepping.{int_same, wrote, left_alone, as_byte, task_gives, the_task_gives, the_other_gives, one_more_gives, word_in, first_gets_in, second_reads_in, put_in, few, types, holds, Gives, In}

module _ (p : Program) (fits : Fits p) (calls : Calls) (n : ℕ) (after : ℤ → Behaviour) (k : ℕ) (low : k < length p.tasks) (tasks : List ℕ) where
  abbrev N : ℕ
  N = length p.tasks

  abbrev A : ℕ
  A = address_in p

  abbrev b : ℕ
  b = length p.objects

  abbrev K : Program
  K = kernel_program p

  most : N ≤ 254
  most = few p fits calls

  small : k + 1 < 256
  small = omega (arith, low, most)

  abbrev pub Behind : (ℕ → ℕ) → Behaviour → Type 0
  Behind st rest = StandsIn p st (posted put_last tasks k) × (rest ≡ after (pos (answer_of tasks k)))

  abbrev fin : Flow → Locals → Behaviour
  fin flow locals = Does End (after (result flow))

  abbrev rest_of_code : Stmts → Locals → Behaviour
  rest_of_code ss locals = run_from K types calls n ss zero fin locals

  abbrev last_code : Stmts
  last_code = more_stmts (return (Some (byte success))) no_stmts

  abbrev tail_code : Stmts
  tail_code = more_stmts (put (tail b) task) last_code

  abbrev link_code : Stmts
  link_code = more_stmts (link b) tail_code

  abbrev test_code : Stmts
  test_code = more_stmts (branch (waits b) (return (Some (byte busy))) nothing) link_code

  abbrev read_code : Stmts
  read_code = more_stmts (put (local 1) (value_at (tail b))) test_code

  abbrev one_more : Expr
  one_more = sum the_task (word 1)

  -- the task and the last one, as bytes have them
  abbrev here : Locals
  here = holds (k + 1) (last_of tasks)

  last_small : (st : ℕ → ℕ) → StandsIn p st tasks → last_of tasks < 256
  last_small st stands = let m = last_most N tasks stands.are in omega (arith, m, most)

  refused : (st : ℕ → ℕ) → StandsIn p st tasks → is_listed tasks k ≡ true → Behind st (after (pos 5))
  refused st stands into =
      (subst (StandsIn p st) (sym (ap (λ t. if t then tasks else put_last tasks k) into)) stands, ap (λ t. after (pos (if t then 5 else 0))) (sym into))

  accepted : (st : ℕ → ℕ) → StandsIn p st (tasks ++ k ∷ []) → is_listed tasks k ≡ false → Behind st (after (pos 0))
  accepted st stands out =
      (subst (StandsIn p st) (sym (ap (λ t. if t then tasks else put_last tasks k) out)) stands, ap (λ t. after (pos (if t then 5 else 0))) (sym out))

  -- the last two statements
  ends_in : (st : ℕ → ℕ) → StandsIn p (stored st (A + 1) false (k + 1)) (tasks ++ k ∷ []) → is_listed tasks k ≡ false
      → In p fits calls Behind (rest_of_code tail_code here) 1 st
  ends_in st stands out =
      put_in p fits calls Behind (word 1) task 1 (k + 1) 0 st (λ v l. rest_of_code last_code l) here (λ _. refl) (omega arith) (task_gives p fits calls (k + 1) (last_of tasks) small) small
      (accepted (stored st (A + 1) false (k + 1)) stands out)

  -- into an empty list
  first_stands : (st : ℕ → ℕ) → StandsIn p st tasks → tasks ≡ [] → StandsIn p (stored (stored st (A + 0) false (k + 1)) (A + 1) false (k + 1)) (tasks ++ k ∷ [])
  first_stands st stands empty = subst (λ ts. StandsIn p (stored (stored st (A + 0) false (k + 1)) (A + 1) false (k + 1)) (ts ++ k ∷ [])) (sym empty) (record {
    head = left_alone (stored st (A + 0) false (k + 1)) (A + 1) (k + 1) A (λ e. omega (arith, e)) ∙ wrote st (A + 0) (k + 1) A (omega arith) small;
    tail = wrote (stored st (A + 0) false (k + 1)) (A + 1) (k + 1) (A + 1) refl small;
    next = λ i lt.
        left_alone (stored st (A + 0) false (k + 1)) (A + 1) (k + 1) (A + (i + 2)) (λ e. omega (arith, e)) ∙ left_alone st (A + 0) (k + 1) (A + (i + 2)) (λ e. omega (arith, e))
        ∙ stands.next i lt ∙ ap (λ ts. behind ts i) empty ∙ sym (nothing_behind (k == i));
    are = (low, refl, tt);
  })
    where
      nothing_behind : (t : Bool) → ◌≡◌ {A = ℕ} (if t then 0 else 0) 0
      nothing_behind true = refl
      nothing_behind false = refl

  -- behind the last task
  behind_stands : (st : ℕ → ℕ) (j : ℕ) (rest : List ℕ) → StandsIn p st (j ∷ rest) → is_listed (j ∷ rest) k ≡ false
      → StandsIn p (stored (stored st (A + (last_of (j ∷ rest) + 1)) false (k + 1)) (A + 1) false (k + 1)) ((j ∷ rest) ++ k ∷ [])
  behind_stands st j rest stands out =
      let last : ℕ = last_of (j ∷ rest) in
      let linked : ℕ → ℕ = stored st (A + (last + 1)) false (k + 1) in
      record {
        head = left_alone linked (A + 1) (k + 1) A (λ e. omega (arith, e)) ∙ left_alone st (A + (last + 1)) (k + 1) A (λ e. omega (arith, e)) ∙ stands.head;
        tail = wrote linked (A + 1) (k + 1) (A + 1) refl small ∙ sym (last_put (j ∷ rest) k);
        next = λ i lt. left_alone linked (A + 1) (k + 1) (A + (i + 2)) (λ e. omega (arith, e)) ∙ by_test i lt (last == i + 1) refl ∙ sym (behind_put N j rest k i stands.are out);
        are = are_put N (j ∷ rest) k low stands.are out;
      }
    where
      by_test : (i : ℕ) → i < N → (t : Bool) → (last_of (j ∷ rest) == i + 1) ≡ t
          → stored st (A + (last_of (j ∷ rest) + 1)) false (k + 1) (A + (i + 2)) ≡ (if last_of (j ∷ rest) == i + 1 then k + 1 else behind (j ∷ rest) i)
      by_test i lt true is =
          let same = equal (last_of (j ∷ rest)) (i + 1) is in
          wrote st (A + (last_of (j ∷ rest) + 1)) (k + 1) (A + (i + 2)) (omega (arith, same)) small ∙ sym (ap (λ t. if t then k + 1 else behind (j ∷ rest) i) is)
      by_test i lt false is =
          let other = unequal (last_of (j ∷ rest)) (i + 1) is in
          left_alone st (A + (last_of (j ∷ rest) + 1)) (k + 1) (A + (i + 2)) (λ e. other (omega (arith, e))) ∙ stands.next i lt
          ∙ sym (ap (λ t. if t then k + 1 else behind (j ∷ rest) i) is)

  more_stands : (st : ℕ → ℕ) → StandsIn p st tasks → (j : ℕ) (rest : List ℕ) → tasks ≡ j ∷ rest → is_listed tasks k ≡ false
      → StandsIn p (stored (stored st (A + (last_of tasks + 1)) false (k + 1)) (A + 1) false (k + 1)) (tasks ++ k ∷ [])
  more_stands st stands j rest there out =
      subst (λ ts. StandsIn p (stored (stored st (A + (last_of ts + 1)) false (k + 1)) (A + 1) false (k + 1)) (ts ++ k ∷ [])) (sym there)
      (behind_stands st j rest (subst (StandsIn p st) there stands) (subst (λ ts. is_listed ts k ≡ false) there out))

  -- if (last == 0) head = task; else next[last] = task;
  link_in : (st : ℕ → ℕ) → StandsIn p st tasks → is_listed tasks k ≡ false → In p fits calls Behind (rest_of_code link_code here) 2 st
  link_in st stands out =
      subst (λ (w : Behaviour). In p fits calls Behind w 2 st) (sym (last_gives (λ x l. chosen (truth (int_eq x (pos 0))) l)))
      (subst (λ t. In p fits calls Behind (chosen (truth t) here) 2 st) (sym (int_same (last_of tasks) 0)) (by_test (last_of tasks == 0) refl))
    where
      less : last_of tasks < 256
      less = last_small st stands

      last_gives : Gives p fits calls the_other here (last_of tasks)
      last_gives = the_other_gives p fits calls (k + 1) (last_of tasks) less

      chosen : ℤ → Locals → Behaviour
      chosen x l =
          (if is_zero x then run K types calls n (put (next b the_other) task) else run K types calls n (put (head b) task))
          (λ flow. on flow (run_from K types calls n tail_code zero) fin) l

      by_test : (t : Bool) → (last_of tasks == 0) ≡ t → In p fits calls Behind (chosen (truth (last_of tasks == 0)) here) 2 st
      by_test true is =
          subst (λ t. In p fits calls Behind (chosen (truth t) here) 2 st) (sym is)
          (put_in p fits calls Behind (word 0) task 0 (k + 1) 1 st (λ v l. rest_of_code tail_code l) here (λ _. refl) (omega arith) (task_gives p fits calls (k + 1) (last_of tasks) small) small
          (ends_in (stored st (A + 0) false (k + 1)) (first_stands st stands (last_none tasks (equal (last_of tasks) 0 is))) out))
      by_test false is =
          subst (λ t. In p fits calls Behind (chosen (truth t) here) 2 st) (sym is)
          (behind_last tasks refl)
        where
          inside : last_of tasks + 1 < N + 2
          inside = let m = last_most N tasks stands.are in omega (arith, m)

          behind_last : (ts : List ℕ) → tasks ≡ ts → In p fits calls Behind (chosen (pos 0) here) 2 st
          behind_last [] none_there = absurd (unequal (last_of tasks) 0 is (ap last_of none_there))
          behind_last (j ∷ rest) there =
              put_in p fits calls Behind (sum the_other (word 1)) task (last_of tasks + 1) (k + 1) 1 st (λ v l. rest_of_code tail_code l) here
              (one_more_gives p fits calls the_other here (last_of tasks) less last_gives) inside (task_gives p fits calls (k + 1) (last_of tasks) small) small
              (ends_in (stored st (A + (last_of tasks + 1)) false (k + 1)) (more_stands st stands j rest there out) out)

  -- if (next[task] != 0 || last == task) return busy;
  test_in : (st : ℕ → ℕ) → StandsIn p st tasks → In p fits calls Behind (rest_of_code test_code here) 3 st
  test_in st stands =
      word_in p fits calls Behind one_more (k + 2) (behind tasks k) 2 st (λ x l. has_next (truth (not (int_eq x (pos 0)))) l) here next_gives (omega (arith, low)) (stands.next k low) next_small
      (subst (λ t. In p fits calls Behind (has_next (truth (not t)) here) 2 st) (sym (int_same (behind tasks k) 0)) (by_next (behind tasks k == 0) refl))
    where
      less : last_of tasks < 256
      less = last_small st stands

      next_small : behind tasks k < 256
      next_small = let m = behind_most N tasks k stands.are in omega (arith, m, most)

      next_gives : Gives p fits calls one_more here (k + 2)
      next_gives =
          let same : k + 1 + 1 ≡ k + 2 = omega arith in
          subst (λ i. Gives p fits calls one_more here i) same (one_more_gives p fits calls the_task here (k + 1) small (the_task_gives p fits calls (k + 1) (last_of tasks) small))

      decide : ℤ → Locals → Behaviour
      decide x l =
          (if is_zero x then run K types calls n nothing else run K types calls n (return (Some (byte busy))))
          (λ flow. on flow (run_from K types calls n link_code zero) fin) l

      has_next : ℤ → Locals → Behaviour
      has_next x l = (if is_zero x then tested (value K types calls (is_equal the_other the_task)) else give (pos 1)) decide l

      is_last : ℤ → Locals → Behaviour
      is_last x l = decide (truth (not (is_zero x))) l

      must : (is_listed tasks k ≡ false → ⊥) → is_listed tasks k ≡ true
      must refuted = by_listed (is_listed tasks k) refl
        where
          by_listed : (t : Bool) → is_listed tasks k ≡ t → is_listed tasks k ≡ true
          by_listed true is = is
          by_listed false is = absurd (refuted is)

      must_not : (is_listed tasks k ≡ true → ⊥) → is_listed tasks k ≡ false
      must_not refuted = by_listed (is_listed tasks k) refl
        where
          by_listed : (t : Bool) → is_listed tasks k ≡ t → is_listed tasks k ≡ false
          by_listed false is = is
          by_listed true is = absurd (refuted is)

      by_last : behind tasks k ≡ 0 → (t : Bool) → (last_of tasks == k + 1) ≡ t → In p fits calls Behind (is_last (truth (last_of tasks == k + 1)) here) 2 st
      by_last alone true is =
          subst (λ t. In p fits calls Behind (is_last (truth t) here) 2 st) (sym is)
          (refused st stands (must (λ out. not_last tasks k out (equal (last_of tasks) (k + 1) is))))
      by_last alone false is =
          subst (λ t. In p fits calls Behind (is_last (truth t) here) 2 st) (sym is)
          (link_in st stands (must_not (λ into. unequal (last_of tasks) (k + 1) is (alone_last tasks k into alone))))

      by_next : (t : Bool) → (behind tasks k == 0) ≡ t → In p fits calls Behind (has_next (truth (not (behind tasks k == 0))) here) 2 st
      by_next false is =
          subst (λ t. In p fits calls Behind (has_next (truth (not t)) here) 2 st) (sym is)
          (refused st stands (must (λ out. unequal (behind tasks k) 0 is (absent tasks k out))))
      by_next true is =
          subst (λ t. In p fits calls Behind (has_next (truth (not t)) here) 2 st) (sym is)
          (subst (λ (w : Behaviour). In p fits calls Behind w 2 st)
          (sym (the_other_gives p fits calls (k + 1) (last_of tasks) less (λ x l. value K types calls the_task (λ y l'. is_last (truth (int_eq x y)) l') l)))
          (subst (λ (w : Behaviour). In p fits calls Behind w 2 st)
          (sym (the_task_gives p fits calls (k + 1) (last_of tasks) small (λ y l'. is_last (truth (int_eq (pos (last_of tasks)) y)) l')))
          (subst (λ t. In p fits calls Behind (is_last (truth t) here) 2 st) (sym (int_same (last_of tasks) (k + 1)))
          (by_last (equal (behind tasks k) 0 is) (last_of tasks == k + 1) refl))))

  -- the whole statement, behind its Begin
  pub queue_in : (st : ℕ → ℕ) → StandsIn p st tasks
      → In p fits calls Behind (rest_of_code (more_stmts (put (local 0) (convert U8 one_more)) read_code) (holds k 0)) 4 st
  queue_in st stands =
      first_gets_in p fits calls Behind (convert U8 one_more) k 0 (k + 1) 4 st (λ v l. rest_of_code read_code l) entry_gives small
      (second_reads_in p fits calls Behind (word 1) (k + 1) 0 1 (last_of tasks) 3 st (λ v l. rest_of_code test_code l) (λ _. refl) (omega arith) stands.tail (last_small st stands)
      (test_in st stands))
    where
      place_small : k < 256
      place_small = omega (arith, low, most)

      entry_gives : Gives p fits calls (convert U8 one_more) (holds k 0) (k + 1)
      entry_gives =
          as_byte p fits calls one_more (holds k 0) (k + 1) small (one_more_gives p fits calls the_task (holds k 0) k place_small (the_task_gives p fits calls k 0 place_small))
