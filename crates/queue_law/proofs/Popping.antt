-- A call of `pop` on bytes that stand for a list.
use Rattle.std.proofs.Common.{◌≡◌, ℕ, ℤ, pos, zero, ◌+◌, ◌<◌, ◌≤◌, Bool, true, false, List, [], ◌∷◌, length, Some, refl, sym, subst, ap, ◌∙◌, arith}
use Rattle.std.specs.Prelude.{◌==◌, if◌then◌else◌, not}
use Rattle.std.specs.Ordering.{int_eq}
use Rattle.nm_base.specs.Behaviour.{Behaviour, Does}
use Rattle.nm_base.specs.declared.action.Action.TheVariants.{End}
use Rattle.nm_base.specs.declared.int_type.IntType.TheVariants.{U8}
use Rattle.nesc_core.specs.Plain.{Expr, Program, Stmts, more_stmts, no_stmts, return, branch, convert, local}
use Rattle.core_meaning.specs.declared.flow.Flow.{Flow}
use Rattle.core_meaning.specs.Flow.{result, on}
use Rattle.core_meaning.specs.Numbers.{truth, is_zero}
use Rattle.core_meaning.specs.Work.{Locals}
use Rattle.core_meaning.specs.Act.{Calls, run, run_from}
use Rattle.run_meaning.specs.State.{stored}
use Rattle.run_meaning.specs.Runs.{rest_of}
use Rattle.task_queue.specs.Kernel.{Fits, kernel_program, unlink, put, head, tail, next, the_task, other, the_other, sum, less, value_at, word, byte, differs, is_equal, nothing}
use Rattle.queue_law.specs.Contract.{first_of}
use Rattle.queue_law.specs.Bytes.{StandsIn, address_in, behind, entry_of, last_of}
use Rattle.queue_law.proofs.Lists.{equal, unequal, is_same, is_other, first_none, first_most, behind_taken}
use Rattle.queue_law.proofs.Stepping.{int_same, wrote, left_alone, as_byte, the_task_gives, other_gives, the_other_gives, one_more_gives, one_less_gives, first_reads_in, second_reads_in, put_in, few, types, holds, Gives, In}

abbrev one_more : Expr
one_more = sum the_task (word 1)

abbrev one_less : Expr
one_less = convert U8 (less the_task (word 1))

module _ (p : Program) (fits : Fits p) (calls : Calls) (n : ℕ) (after : ℤ → Behaviour) (tasks : List ℕ) where
  abbrev N : ℕ
  N = length p.tasks

  abbrev A : ℕ
  A = address_in p

  abbrev b : ℕ
  b = length p.objects

  abbrev K : Program
  K = kernel_program p

  most : N ≤ 254
  most = few p fits calls

  abbrev pub Behind : (ℕ → ℕ) → Behaviour → Type 0
  Behind st rest = StandsIn p st (rest_of tasks) × (rest ≡ after (pos (first_of tasks)))

  abbrev Here : Behaviour → ℕ → (ℕ → ℕ) → Type 0
  Here x left st = In p fits calls Behind x left st

  abbrev fin : Flow → Locals → Behaviour
  fin flow locals = Does End (after (result flow))

  abbrev rest_of_code : Stmts → Locals → Behaviour
  rest_of_code ss locals = run_from K types calls n ss zero fin locals

  abbrev last_code : Stmts
  last_code = more_stmts (return (Some one_less)) no_stmts

  abbrev take_code : Stmts
  take_code = more_stmts (branch (differs the_task (word 0)) (unlink b) nothing) last_code

  -- return task - 1
  gives_in : (k j left : ℕ) (st : ℕ → ℕ) → Gives p fits calls one_less (holds k j) (first_of tasks) → StandsIn p st (rest_of tasks) → Here (rest_of_code last_code (holds k j)) left st
  gives_in k j left st gives stands = subst (λ (w : Behaviour). Here w left st) (sym (gives (λ v l. Does End (after v)))) (stands, refl)

  -- if (task != 0) unlink
  abbrev chosen : ℤ → Locals → Behaviour
  chosen x l =
      (if is_zero x then run K types calls n nothing else run K types calls n (unlink b))
      (λ flow. on flow (run_from K types calls n last_code zero) fin) l

  test_in : (k : ℕ) (st : ℕ → ℕ) → k < 256 → Here (chosen (truth (not (k == 0))) (holds k 0)) 4 st → Here (rest_of_code take_code (holds k 0)) 4 st
  test_in k st small h =
      subst (λ (w : Behaviour). Here w 4 st) (sym (the_task_gives p fits calls k 0 small (λ x l. chosen (truth (not (int_eq x (pos 0)))) l)))
      (subst (λ t. Here (chosen (truth (not t)) (holds k 0)) 4 st) (sym (int_same k 0)) h)

  -- the first local gets the head
  head_in : (k : ℕ) (st : ℕ → ℕ) → k < 256 → st (A + 0) ≡ k → Here (rest_of_code take_code (holds k 0)) 4 st
      → Here (rest_of_code (more_stmts (put (local 0) (value_at (head b))) take_code) (holds 0 0)) 5 st
  head_in k st small is h =
      first_reads_in p fits calls Behind (word 0) 0 0 0 k 4 st (λ v l. rest_of_code take_code l) (λ _. refl) (omega arith) is small h

-- ---- a list with a first task

module _ (p : Program) (fits : Fits p) (calls : Calls) (n : ℕ) (after : ℤ → Behaviour) (j : ℕ) (rest : List ℕ) (st : ℕ → ℕ) (stands : StandsIn p st (j ∷ rest)) where
  abbrev cell : ℕ
  cell = address_in p + (j + 2)

  few_tasks : length p.tasks ≤ 254
  few_tasks = most p fits calls n after (j ∷ rest)

  first : j < length p.tasks
  first = stands.are.0

  place_small : j < 256
  place_small = omega (arith, first, few_tasks)

  small : j + 1 < 256
  small = omega (arith, first, few_tasks)

  abbrev m : ℕ
  m = entry_of rest

  m_small : m < 256
  m_small = let h = first_most (length p.tasks) rest stands.are.2 in omega (arith, h, few_tasks)

  behind_first : st cell ≡ m
  behind_first = stands.next j first ∙ ap (λ t. if t then entry_of rest else behind rest j) (is_same j)

  -- behind head = after; next[task] = 0;
  abbrev moved : ℕ → ℕ
  moved = stored st (address_in p + 0) false m

  abbrev cut : ℕ → ℕ
  cut = stored moved cell false 0

  cut_head : cut (address_in p) ≡ m
  cut_head = left_alone moved cell 0 (address_in p) (λ e. omega (arith, e)) ∙ wrote st (address_in p + 0) m (address_in p) (omega arith) m_small

  cut_tail : cut (address_in p + 1) ≡ last_of (j ∷ rest)
  cut_tail = left_alone moved cell 0 (address_in p + 1) (λ e. omega (arith, e)) ∙ left_alone st (address_in p + 0) m (address_in p + 1) (λ e. omega (arith, e)) ∙ stands.tail

  cut_next : (i : ℕ) → i < length p.tasks → cut (address_in p + (i + 2)) ≡ behind rest i
  cut_next i lt = by_test (j == i) refl ∙ sym (behind_taken (length p.tasks) j rest i stands.are)
    where
      by_test : (t : Bool) → (j == i) ≡ t → cut (address_in p + (i + 2)) ≡ (if j == i then 0 else behind (j ∷ rest) i)
      by_test true is =
          let same = equal j i is in
          wrote moved cell 0 (address_in p + (i + 2)) (omega (arith, same)) (omega arith) ∙ sym (ap (λ t. if t then 0 else behind (j ∷ rest) i) is)
      by_test false is =
          let apart = unequal j i is in
          left_alone moved cell 0 (address_in p + (i + 2)) (λ e. apart (omega (arith, e)))
          ∙ left_alone st (address_in p + 0) m (address_in p + (i + 2)) (λ e. omega (arith, e)) ∙ stands.next i lt
          ∙ sym (ap (λ t. if t then 0 else behind (j ∷ rest) i) is)

  -- nothing is left: the tail is cleared
  none_stand : rest ≡ [] → StandsIn p (stored cut (address_in p + 1) false 0) rest
  none_stand none_left = record {
    head = left_alone cut (address_in p + 1) 0 (address_in p) (λ e. omega (arith, e)) ∙ cut_head;
    tail = wrote cut (address_in p + 1) 0 (address_in p + 1) refl (omega arith) ∙ sym (ap last_of none_left);
    next = λ i lt. left_alone cut (address_in p + 1) 0 (address_in p + (i + 2)) (λ e. omega (arith, e)) ∙ cut_next i lt;
    are = stands.are.2;
  }

  some_stand : (m == 0) ≡ false → StandsIn p cut rest
  some_stand some = record {
    head = cut_head;
    tail = cut_tail ∙ by_list rest refl;
    next = cut_next;
    are = stands.are.2;
  }
    where
      by_list : (ts : List ℕ) → rest ≡ ts → last_of (j ∷ rest) ≡ last_of rest
      by_list [] is = absurd (unequal m 0 some (ap entry_of is))
      by_list (i ∷ ts) is = ap (λ xs. last_of (j ∷ xs)) is ∙ sym (ap last_of is)

  abbrev Behind' : (ℕ → ℕ) → Behaviour → Type 0
  Behind' = Behind p fits calls n after (j ∷ rest)

  abbrev Here' : Behaviour → ℕ → (ℕ → ℕ) → Type 0
  Here' x left s = Here p fits calls n after (j ∷ rest) x left s

  -- the task and the one behind it, as bytes have them
  abbrev both : Locals
  both = holds (j + 1) m

  abbrev behind' : Flow → Locals → Behaviour
  behind' flow = on flow (run_from (kernel_program p) types calls n (last_code p fits calls n after (j ∷ rest)) zero) (fin p fits calls n after (j ∷ rest))

  abbrev last' : Locals → Behaviour
  last' l = rest_of_code p fits calls n after (j ∷ rest) (last_code p fits calls n after (j ∷ rest)) l

  abbrev clears : ℤ → Locals → Behaviour
  clears x l =
      (if is_zero x then run (kernel_program p) types calls n nothing else run (kernel_program p) types calls n (put (tail (length p.objects)) (byte 0)))
      (λ flow. on flow (run_from (kernel_program p) types calls n no_stmts zero) behind') l

  place_gives : Gives p fits calls one_less both j
  place_gives = as_byte p fits calls (less the_task (word 1)) both j place_small (one_less_gives p fits calls the_task both j place_small (the_task_gives p fits calls (j + 1) m small))

  clears_in : Here' (clears (truth (int_eq (pos m) (pos 0))) both) 1 cut
  clears_in = subst (λ t. Here' (clears (truth t) both) 1 cut) (sym (int_same m 0)) (by_test (m == 0) refl)
    where
      by_test : (t : Bool) → (m == 0) ≡ t → Here' (clears (truth (m == 0)) both) 1 cut
      by_test true is =
          subst (λ t. Here' (clears (truth t) both) 1 cut) (sym is)
          (put_in p fits calls Behind' (word 1) (byte 0) 1 0 0 cut (λ v l. last' l) both (λ _. refl) (omega arith) (λ _. refl) (omega arith)
          (gives_in p fits calls n after (j ∷ rest) (j + 1) m 0 (stored cut (address_in p + 1) false 0) place_gives (none_stand (first_none rest (equal m 0 is)))))
      by_test false is =
          subst (λ t. Here' (clears (truth t) both) 1 cut) (sym is)
          (gives_in p fits calls n after (j ∷ rest) (j + 1) m 1 cut place_gives (some_stand is))

  -- the place of the task's own byte
  own_gives : (i : ℕ) → Gives p fits calls one_more (holds (j + 1) i) (j + 2)
  own_gives i =
      let same : j + 1 + 1 ≡ j + 2 = omega arith in
      subst (λ x. Gives p fits calls one_more (holds (j + 1) i) x) same (one_more_gives p fits calls the_task (holds (j + 1) i) (j + 1) small (the_task_gives p fits calls (j + 1) i small))

  inside : j + 2 < length p.tasks + 2
  inside = omega (arith, first)

  abbrev clear_stmts : Stmts
  clear_stmts = more_stmts (branch (is_equal the_other (word 0)) (put (tail (length p.objects)) (byte 0)) nothing) no_stmts

  abbrev cut_stmts : Stmts
  cut_stmts = more_stmts (put (next (length p.objects) the_task) (byte 0)) clear_stmts

  abbrev move_stmts : Stmts
  move_stmts = more_stmts (put (head (length p.objects)) other) cut_stmts

  abbrev unlinking : Stmts → Locals → Behaviour
  unlinking ss l = run_from (kernel_program p) types calls n ss zero behind' l

  unlinks_in : Here' (chosen p fits calls n after (j ∷ rest) (pos 1) (holds (j + 1) 0)) 4 st
  unlinks_in =
      second_reads_in p fits calls Behind' one_more (j + 1) 0 (j + 2) m 3 st (λ v l. unlinking move_stmts l) (own_gives 0) inside behind_first m_small
      (put_in p fits calls Behind' (word 0) other 0 m 2 st (λ v l. unlinking cut_stmts l) both (λ _. refl) (omega arith) (other_gives p fits calls (j + 1) m m_small) m_small
      (put_in p fits calls Behind' one_more (byte 0) (j + 2) 0 1 moved (λ v l. unlinking clear_stmts l) both (own_gives m) inside (λ _. refl) (omega arith)
      (subst (λ (w : Behaviour). Here' w 1 cut) (sym (the_other_gives p fits calls (j + 1) m m_small (λ x l. clears (truth (int_eq x (pos 0))) l))) clears_in)))

  takes_first : Here' (rest_of_code p fits calls n after (j ∷ rest) (more_stmts (put (local 0) (value_at (head (length p.objects)))) (take_code p fits calls n after (j ∷ rest))) (holds 0 0)) 5 st
  takes_first =
      head_in p fits calls n after (j ∷ rest) (j + 1) st small (ap st (zero_more (address_in p)) ∙ stands.head)
      (test_in p fits calls n after (j ∷ rest) (j + 1) st small
      (subst (λ t. Here' (chosen p fits calls n after (j ∷ rest) (truth (not t)) (holds (j + 1) 0)) 4 st) (sym (is_other (j + 1) 0 (λ e. omega (arith, e)))) unlinks_in))
    where
      zero_more : (a : ℕ) → a + 0 ≡ a
      zero_more a = omega arith

-- ---- any list

pub pop_in : (p : Program) (fits : Fits p) (calls : Calls) (n : ℕ) (after : ℤ → Behaviour) (tasks : List ℕ) (st : ℕ → ℕ) → StandsIn p st tasks
    → Here p fits calls n after tasks (rest_of_code p fits calls n after tasks (more_stmts (put (local 0) (value_at (head (length p.objects)))) (take_code p fits calls n after tasks)) (holds 0 0)) 5 st
pop_in p fits calls n after [] st stands =
    head_in p fits calls n after [] 0 st (omega arith) (ap st (zero_more (address_in p)) ∙ stands.head)
    (test_in p fits calls n after [] 0 st (omega arith) (gives_in p fits calls n after [] 0 0 4 st (λ _. refl) stands))
  where
    zero_more : (a : ℕ) → a + 0 ≡ a
    zero_more a = omega arith
pop_in p fits calls n after (j ∷ rest) st stands = takes_first p fits calls n after j rest st stands
