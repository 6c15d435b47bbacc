-- The contract can be met.
use Rattle.std.proofs.Common.{◌≡◌, ℕ, ◌+◌, ◌<◌, ◌==◌, Bool, true, false, cond, List, [], ◌∷◌, Option, Some, None, refl, sym, ap, subst, arith, append-nil}
use Rattle.std.proofs.lemmas.Bool.{eqb-true, and_parts, false≢true}
use Rattle.nm_base.specs.Behaviour.{Behaviour, Returns, Does}
use Rattle.nm_base.specs.declared.action.Action.TheVariants.{End}
use Rattle.run_meaning.specs.Runs.{rest_of}
use Rattle.queue_law.specs.Contract.{first_of, posted, Inside}
use Rattle.source_laws.specs.Orderly.{IsOrderly}
use Rattle.loop_runs.specs.Kernel.{Queue, Stands, Ticks, Expands, Gives}
use Rattle.loop_runs.specs.Example.{the_byte, one_task, posting, queued, taken, kernel_body, stands_in_byte, one_queue, OneKernel}

abbrev Q : Queue
Q = one_queue

none_some : {x : ℕ} → None ≡ Some x → ⊥
none_some h = cc

by_case : (C : Behaviour → Type 0) (t : Bool) (a b : Behaviour) → C a → C b → C (cond t a b)
by_case C true a b x y = x
by_case C false a b x y = y

-- ---- orderly

posting_orderly : (body : ℕ) → IsOrderly (posting body) 0
posting_orderly body = by_case (λ t. IsOrderly t 0) (body == 0) _ _ (tt, λ x. refl) refl

queued_orderly : (x : ℕ) → IsOrderly (queued x) 2
queued_orderly x = by_case (λ t. IsOrderly t 2) (x == 0) _ _ refl refl

taken_orderly : (x : ℕ) → IsOrderly (taken x) 1
taken_orderly x = by_case (λ t. IsOrderly t 1) (x == 0) _ _ refl refl

kernel_orderly : (body : ℕ) → IsOrderly (kernel_body body) 0
kernel_orderly body = by_case (λ t. IsOrderly t 0) (body == 0) _ _ (tt, queued_orderly) (by_case (λ t. IsOrderly t 0) (body == 2) _ _ (tt, taken_orderly) refl)

-- ---- the byte

no_wide : false ≡ true → (the_byte + 1 == the_byte) ≡ true
no_wide e = absurd (false≢true e)

abbrev Posted : List ℕ → (ℕ → ℕ) → Behaviour → Type 0
Posted tasks st rest = Stands Q st (posted Q.insert tasks 0) × Ticks Q (λ t. Expands Q t (Does End (Returns 0))) rest

inserted : (st : ℕ → ℕ) (tasks : List ℕ) → Stands Q st tasks → Inside Q.is_byte (queued (st the_byte)) 1 st (Posted tasks)
inserted st [] h = subst (λ y. Inside Q.is_byte (queued y) 1 st (Posted [])) (sym (eqb-true (st the_byte) 0 h)) ((refl, no_wide), (refl, (refl, tt, refl)))
inserted st (k ∷ []) h =
    let both = and_parts (st the_byte == 1) (k == 0) h in
    let first : k ≡ 0 = eqb-true k 0 both.1 in
    let full : st the_byte ≡ 1 = eqb-true (st the_byte) 1 both.0 in
    subst (λ y. Inside Q.is_byte (queued y) 1 st (Posted (k ∷ []))) (sym full)
    (subst (λ j. Inside Q.is_byte (queued 1) 1 st (Posted (j ∷ []))) (sym first) (ap (λ y. stands_in_byte y (0 ∷ [])) full, (refl, tt, refl)))
inserted st (k ∷ j ∷ tasks) h = absurd (false≢true h)

abbrev Taken : List ℕ → (ℕ → ℕ) → Behaviour → Type 0
Taken tasks st rest = Stands Q st (rest_of tasks) × Gives Q (first_of tasks) rest

popped : (st : ℕ → ℕ) (tasks : List ℕ) → Stands Q st tasks → Inside Q.is_byte (taken (st the_byte)) 1 st (Taken tasks)
popped st [] h =
    let empty : st the_byte ≡ 0 = eqb-true (st the_byte) 0 h in
    subst (λ y. Inside Q.is_byte (taken y) 1 st (Taken [])) (sym empty) (ap (λ y. stands_in_byte y []) empty, refl)
popped st (k ∷ []) h =
    let both = and_parts (st the_byte == 1) (k == 0) h in
    let first : k ≡ 0 = eqb-true k 0 both.1 in
    subst (λ y. Inside Q.is_byte (taken y) 1 st (Taken (k ∷ []))) (sym (eqb-true (st the_byte) 1 both.0)) ((refl, no_wide), (refl, sym first))
popped st (k ∷ j ∷ tasks) h = absurd (false≢true h)

-- ---- tasks and places

-- task 0 has body 1
task_body : (t : Bool) (body : ℕ) → cond t (Some 1) None ≡ Some body → 1 ≡ body
task_body true body e = ap or_zero e
  where
    or_zero : Option ℕ → ℕ
    or_zero None = 0
    or_zero (Some k) = k
task_body false body e = absurd (none_some e)

here : (st st' : ℕ → ℕ) (tasks : List ℕ) → ((a : ℕ) → (a == the_byte) ≡ true → st a ≡ st' a) → Stands Q st tasks → Stands Q st' tasks
here st st' tasks same h = subst (λ y. stands_in_byte y tasks ≡ true) (same the_byte refl) h

places : (st : ℕ → ℕ) (k : ℕ) (tasks : List ℕ) → Stands Q st (k ∷ tasks) → k < 255
places st k [] h = let e : k ≡ 0 = eqb-true k 0 (and_parts (st the_byte == 1) (k == 0) h).1 in omega (arith, e)
places st k (j ∷ tasks) h = absurd (false≢true h)

listed : (st : ℕ → ℕ) (k : ℕ) (tasks : List ℕ) → Stands Q st (k ∷ tasks) → (body : ℕ) × (one_task k ≡ Some body)
listed st k [] h = (1, ap one_task (eqb-true k 0 (and_parts (st the_byte == 1) (k == 0) h).1))
listed st k (j ∷ tasks) h = absurd (false≢true h)

differ : (j k : ℕ) → j < k → j ≡ k → ⊥
differ j k lt e = omega (arith, lt, e)

pub one_kernel_is : OneKernel
one_kernel_is = record {
  queue = record { here = here; empty = refl; places = places };
  insert = refl;
  boot = refl;
  task = refl;
  handler = refl;
  boots = λ n. (refl, tt, (refl, tt, λ st tasks h. ((refl, no_wide), inserted st tasks h)));
  tasks = λ k body n e. subst (λ x. Expands Q (kernel_body x) (posting x)) (task_body (k == 0) body e) refl;
  handlers = λ line body n e. absurd (none_some e);
  pops = λ n st tasks h. ((refl, no_wide), popped st tasks h);
  bodies = listed;
  not_boot = differ 0 2 (omega arith);
  not_task = λ k e. differ 1 2 (omega arith) (task_body (k == 0) 2 e);
  orderly = λ body n. posting_orderly body;
  kernel_orderly = λ body n. kernel_orderly body;
  grows = λ body m n answers le. ([], append-nil _);
}
