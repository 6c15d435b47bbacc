-- The bytes of the kernel's two functions.
use Rattle.std.proofs.Common.{◌≡◌, ℕ, ◌+◌, ◌<◌, ◌≤◌, false, List, [], ◌∷◌, ◌++◌, length, Some, refl, arith}
use Rattle.std.specs.Prelude.{◌==◌, min, slice_get}
use Rattle.std.proofs.lemmas.Bool.Decides.{nat_tests}
use Rattle.nesc_core.specs.Plain.{Ty, Program}
use Rattle.nesc_core.specs.Weights.{even, objects_end}
use Rattle.task_queue.specs.Kernel.{bytes_object, kernel_program, pop_body, queue_body}
use Rattle.open_law.specs.Homes.{is_made}
use Rattle.lower_stmt.specs.Bodies.{body_code}
use Rattle.body_bytes.proofs.Costs.{costs, set_most}

last_is : {X : Type 0} (xs : List X) (x : X) → slice_get (xs ++ x ∷ []) (length xs) ≡ Some x
last_is [] x = refl
last_is (y ∷ xs) x = last_is xs x

differ : (a b : ℕ) → a < b → (a == b) ≡ false
differ a b lt = grind (arith, nat_tests)

module _ (p : Program) (few : length p.tasks ≤ 254) (checks : List Ty) where
  object_is : slice_get (kernel_program p).objects (length p.objects) ≡ Some (bytes_object p)
  object_is = last_is p.objects (bytes_object p)

  -- an index has a bound
  bound_is : (min (length p.tasks + 2) 65536 == 65536) ≡ false
  bound_is = differ (min (length p.tasks + 2) 65536) 65536 (omega (arith, few))

  pub queue_costs : costs (body_code (kernel_program p) checks (queue_body (length p.objects))) ≤ 606
  queue_costs =
      let a = set_most (is_made (even (objects_end p))) in
      let b = set_most (is_made (min (length p.tasks + 2) 65536)) in
      rw (object_is, bound_is) (omega (arith, a, b))

  pub pop_costs : costs (body_code (kernel_program p) checks (pop_body (length p.objects))) ≤ 514
  pop_costs =
      let a = set_most (is_made (even (objects_end p))) in
      let b = set_most (is_made (min (length p.tasks + 2) 65536)) in
      rw (object_is, bound_is) (omega (arith, a, b))
