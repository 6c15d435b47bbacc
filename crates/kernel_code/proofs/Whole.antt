-- The kernel's program, from its bodies and objects.
use Rattle.std.proofs.Common.{◌≡◌, ℕ, ◌+◌, false, List, [], ◌∷◌, ◌++◌, codes, length, map, ap, ◌∙◌}
use Rattle.nm_base.specs.declared.int_type.IntType.TheVariants.{U8}
use Rattle.nesc_core.specs.declared.tree.Body as tree_body
use Rattle.nesc_core.specs.declared.tree.Object as tree_object
use Rattle.nesc_core.specs.declared.tree.Program as tree
use Rattle.nesc_core.specs.Plain.{array, int, Body, Object, Program}
use Rattle.nesc_core.specs.View.{body_of, object_of, program_of}
use Rattle.nesc_core.specs.Weights.{even, objects_end}
use Rattle.task_queue.specs.Kernel.{kernel, kernel_program, pop_body, posting_body, queue_body}

abbrev pub bytes_at : (count addr : ℕ) → Object
bytes_at count addr = record { name = codes "queue"; ty = array (int U8) count; addr = addr; norace = false; taken = false }

module _ (p : Program) where
  abbrev pub with_own : (queue bytes count addr : ℕ) → Program
  with_own queue bytes count addr = record p {
    objects = p.objects ++ bytes_at count addr ∷ [];
    bodies = map (posting_body queue) p.bodies ++ queue_body bytes ∷ pop_body bytes ∷ [];
  }

  own_is : (queue bytes count addr : ℕ) → queue ≡ length p.bodies → bytes ≡ length p.objects → count ≡ length p.tasks + 2 → addr ≡ even (objects_end p)
      → with_own queue bytes count addr ≡ kernel_program p
  own_is queue bytes count addr bodies objects tasks at =
      ap (λ n. with_own n bytes count addr) bodies
      ∙ ap (λ n. with_own (length p.bodies) n count addr) objects
      ∙ ap (λ n. with_own (length p.bodies) (length p.objects) n addr) tasks
      ∙ ap (with_own (length p.bodies) (length p.objects) (length p.tasks + 2)) at

  -- with the numbers of its two new bodies
  pub numbered : (made : Program) (queue : ℕ) → made ≡ kernel_program p → queue ≡ length p.bodies
      → record (kernel p) { program = made; queue = queue; pop = queue + 1 } ≡ kernel p
  numbered made queue is at =
      ap (λ (x : Program). record (kernel p) { program = x; queue = queue; pop = queue + 1 }) is
      ∙ ap (λ n. record (kernel p) { queue = n; pop = n + 1 }) at

pub kernel_is : (p : tree.Program) (queue bytes count addr : ℕ) (objects : List tree_object.Object) (bodies : List tree_body.Body)
    → queue ≡ length (program_of p).bodies → bytes ≡ length (program_of p).objects → count ≡ length (program_of p).tasks + 2 → addr ≡ even (objects_end (program_of p))
    → map object_of objects ≡ map object_of p.objects ++ bytes_at count addr ∷ []
    → map body_of bodies ≡ map (posting_body queue) (map body_of p.bodies) ++ queue_body bytes ∷ pop_body bytes ∷ []
    → program_of (record p { objects = objects; bodies = bodies }) ≡ kernel_program (program_of p)
kernel_is p queue bytes count addr objects bodies queue_is bytes_is count_is at objects_are bodies_are =
    ap (λ (xs : List Object). record (program_of p) { objects = xs; bodies = map body_of bodies }) objects_are
    ∙ ap (λ (xs : List Body). record (program_of p) { objects = map object_of p.objects ++ bytes_at count addr ∷ []; bodies = xs }) bodies_are
    ∙ own_is (program_of p) queue bytes count addr queue_is bytes_is count_is at
