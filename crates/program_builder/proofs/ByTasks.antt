-- What is so of the code of programs with tasks, and of those without, is so of the code of each program.
use Rattle.std.proofs.Common.{◌≡◌, ℕ, List, [], ◌∷◌, refl}
use Rattle.nesc_core.specs.Plain.{Program}
use Rattle.task_queue.specs.Kernel.{kernel}
use Rattle.mid_code.specs.declared.code.MidCode.{MidCode}
use Rattle.lower_stmt.specs.Bodies.{lowered}
use Rattle.lean_pace.specs.Lean.{IsLean}
use Rattle.msp_isa.specs.declared.code.CodeFn.{CodeFn}
use Rattle.program_image.specs.Order as plain_order
use Rattle.image_code.specs.Code as plain
use Rattle.image_code.specs.Laws as plain_laws
use Rattle.task_image.specs.Order as task_order
use Rattle.task_code.specs.Code as task
use Rattle.task_code.specs.Laws as task_laws
use Rattle.program_builder.specs.Built.{IsCompilable, IsCompilableWith, by_tasks, code_of, data_bytes, lines_of, middle_of, reset_place}

module _ (p : Program) where
  module _ (X : List CodeFn → List ℕ → ℕ → ℕ → Type 0) where
    abbrev Of : List ℕ → Type 0
    Of ts = X (by_tasks ts (plain.code_of p) (task.code_of p)) (by_tasks ts (plain_order.lines_of p) (task_order.lines_of p)) (by_tasks ts (plain_order.reset_place p) (task_order.loop_place p)) (by_tasks ts (plain.data_bytes p) (task.data_bytes p))

    with_tasks : (ts : List ℕ) → (ts ≡ [] → ⊥) → X (task.code_of p) (task_order.lines_of p) (task_order.loop_place p) (task.data_bytes p) → Of ts
    with_tasks [] some x = absurd (some refl)
    with_tasks (f ∷ fs) some x = x

    without : (ts : List ℕ) → ts ≡ [] → X (plain.code_of p) (plain_order.lines_of p) (plain_order.reset_place p) (plain.data_bytes p) → Of ts
    without [] none x = x
    without (f ∷ fs) none x = absurd (cc)

    pub of_tasks : (p.tasks ≡ [] → ⊥) → X (task.code_of p) (task_order.lines_of p) (task_order.loop_place p) (task.data_bytes p) → X (code_of p) (lines_of p) (reset_place p) (data_bytes p)
    of_tasks some x = with_tasks p.tasks some x

    pub of_none : p.tasks ≡ [] → X (plain.code_of p) (plain_order.lines_of p) (plain_order.reset_place p) (plain.data_bytes p) → X (code_of p) (lines_of p) (reset_place p) (data_bytes p)
    of_none none x = without p.tasks none x

  module _ (X : MidCode → Type 0) where
    middle_with : (ts : List ℕ) → (ts ≡ [] → ⊥) → X (lowered (kernel p).program) → X (lowered (by_tasks ts p (kernel p).program))
    middle_with [] some x = absurd (some refl)
    middle_with (f ∷ fs) some x = x

    middle_without : (ts : List ℕ) → ts ≡ [] → X (lowered p) → X (lowered (by_tasks ts p (kernel p).program))
    middle_without [] none x = x
    middle_without (f ∷ fs) none x = absurd (cc)

    pub middle_of_tasks : (p.tasks ≡ [] → ⊥) → X (lowered (kernel p).program) → X (middle_of p)
    middle_of_tasks some x = middle_with p.tasks some x

    pub middle_of_none : p.tasks ≡ [] → X (lowered p) → X (middle_of p)
    middle_of_none none x = middle_without p.tasks none x

  compilable_with : (ts : List ℕ) → (ts ≡ [] → ⊥) → task_laws.IsCompilable p → IsCompilableWith ts p
  compilable_with [] some h = absurd (some refl)
  compilable_with (f ∷ fs) some h = h

  compilable_without : (ts : List ℕ) → ts ≡ [] → plain_laws.IsCompilable p → IsLean p → IsCompilableWith ts p
  compilable_without [] none h lean = (h, lean)
  compilable_without (f ∷ fs) none h lean = absurd (cc)

  pub tasks_compilable : (p.tasks ≡ [] → ⊥) → task_laws.IsCompilable p → IsCompilable p
  tasks_compilable some h = compilable_with p.tasks some h

  pub none_compilable : p.tasks ≡ [] → plain_laws.IsCompilable p → IsLean p → IsCompilable p
  none_compilable none h lean = compilable_without p.tasks none h lean
