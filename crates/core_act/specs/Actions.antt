-- The list of actions of a body, and that it only grows.
use Rattle.std.specs.Prelude.{ℕ, ◌≤◌, List, ◌++◌}
use Rattle.nm_base.specs.declared.action.Action.{Action}
use Rattle.nm_base.specs.Behaviour.{performed}
use Rattle.nm_base.specs.Lists.{IsPrefixOf}
use Rattle.nesc_core.specs.Plain.{Program}
use Rattle.core_meaning.specs.Act.{root}

-- what a body does when its Loads, Ins and Posts are answered by the list and each loop makes at most n turns
abbrev pub actions_of : Program → (body : ℕ) → List ℕ → (n : ℕ) → List Action
actions_of p body answers n = (performed (root p body n) answers).actions

-- more answers or more turns only extend the list
abbrev pub ActionsGrow : Type 0
ActionsGrow = (p : Program) (body : ℕ) (answers more : List ℕ) (m n : ℕ) → m ≤ n
    → IsPrefixOf (actions_of p body answers m) (actions_of p body (answers ++ more) n)
