-- Tasks that have bodies of their own are no more than bodies.
use Rattle.std.proofs.Common.{◌≡◌, ℕ, ◌<◌, ◌≤◌, true, List, length, Option, Some, None, refl, subst, arith, eqb-true}
use Rattle.std.proofs.Math.Dec.{eqb}
use Rattle.std.specs.Prelude.{◌≢◌, slice_get}
use Rattle.std.specs.List.{AllPairs, list_any}
use Rattle.std.proofs.lemmas.Bool.Decides.{Decides-eqb}
use Rattle.std.proofs.lemmas.List.Folds.{Any-from_list_any}
use Rattle.std.proofs.lemmas.Map.Made.{IsDistinct-from_AllPairs}
use Rattle.std.proofs.lemmas.Map.Steps.{length-le_from_distinct_below}
use Rattle.std.proofs.lemmas.Option.{slice_get_within}
use Rattle.nesc_core.specs.Plain.{Body, Program}
use Rattle.nesc_core.specs.WellFormed.{IsRoot, IsWellFormed}

root_there : (bodies : List Body) (f : ℕ) → IsRoot (slice_get bodies f) → f < length bodies
root_there bodies f root = by_body (slice_get bodies f) refl root
  where
    by_body : (o : Option Body) → slice_get bodies f ≡ o → IsRoot o → f < length bodies
    by_body None is h = absurd h
    by_body (Some b) is h = slice_get_within bodies f b is

task_there : (p : Program) → IsWellFormed p → (f : ℕ) → list_any (eqb f) p.tasks ≡ true → f < length p.bodies
task_there p formed f is =
    let found = Any-from_list_any (eqb f) p.tasks is in
    let root = formed.tasks found.0 found.1 found.2 in
    let same = eqb-true f found.1 found.4 in
    let below = root_there p.bodies found.1 (subst (λ (g : ℕ). IsRoot (slice_get p.bodies g)) found.3 root) in
    omega (arith, same, below)

pub tasks_few : (p : Program) → IsWellFormed p → AllPairs (λ f g. f ≢ g) p.tasks → length p.tasks ≤ length p.bodies
tasks_few p formed apart =
    length-le_from_distinct_below p.tasks (length p.bodies) (IsDistinct-from_AllPairs {eq = eqb} Decides-eqb p.tasks apart) (task_there p formed)
