-- What the code of a program keeps in reached states, and that without tasks it posts nothing.
use Rattle.std.proofs.Common.{◌≡◌, ℕ, ◌<◌, ◌≤◌, List, [], length, Some, ap, arith}
use Rattle.std.specs.Prelude.{slice_get}
use Rattle.nesc_core.specs.Plain.{Body, Program}
use Rattle.nesc_core.specs.Calls.{HasNoCycle}
use Rattle.nesc_core.specs.Weights.{objects_end}
use Rattle.nesc_core.specs.WellFormed.{IsWellFormed}
use Rattle.mid_code.specs.Reached.{KeepsForm}
use Rattle.lower_stmt.specs.Bodies.{lowered}
use Rattle.lower_keeps.specs.Laws.{AllRulesAreKept, ObjectsAreTouched, PostsNameTasks}
use Rattle.msp_select.specs.Sound.{TouchesObjects}
use Rattle.postless_code.specs.Laws.{PostsNothing}

-- the laws of lowered code
pub record KeptLaws : Type 0 where
  pub rules : AllRulesAreKept
  pub touched : ObjectsAreTouched

pub record IsKept (p : Program) (data_end : ℕ) : Type 0 where
  pub keeps : KeepsForm (lowered p)
  pub objects : (f : ℕ) (b : Body) → slice_get p.bodies f ≡ Some b → b.params ≡ 0 → TouchesObjects (lowered p) f data_end

pub is_kept : KeptLaws → (p : Program) (data_end : ℕ) → IsWellFormed p → HasNoCycle p → objects_end p ≤ data_end → IsKept p data_end
is_kept laws p data_end well ranked end = record {
  keeps = laws.rules p ranked well;
  objects = λ f b is none. laws.touched p ranked well f b is none data_end end;
}

none_below : (tasks : List ℕ) (k : ℕ) → tasks ≡ [] → k < length tasks → ⊥
none_below tasks k none lt = let e : length tasks ≡ 0 = ap length none in omega (arith, e, lt)

pub posts_nothing : PostsNameTasks → (p : Program) → IsWellFormed p → p.tasks ≡ [] → PostsNothing p
posts_nothing posts p well none f at k v is = none_below p.tasks k none (posts p well f at k v is)
