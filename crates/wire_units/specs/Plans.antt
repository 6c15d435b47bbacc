-- What creation sees of the files of an application, and its instances.
use Rattle.std.specs.Prelude.{ℕ, List, [], length, map, Option, Some, None, Result}
use Rattle.nm_base.specs.declared.pos.Pos.{Pos}
use Rattle.nesc_tree.specs.declared.components.Head.{Head}
use Rattle.nesc_tree.specs.declared.components.GenericParam.{GenericParam}
use Rattle.nesc_tree.specs.declared.components.ConfLine.{ConfLine}
use Rattle.wire_instances.specs.declared.plan.Plan.{Plan}
use Rattle.wire_instances.specs.declared.plan.Made.{Made}
use Rattle.wire_instances.specs.declared.naming.Stop.{Stop}
use Rattle.wire_instances.specs.Instances.{instances_of}
use Rattle.wire_units.specs.declared.loaded.Loaded.{Loaded}
use Rattle.wire_units.specs.Units.{head_of, lines_in}
use Rattle.wire_units.specs.Scope.{fault_of}
use Rattle.wire_units.specs.Heads.{judged_head}
use Rattle.wire_units.specs.Lines.{lines_of}

abbrev pub count_of : Option (List GenericParam) → Option ℕ
count_of None = None
count_of (Some params) = Some (length params)

abbrev pub head_plan : List Loaded → Pos → List ConfLine → Head → Plan
head_plan units at lines h = record { generic = count_of h.generic; refused = fault_of (judged_head units at h); lines = lines_of units lines }

-- a file that holds no component asks for nothing, and no component's name stands for it
abbrev pub nothing_asked : Plan
nothing_asked = record { generic = None; refused = None; lines = [] }

abbrev pub plan_by : List Loaded → Pos → List ConfLine → Option Head → Plan
plan_by units at lines None = nothing_asked
plan_by units at lines (Some h) = head_plan units at lines h

abbrev pub plan_of : List Loaded → Loaded → Plan
plan_of units u = plan_by units u.at (lines_in u.unit.part) (head_of u.unit.part)

abbrev pub plans_of : List Loaded → List Plan
plans_of units = map (plan_of units) units

-- the instances of the application, the component of file `app`; the component of file `main` is created last where none names it
abbrev pub created_of : List Loaded → (app : ℕ) → (at : Pos) → (main : ℕ) → Result (List Made) Stop
created_of units app at main = instances_of (plans_of units) app at main
