-- The wired program of an application (the nesC 1.3 Reference): headers in reading order, then modules by instance, each by its text; then
-- the dispatch functions in the order of their first calls; and the limits of the whole.
use Rattle.std.specs.Prelude.{ℕ, zero, suc, ◌+◌, nat_eq, nat_le, if◌then◌else◌, List, [], ◌∷◌, ◌++◌, length, map, Option, Some, None, slice_get, Ok, Err}
use Rattle.std.specs.List.{list_any}
use Rattle.nm_base.specs.declared.fault.Fault.TheVariants.{Limit}
use Rattle.nm_base.specs.declared.limit.Which.{Which}
use Rattle.nm_base.specs.declared.limit.Which.TheVariants as which
use Rattle.nm_base.specs.declared.limit.TheConstants.{MAX_NODES, MAX_TASKS, MAX_OBJECTS}
use Rattle.nesc_core.specs.Plain as core
use Rattle.nesc_core.specs.Plain.{Body, Object, Program, Stmts, Ty}
use Rattle.nesc_core.specs.Nodes.{nodes_of}
use Rattle.nesc_core.specs.Size.{layout_of}
use Rattle.nesc_core.specs.Weights.{objects_start}
use Rattle.nesc_types.specs.Addresses.{addresses, taken}
use Rattle.nesc_types.specs.Rule.{Rule, ◌>>=◌}
use Rattle.program_meaning.specs.Parts.{Application}
use Rattle.program_meaning.specs.Making.{Whole, Boot, Variable}
use Rattle.program_meaning.specs.Walk.{fields_of, weighed}
use Rattle.program_meaning.specs.Numbers.{tasks_of}
use Rattle.program_meaning.specs.Modules.{all_declared, nothing}

-- ---- the boot function: initial values come first in its atomic statement

abbrev pub before : List core.Stmt → Stmts → Stmts
before [] xs = xs
before (y ∷ ys) xs = core.more_stmts y (before ys xs)

abbrev pub in_atomic : List core.Stmt → core.Stmt → core.Stmt
in_atomic initial (core.atomic (core.block xs)) = core.atomic (core.block (before initial xs))
in_atomic initial x = x

abbrev pub with_initial : List core.Stmt → core.Stmt → core.Stmt
with_initial initial (core.block (core.more_stmts x xs)) = core.block (core.more_stmts (in_atomic initial x) xs)
with_initial initial x = x

abbrev pub booting : Whole → Body → Body
booting w b = record b { locals = w.boot_locals; code = with_initial w.initial b.code }

abbrev pub with_boot : Whole → (number : ℕ) → List Body → List Body
with_boot w k [] = []
with_boot w zero (b ∷ bs) = booting w b ∷ bs
with_boot w (suc k) (b ∷ bs) = b ∷ with_boot w k bs

abbrev pub boot_number : Option Boot → ℕ
boot_number None = 0
boot_number (Some b) = b.body

-- ---- objects

abbrev pub sizes : List (List core.Field) → List Variable → List ℕ
sizes structs vs = map (λ (v : Variable). (layout_of structs v.ty).size) vs

abbrev pub objects_from : (number : ℕ) → (taken : List ℕ) → List ℕ → List Variable → List Object
objects_from k taken (a ∷ rest) (v ∷ vs) =
    record { name = v.name; ty = v.ty; addr = a; norace = v.norace; taken = list_any (nat_eq k) taken } ∷ objects_from (k + 1) taken rest vs
objects_from k taken _ _ = []

abbrev pub objects : Whole → List Object
objects w = objects_from 0 w.work.taken (addresses objects_start (sizes (fields_of w.work.structs) w.variables)) w.variables

-- ---- the whole

abbrev pub program : Application → Whole → Program
program app w = record {
  structs = fields_of w.work.structs;
  objects = objects w;
  bodies = with_boot w (boot_number w.boot) w.bodies ++ w.dispatch;
  tasks = tasks_of app;
  handlers = w.handlers;
  boot = boot_number w.boot;
  warnings = w.warnings;
}

-- ---- limits: the first number past it is told

abbrev pub at_most : Which → (limit : ℕ) → ℕ → Rule (Unit {0})
at_most which limit n = if nat_le n limit then Ok tt else Err (Limit (record { which = which; have = limit + 1 }))

abbrev pub body_weighed : Whole → Boot → Option Body → Rule (Unit {0})
body_weighed w b None = Ok tt
body_weighed w b (Some x) = weighed b.at w.work.structs x

-- with all initial values
abbrev pub boot_weighed : Whole → Option Boot → List Body → Rule (Unit {0})
boot_weighed w None bodies = Ok tt
boot_weighed w (Some b) bodies = body_weighed w b (slice_get bodies b.body)

abbrev pub limited : Whole → Program → Rule Program
limited w p = do
  a ← boot_weighed w w.boot p.bodies
  b ← at_most which.Nodes MAX_NODES (nodes_of p)
  c ← at_most which.Tasks MAX_TASKS (length p.tasks)
  d ← at_most which.Objects MAX_OBJECTS (taken (sizes (fields_of w.work.structs) w.variables))
  Ok p

abbrev pub ended : Application → Rule (Unit {0} × Whole) → Rule Program
ended app (Ok x) = limited x.1 (program app x.1)
ended app (Err e) = Err e

-- the wired program, or the first refusal
abbrev pub wired : Application → Rule Program
wired app = ended app (all_declared app nothing)
