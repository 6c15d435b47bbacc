-- What the place of an access begins with, and the objects that this may be (own).
use Rattle.std.specs.Prelude.{ℕ, ◌==◌, Bool, false, List, length, slice_get}
use Rattle.std.specs.List.{filter}
use Rattle.nesc_core.specs.Plain.{Ty, Place, object, local, deref, index, field, Program}
use Rattle.nesc_core.specs.View.{type_of}
use Rattle.call_graph.specs.Paths.{below}
use Rattle.race_checker.specs.Report.{is_pointed_at}
use Rattle.race_report.specs.declared.roots.Root.{Root}
use Rattle.race_report.specs.declared.roots.Root.TheVariants as root

-- an object, a local variable, or what a pointer to this type points at
pub data Start : Type 0 where
  AtObject : (x : ℕ) → Start
  AtLocal : Start
  AtPointed : Ty → Start

abbrev pub start : Place → Start
start (object k) = AtObject k
start (local y) = AtLocal
start (deref e t) = AtPointed t
start (index place e) = start place
start (field place k) = start place

abbrev pub start_of : Root → Start
start_of (root.Object k) = AtObject k
start_of root.Local = AtLocal
start_of (root.Pointed t) = AtPointed (type_of t.now)

-- a pointer to this type may point at object x
abbrev pub is_pointed : Program → Ty → (x : ℕ) → Bool
is_pointed p t x = is_pointed_at p t (slice_get p.objects x)

abbrev pub may_be : Program → Start → (x : ℕ) → Bool
may_be p (AtObject k) x = k == x
may_be p AtLocal x = false
may_be p (AtPointed t) x = is_pointed p t x

-- all objects at which it may point, in order
abbrev pub pointed : Program → Ty → List ℕ
pointed p t = filter (is_pointed p t) (below (length p.objects))
