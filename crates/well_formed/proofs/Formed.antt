-- A program whose parts are well formed is well formed.
use Rattle.std.proofs.Common.{ℕ, ◌<◌}
use Rattle.std.specs.Prelude.{slice_get}
use Rattle.nesc_core.specs.Plain.{Field, Object, Program}
use Rattle.nesc_core.specs.Size.{AreSized}
use Rattle.nesc_core.specs.Typing.{IsType, PointsWell}
use Rattle.nesc_core.specs.Weights.{objects_start}
use Rattle.nesc_core.specs.WellFormed.{BootsAtomic, IsBody, IsRoot, IsWellFormed, LieFrom}
use Rattle.well_formed.specs.Formed.{Each, FieldsPoint, HaveOwnLines}
use Rattle.well_formed.proofs.Each.{each_is, each_each_is}
use Rattle.well_formed.proofs.Pairs.{lines_differ}

pub formed : (p : Program) → AreSized p.structs → Each (FieldsPoint p.structs) p.structs
    → Each (λ (o : Object). IsType p.structs o.ty) p.objects → LieFrom p.structs objects_start p.objects → Each (IsBody p) p.bodies
    → Each (λ f. IsRoot (slice_get p.bodies f)) p.tasks → Each (λ (h : ℕ × ℕ). IsRoot (slice_get p.bodies h.1)) p.handlers
    → Each (λ (h : ℕ × ℕ). h.0 < 8) p.handlers → HaveOwnLines p.handlers → IsRoot (slice_get p.bodies p.boot)
    → BootsAtomic (slice_get p.bodies p.boot) → IsWellFormed p
formed p sized fields types lie bodies tasks handlers lines own boot atomic = record {
  structs = sized;
  fields = each_each_is (λ (f : Field). PointsWell p.structs f.ty) p.structs fields;
  objects = each_is (λ (o : Object). IsType p.structs o.ty) p.objects types;
  addresses = lie;
  bodies = each_is (IsBody p) p.bodies bodies;
  tasks = each_is (λ f. IsRoot (slice_get p.bodies f)) p.tasks tasks;
  handlers = each_is (λ (h : ℕ × ℕ). IsRoot (slice_get p.bodies h.1)) p.handlers handlers;
  lines = each_is (λ (h : ℕ × ℕ). h.0 < 8) p.handlers lines;
  differ = lines_differ p.handlers own;
  boot = boot;
  boot_atomic = atomic;
}
