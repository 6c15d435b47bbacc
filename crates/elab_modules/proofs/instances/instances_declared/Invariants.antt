use Rattle.std.proofs.Common.{◌≡◌, map}
use Rattle.elab_making.specs.View.{whole_of}
use Rattle.elab_modules.proofs.instances.instances_declared.Given as goal
use Rattle.elab_modules.proofs.Ordered.{Turn}
use Rattle.elab_modules.specs.Behind.{AreBehind, Has}
use Rattle.elab_targets.specs.Starts.{AreTables}
use Rattle.elab_targets.specs.View.{application_of, instance_of}
use Rattle.elab_told.specs.View.{met_of}
use Rattle.program_meaning.specs.Making.{Whole}
use Rattle.program_meaning.specs.Modules.{instances_declared}

abbrev pub invariant-loop-instance : goal.invariant-loop-instance
invariant-loop-instance l =
    (l.number ≡ l.instance-index)
    × (AreTables (application_of l.around.app.now) l.around.tables.now → (h : Whole) → AreBehind l.around h → Has h.work (whole_of l.fn.whole).work
    → (application_of l.around.app.now).instances ≡ map instance_of l.instances
    → Turn (application_of l.around.app.now) h (met_of l.around.met.now) l.instances
    (instances_declared (application_of l.around.app.now) h (met_of l.around.met.now) 0 (map instance_of l.instances) (whole_of l.fn.whole)) l.number l.instance-index (whole_of l.whole))
