use Rattle.std.proofs.Common.{◌+◌, ◌*◌}
use Rattle.nesc_core.specs.View.{type_of}
use Rattle.elab_types.proofs.Lengths.{height}
use Rattle.elab_types.proofs.structs.+points.Given as goal

abbrev pub decreases-points_well : goal.decreases-points_well
decreases-points_well l = 2 * height (type_of l.t.now)

abbrev pub decreases-pointer_points_well : goal.decreases-pointer_points_well
decreases-pointer_points_well l = 2 * height (type_of l.part.now) + 1
