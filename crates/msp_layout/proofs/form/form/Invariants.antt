-- The sizes are no choice's that is too long, and each round makes their sum greater.
use Rattle.std.proofs.Common.{◌-◌, ◌*◌, length, sum}
use Rattle.msp_layout.specs.Rounds.{AreTargets, AreLow, ArePlaces}
use Rattle.msp_layout.proofs.form.form.Given as goal

abbrev pub invariant-loop-sizes : goal.invariant-loop-sizes
invariant-loop-sizes l = AreTargets l.items l.targets.items × AreLow l.items l.sizes.items × ArePlaces l.sizes.items l.places.items

abbrev pub decreases-loop-sizes : goal.decreases-loop-sizes
decreases-loop-sizes l = 8 * length l.items - sum l.sizes.items
