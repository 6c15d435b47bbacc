use Rattle.std.proofs.Common.{arith}
use Rattle.well_formed.proofs.Switches.{atomics_switch}
use Rattle.well_formed.proofs.measure.+atomics.Goals as goal

pub atomics-returns-in_ok-rest-in-Switch : goal.atomics-returns-in_ok-rest-in-Switch
atomics-returns-in_ok-rest-in-Switch t c = omega (arith, c.in_ok-rest-in-Switch.ensures, atomics_switch _ _ _ _ c.in-Switch.is)
