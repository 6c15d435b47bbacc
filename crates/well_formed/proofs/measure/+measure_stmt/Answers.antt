use Rattle.std.proofs.Common.{arith}
use Rattle.well_formed.proofs.Switches.{levels_switch}
use Rattle.well_formed.proofs.measure.+measure_stmt.Goals as goal

pub stmt-returns-in_ok-rest-in-Switch-clause-levels : goal.stmt-returns-in_ok-rest-in-Switch-clause-levels
stmt-returns-in_ok-rest-in-Switch-clause-levels t c = omega (arith, c.in_ok-rest-in-Switch.ensures.levels, c.in_ok-expr-in-Switch.ensures.levels, levels_switch _ _ _ _ c.in-Switch.is)
