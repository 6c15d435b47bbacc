use Rattle.std.proofs.Common.{refl}
use Rattle.compilable_programs.proofs.Switches.{lean_switch}
use Rattle.compilable_programs.proofs.measuring.+cases.Goals as goal

pub is_lean_stmt-returns-then-are_few : goal.is_lean_stmt-returns-then-are_few
is_lean_stmt-returns-then-are_few t c = λ e. lean_switch _ _ _ _ c.in-Switch.is (c.if-are_few.ensures refl) (c.are_lean_stmts-then-are_few.ensures e)
