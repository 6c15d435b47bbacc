use Rattle.std.proofs.Common.{rules, arith}
use Rattle.nesc_core.specs.declared.tree.CoreStmt.{the_lemmas}
use Rattle.stmt_emitter.proofs.Switches.{levels_switch}
use Rattle.stmt_emitter.proofs.levels.+stmt_levels.Goals as goal

pub stmt_levels-levels_of_all-requires-in-Switch : goal.stmt_levels-levels_of_all-requires-in-Switch
stmt_levels-levels_of_all-requires-in-Switch t c = (search (rules, the_lemmas), omega (arith, c.requires, levels_switch _ _ _ _ c.in-Switch.is))
