use Rattle.std.proofs.Common.{rules, arith}
use Rattle.elab_weights.proofs.Trees.{levels_switch}
use Rattle.elab_weights.proofs.level_count.+levels.Goals as goal

pub levels-returns-in-Switch : goal.levels-returns-in-Switch
levels-returns-in-Switch t c = omega (arith, levels_switch _ _ _ _ c.in-Switch.is)
