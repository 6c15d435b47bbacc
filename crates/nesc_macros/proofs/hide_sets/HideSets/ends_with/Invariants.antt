use Rattle.std.proofs.Common.{List}
use Rattle.nesc_macros.specs.declared.hide_sets.Link.{Link}
use Rattle.nesc_macros.specs.Sets.{EndsWith, Extends, numbers_in}
use Rattle.nesc_macros.proofs.hide_sets.HideSets.ends_with.Given as goal

abbrev pub invariant-loop-rest : goal.invariant-loop-rest
invariant-loop-rest l = (links : List Link) → Extends l.self.links.items links → EndsWith (numbers_in links l.set) (numbers_in links l.rest)

abbrev pub decreases-loop-rest : goal.decreases-loop-rest
decreases-loop-rest l = l.rest.len
