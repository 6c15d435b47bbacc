use Rattle.std.proofs.Common.{◌≡◌, ◌++◌, List}
use Rattle.nesc_macros.specs.declared.hide_sets.Link.{Link}
use Rattle.nesc_macros.specs.Sets.{Extends, numbers_in}
use Rattle.nesc_macros.proofs.hide_sets.HideSets.numbers.Given as goal

abbrev pub invariant-loop-numbers : goal.invariant-loop-numbers
invariant-loop-numbers l = (links : List Link) → Extends l.self.links.items links → l.numbers.items ++ numbers_in links l.rest ≡ numbers_in links l.set

abbrev pub decreases-loop-numbers : goal.decreases-loop-numbers
decreases-loop-numbers l = l.rest.len
