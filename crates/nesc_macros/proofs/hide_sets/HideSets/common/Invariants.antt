use Rattle.std.proofs.Common.{◌≡◌, ◌++◌, List}
use Rattle.nesc_macros.specs.declared.hide_sets.Link.{Link}
use Rattle.nesc_macros.specs.Numbers.{common}
use Rattle.nesc_macros.specs.Sets.{Extends, numbers_in}
use Rattle.nesc_macros.proofs.hide_sets.HideSets.common.Given as goal

abbrev pub invariant-loop-both : goal.invariant-loop-both
invariant-loop-both l = (links : List Link) → Extends l.self.links.items links
    → l.both.items ++ common (numbers_in links l.rest) (numbers_in links l.other) ≡ common (numbers_in links l.one) (numbers_in links l.other)

abbrev pub decreases-loop-both : goal.decreases-loop-both
decreases-loop-both l = l.rest.len
