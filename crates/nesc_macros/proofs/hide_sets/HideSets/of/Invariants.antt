use Rattle.std.proofs.Common.{◌≡◌, ◌++◌, List, vec_len}
use Rattle.nesc_macros.specs.declared.hide_sets.Link.{Link}
use Rattle.nesc_macros.specs.Sets.{Extends, numbers_in}
use Rattle.nesc_macros.proofs.hide_sets.HideSets.of.Given as goal

abbrev pub invariant-loop-number : goal.invariant-loop-number
invariant-loop-number l = record {
  grows : Extends l.fn.self.links.items l.self.links.items;
  set : (links : List Link) → Extends l.self.links.items links → l.numbers.items ++ numbers_in links l.set ≡ l.fn.numbers.items;
}

abbrev pub decreases-loop-number : goal.decreases-loop-number
decreases-loop-number l = vec_len l.numbers
