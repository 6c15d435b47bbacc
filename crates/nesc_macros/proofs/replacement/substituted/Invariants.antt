use Rattle.std.proofs.Common.{◌≡◌, ◌++◌, map, drop}
use Rattle.nesc_macros.specs.Expansion.{substituted}
use Rattle.nesc_macros.specs.Sets.{Extends}
use Rattle.nesc_macros.specs.Numbers.{IsIn, Scope, all_shown, names_of}
use Rattle.nesc_macros.proofs.replacement.substituted.Given as goal

abbrev pub invariant-loop-part : goal.invariant-loop-part
invariant-loop-part l = record {
  grows : Extends l.fn.sets.links.items l.sets.links.items;
  list : (scope : Scope) → IsIn l.sets scope
      → all_shown scope l.list.items ++ substituted l.pos (names_of scope l.hide_set) l.parameters (map (all_shown scope) l.arguments) (drop l.part-index l.replacement)
      ≡ substituted l.pos (names_of scope l.hide_set) l.parameters (map (all_shown scope) l.arguments) l.replacement;
}
