use Rattle.std.proofs.Common.{◌≡◌, ◌++◌, List, drop}
use Rattle.nesc_macros.specs.declared.hide_sets.Link.{Link}
use Rattle.nesc_macros.specs.Expansion.{hide}
use Rattle.nesc_macros.specs.Sets.{Extends}
use Rattle.nesc_macros.specs.Code.{IsUnion}
use Rattle.nesc_macros.specs.Numbers.{IsIn, Scope, all_shown, names_of}
use Rattle.nesc_macros.proofs.replacement.push_hidden.Given as goal

abbrev pub invariant-loop-part : goal.invariant-loop-part
invariant-loop-part l = record {
  grows : Extends l.fn.sets.links.items l.sets.links.items;
  known : (links : List Link) → Extends l.sets.links.items links → IsUnion links l.hide_set l.known;
  list : (scope : Scope) → IsIn l.sets scope → all_shown scope l.list.items ++ hide (names_of scope l.hide_set) (all_shown scope (drop l.part-index l.argument)) ≡ all_shown scope l.fn.list.items ++ hide (names_of scope l.hide_set) (all_shown scope l.argument);
}
