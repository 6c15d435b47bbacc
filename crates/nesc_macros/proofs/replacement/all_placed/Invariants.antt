use Rattle.std.proofs.Common.{◌≡◌, map, take}
use Rattle.nesc_macros.specs.Expansion.{placed}
use Rattle.nesc_macros.specs.Numbers.{Scope, all_shown, names_of}
use Rattle.nesc_macros.proofs.replacement.all_placed.Given as goal

abbrev pub invariant-loop-part : goal.invariant-loop-part
invariant-loop-part l = (scope : Scope) → all_shown scope l.list.items ≡ map (placed l.pos (names_of scope l.hide_set)) (take l.part-index l.replacement)
