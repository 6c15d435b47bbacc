use Rattle.std.proofs.Common.{◌≡◌, ◌++◌, drop}
use Rattle.wire_uniques.specs.Parts as spec
use Rattle.wire_uniques.proofs.part.in_elems.Given as goal

abbrev pub invariant-loop-elem : goal.invariant-loop-elem
invariant-loop-elem l = l.found.items ++ spec.in_elems (drop l.elem-index l.elem-items) ≡ l.fn.found.items ++ spec.in_elems l.elems
