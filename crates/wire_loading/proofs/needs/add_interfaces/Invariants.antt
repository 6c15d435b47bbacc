use Rattle.std.proofs.Common.{◌≡◌, ◌++◌, drop}
use Rattle.wire_loading.specs.Needs as spec
use Rattle.wire_loading.proofs.needs.add_interfaces.Given as goal

abbrev pub invariant-loop-elem : goal.invariant-loop-elem
invariant-loop-elem l = l.needs.items ++ spec.interfaces (drop l.elem-index l.elems) ≡ l.fn.needs.items ++ spec.interfaces l.elems
