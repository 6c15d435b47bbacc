use Rattle.std.proofs.Common.{◌≡◌, ◌++◌, drop}
use Rattle.wire_loading.specs.Needs as spec
use Rattle.wire_loading.proofs.needs.add_components.Given as goal

abbrev pub invariant-loop-line : goal.invariant-loop-line
invariant-loop-line l = l.needs.items ++ spec.components (drop l.line-index l.lines) ≡ l.fn.needs.items ++ spec.components l.lines
