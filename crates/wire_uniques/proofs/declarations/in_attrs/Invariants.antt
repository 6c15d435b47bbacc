use Rattle.std.proofs.Common.{◌≡◌, ◌++◌, drop}
use Rattle.wire_uniques.specs.Statements as spec
use Rattle.wire_uniques.proofs.declarations.in_attrs.Given as goal

abbrev pub invariant-loop-attr : goal.invariant-loop-attr
invariant-loop-attr l = l.found.items ++ spec.in_attrs (drop l.attr-index l.attr-items) ≡ l.fn.found.items ++ spec.in_attrs l.attrs
