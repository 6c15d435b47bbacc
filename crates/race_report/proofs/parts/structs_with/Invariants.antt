use Rattle.std.proofs.Common.{◌≡◌}
use Rattle.nesc_core.specs.View.{structs_of, type_of}
use Rattle.race_report.proofs.PartLemmas.{first_has}
use Rattle.race_report.proofs.parts.structs_with.Given as goal

abbrev pub invariant-loop-fields : goal.invariant-loop-fields
invariant-loop-fields l = l.inside.items ≡ first_has (type_of l.wanted) (structs_of l.s) l.fields-index
