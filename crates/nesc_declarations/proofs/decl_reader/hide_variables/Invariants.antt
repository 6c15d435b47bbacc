-- The variables that are left hide what they hide of all; the changes give back the names.
use Rattle.std.proofs.Common.{◌≡◌, length}
use Rattle.nesc_tree.specs.Changes.{all_taken_back}
use Rattle.nesc_grammar.specs.Declarations as spec
use Rattle.nesc_declarations.proofs.decl_reader.hide_variables.Given as goal

abbrev pub invariant-loop-left : goal.invariant-loop-left
invariant-loop-left l =
    (spec.all_hidden (spec.texts l.left) l.names ≡ spec.all_hidden (spec.texts l.fn.vars) l.fn.names)
    × (all_taken_back l.changes.items l.names ≡ all_taken_back l.fn.changes.items l.fn.names)

abbrev pub decreases-loop-left : goal.decreases-loop-left
decreases-loop-left l = length l.left
