use Rattle.std.proofs.Common.{◌≡◌, ◌++◌, List, drop, map}
use Rattle.nesc_core.specs.Plain.{Field}
use Rattle.elab_weights.specs.Tables.{AreFirst}
use Rattle.elab_objects.specs.View.{variable_of}
use Rattle.program_meaning.specs.Program.{sizes}
use Rattle.elab_objects.proofs.limits.sizes_by.Given as goal

abbrev pub invariant-loop-variable : goal.invariant-loop-variable
invariant-loop-variable l = (structs : List (List Field)) → AreFirst structs l.fn.layouts
    → l.sizes.items ++ sizes structs (map variable_of (drop l.variable-index l.variables)) ≡ sizes structs (map variable_of l.variables)
