-- An application that is wired has one program, or one refusal (own).
use Rattle.std.specs.Prelude.{◌≡◌, List}
use Rattle.nesc_core.specs.Plain.{Program}
use Rattle.nesc_types.specs.Rule.{Rule}
use Rattle.wire_instances.specs.declared.plan.Made.{Made}
use Rattle.wire_pairs.specs.declared.ends.Pair.{Pair}
use Rattle.wire_units.specs.declared.loaded.Loaded.{Loaded}
use Rattle.nesc_elab.specs.Elaborates.{Elaborates}

abbrev pub OneProgram : Type 0
OneProgram = (units : List Loaded) (made : List Made) (pairs : List Pair) (a b : Rule Program) → Elaborates units made pairs a → Elaborates units made pairs b → a ≡ b
