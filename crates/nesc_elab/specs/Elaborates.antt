-- The wired program of an application whose files are read, whose instances are created and whose wires are linked.
use Rattle.std.specs.Prelude.{◌≡◌, List}
use Rattle.nesc_core.specs.Plain.{Program}
use Rattle.nesc_types.specs.Rule.{Rule}
use Rattle.wire_instances.specs.declared.plan.Made.{Made}
use Rattle.wire_pairs.specs.declared.ends.Pair.{Pair}
use Rattle.wire_units.specs.declared.loaded.Loaded.{Loaded}
use Rattle.program_meaning.specs.Parts.{Application}
use Rattle.program_meaning.specs.Program.{wired}
use Rattle.elab_application.specs.Given.{IsGiven}

-- what elaboration is given of them is wired to this program, or refused so
abbrev pub Elaborates : List Loaded → List Made → List Pair → Rule Program → Type 0
Elaborates units made pairs answer = (x : Application) × IsGiven units made pairs x × (wired x ≡ answer)
