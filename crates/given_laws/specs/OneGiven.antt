-- Files, instances and pairs decide what elaboration is given (own).
use Rattle.std.specs.Prelude.{◌≡◌, List}
use Rattle.wire_instances.specs.declared.plan.Made.{Made}
use Rattle.wire_pairs.specs.declared.ends.Pair.{Pair}
use Rattle.wire_units.specs.declared.loaded.Loaded.{Loaded}
use Rattle.program_meaning.specs.Parts.{Application}
use Rattle.elab_application.specs.Given.{IsGiven}

abbrev pub OneGiven : Type 0
OneGiven = (units : List Loaded) (made : List Made) (pairs : List Pair) (x y : Application) → IsGiven units made pairs x → IsGiven units made pairs y → x ≡ y
