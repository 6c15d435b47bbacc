-- What elaboration is given, and then its program.
use Rattle.std.proofs.Common.{◌≡◌, List, Result, Ok, Err, IfOk}
use Rattle.nm_base.specs.declared.fault.Fault.{Fault}
use Rattle.nesc_core.specs.Plain as plain
use Rattle.nesc_core.specs.View.{program_of}
use Rattle.nesc_core.specs.declared.tree.Program.{Program}
use Rattle.elab_meaning.specs.Answers.{Follows}
use Rattle.wire_instances.specs.declared.plan.Made.{Made}
use Rattle.wire_pairs.specs.declared.ends.Pair.{Pair}
use Rattle.wire_units.specs.declared.loaded.Loaded.{Loaded}
use Rattle.wire_phases.specs.Faults.{IsRefusal}
use Rattle.program_meaning.specs.Parts.{Application}
use Rattle.program_meaning.specs.Program.{wired}
use Rattle.elab_application.specs.Given.{IsGiven}
use Rattle.elab_application.proofs.Refusals.{refusal_is}
use Rattle.nesc_elab.specs.Elaborates.{Elaborates}

pub elaborated_to : (units : List Loaded) (made : List Made) (pairs : List Pair) (x : Application) (r : Result Program Fault) → IsGiven units made pairs x
    → Follows program_of r (wired x) → IfOk r (λ p. Elaborates units made pairs (Ok (program_of p)))
elaborated_to units made pairs x (Ok p) given is = (x, given, is)
elaborated_to units made pairs x (Err e) given is = tt

pub elaboration_refused : (units : List Loaded) (made : List Made) (pairs : List Pair) (x : Application) (r : Result Program Fault) (e : Fault) → IsGiven units made pairs x
    → Follows program_of r (wired x) → r ≡ Err e → IsRefusal e → Elaborates units made pairs (Err e)
elaboration_refused units made pairs x r e given is fails refusal =
    (x, given, refusal_is program_of r (wired x) e is fails refusal)

pub ruleset elaborated = (elaborated_to, elaboration_refused)
