use Rattle.std.proofs.Common.{◌≡◌, map, drop}
use Rattle.elab_meaning.specs.View.{state_of}
use Rattle.elab_targets.specs.View.{given_of}
use Rattle.program_meaning.specs.Items.{given_names}
use Rattle.program_meaning.specs.Modules.{given_as}
use Rattle.elab_told.specs.View.{met_of}
use Rattle.elab_told.proofs.given.given_names.Given as goal

abbrev pub invariant-loop-one : goal.invariant-loop-one
invariant-loop-one l =
    given_names (map (given_as (met_of l.met)) (map given_of l.given)) (state_of l.fn.work)
    ≡ given_names (map (given_as (met_of l.met)) (map given_of (drop l.one-index l.given))) (state_of l.work)
