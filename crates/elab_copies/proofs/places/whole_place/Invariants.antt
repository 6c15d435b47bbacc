use Rattle.std.proofs.Common.{◌≡◌, fold, take}
use Rattle.nesc_core.specs.View.{place_of}
use Rattle.elab_meaning.specs.View.{start_of, step_from}
use Rattle.elab_copies.proofs.places.whole_place.Given as goal

abbrev pub invariant-loop-step : goal.invariant-loop-step
invariant-loop-step l = place_of l.place ≡ fold step_from (start_of l.p.start) (take l.step-index l.p.steps.items)
