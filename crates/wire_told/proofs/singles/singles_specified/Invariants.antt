use Rattle.std.proofs.Common.{◌≡◌, ◌-◌, length, drop}
use Rattle.elab_meaning.specs.View.{state_of}
use Rattle.wire_facts.specs.Seen.{singles_specified}
use Rattle.wire_scopes.specs.View.{base_view}
use Rattle.wire_told.specs.View.{application_of, survey_of}
use Rattle.wire_told.proofs.singles.singles_specified.Given as goal

abbrev pub invariant-loop-instance : goal.invariant-loop-instance
invariant-loop-instance l =
    singles_specified (application_of l.app.sources.now) (base_view l.app.base) 0 l.app.sources.now.made.now (survey_of l.fn.sight) (state_of l.fn.sight.work)
    ≡ singles_specified (application_of l.app.sources.now) (base_view l.app.base) l.instance (drop l.instance l.app.sources.now.made.now) (survey_of l.sight) (state_of l.sight.work)

abbrev pub decreases-loop-instance : goal.decreases-loop-instance
decreases-loop-instance l = length l.app.sources.now.made.now - l.instance
