use Rattle.std.proofs.Common.{◌≡◌, drop, map}
use Rattle.elab_meaning.specs.View.{state_of}
use Rattle.wire_facts.specs.Components.{line_of}
use Rattle.wire_facts.specs.Seen.{lines_told}
use Rattle.wire_scopes.specs.View.{base_view}
use Rattle.wire_told.specs.View.{application_of, survey_of}
use Rattle.wire_told.proofs.instances.lines_told.Given as goal

abbrev pub invariant-loop-conf : goal.invariant-loop-conf
invariant-loop-conf l = record {
  counted : l.line ≡ l.conf-index;
  rest : lines_told (application_of l.app.sources.now) (base_view l.app.base) l.instance 0 (map line_of l.lines) (survey_of l.fn.sight) (state_of l.fn.sight.work) l.fn.told.items
      ≡ lines_told (application_of l.app.sources.now) (base_view l.app.base) l.instance l.line (map line_of (drop l.conf-index l.lines)) (survey_of l.sight) (state_of l.sight.work) l.told.items;
}
