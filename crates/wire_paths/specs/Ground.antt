-- The application that paths run through (own).
use Rattle.wire_pairs.specs.Application.{Application}
use Rattle.wire_paths.specs.declared.ground.Ground.{Ground}

abbrev pub app_of : Ground → Application
app_of g = record { units = g.units.now; made = g.made.now; facts = g.facts.now }
