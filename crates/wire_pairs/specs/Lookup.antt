-- What a look-up looks into (own).
use Rattle.wire_pairs.specs.declared.lookup.Lookup.{Lookup}
use Rattle.wire_pairs.specs.Application.{Application}

abbrev pub app_of : Lookup → Application
app_of l = record { units = l.units.now; made = l.made.now; facts = l.facts.now }
