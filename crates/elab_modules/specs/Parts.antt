-- How many names and tags headers have, of the scope that is open behind them (own).
use Rattle.elab_pieces.specs.Flow.{Outer}
use Rattle.wire_facts.specs.Scopes.{Base}

abbrev pub base_of : Outer → Base
base_of o = record { names = o.names; tags = o.tags }
