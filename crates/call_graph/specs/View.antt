-- The accesses and calls that are listed for a body, as plain data (own).
use Rattle.nesc_core.specs.View.{place_of}
use Rattle.call_graph.specs.declared.uses.Use as listed
use Rattle.call_graph.specs.declared.uses.Use.TheVariants as listed_
use Rattle.call_graph.specs.Uses.{Use, Access, Calls}

abbrev pub use_of : listed.Use → Use
use_of (listed_.Access n i place pos) = Access n i (place_of place.now) pos
use_of (listed_.Call n i f pos) = Calls n i f pos
