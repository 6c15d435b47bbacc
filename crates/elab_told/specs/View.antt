-- Which structs the types in wires name, seen as plain data (own).
use Rattle.elab_told.specs.declared.met.Met as rust
use Rattle.program_meaning.specs.Modules.{Met, met}

abbrev pub met_of : rust.Met → Met
met_of m = met m.headers.items m.behind
