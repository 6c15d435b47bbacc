-- Tables of structs, seen through their entries.
use Rattle.std.proofs.lemmas.Option.{slice_get-map}

pub ruleset structs = (slice_get-map)
