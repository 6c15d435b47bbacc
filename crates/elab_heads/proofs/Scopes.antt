-- Lists of names and tags that are seen through a view.
use Rattle.std.proofs.lemmas.List.{take-map, drop-map, map-append}

pub ruleset cuts = (take-map, drop-map, map-append)
