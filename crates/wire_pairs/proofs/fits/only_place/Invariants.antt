use Rattle.std.proofs.Common.{◌≡◌, ◌-◌, ◌++◌, length, drop}
use Rattle.std.specs.Option.{option_to_list}
use Rattle.wire_pairs.specs.Fits.{member_fits, places, only}
use Rattle.wire_pairs.specs.Lookup.{app_of}
use Rattle.wire_pairs.proofs.fits.only_place.Given as goal

abbrev pub invariant-loop-at : goal.invariant-loop-at
invariant-loop-at l =
    only (option_to_list l.found ++ places (member_fits (app_of l.app) l.sign l.other l.other_first l.member) l.at (drop l.at l.elems))
    ≡ only (places (member_fits (app_of l.app) l.sign l.other l.other_first l.member) 0 l.elems)

abbrev pub decreases-loop-at : goal.decreases-loop-at
decreases-loop-at l = length l.elems - l.at
