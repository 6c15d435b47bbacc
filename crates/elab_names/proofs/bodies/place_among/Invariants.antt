use Rattle.std.proofs.Common.{◌≡◌, map, drop}
use Rattle.elab_meaning.specs.Places.{place_among}
use Rattle.elab_meaning.specs.View.{asked_of}
use Rattle.elab_names.proofs.bodies.place_among.Given as goal

abbrev pub invariant-loop-k : goal.invariant-loop-k
invariant-loop-k l = place_among l.k (map asked_of (drop l.k l.asked)) l.instance l.item ≡ place_among 0 (map asked_of l.asked) l.instance l.item
