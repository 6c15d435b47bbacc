use Rattle.std.proofs.Common.{◌≡◌, ◌++◌, drop}
use Rattle.elab_objects.specs.Objects.{AreLow}
use Rattle.elab_objects.proofs.objects.narrow.Given as goal

abbrev pub invariant-loop-place : goal.invariant-loop-place
invariant-loop-place l = record {
  low : l.low.items ++ drop l.place-index l.places ≡ l.places;
  left : AreLow (drop l.place-index l.places);
}
