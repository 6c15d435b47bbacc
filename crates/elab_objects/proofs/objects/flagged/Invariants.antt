use Rattle.std.proofs.Common.{◌≡◌, drop, false, replicate}
use Rattle.elab_objects.specs.Objects.{marked}
use Rattle.elab_objects.proofs.objects.flagged.Given as goal

abbrev pub invariant-loop-number : goal.invariant-loop-number
invariant-loop-number l = marked l.found.items (drop l.number-index l.numbers) ≡ marked (replicate l.fn.count false) l.numbers
