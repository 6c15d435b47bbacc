use Rattle.std.proofs.Common.{◌≡◌, map, take}
use Rattle.elab_meaning.specs.View.{struct_of}
use Rattle.elab_attempts.proofs.copies.copied_structs.Given as goal

abbrev pub invariant-loop-ended : goal.invariant-loop-ended
invariant-loop-ended l = map struct_of l.copies.items ≡ map struct_of (take l.ended-index l.structs)
