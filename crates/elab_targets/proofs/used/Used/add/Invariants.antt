use Rattle.std.proofs.Common.{List, ◌++◌, take}
use Rattle.program_meaning.specs.declared.used.Use.{Use}
use Rattle.elab_targets.specs.Places.{AreUsed}
use Rattle.elab_targets.proofs.used.Used.add.Given as goal

abbrev pub invariant-loop-one : goal.invariant-loop-one
invariant-loop-one l = (us : List Use) → AreUsed us l.fn.self → AreUsed (us ++ take l.one-index l.uses) l.self
