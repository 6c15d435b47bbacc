use Rattle.std.proofs.Common.{◌≡◌, List}
use Rattle.std.specs.List.{filter}
use Rattle.body_meaning.specs.Tree.{Head}
use Rattle.program_meaning.specs.Modules.{is_foreign}
use Rattle.elab_told.specs.Uses.{AreOwn}
use Rattle.elab_told.proofs.own.without_own.Given as goal

abbrev pub invariant-loop-one : goal.invariant-loop-one
invariant-loop-one l = (hs : List Head) → AreOwn hs l.own → l.foreign.items ≡ filter (is_foreign hs) l.yielded
