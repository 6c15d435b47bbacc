use Rattle.std.proofs.Common.{◌≡◌, map, drop}
use Rattle.elab_meaning.specs.Scope.{declares}
use Rattle.elab_meaning.specs.View.{entry_of}
use Rattle.elab_types.proofs.scope.declares.Given as goal

abbrev pub invariant-loop-entry : goal.invariant-loop-entry
invariant-loop-entry l = declares (map entry_of (drop l.entry-index l.names)) l.name ≡ declares (map entry_of l.names) l.name
