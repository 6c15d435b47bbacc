use Rattle.std.proofs.Common.{◌≡◌, length, map}
use Rattle.elab_meaning.specs.Scope.{lookup}
use Rattle.elab_meaning.specs.View.{entry_of}
use Rattle.elab_names.proofs.scope.look_up.Given as goal

abbrev pub invariant-entries : goal.invariant-entries
invariant-entries l = lookup (map entry_of l.older) l.fn.name ≡ lookup (map entry_of l.fn.names) l.fn.name

abbrev pub decreases-entries : goal.decreases-entries
decreases-entries l = length l.older
