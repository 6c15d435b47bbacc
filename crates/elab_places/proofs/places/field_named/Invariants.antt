use Rattle.std.proofs.Common.{◌≡◌, map, drop}
use Rattle.nesc_core.specs.View.{field_of}
use Rattle.elab_meaning.specs.Scope.{field_from}
use Rattle.elab_places.proofs.places.field_named.Given as goal

abbrev pub invariant-loop-k : goal.invariant-loop-k
invariant-loop-k l = field_from l.k (map field_of (drop l.k l.fields)) l.name ≡ field_from 0 (map field_of l.fields) l.name
