use Rattle.std.proofs.Common.{◌≡◌, ◌++◌, flat_map, map, drop}
use Rattle.nesc_core.specs.View.{stmt_of}
use Rattle.elab_dispatch.specs.Calls.{calls}
use Rattle.elab_dispatch.proofs.cases.just_called.Given as goal

abbrev pub invariant-loop-case : goal.invariant-loop-case
invariant-loop-case l = map stmt_of l.code.items ++ flat_map (calls l.i) (drop l.case-index l.cases) ≡ flat_map (calls l.i) l.cases
