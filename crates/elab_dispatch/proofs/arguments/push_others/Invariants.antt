use Rattle.std.proofs.Common.{◌≡◌, ◌++◌, length, map}
use Rattle.std.specs.List.{range_with_len}
use Rattle.nesc_core.specs.View.{expr_of}
use Rattle.program_meaning.specs.Dispatch.{own_parameter, read_local}
use Rattle.elab_dispatch.proofs.arguments.push_others.Given as goal

abbrev pub invariant-loop-k : goal.invariant-loop-k
invariant-loop-k l = map expr_of l.arguments.items ≡ map expr_of l.fn.arguments.items ++ map (read_local l.i.at) (range_with_len (length (own_parameter l.i.own)) l.k)
