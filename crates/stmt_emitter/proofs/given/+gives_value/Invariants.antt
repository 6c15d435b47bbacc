use Rattle.std.proofs.Common.{◌≡◌, drop}
use Rattle.nesc_core.specs.Heres as heres
use Rattle.nesc_core.specs.View.{stmts_of}
use Rattle.stmt_emitter.proofs.given.+gives_value.Given as goal

abbrev pub invariant-some_gives_value-loop-s : goal.invariant-some_gives_value-loop-s
invariant-some_gives_value-loop-s l = heres.some_gives_value (stmts_of l.s-items) ≡ heres.some_gives_value (stmts_of (drop l.s-index l.s-items))
