use Rattle.std.proofs.Common.{◌≡◌, drop}
use Rattle.lower_stmt.specs.Code as spec
use Rattle.nesc_core.specs.View.{stmts_of}
use Rattle.stmt_emitter.specs.Standing.{out_seen}
use Rattle.stmt_emitter.proofs.leads.+leads.Given as goal

abbrev pub invariant-some_leads-loop-s : goal.invariant-some_leads-loop-s
invariant-some_leads-loop-s l = spec.some_leads (stmts_of l.s-items) (out_seen l.out) ≡ spec.some_leads (stmts_of (drop l.s-index l.s-items)) (out_seen l.out)
