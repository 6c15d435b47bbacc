use Rattle.nesc_core.specs.View.{program_of}
use Rattle.race_report.proofs.RowLemmas.{HasBelow}
use Rattle.race_report.proofs.rows.all_rows.Given as goal

abbrev pub invariant-loop-f : goal.invariant-loop-f
invariant-loop-f l = HasBelow (program_of l.s.p.now) l.s.handlers.order.items l.f l.gathered
