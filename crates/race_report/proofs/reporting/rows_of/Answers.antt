use Rattle.nesc_core.specs.View.{program_of}
use Rattle.race_report.proofs.Ordered.{up_to_limit}
use Rattle.race_report.proofs.reporting.rows_of.Goals as goal

pub returns : goal.returns
returns c = up_to_limit (program_of c.args.s.now.p.now) c.in_ok-rows.rows.items _ c.in_ok-rows.ensures c.in_ok-arrange.ensures
