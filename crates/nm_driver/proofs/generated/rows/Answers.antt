use Rattle.std.proofs.Common.{sym, subst}
use Rattle.mote_run.specs.Rows.{DoNotFall}
use Rattle.nm_driver.proofs.Made.{in_order}
use Rattle.nm_driver.proofs.generated.rows.Goals as goal

pub returns-clause-order : goal.returns-clause-order
returns-clause-order c = subst DoNotFall (sym c.gen_rows.ensures) in_order
