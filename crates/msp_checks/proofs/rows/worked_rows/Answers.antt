use Rattle.msp_checks.proofs.WorkedRows.{worked_rows}
use Rattle.msp_checks.proofs.rows.worked_rows.Goals as goal

pub returns : goal.returns
returns c = worked_rows
