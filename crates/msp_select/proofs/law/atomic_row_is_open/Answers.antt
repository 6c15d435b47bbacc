use Rattle.msp_select.proofs.law.atomic_row_is_open.Goals as goal
use Rattle.msp_select.proofs.AtomicRow.{atomic_row}

pub returns : goal.returns
returns c = atomic_row
