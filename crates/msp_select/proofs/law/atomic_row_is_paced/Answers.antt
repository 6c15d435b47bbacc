use Rattle.msp_select.proofs.AtomicRow.{atomic_row_paced}
use Rattle.msp_select.proofs.law.atomic_row_is_paced.Goals as goal

pub returns : goal.returns
returns c = atomic_row_paced
