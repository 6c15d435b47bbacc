use Rattle.std.proofs.Common.{ap, sym, ◌∙◌, subst}
use Rattle.nesc_core.specs.View.{expr_of}
use Rattle.nesc_core.specs.WellFormed.{IsWellFormed}
use Rattle.lowered_rows.proofs.Numbers.{row_is_writable, writing_is_well_formed}
use Rattle.lowered_rows.proofs.tests.actions.Goals as goal

pub act-requires : goal.act-requires
act-requires c =
    subst IsWellFormed (sym c.in_ok-p.ensures)
    (writing_is_well_formed (expr_of c.in_ok-row.field-0) (row_is_writable c.args.number (expr_of c.in_ok-row.field-0) c.in_ok-row.ensures))
