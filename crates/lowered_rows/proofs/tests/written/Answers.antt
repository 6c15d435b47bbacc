use Rattle.std.proofs.Common.{rules, sym, ap, ◌∙◌}
use Rattle.nesc_core.specs.View.{expr_of}
use Rattle.lowered_rows.specs.Numbers.{writing}
use Rattle.lowered_rows.proofs.Numbers.{code_is, row_is_writable}
use Rattle.lowered_rows.proofs.tests.written.Goals as goal

pub lowered-requires-clause-writable : goal.lowered-requires-clause-writable
lowered-requires-clause-writable c = row_is_writable c.args.number (expr_of c.in_ok-e.e) c.in_ok-e.ensures

pub lowered-requires-clause-program : goal.lowered-requires-clause-program
lowered-requires-clause-program c = c.in_ok-p.ensures ∙ ap writing (c.in_ok-row.ensures ∙ sym c.in_ok-e.ensures)

pub first_write-requires-clause-form : goal.first_write-requires-clause-form
first_write-requires-clause-form c =
    code_is (expr_of c.in_ok-e.e) (row_is_writable c.args.number (expr_of c.in_ok-e.e) c.in_ok-e.ensures) c.in_ok-f.f c.new.result c.new-3.result c.in_ok-f.ensures
    (search rules) (search rules)
