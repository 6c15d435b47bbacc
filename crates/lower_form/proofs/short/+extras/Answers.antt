use Rattle.std.proofs.Common.{arith, length, ap}
use Rattle.lower_form.proofs.Extras.{extras_switch}
use Rattle.lower_form.proofs.short.+extras.Goals as goal

pub stmt_extras-returns-in-Switch : goal.stmt_extras-returns-in-Switch
stmt_extras-returns-in-Switch t c =
    let whole = extras_switch _ _ _ _ c.in-Switch.is in
    let cases = ap length c.as_slice.ensures in
    omega (arith, whole, cases, c.counted.ensures, c.extras_of_all-in-Switch.ensures, c.saturating_add-in-Switch.ensures)
