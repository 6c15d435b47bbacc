use Rattle.std.proofs.Common.{◌++◌, [], sym, ◌∙◌, append-nil}
use Rattle.nm_driver.proofs.subject.checked.Goals as goal

pub returns-clause-prints : goal.returns-clause-prints
returns-clause-prints g c = λ board rows budget.
    let r = c.in_ok-reported.ensures.reported in
    let report = c.in_ok-reported.reported.report.items in
    (r.0, append-nil (report ++ []) ∙ append-nil report ∙ sym r.2)
