use Rattle.std.proofs.Common.{sym}
use Rattle.nm_driver.proofs.Made.{made_prints}
use Rattle.nm_driver.proofs.subject.generated.Goals as goal

pub returns-in-Ok-clause-prints : goal.returns-in-Ok-clause-prints
returns-in-Ok-clause-prints c = λ told.
    let n = c.modules_of-modules.ensures in
    made_prints _ c.modules_of-modules.result c.args.word.now c.in_ok-files.ensures (record { some = n.some; at_most = n.at_most; spelled = sym n.spelled }) c.in-Ok.subject c.in-Ok.ensures.prints told
