use Rattle.nm_driver.proofs.Compiled.{says_unbuilt}
use Rattle.nm_driver.proofs.faults.unbuilt.Goals as goal

pub returns : goal.returns
returns c =
    let e = c.says_fault.ensures in
    says_unbuilt c.args.fault c.says_fault.result e.status e.line e.found
