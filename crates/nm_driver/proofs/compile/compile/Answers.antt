use Rattle.nm_driver.proofs.Compiled.{says_of_image}
use Rattle.nm_driver.proofs.compile.compile.Goals as goal

pub returns-clause-says : goal.returns-clause-says
returns-clause-says c =
    says_of_image c.args.a c.in-Err.fault c.unbuilt.result c.requires.accepted c.in-Err.ensures.unbuilt c.unbuilt.ensures
