use Rattle.nm_driver.proofs.Headline.{headline}
use Rattle.nm_driver.proofs.laws.printed_image_runs_its_source.Goals as goal

pub returns : goal.returns
returns c = headline c.image_reads_back.ensures
