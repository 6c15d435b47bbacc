use Rattle.nm_driver.proofs.Headline.{generated_headline}
use Rattle.nm_driver.proofs.laws.generated_image_runs_its_source.Goals as goal

pub returns : goal.returns
returns c = generated_headline c.image_reads_back.ensures
