use Rattle.std.proofs.Common.{string_bytes}
use Rattle.nm_driver.proofs.Made.{line_as}
use Rattle.nm_driver.proofs.generated.totals_line.Goals as goal

pub returns : goal.returns
returns g c = line_as (λ s. string_bytes s) c.summary.result c.args.modules _ _ _ _ c.counted-run.ensures.totals c.counted-run.ensures.off c.summary.ensures
