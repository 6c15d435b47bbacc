use Rattle.std.proofs.Common.{◌++◌, sym, ap, ◌∙◌}
use Rattle.nm_base.proofs.Writing.{fails, goes_on}
use Rattle.nm_driver.specs.Prepared.{built_bytes, head_bytes}
use Rattle.nm_driver.proofs.top_call.write_head.Goals as goal

pub returns-in_err-write_all : goal.returns-in_err-write_all
returns-in_err-write_all g c =
    let head = c.in-Some.head in
    fails _ c.from_residual.result _ _ c.as_slice.result.now (built_bytes head.built) _ c.from_residual.ensures.0
    (ap head_bytes c.in-Some.is ∙ ap (λ s. s ++ built_bytes head.built) (sym c.as_slice.ensures.value)) c.in_err-write_all.ensures

pub returns : goal.returns
returns g c =
    let head = c.in-Some.head in
    goes_on (tt {0}) _ _ _ _ c.as_slice.result.now (built_bytes head.built) _
    (ap head_bytes c.in-Some.is ∙ ap (λ s. s ++ built_bytes head.built) (sym c.as_slice.ensures.value)) c.in_ok-write_all.ensures c.write_built.ensures
