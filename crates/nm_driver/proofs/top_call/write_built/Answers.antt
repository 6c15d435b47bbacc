use Rattle.std.proofs.Common.{◌++◌, sym, ap, ◌∙◌}
use Rattle.mote_text.specs.ImageText.{image_text}
use Rattle.nm_base.proofs.Writing.{fails, goes_on}
use Rattle.nm_driver.specs.Prepared.{built_bytes}
use Rattle.nm_driver.proofs.top_call.write_built.Goals as goal

pub returns-in_err-write_all : goal.returns-in_err-write_all
returns-in_err-write_all g c =
    let built = c.in-Some.built in
    let lines = image_text built.image.code.items built.image.vectors in
    fails _ c.from_residual.result _ _ c.as_bytes.result.now lines _ c.from_residual.ensures.0
    (ap built_bytes c.in-Some.is ∙ ap (λ s. s ++ lines) (sym c.as_bytes.ensures.value)) c.in_err-write_all.ensures

pub returns : goal.returns
returns g c =
    let built = c.in-Some.built in
    let lines = image_text built.image.code.items built.image.vectors in
    goes_on (tt {0}) _ _ _ _ c.as_bytes.result.now lines _
    (ap built_bytes c.in-Some.is ∙ ap (λ s. s ++ lines) (sym c.as_bytes.ensures.value)) c.in_ok-write_all.ensures c.print_image.ensures
