use Rattle.std.proofs.Common.{◌++◌, sym, ap, refl}
use Rattle.nm_base.proofs.Writing.{fails, goes_on}
use Rattle.nm_driver.specs.Prepared.{head_bytes}
use Rattle.nm_driver.proofs.top_call.write_totals.Goals as goal

pub returns-in_err-write_head : goal.returns-in_err-write_head
returns-in_err-write_head g c =
    fails {A = Unit {0}} c.in_err-write_head.field-0.0 c.from_residual.result _ _ (head_bytes c.args.head.now) c.args.line.now _ c.from_residual.ensures.0
    refl c.in_err-write_head.ensures

pub returns : goal.returns
returns g c =
    goes_on c.in_ok-write_head.field-0 _ _ _ _ (head_bytes c.args.head.now) c.as_bytes.result.now _
    (ap (λ s. head_bytes c.args.head.now ++ s) (sym c.as_bytes.ensures.value)) c.in_ok-write_head.ensures c.write_all.ensures
