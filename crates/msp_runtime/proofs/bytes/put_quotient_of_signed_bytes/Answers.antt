use Rattle.std.proofs.Common.{true}
use Rattle.msp_runtime.specs.Code.{items_from}
use Rattle.msp_runtime.specs.Routines.{extend, quotient}
use Rattle.msp_runtime.proofs.Joined.{joined_three}
use Rattle.msp_runtime.proofs.bytes.put_quotient_of_signed_bytes.Goals as goal

pub returns : goal.returns
returns c =
    joined_three c.args.items.now.items (items_from (extend true 12) 0) (items_from (extend true 13) 0) (items_from (quotient true) 0)
    c.in_ok-put_extend_x_signed.ensures c.in_ok-put_extend_y_signed.ensures c.in_ok-put_quotient_signed.ensures
