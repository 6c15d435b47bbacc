use Rattle.std.proofs.Common.{true}
use Rattle.msp_runtime.specs.Code.{items_from}
use Rattle.msp_runtime.specs.Pieces.{signed_end, signed_start}
use Rattle.msp_runtime.specs.Routines.{divide_wide, magnitude_wide}
use Rattle.msp_runtime.proofs.Joined.{joined_four}
use Rattle.msp_runtime.proofs.wide.put_quotient_signed_wide.Goals as goal

pub returns : goal.returns
returns c =
    joined_four c.args.items.now.items signed_start (items_from (magnitude_wide true 14 15) 1) (items_from divide_wide 2) signed_end
    c.in_ok-put_signed_start.ensures c.in_ok-put.ensures c.in_ok-put_divide_wide.ensures c.in_ok-put_signed_end.ensures
