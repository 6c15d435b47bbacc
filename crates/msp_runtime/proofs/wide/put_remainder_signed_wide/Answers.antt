use Rattle.std.proofs.Common.{false}
use Rattle.msp_runtime.specs.Code.{items_from}
use Rattle.msp_runtime.specs.Pieces.{signed_end, signed_start}
use Rattle.msp_runtime.specs.Routines.{divide_wide, magnitude_wide, remainder_over}
use Rattle.msp_runtime.proofs.Joined.{joined_five}
use Rattle.msp_runtime.proofs.wide.put_remainder_signed_wide.Goals as goal

pub returns : goal.returns
returns c =
    joined_five c.args.items.now.items signed_start (items_from (magnitude_wide false 14 15) 1) (items_from divide_wide 2) (items_from remainder_over 0) signed_end
    c.in_ok-put_signed_start.ensures c.in_ok-put.ensures c.in_ok-put_divide_wide.ensures c.in_ok-put-2.ensures c.in_ok-put_signed_end.ensures
