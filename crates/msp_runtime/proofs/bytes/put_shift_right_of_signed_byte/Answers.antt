use Rattle.std.proofs.Common.{true}
use Rattle.msp_runtime.specs.Code.{items_from}
use Rattle.msp_runtime.specs.Routines.{extend, shift_right}
use Rattle.msp_runtime.proofs.Joined.{joined_two}
use Rattle.msp_runtime.proofs.bytes.put_shift_right_of_signed_byte.Goals as goal

pub returns : goal.returns
returns c = joined_two c.args.items.now.items (items_from (extend true 12) 0) (items_from (shift_right true) 0) c.in_ok-put_extend_x_signed.ensures c.in_ok-put_shift_right_signed.ensures
