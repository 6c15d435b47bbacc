use Rattle.std.proofs.Common.{Ok, Err}
use Rattle.mote_text.proofs.HexPair.{byte_spelled}
use Rattle.mote_text.proofs.image_line.byte_of.Goals as goal

pub returns-in-Ok : goal.returns-in-Ok
returns-in-Ok c = byte_spelled c.args.high c.args.low (Ok c.in-Ok.field-0) c.decode_to_slice.new.out c.in-Ok.ensures.value

pub returns-in-Err : goal.returns-in-Err
returns-in-Err c = byte_spelled c.args.high c.args.low (Err c.in-Err.field-0) c.decode_to_slice.new.out c.in-Err.ensures.value
