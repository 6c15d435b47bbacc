use Rattle.std.proofs.Common.{length}
use Rattle.mote_bus.proofs.board.+request_bits.Given as goal

abbrev pub decreases-request_bits : goal.decreases-request_bits
decreases-request_bits g l = length l.slots.now
