use Rattle.std.proofs.Common.{length}
use Rattle.run_checker.proofs.board.+request_bits.Given as goal

abbrev pub decreases-request_bits : goal.decreases-request_bits
decreases-request_bits l = length l.slots.now
