-- The choice of a register, and of what a device is when it is written.
use Rattle.mote_devices.proofs.Registers.{past_first, past_second, past_third, not_second}

pub ruleset registers = (past_first, past_second, past_third, not_second)
