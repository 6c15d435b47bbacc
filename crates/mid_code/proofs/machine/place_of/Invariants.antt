use Rattle.std.proofs.Common.{◌≡◌, ◌+◌, drop}
use Rattle.mid_code.specs.Machine as machine
use Rattle.mid_code.proofs.machine.place_of.Given as goal

-- what is left leads to the label from the place reached
abbrev pub invariant-loop-instr : goal.invariant-loop-instr
invariant-loop-instr l = (l.at ≡ l.instr-index) × (l.at + machine.place_of (drop l.instr-index l.code) l.l ≡ machine.place_of l.code l.l)
