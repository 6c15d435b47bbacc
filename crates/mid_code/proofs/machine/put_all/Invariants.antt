use Rattle.std.proofs.Common.{◌≡◌, length}
use Rattle.std.specs.Prelude.{slice_index}
use Rattle.mid_code.specs.Form.{AreBelow}
use Rattle.mid_code.specs.Machine as machine
use Rattle.mid_code.proofs.machine.put_all.Given as goal

-- what is left is written on what was written
abbrev pub invariant-loop-vs : goal.invariant-loop-vs
invariant-loop-vs l =
    (machine.put_all (slice_index l.values.items) l.vs l.xs ≡ machine.put_all (slice_index l.fn.values.items) l.fn.vs l.fn.xs)
    × (length l.values.items ≡ length l.fn.values.items) × AreBelow (length l.values.items) l.vs

abbrev pub decreases-loop-vs : goal.decreases-loop-vs
decreases-loop-vs l = length l.vs
