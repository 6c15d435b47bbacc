use Rattle.std.proofs.Common.{◌≡◌, map, take}
use Rattle.std.specs.Prelude.{slice_index}
use Rattle.mid_code.proofs.machine.values.Given as goal

abbrev pub invariant-loop-v : goal.invariant-loop-v
invariant-loop-v l = l.xs.items ≡ map (slice_index l.call.values) (take l.v-index l.vs)
