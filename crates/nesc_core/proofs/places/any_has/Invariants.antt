use Rattle.std.proofs.Common.{◌≡◌, false, map, take}
use Rattle.std.specs.List.{list_any}
use Rattle.nesc_core.specs.Parts.{run_has, run_of}
use Rattle.nesc_core.proofs.places.any_has.Given as goal

abbrev pub invariant-loop-run : goal.invariant-loop-run
invariant-loop-run l = list_any (run_has l.size l.address) (map run_of (take l.run-index l.runs)) ≡ false
