use Rattle.std.proofs.Common.{◌≡◌, ◌++◌, drop, length}
use Rattle.wire_uniques.specs.Expressions.{Uses}
use Rattle.wire_uniques.specs.Numbers.{AreNumbers, starts_from}
use Rattle.wire_uniques.specs.Parts.{in_instances}
use Rattle.wire_uniques.proofs.all_uses.count_instances.Given as goal

abbrev pub invariant-loop-instance : goal.invariant-loop-instance
invariant-loop-instance l = record {
  numbered : (uses : Uses) → AreNumbers l.fn.counter.counts l.fn.counter.numbers.items uses → (done : Uses) × ((uses ++ in_instances l.parts l.made) ≡ (done ++ in_instances l.parts (drop l.instance-index l.made))) × AreNumbers l.counter.counts l.counter.numbers.items done;
  starts : l.starts.items ++ starts_from l.parts (length l.counter.numbers.items) (drop l.instance-index l.made) ≡ starts_from l.parts (length l.fn.counter.numbers.items) l.made;
}
