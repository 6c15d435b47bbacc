use Rattle.std.proofs.Common.{◌≡◌, ◌+◌, ◌++◌, length, take}
use Rattle.wire_uniques.specs.Expressions.{Uses}
use Rattle.wire_uniques.specs.Numbers.{AreNumbers}
use Rattle.wire_uniques.proofs.counter.Counter.take_all.Given as goal

abbrev pub invariant-loop-one : goal.invariant-loop-one
invariant-loop-one l = record {
  numbered : (uses : Uses) → AreNumbers l.fn.self.counts l.fn.self.numbers.items uses → AreNumbers l.self.counts l.self.numbers.items (uses ++ take l.one-index l.more);
  grows : length l.self.numbers.items ≡ length l.fn.self.numbers.items + l.one-index;
}
