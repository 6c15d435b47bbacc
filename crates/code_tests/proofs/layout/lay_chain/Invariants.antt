-- The functions so far call only those behind them.
use Rattle.std.proofs.Common.{◌+◌}
use Rattle.msp_layout.proofs.Onward.{AreLinks}
use Rattle.code_tests.proofs.layout.lay_chain.Given as goal

abbrev pub invariant-loop-f : goal.invariant-loop-f
invariant-loop-f l = AreLinks (l.callers + 1) l.f l.code.items
