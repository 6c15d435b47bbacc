use Rattle.std.proofs.Common.{drop}
use Rattle.nesc_core.specs.View.{program_of}
use Rattle.race_report.specs.declared.touched.Touched.{Touched}
use Rattle.race_report.proofs.FirstLemmas.{TouchesRest}
use Rattle.race_report.proofs.touched.touch_uses.Given as goal

abbrev pub invariant-loop-u : goal.invariant-loop-u
invariant-loop-u l =
    (new : Touched) → TouchesRest (program_of l.p) l.f (drop l.u-index l.uses) l.touched new → TouchesRest (program_of l.p) l.f l.uses l.fn.touched new
