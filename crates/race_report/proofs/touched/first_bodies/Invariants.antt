use Rattle.std.proofs.Common.{drop}
use Rattle.nesc_core.specs.View.{program_of}
use Rattle.race_report.proofs.FirstLemmas.{IsGoing}
use Rattle.race_report.proofs.touched.first_bodies.Given as goal

abbrev pub invariant-loop-f : goal.invariant-loop-f
invariant-loop-f l = IsGoing (program_of l.p) l.order (drop l.f-index l.order) l.touched
