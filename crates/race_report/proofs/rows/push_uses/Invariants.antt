use Rattle.std.proofs.Common.{drop}
use Rattle.nesc_core.specs.View.{program_of}
use Rattle.race_report.specs.declared.rows.Gathered.{Gathered}
use Rattle.race_report.proofs.RowLemmas.{GathersRest}
use Rattle.race_report.proofs.rows.push_uses.Given as goal

abbrev pub invariant-loop-u : goal.invariant-loop-u
invariant-loop-u l =
    (new : Gathered) → GathersRest (program_of l.s.p.now) l.s.handlers.order.items l.f (drop l.u-index l.uses) l.gathered new
    → GathersRest (program_of l.s.p.now) l.s.handlers.order.items l.f l.uses l.fn.gathered new
