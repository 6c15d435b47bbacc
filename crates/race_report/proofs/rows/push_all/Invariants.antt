use Rattle.std.proofs.Common.{List, drop}
use Rattle.nesc_core.specs.View.{program_of}
use Rattle.race_checker.specs.declared.row.Row.{Row}
use Rattle.race_report.specs.Sites.{Grows}
use Rattle.race_report.proofs.RowLemmas.{parts_of}
use Rattle.race_report.proofs.rows.push_all.Given as goal

abbrev pub invariant-loop-x : goal.invariant-loop-x
invariant-loop-x l =
    (new : List Row) → Grows (parts_of (program_of l.s.p.now) l.site (drop l.x-index l.objects)) l.rows.items new
    → Grows (parts_of (program_of l.s.p.now) l.site l.objects) l.fn.rows.items new
