use Rattle.std.proofs.Common.{◌≡◌, ◌++◌, drop, filter}
use Rattle.nesc_core.specs.View.{program_of}
use Rattle.race_report.specs.Kinds.{is_shared}
use Rattle.race_report.proofs.kinds.shared_among.Given as goal

abbrev pub invariant-loop-x : goal.invariant-loop-x
invariant-loop-x l =
    l.shared.items ++ filter (is_shared (program_of l.s.p.now) l.s.handlers.order.items) (drop l.x-index l.objects)
    ≡ filter (is_shared (program_of l.s.p.now) l.s.handlers.order.items) l.objects
