use Rattle.std.proofs.Common.{take}
use Rattle.std.specs.declared.result.Result.TheVariants.{Ok}
use Rattle.mote_bus.specs.Accesses.{events_of}
use Rattle.mote_text.specs.TraceText.{trace_lines}
use Rattle.mote_run.specs.Gathers.{Gathers, gathering}
use Rattle.mote_run.specs.RunText.{in_slot}
use Rattle.mote_run.proofs.mote.gather_step.Given as goal

-- the lines of the accesses so far
abbrev pub invariant-loop-access : goal.invariant-loop-access
invariant-loop-access g l = Gathers {A = Unit {0}} (Ok tt) (gathering (g.S.Sink.seen l.fn.out) l.fn.waiting.items) (gathering (g.S.Sink.seen l.out) l.waiting.items) (trace_lines (in_slot l.number (events_of (take l.access-index l.accesses))))
