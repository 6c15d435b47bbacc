use Rattle.std.proofs.Common.{◌≡◌, Some, length}
use Rattle.std.specs.Str.Lines.{lines}
use Rattle.mote_text.specs.Lines.{read_lines}
use Rattle.mote_text.specs.ScheduleText.{schedule_of, schedule_step}
use Rattle.mote_text.proofs.schedule.read_schedule.Given as goal

-- what is read from here on is what the text says
abbrev pub invariant-loop-line : goal.invariant-loop-line
invariant-loop-line l = read_lines schedule_step (λ r. Some r.rows) l.number (record { last = l.last; rows = l.rows.items }) (lines l.rest) ≡ schedule_of l.text

abbrev pub decreases-loop-line : goal.decreases-loop-line
decreases-loop-line l = length l.rest
