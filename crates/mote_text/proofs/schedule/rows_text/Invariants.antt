use Rattle.std.proofs.Common.{◌≡◌, ◌++◌, drop, string_bytes}
use Rattle.mote_text.specs.ScheduleText.{schedule_text}
use Rattle.mote_text.proofs.schedule.rows_text.Given as goal

-- with the rows to come, the text is that of all
abbrev pub invariant-loop-due : goal.invariant-loop-due
invariant-loop-due l = string_bytes l.text ++ schedule_text (drop l.due-index l.rows) ≡ schedule_text l.rows
