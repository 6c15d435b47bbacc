use Rattle.std.proofs.Common.{◌∙◌, ap}
use Rattle.mote_text.specs.ScheduleText.{schedule_of}
use Rattle.mote_text.proofs.ScheduleBack.{reads_back}
use Rattle.mote_text.proofs.schedule.print_schedule.Goals as goal

pub returns-clause-back : goal.returns-clause-back
returns-clause-back c = ap schedule_of c.in_ok-text.ensures ∙ reads_back c.args.rows.now c.requires
