use Rattle.mote_run.proofs.Ordered.{schedule_in_order}
use Rattle.nm_driver.proofs.files.read_rows.Goals as goal

pub returns-in-Ok-clause-order : goal.returns-in-Ok-clause-order
returns-in-Ok-clause-order g c = schedule_in_order c.deref.result.now c.in-Ok.rows.items c.in-Ok.ensures.read

pub returns-in-Ok-clause-words : goal.returns-in-Ok-clause-words
returns-in-Ok-clause-words g c = c.schedules_are_of_words.ensures c.deref.result.now c.in-Ok.rows.items c.in-Ok.ensures.read
