use Rattle.mote_text.proofs.EventWords.{line_tells_event}
use Rattle.mote_text.proofs.laws.line_tells_event.Goals as goal

pub returns : goal.returns
returns c = line_tells_event
