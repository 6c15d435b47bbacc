use Rattle.std.proofs.Common.{refl}
use Rattle.printed_words.specs.LaidOut.{white}
use Rattle.nesc_print.proofs.units.end_line.Goals as goal

pub returns : goal.returns
returns c = λ words laid. white _ refl c.in_ok-push.ensures.items laid
