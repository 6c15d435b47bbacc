use Rattle.printed_words.specs.LaidOut.{white}
use Rattle.printed_words.proofs.laid.push_white.Goals as goal

pub returns-clause-keeps : goal.returns-clause-keeps
returns-clause-keeps c = λ words laid. white c.args.byte c.requires c.in_ok-push.ensures.items laid
