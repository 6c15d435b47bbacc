use Rattle.printed_words.proofs.Ends.{blank_behind}
use Rattle.printed_words.proofs.laid.push_blank.Goals as goal

pub returns-clause-parts : goal.returns-clause-parts
returns-clause-parts c = λ word. blank_behind c.args.text.now.items c.push_white.new.text.items word c.in_ok-push_white.ensures.pushed
