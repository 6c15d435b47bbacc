use Rattle.nesc_tokens.proofs.WordFronts.{word_at}
use Rattle.nesc_tokens.proofs.longest.word.Goals as goal

pub returns : goal.returns
returns c = word_at _ c.args.bytes.now c.requires.some c.requires.at c.word_run.ensures.run
