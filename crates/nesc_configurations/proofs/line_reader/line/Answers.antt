use Rattle.nesc_configurations.proofs.Forms.{line_gives}
use Rattle.nesc_configurations.proofs.line_reader.line.Goals as goal

pub returns-clause-gives : goal.returns-clause-gives
returns-clause-gives c = line_gives c.args.levels c.args.names.now c.line_of.new.names c.args.ts.now c.line_of.result c.ahead-first.result c.ahead-first.ensures c.requires.room c.line_of.ensures.gives
