use Rattle.nesc_specifications.proofs.Forms.{spec_gives}
use Rattle.nesc_specifications.proofs.specifications.specification.Goals as goal

pub returns : goal.returns
returns c = spec_gives c.args.levels c.args.names.now c.args.ts.now c.read_specification.result c.requires.room c.read_specification.ensures
