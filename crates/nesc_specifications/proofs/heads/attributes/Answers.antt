use Rattle.nesc_specifications.proofs.Forms.{attributes_give}
use Rattle.nesc_specifications.proofs.heads.attributes.Goals as goal

pub returns : goal.returns
returns c = attributes_give c.args.spare c.args.names.now c.args.ts.now c.attributes.result c.requires.room c.attributes.ensures
