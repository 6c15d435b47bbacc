use Rattle.nesc_specifications.proofs.Forms.{generics_give}
use Rattle.nesc_specifications.proofs.generics.generics.Goals as goal

pub returns-clause-gives : goal.returns-clause-gives
returns-clause-gives c = generics_give c.args.levels c.args.names.now c.generics_form.new.names c.args.ts.now c.generics_form.result c.requires.room c.generics_form.ensures.gives
