use Rattle.nesc_grammar.specs.Declarations as inner
use Rattle.nesc_interfaces.proofs.Forms.{scope_gives}
use Rattle.nesc_interfaces.proofs.items.scoped_parameters.Goals as goal

pub returns-clause-gives : goal.returns-clause-gives
returns-clause-gives c = scope_gives c.args.spare inner.parameters c.args.names.now c.parameters-found.new.names c.args.ts.now c.parameters-found.result c.parameters-found.ensures.gives
