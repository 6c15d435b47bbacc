use Rattle.nesc_declarations.specs.Forms as forms
use Rattle.nesc_declarations.specs.Views.{behind_of}
use Rattle.nesc_declarations.proofs.Forms.{scope_gives}
use Rattle.nesc_declarations.proofs.functions.bracketed_function.Goals as goal

pub returns-clause-gives : goal.returns-clause-gives
returns-clause-gives c = scope_gives behind_of c.args.spare forms.open_bracketed c.args.names.now c.open_bracketed-found.new.names c.args.ts.now c.open_bracketed-found.result c.open_bracketed-found.ensures.gives
