use Rattle.std.proofs.Common.{List, [], ap, ◌∙◌}
use Rattle.nesc_tree.specs.declared.names.Change.{Change}
use Rattle.nesc_tree.specs.Changes.{all_taken_back}
use Rattle.nesc_declarations.specs.Forms as forms
use Rattle.nesc_declarations.specs.Views.{function_of}
use Rattle.nesc_declarations.proofs.Forms.{scope_gives}
use Rattle.nesc_declarations.proofs.functions.function_rest.Goals as goal

pub returns-clause-gives : goal.returns-clause-gives
returns-clause-gives c = scope_gives function_of c.args.spare forms.open_function c.args.names.now c.open_function-found.new.names c.args.ts.now c.open_function-found.result c.open_function-found.ensures.gives
