use Rattle.std.proofs.Common.{sym, subst}
use Rattle.nesc_parse_types.specs.Gives.{Gives}
use Rattle.nesc_declarators.proofs.Forms.{variable_is}
use Rattle.nesc_declarators.proofs.variables.variable.Goals as goal

pub returns-clause-gives : goal.returns-clause-gives
returns-clause-gives c = subst (Gives c.joined_variable.new.names c.joined_variable.result) (sym (variable_is c.args.spare c.args.names.now c.args.ts.now)) c.joined_variable.ensures.gives
