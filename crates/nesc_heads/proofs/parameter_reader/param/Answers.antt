use Rattle.std.proofs.Common.{sym, subst}
use Rattle.nesc_parse_types.specs.Gives.{Gives}
use Rattle.nesc_heads.proofs.Forms.{param_is}
use Rattle.nesc_heads.proofs.parameter_reader.param.Goals as goal

pub returns-clause-gives : goal.returns-clause-gives
returns-clause-gives c = subst (Gives c.joined_param.new.names c.joined_param.result) (sym (param_is c.args.spare c.args.names.now c.args.ts.now)) c.joined_param.ensures.gives
