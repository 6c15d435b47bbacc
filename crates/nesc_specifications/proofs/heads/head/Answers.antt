use Rattle.std.proofs.Common.{sym, subst}
use Rattle.nesc_parse_types.specs.Gives.{Gives}
use Rattle.nesc_specifications.proofs.Forms.{head_is}
use Rattle.nesc_specifications.proofs.heads.head.Goals as goal

pub returns-clause-gives : goal.returns-clause-gives
returns-clause-gives c = subst (Gives c.read_head.new.names c.read_head.result) (sym (head_is c.args.spare c.args.is_generic c.args.names.now c.args.ts.now)) c.read_head.ensures.gives
