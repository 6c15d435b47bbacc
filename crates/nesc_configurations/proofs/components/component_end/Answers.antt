use Rattle.std.proofs.Common.{sym, subst}
use Rattle.nesc_parse_types.specs.Gives.{Gives}
use Rattle.nesc_configurations.proofs.Forms.{component_end_is}
use Rattle.nesc_configurations.proofs.components.component_end.Goals as goal

pub returns : goal.returns
returns c = subst (Gives c.args.names.now c.read_component_end.result) (sym (component_end_is c.args.spare c.args.token.now c.args.args c.args.names.now c.args.ts.now)) c.read_component_end.ensures
