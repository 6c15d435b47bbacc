use Rattle.std.proofs.Common.{sym, subst}
use Rattle.nesc_parse_types.specs.Gives.{Gives}
use Rattle.nesc_configurations.proofs.Forms.{new_component_is}
use Rattle.nesc_configurations.proofs.components.new_component.Goals as goal

pub returns : goal.returns
returns c = subst (Gives c.args.names.now c.read_new_component.result) (sym (new_component_is c.args.spare c.args.names.now c.args.ts.now)) c.read_new_component.ensures
