use Rattle.std.proofs.Common.{sym, subst}
use Rattle.nesc_parse_types.specs.Gives.{Gives}
use Rattle.nesc_configurations.proofs.Forms.{end_rest_is}
use Rattle.nesc_configurations.proofs.wires.end_rest.Goals as goal

pub returns : goal.returns
returns c = subst (Gives c.args.names.now c.read_end_rest.result) (sym (end_rest_is c.args.spare c.args.first.now c.args.names.now c.args.ts.now)) c.read_end_rest.ensures
