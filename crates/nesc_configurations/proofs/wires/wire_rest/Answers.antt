use Rattle.std.proofs.Common.{sym, subst}
use Rattle.nesc_parse_types.specs.Gives.{Gives}
use Rattle.nesc_configurations.proofs.Forms.{wire_is}
use Rattle.nesc_configurations.proofs.wires.wire_rest.Goals as goal

pub returns : goal.returns
returns c = subst (Gives c.args.names.now c.read_wire.result) (sym (wire_is c.args.spare c.requires.room c.args.first.now c.args.names.now c.args.ts.now)) c.read_wire.ensures
