use Rattle.std.proofs.Common.{sym, subst}
use Rattle.nesc_parse_types.specs.Gives.{Gives}
use Rattle.nesc_interfaces.proofs.Forms.{interface_is}
use Rattle.nesc_interfaces.proofs.interfaces.interface.Goals as goal

pub returns-clause-gives : goal.returns-clause-gives
returns-clause-gives c = subst (Gives c.read_interface.new.names c.read_interface.result) (sym (interface_is c.args.spare c.requires.room c.args.names.now c.args.ts.now)) c.read_interface.ensures.gives
