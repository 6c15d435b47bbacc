use Rattle.std.proofs.Common.{sym, subst}
use Rattle.nesc_parse_types.specs.Gives.{Gives}
use Rattle.nesc_parse_comp.proofs.Forms.{interface_case, no_interface}
use Rattle.nesc_parse_comp.proofs.units.interface_part.Goals as goal

pub returns-in-Interface-clause-gives : goal.returns-in-Interface-clause-gives
returns-in-Interface-clause-gives c = subst (Gives c.interface.new.names c.interface.result) (sym (interface_case c.args.spare c.args.names.now c.args.ts.now c.args.first c.in-Interface.is)) c.interface.ensures.gives

pub returns-in_default-clause-gives : goal.returns-in_default-clause-gives
returns-in_default-clause-gives c = no_interface c.args.spare c.args.names.now c.args.ts.now c.args.first c.in_default.not-Interface
