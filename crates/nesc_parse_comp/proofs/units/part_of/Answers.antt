use Rattle.std.proofs.Common.{sym, subst}
use Rattle.nesc_parse_types.specs.Gives.{Gives}
use Rattle.nesc_parse_comp.proofs.Forms.{of_interface, of_component}
use Rattle.nesc_parse_comp.proofs.units.part_of.Goals as goal

pub returns-in-Interface-clause-gives : goal.returns-in-Interface-clause-gives
returns-in-Interface-clause-gives c = subst (Gives c.interface_part.new.names c.interface_part.result) (sym (of_interface c.args.spare c.args.names.now c.args.ts.now c.args.first c.args.kind c.in-Interface.is)) c.interface_part.ensures.gives

pub returns-in-Component-clause-gives : goal.returns-in-Component-clause-gives
returns-in-Component-clause-gives c = subst (Gives c.component.new.names c.component.result) (sym (of_component c.args.spare c.args.names.now c.args.ts.now c.args.first c.args.kind c.in-Component.is)) c.component.ensures.gives
