use Rattle.std.proofs.Common.{sym, subst}
use Rattle.nesc_parse_types.specs.Gives.{Gives}
use Rattle.nesc_parse_comp.proofs.Forms.{some_room, generic_case, other_case}
use Rattle.nesc_parse_comp.proofs.components.component.Goals as goal

pub returns-in-Generic-clause-gives : goal.returns-in-Generic-clause-gives
returns-in-Generic-clause-gives c = subst (Gives c.read_generic.new.names c.read_generic.result) (sym (generic_case c.args.spare c.args.names.now c.args.ts.now (some_room c.args.spare c.requires.room) c.args.first c.in-Generic.is)) c.read_generic.ensures.gives

pub returns-in_default-clause-gives : goal.returns-in_default-clause-gives
returns-in_default-clause-gives c = subst (Gives c.component_by.new.names c.component_by.result) (sym (other_case c.args.spare c.args.names.now c.args.ts.now c.args.first c.in_default.not-Generic)) c.component_by.ensures.gives
