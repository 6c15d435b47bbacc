use Rattle.std.proofs.Common.{sym, subst}
use Rattle.nesc_parse_types.specs.Gives.{Gives}
use Rattle.nesc_specifications.proofs.Forms.{element_is}
use Rattle.nesc_specifications.proofs.elements.element.Goals as goal

pub returns : goal.returns
returns c = subst (Gives c.args.names.now c.read_element.result) (sym (element_is c.args.spare c.requires.room c.args.provides c.args.names.now c.args.ts.now)) c.read_element.ensures
