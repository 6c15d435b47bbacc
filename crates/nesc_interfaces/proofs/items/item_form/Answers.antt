use Rattle.std.proofs.Common.{sym, subst}
use Rattle.nesc_parse_types.specs.Gives.{Gives}
use Rattle.nesc_interfaces.proofs.ItemForms.{item_is}
use Rattle.nesc_interfaces.proofs.items.item_form.Goals as goal

pub returns-clause-gives : goal.returns-clause-gives
returns-clause-gives c = subst (Gives c.args.names.now c.read_item.result) (sym (item_is c.args.spare c.args.names.now c.args.ts.now)) c.read_item.ensures.gives
