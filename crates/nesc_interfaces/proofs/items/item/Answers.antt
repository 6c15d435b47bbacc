use Rattle.std.proofs.Common.{sym, subst}
use Rattle.nesc_tree.specs.Sorts.{Names}
use Rattle.nesc_parse_types.specs.Gives.{Gives}
use Rattle.nesc_interfaces.specs.Reads.{item_in}
use Rattle.nesc_interfaces.proofs.Forms.{item_gives}
use Rattle.nesc_interfaces.proofs.items.item.Goals as goal

pub returns-clause-gives : goal.returns-clause-gives
returns-clause-gives c =
    subst (λ (ns : Names). Gives ns c.item_form.result (item_in c.args.levels c.args.names.now c.args.ts.now)) (sym c.item_form.ensures.back)
    (item_gives c.args.levels c.args.names.now c.args.ts.now c.item_form.result c.requires.room c.item_form.ensures.gives)
