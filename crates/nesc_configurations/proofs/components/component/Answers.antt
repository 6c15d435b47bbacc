use Rattle.std.proofs.Common.{sym, subst}
use Rattle.nesc_tree.specs.declared.sorts.Sort.{Sort}
use Rattle.nesc_grammar.specs.Components as spec
use Rattle.nesc_parse_types.specs.Gives.{Gives, form_in, place}
use Rattle.nesc_specifications.proofs.Forms.{by_is}
use Rattle.nesc_configurations.proofs.components.component.Goals as goal

pub returns : goal.returns
returns c =
    subst (Gives c.args.names.now c.component_at.result) (sym (by_is c.args.spare spec.component_of (place c.args.names.now c.args.ts.now) c.requires.room))
    (subst (λ (x : Sort). Gives c.args.names.now c.component_at.result (form_in c.args.spare (spec.component_of x) c.args.names.now c.args.ts.now)) c.ahead-first.ensures c.component_at.ensures)
