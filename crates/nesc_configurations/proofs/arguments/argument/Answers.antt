use Rattle.std.proofs.Common.{sym, subst}
use Rattle.nesc_tree.specs.declared.sorts.Sort.{Sort}
use Rattle.nesc_grammar.specs.Components as spec
use Rattle.nesc_parse_types.specs.Gives.{Gives, form_in, place}
use Rattle.nesc_specifications.proofs.Forms.{by_is}
use Rattle.nesc_configurations.proofs.arguments.argument.Goals as goal

pub returns : goal.returns
returns c =
    subst (Gives c.args.names.now c.argument_of.result) (sym (by_is c.args.spare spec.generic_argument_of (place c.args.names.now c.args.ts.now) c.requires.room))
    (subst (λ (x : Sort). Gives c.args.names.now c.argument_of.result (form_in c.args.spare (spec.generic_argument_of x) c.args.names.now c.args.ts.now)) c.ahead-first.ensures c.argument_of.ensures)
