use Rattle.std.proofs.Common.{sym, subst}
use Rattle.nesc_tree.specs.declared.sorts.Sort.{Sort}
use Rattle.nesc_grammar.specs.Components as spec
use Rattle.nesc_parse_types.specs.Gives.{Gives, form_in, place}
use Rattle.nesc_specifications.proofs.Forms.{by_is}
use Rattle.nesc_specifications.proofs.generics.param.Goals as goal

pub returns-clause-gives : goal.returns-clause-gives
returns-clause-gives c =
    subst (Gives c.param_of.new.names c.param_of.result) (sym (by_is c.args.spare spec.generic_parameter_of (place c.args.names.now c.args.ts.now) c.requires.room))
    (subst (λ (x : Sort). Gives c.param_of.new.names c.param_of.result (form_in c.args.spare (spec.generic_parameter_of x) c.args.names.now c.args.ts.now)) c.ahead-first.ensures c.param_of.ensures.gives)
