use Rattle.std.proofs.Common.{refl, sym, subst, ◌∙◌}
use Rattle.nesc_parse_types.specs.Gives.{Gives}
use Rattle.nesc_specifications.proofs.Forms.{type_case, value_case, no_case}
use Rattle.nesc_specifications.proofs.generics.param_of.Goals as goal

pub returns-in-Typedef-clause-gives : goal.returns-in-Typedef-clause-gives
returns-in-Typedef-clause-gives c = subst (Gives c.type_param_form.new.names c.type_param_form.result) (sym (type_case c.args.spare c.args.names.now c.args.ts.now c.args.first c.in-Typedef.is)) c.type_param_form.ensures.gives

pub returns-then-begins_type-clause-gives : goal.returns-then-begins_type-clause-gives
returns-then-begins_type-clause-gives c =
    subst (Gives c.value_param_form.new.names c.value_param_form.result) (sym (value_case c.args.spare c.args.names.now c.args.ts.now c.args.first (sym c.begins_type.ensures ∙ c.if-begins_type.true))) c.value_param_form.ensures.gives

pub returns-else-begins_type : goal.returns-else-begins_type
returns-else-begins_type c = record { gives = no_case c.args.spare c.args.names.now c.args.ts.now c.args.first (sym c.begins_type.ensures ∙ c.if-begins_type.false) c.in_default.not-Typedef; noted = refl }
