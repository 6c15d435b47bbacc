use Rattle.std.proofs.Common.{sym, subst, ◌∙◌}
use Rattle.nesc_parse_types.specs.Gives.{Gives}
use Rattle.nesc_parse_decls.proofs.Cases.{text_case, value_case}
use Rattle.nesc_parse_decls.proofs.attribute_reader.argument.Goals as goal

pub returns-in-Text : goal.returns-in-Text
returns-in-Text c = subst (Gives c.args.names.now c.text.result) (sym (text_case c.args.spare c.args.names.now c.args.ts.now (sym c.ahead.ensures ∙ c.in-Text.is))) (c.text.ensures c.args.spare)

pub returns-in_default : goal.returns-in_default
returns-in_default c = subst (Gives c.args.names.now c.value.result) (sym (value_case c.args.spare c.args.names.now c.args.ts.now (λ e. c.in_default.not-Text (c.ahead.ensures ∙ e)))) c.value.ensures
