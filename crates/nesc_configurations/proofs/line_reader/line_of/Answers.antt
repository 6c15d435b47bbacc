use Rattle.std.proofs.Common.{refl, sym, subst, ◌∙◌}
use Rattle.nesc_parse_types.specs.Gives.{Gives}
use Rattle.nesc_configurations.proofs.Forms.{components_case, word_case, type_name_case, typedef_case, type_line_case, no_case}
use Rattle.nesc_configurations.proofs.line_reader.line_of.Goals as goal

pub returns-in-Components-clause-gives : goal.returns-in-Components-clause-gives
returns-in-Components-clause-gives c = subst (Gives c.args.names.now c.components_line.result) (sym (components_case c.args.spare c.args.names.now c.args.ts.now c.args.first c.in-Components.is)) c.components_line.ensures

pub returns-in-Word-clause-gives : goal.returns-in-Word-clause-gives
returns-in-Word-clause-gives c = subst (Gives c.args.names.now c.word_line.result) (sym (word_case c.args.spare c.args.names.now c.args.ts.now c.args.first c.in-Word.is)) c.word_line.ensures

pub returns-in-TypeName-clause-gives : goal.returns-in-TypeName-clause-gives
returns-in-TypeName-clause-gives c = subst (Gives c.args.names.now c.type_name_line.result) (sym (type_name_case c.args.spare c.args.names.now c.args.ts.now c.args.first c.in-TypeName.is)) c.type_name_line.ensures

pub returns-in-Typedef-clause-gives : goal.returns-in-Typedef-clause-gives
returns-in-Typedef-clause-gives c = subst (Gives c.typedef_line.new.names c.typedef_line.result) (sym (typedef_case c.args.spare c.args.names.now c.args.ts.now c.args.first c.in-Typedef.is)) c.typedef_line.ensures.gives

pub returns-then-begins_type-clause-gives : goal.returns-then-begins_type-clause-gives
returns-then-begins_type-clause-gives c = subst (Gives c.args.names.now c.type_line.result) (sym (type_line_case c.args.spare c.args.names.now c.args.ts.now c.args.first (sym c.begins_type.ensures ∙ c.if-begins_type.true) c.in_default.not-TypeName)) c.type_line.ensures

pub returns-else-begins_type : goal.returns-else-begins_type
returns-else-begins_type c = record { gives = no_case c.args.spare c.args.names.now c.args.ts.now c.args.first (sym c.begins_type.ensures ∙ c.if-begins_type.false) c.in_default.not-Components c.in_default.not-Word c.in_default.not-Typedef; noted = refl }
