use Rattle.std.proofs.Common.{refl, sym, subst, ◌∙◌}
use Rattle.nesc_parse_types.specs.Gives.{Gives}
use Rattle.nesc_heads.proofs.Forms.{word_case, type_name_case, unnamed_case}
use Rattle.nesc_heads.proofs.parameter_reader.parameter.Goals as goal

pub returns-in-Word-clause-gives : goal.returns-in-Word-clause-gives
returns-in-Word-clause-gives c = subst (Gives c.named_parameter.new.names c.named_parameter.result) (sym (word_case c.args.spare c.args.names.now c.args.ts.now (sym c.ahead.ensures ∙ c.in-Word.is))) c.named_parameter.ensures.gives

pub returns-in-TypeName-clause-gives : goal.returns-in-TypeName-clause-gives
returns-in-TypeName-clause-gives c =
    subst (Gives c.named_parameter-in-TypeName.new.names c.named_parameter-in-TypeName.result) (sym (type_name_case c.args.spare c.args.names.now c.args.ts.now (sym c.ahead.ensures ∙ c.in-TypeName.is))) c.named_parameter-in-TypeName.ensures.gives

pub returns-in_default : goal.returns-in_default
returns-in_default c =
    record {
      gives = subst (Gives c.args.names.now c.unnamed_parameter.result) (sym (unnamed_case c.args.names.now c.args.ts.now c.args.spare c.ahead.result (sym c.ahead.ensures) c.in_default.not-Word c.in_default.not-TypeName)) c.unnamed_parameter.ensures;
      noted = refl;
    }
