use Rattle.std.proofs.Common.{true, false, sym, subst}
use Rattle.nesc_tree.specs.Sorts.{Names, ahead}
use Rattle.nesc_tree.specs.Phrase.{begins_type, begins_expr}
use Rattle.nesc_parse_types.specs.Gives.{form_in}
use Rattle.nesc_parse_types.proofs.Many.{tested}
use Rattle.nesc_heads.specs.Gives.{GivesAs}
use Rattle.nesc_declarations.specs.Forms as forms
use Rattle.nesc_declarations.specs.Views.{behind_of}
use Rattle.nesc_declarations.proofs.Forms.{type_behind, size_behind, none_behind}
use Rattle.nesc_declarations.proofs.first_variables.behind_bracket.Goals as goal

pub returns-then-begins_type-clause-gives : goal.returns-then-begins_type-clause-gives
returns-then-begins_type-clause-gives c =
    let h = tested begins_type c.ahead-first.result (ahead c.args.names.now c.args.ts.now) true c.begins_type.result c.ahead-first.ensures c.begins_type.ensures c.if-begins_type.true in
    subst (λ (ns : Names). GivesAs behind_of ns c.bracketed_function.result (form_in c.args.spare forms.behind_bracket c.args.names.now c.args.ts.now)) (sym c.bracketed_function.ensures.back)
    (subst (GivesAs behind_of c.args.names.now c.bracketed_function.result) (sym (type_behind c.args.spare c.args.names.now c.args.ts.now h c.requires.room)) c.bracketed_function.ensures.gives)

pub returns-then-begins_expr-clause-gives : goal.returns-then-begins_expr-clause-gives
returns-then-begins_expr-clause-gives c =
    let h = tested begins_type c.ahead-first.result (ahead c.args.names.now c.args.ts.now) false c.begins_type.result c.ahead-first.ensures c.begins_type.ensures c.if-begins_type.false in
    let k = tested begins_expr c.ahead-first.result (ahead c.args.names.now c.args.ts.now) true c.begins_expr.result c.ahead-first.ensures c.begins_expr.ensures c.if-begins_expr.true in
    subst (GivesAs behind_of c.dimensioned.new.names c.dimensioned.result) (sym (size_behind c.args.spare c.args.names.now c.args.ts.now h k c.requires.room)) c.dimensioned.ensures.gives

pub returns-clause-gives : goal.returns-clause-gives
returns-clause-gives c =
    let h = tested begins_type c.ahead-first.result (ahead c.args.names.now c.args.ts.now) false c.begins_type.result c.ahead-first.ensures c.begins_type.ensures c.if-begins_type.false in
    let k = tested begins_expr c.ahead-first.result (ahead c.args.names.now c.args.ts.now) false c.begins_expr.result c.ahead-first.ensures c.begins_expr.ensures c.if-begins_expr.false in
    none_behind c.args.spare c.args.names.now c.args.ts.now h k c.requires.room
