use Rattle.std.proofs.Common.{true, false, refl, sym, subst, ◌∙◌}
use Rattle.nesc_tree.specs.Phrase.{begins_type}
use Rattle.nesc_tree.specs.Sorts.{ahead}
use Rattle.nesc_parse_types.specs.Gives.{Gives}
use Rattle.nesc_parse_types.proofs.Many.{tested}
use Rattle.nesc_parse_stmts.proofs.Loops.{variables_case, nothing_case, value_case}
use Rattle.nesc_parse_stmts.proofs.for_heads.for_start.Goals as goal

pub returns-then-begins_type-clause-gives : goal.returns-then-begins_type-clause-gives
returns-then-begins_type-clause-gives c =
    let h = tested begins_type c.ahead-first.result (ahead c.args.names.now c.args.ts.now) true c.begins_type.result c.ahead-first.ensures c.begins_type.ensures c.if-begins_type.true in
    subst (Gives c.for_variables.new.names c.for_variables.result) (sym (variables_case c.args.spare c.args.names.now c.args.ts.now h)) c.for_variables.ensures.gives

pub returns-in-Semi-clause-gives : goal.returns-in-Semi-clause-gives
returns-in-Semi-clause-gives c = subst (Gives c.args.names.now c.no_start.result) (sym (nothing_case c.args.spare c.args.names.now c.args.ts.now (sym c.ahead-first.ensures ∙ c.in-Semi.is))) (c.no_start.ensures c.args.spare)

pub returns-in_default : goal.returns-in_default
returns-in_default c =
    let h = tested begins_type c.ahead-first.result (ahead c.args.names.now c.args.ts.now) false c.begins_type.result c.ahead-first.ensures c.begins_type.ensures c.if-begins_type.false in
    record { gives = subst (Gives c.args.names.now c.value_start.result) (sym (value_case c.args.spare c.args.names.now c.args.ts.now h (λ e. c.in_default.not-Semi (c.ahead-first.ensures ∙ e)))) c.value_start.ensures; noted = refl }
