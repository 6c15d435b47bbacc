use Rattle.std.proofs.Common.{true, false, Ok, sym, ap, subst, ◌∙◌}
use Rattle.nesc_tree.specs.Sorts.{ahead}
use Rattle.nesc_parse_types.specs.Gives.{Gives, place}
use Rattle.nesc_parse_types.proofs.Many.{tested}
use Rattle.nesc_declarators.specs.Parts as parts
use Rattle.nesc_declarators.proofs.Forms.{variables_case, no_variables}
use Rattle.nesc_declarators.proofs.locals.maybe_variables.Goals as goal

pub returns-then-begins_variable-clause-gives : goal.returns-then-begins_variable-clause-gives
returns-then-begins_variable-clause-gives c =
    let h = tested parts.begins_variable c.ahead.result (ahead c.args.names.now c.args.ts.now) true c.begins_variable.result c.ahead.ensures c.begins_variable.ensures c.if-begins_variable.true in
    subst (Gives c.variables.new.names c.variables.result) (sym (variables_case c.args.spare c.args.names.now c.args.ts.now h)) c.variables.ensures.gives

pub returns-else-begins_variable-clause-gives : goal.returns-else-begins_variable-clause-gives
returns-else-begins_variable-clause-gives c =
    let h = tested parts.begins_variable c.ahead.result (ahead c.args.names.now c.args.ts.now) false c.begins_variable.result c.ahead.ensures c.begins_variable.ensures c.if-begins_variable.false in
    no_variables c.args.spare c.args.names.now c.args.ts.now h ∙ ap (λ l. Ok (l, place c.args.names.now c.args.ts.now)) (sym c.no_list.ensures)
