use Rattle.std.proofs.Common.{true, false, Ok, sym, ap, subst, ◌∙◌}
use Rattle.nesc_tree.specs.Sorts.{ahead}
use Rattle.nesc_parse_types.specs.Gives.{Gives, place}
use Rattle.nesc_parse_types.proofs.Many.{tested}
use Rattle.nesc_specifications.specs.Parts as parts
use Rattle.nesc_specifications.proofs.Forms.{parameters_case, no_parameters}
use Rattle.nesc_specifications.proofs.generics.maybe_params.Goals as goal

pub returns-then-begins_param-clause-gives : goal.returns-then-begins_param-clause-gives
returns-then-begins_param-clause-gives c =
    let h = tested parts.begins_parameter c.ahead.result (ahead c.args.names.now c.args.ts.now) true c.begins_param.result c.ahead.ensures c.begins_param.ensures c.if-begins_param.true in
    subst (Gives c.some_params.new.names c.some_params.result) (sym (parameters_case c.args.spare c.args.names.now c.args.ts.now h c.requires.room)) c.some_params.ensures.gives

pub returns-else-begins_param-clause-gives : goal.returns-else-begins_param-clause-gives
returns-else-begins_param-clause-gives c =
    let h = tested parts.begins_parameter c.ahead.result (ahead c.args.names.now c.args.ts.now) false c.begins_param.result c.ahead.ensures c.begins_param.ensures c.if-begins_param.false in
    no_parameters c.args.spare c.args.names.now c.args.ts.now h c.requires.room ∙ ap (λ l. Ok (l, place c.args.names.now c.args.ts.now)) (sym c.no_list.ensures)
