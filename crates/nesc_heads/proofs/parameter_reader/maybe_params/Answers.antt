use Rattle.std.proofs.Common.{true, false, Ok, sym, ap, subst, ◌∙◌}
use Rattle.nesc_tree.specs.Sorts.{ahead}
use Rattle.nesc_tree.specs.Phrase.{begins_type}
use Rattle.nesc_parse_types.specs.Gives.{Gives, place}
use Rattle.nesc_parse_types.proofs.Many.{tested}
use Rattle.nesc_heads.proofs.Forms.{params_case, no_params}
use Rattle.nesc_heads.proofs.parameter_reader.maybe_params.Goals as goal

pub returns-then-begins_type-clause-gives : goal.returns-then-begins_type-clause-gives
returns-then-begins_type-clause-gives c =
    let h = tested begins_type c.ahead.result (ahead c.args.names.now c.args.ts.now) true c.begins_type.result c.ahead.ensures c.begins_type.ensures c.if-begins_type.true in
    subst (Gives c.some_params.new.names c.some_params.result) (sym (params_case c.args.spare c.args.names.now c.args.ts.now h)) c.some_params.ensures.gives

pub returns-else-begins_type-clause-gives : goal.returns-else-begins_type-clause-gives
returns-else-begins_type-clause-gives c =
    let h = tested begins_type c.ahead.result (ahead c.args.names.now c.args.ts.now) false c.begins_type.result c.ahead.ensures c.begins_type.ensures c.if-begins_type.false in
    no_params c.args.spare c.args.names.now c.args.ts.now h ∙ ap (λ l. Ok (l, place c.args.names.now c.args.ts.now)) (sym c.no_list.ensures)
