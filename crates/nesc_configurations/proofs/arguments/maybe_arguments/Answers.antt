use Rattle.std.proofs.Common.{true, false, Ok, sym, ap, subst, ◌∙◌}
use Rattle.nesc_tree.specs.Sorts.{ahead}
use Rattle.nesc_parse_types.specs.Gives.{Gives, place}
use Rattle.nesc_parse_types.proofs.Many.{tested}
use Rattle.nesc_configurations.specs.Parts as parts
use Rattle.nesc_configurations.proofs.Forms.{arguments_case, no_arguments}
use Rattle.nesc_configurations.proofs.arguments.maybe_arguments.Goals as goal

pub returns-then-begins_argument : goal.returns-then-begins_argument
returns-then-begins_argument c =
    let h = tested parts.begins_argument c.ahead.result (ahead c.args.names.now c.args.ts.now) true c.begins_argument.result c.ahead.ensures c.begins_argument.ensures c.if-begins_argument.true in
    subst (Gives c.args.names.now c.some_arguments.result) (sym (arguments_case c.args.spare c.args.names.now c.args.ts.now h c.requires.room)) c.some_arguments.ensures

pub returns-else-begins_argument : goal.returns-else-begins_argument
returns-else-begins_argument c =
    let h = tested parts.begins_argument c.ahead.result (ahead c.args.names.now c.args.ts.now) false c.begins_argument.result c.ahead.ensures c.begins_argument.ensures c.if-begins_argument.false in
    no_arguments c.args.spare c.args.names.now c.args.ts.now h c.requires.room ∙ ap (λ l. Ok (l, place c.args.names.now c.args.ts.now)) (sym c.no_list.ensures)
