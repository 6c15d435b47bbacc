use Rattle.std.proofs.Common.{true, false}
use Rattle.nesc_tree.specs.Phrase.{begins_expr}
use Rattle.nesc_tree.specs.Sorts.{ahead}
use Rattle.nesc_grammar.specs.Statements as spec
use Rattle.nesc_parse_types.specs.Gives.{form_in}
use Rattle.nesc_parse_types.proofs.Many.{tested}
use Rattle.nesc_simple_stmts.proofs.Guards.{through}
use Rattle.nesc_simple_stmts.proofs.LeftOut.{some_read, some_fails, none_case}
use Rattle.nesc_simple_stmts.proofs.simple.some_expr.Goals as goal

pub returns-in_err-found : goal.returns-in_err-found
returns-in_err-found c =
    let h = tested begins_expr c.ahead.result (ahead c.args.names.now c.args.ts.now) true c.begins_expr.result c.ahead.ensures c.begins_expr.ensures c.if-begins_expr.true in
    through c.args.names.now c.from_residual.result c.in_err-found.field-0.0 (form_in c.args.spare spec.some_expr c.args.names.now c.args.ts.now) c.from_residual.ensures
    (some_fails c.args.spare c.args.names.now c.args.ts.now h c.in_err-found.field-0.0 c.in_err-found.ensures)

pub returns-in_ok-found : goal.returns-in_ok-found
returns-in_ok-found c =
    let h = tested begins_expr c.ahead.result (ahead c.args.names.now c.args.ts.now) true c.begins_expr.result c.ahead.ensures c.begins_expr.ensures c.if-begins_expr.true in
    some_read c.args.spare c.args.names.now c.args.ts.now h c.in_ok-found.found c.in_ok-found.rest.now c.in_ok-found.ensures

pub returns-else-begins_expr : goal.returns-else-begins_expr
returns-else-begins_expr c =
    let h = tested begins_expr c.ahead.result (ahead c.args.names.now c.args.ts.now) false c.begins_expr.result c.ahead.ensures c.begins_expr.ensures c.if-begins_expr.false in
    none_case c.args.spare c.args.names.now c.args.ts.now h
