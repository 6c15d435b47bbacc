use Rattle.std.proofs.Common.{◌≡◌, true}
use Rattle.nesc_tree.specs.declared.sorts.Sort.TheVariants as s
use Rattle.nesc_tree.specs.Sorts.{ahead, same_sort}
use Rattle.nesc_grammar.specs.Grammar as grammar
use Rattle.nesc_parse_types.specs.Gives.{form_in}
use Rattle.nesc_parse_types.proofs.Many.{tested, through}
use Rattle.nesc_parse_types.proofs.Bases.{some_read, some_fail}
use Rattle.nesc_parse_types.proofs.reader.Reader.some_fields.Goals as goal

pub returns-in_err-fields : goal.returns-in_err-fields
returns-in_err-fields g c =
    let h = tested (same_sort s.LBrace) c.ahead.result (ahead c.args.self.now.names.now c.args.ts.now) true c.same_sort.result c.ahead.ensures c.same_sort.ensures c.if-not-same_sort.false in
    through c.args.self.now.names.now c.from_residual.result c.in_err-fields.field-0.0 (form_in c.args.self.now.spare grammar.some_fields c.args.self.now.names.now c.args.ts.now) c.from_residual.ensures
    (some_fail c.args.self.now.spare c.args.self.now.names.now c.args.ts.now h c.in_err-fields.field-0.0 c.in_err-fields.ensures.gives)

pub returns : goal.returns
returns g c =
    let h = tested (same_sort s.LBrace) c.ahead.result (ahead c.args.self.now.names.now c.args.ts.now) true c.same_sort.result c.ahead.ensures c.same_sort.ensures c.if-not-same_sort.false in
    some_read c.args.self.now.spare c.args.self.now.names.now c.args.ts.now h c.in_ok-fields.fields c.in_ok-fields.rest.now c.in_ok-fields.ensures.gives
