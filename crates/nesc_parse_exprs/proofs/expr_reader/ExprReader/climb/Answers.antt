use Rattle.std.proofs.Common.{◌≡◌, suc, length, true, false, refl}
use Rattle.nesc_tree.specs.Sorts.{ahead}
use Rattle.nesc_tree.specs.Form.{goes}
use Rattle.nesc_grammar.specs.Grammar.{may, fits}
use Rattle.nesc_parse_types.proofs.Many.{tested, through}
use Rattle.nesc_parse_exprs.specs.Turns.{climb_in}
use Rattle.nesc_parse_exprs.proofs.Climb.{begins, ends, goes_on, shorter, fails}
use Rattle.nesc_parse_exprs.proofs.expr_reader.ExprReader.climb.Goals as goal

pub loop-left-init : goal.loop-left-init
loop-left-init g c = begins c.args.self.now.reader.spare c.args.least c.args.self.now.reader.names.now c.args.first c.args.ts.now (climb_in c.args.self.now.reader.spare c.args.least (suc (length c.args.ts.now)) c.args.self.now.reader.names.now c.args.first c.args.ts.now) refl

pub loop-left-preserved : goal.loop-left-preserved
loop-left-preserved g c =
    let h = tested (goes (may c.args.least) fits c.loop-left.left) c.ahead.result (ahead c.args.self.now.reader.names.now c.loop-left.rest.now) true c.goes_on.result c.ahead.ensures c.goes_on.ensures c.loop-left-test.true in
    goes_on c.args.self.now.reader.spare c.args.least c.args.self.now.reader.names.now c.loop-left.left c.loop-left.rest.now (climb_in c.args.self.now.reader.spare c.args.least (suc (length c.args.ts.now)) c.args.self.now.reader.names.now c.args.first c.args.ts.now) c.loop-left.invariant h c.in_ok-longer.longer c.in_ok-longer.behind.now c.in_ok-longer.ensures

pub loop-left-smaller : goal.loop-left-smaller
loop-left-smaller g c =
    let h = tested (goes (may c.args.least) fits c.loop-left.left) c.ahead.result (ahead c.args.self.now.reader.names.now c.loop-left.rest.now) true c.goes_on.result c.ahead.ensures c.goes_on.ensures c.loop-left-test.true in
    shorter c.args.self.now.reader.spare c.args.least c.args.self.now.reader.names.now c.loop-left.left c.loop-left.rest.now h c.in_ok-longer.longer c.in_ok-longer.behind.now c.in_ok-longer.ensures

pub returns-in_err-longer : goal.returns-in_err-longer
returns-in_err-longer g c =
    let whole = climb_in c.args.self.now.reader.spare c.args.least (suc (length c.args.ts.now)) c.args.self.now.reader.names.now c.args.first c.args.ts.now in
    let h = tested (goes (may c.args.least) fits c.loop-left.left) c.ahead.result (ahead c.args.self.now.reader.names.now c.loop-left.rest.now) true c.goes_on.result c.ahead.ensures c.goes_on.ensures c.loop-left-test.true in
    through c.args.self.now.reader.names.now c.from_residual.result c.in_err-longer.field-0.0 whole c.from_residual.ensures
    (fails c.args.self.now.reader.spare c.args.least c.args.self.now.reader.names.now c.loop-left.left c.loop-left.rest.now whole c.loop-left.invariant h c.in_err-longer.field-0.0 c.in_err-longer.ensures)

pub returns : goal.returns
returns g c =
    let h = tested (goes (may c.args.least) fits c.loop-left.left) c.ahead.result (ahead c.args.self.now.reader.names.now c.loop-left.rest.now) false c.goes_on.result c.ahead.ensures c.goes_on.ensures c.loop-left-test.false in
    ends c.args.self.now.reader.spare c.args.least c.args.self.now.reader.names.now c.loop-left.left c.loop-left.rest.now (climb_in c.args.self.now.reader.spare c.args.least (suc (length c.args.ts.now)) c.args.self.now.reader.names.now c.args.first c.args.ts.now) c.loop-left.invariant h
