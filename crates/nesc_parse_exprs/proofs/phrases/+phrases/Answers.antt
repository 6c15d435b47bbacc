use Rattle.std.proofs.Common.{◌≡◌, arith}
use Rattle.nesc_parse_exprs.proofs.Levels.{expr_stops, opened_stops, fields_stop, expr_gives, opened_gives, fields_give}
use Rattle.nesc_parse_exprs.proofs.phrases.+phrases.Goals as goal

pub expr-returns-then-levels-eq0 : goal.expr-returns-then-levels-eq0
expr-returns-then-levels-eq0 t c = expr_stops c.args.names.now c.args.ts.now c.args.levels c.if-levels-eq0.true c.ahead.result c.ahead.ensures c.begins_expr.result c.refused.result c.refused.ensures c.args.least c.begins_expr.ensures

pub expr-returns : goal.expr-returns
expr-returns t c = expr_gives c.args.names.now c.args.ts.now c.args.levels c.args.least c.expr_of.result (omega (arith, c.if-levels-eq0.false)) c.expr_of.ensures

pub opened-returns-then-levels-eq0 : goal.opened-returns-then-levels-eq0
opened-returns-then-levels-eq0 t c = opened_stops c.args.names.now c.args.ts.now c.args.levels c.if-levels-eq0.true c.ahead.result c.ahead.ensures c.begins_expr.result c.refused.result c.refused.ensures c.args.opening.now c.begins_expr.ensures

pub opened-returns : goal.opened-returns
opened-returns t c = opened_gives c.args.names.now c.args.ts.now c.args.levels c.args.opening.now c.opened_of.result (omega (arith, c.if-levels-eq0.false)) c.opened_of.ensures

pub fields-returns-then-levels-eq0 : goal.fields-returns-then-levels-eq0
fields-returns-then-levels-eq0 t c = fields_stop c.args.names.now c.args.ts.now c.args.levels c.if-levels-eq0.true c.ahead.result c.ahead.ensures c.begins_fields.result c.refused.result c.refused.ensures c.begins_fields.ensures

pub fields-returns : goal.fields-returns
fields-returns t c = fields_give c.args.names.now c.args.ts.now c.args.levels c.struct_fields.result (omega (arith, c.if-levels-eq0.false)) c.struct_fields.ensures
