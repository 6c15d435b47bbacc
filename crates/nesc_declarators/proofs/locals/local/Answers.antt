use Rattle.std.proofs.Common.{◌<◌, arith}
use Rattle.nesc_declarators.proofs.Forms.{local_stops, local_gives}
use Rattle.nesc_declarators.proofs.locals.local.Goals as goal

pub returns-then-levels-eq0-clause-gives : goal.returns-then-levels-eq0-clause-gives
returns-then-levels-eq0-clause-gives c = local_stops c.args.levels c.args.names.now c.args.ts.now c.if-levels-eq0.true c.ahead.result c.ahead.ensures c.begins_local.result c.refused.result c.refused.ensures c.begins_local.ensures

pub returns-clause-gives : goal.returns-clause-gives
returns-clause-gives c =
    let l : 0 < c.args.levels = omega (arith, c.if-levels-eq0.false) in
    local_gives c.args.levels c.args.names.now c.local_of.new.names c.args.ts.now c.local_of.result l c.local_of.ensures.gives
