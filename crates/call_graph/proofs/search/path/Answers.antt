use Rattle.std.proofs.Common.{◌-◌}
use Rattle.call_graph.proofs.Walking.{begin, arrived, goes_on, stopped, one_before, is_none}
use Rattle.call_graph.proofs.search.path.Goals as goal

pub loop-body-init : goal.loop-body-init
loop-body-init c = begin c.args.table.now c.args.ends.now c.args.calls c.args.roots.now c.requires.first c.new-bodies.result.items c.new-bodies.ensures.items

pub returns-then-left-eq0 : goal.returns-then-left-eq0
returns-then-left-eq0 c =
    arrived c.args.table.now c.args.ends.now c.args.calls c.args.roots.now c.requires.ends c.args.far.now c.requires.far c.loop-body.bodies.items c.loop-body.from.now c.loop-body.left
    c.loop-body.invariant c.if-left-eq0.true c.least_at.result c.in-Some.body c.push.new.self.items c.least_at.ensures c.in-Some.is c.in_ok-push.ensures.items

pub loop-body-preserved : goal.loop-body-preserved
loop-body-preserved c =
    goes_on c.args.table.now c.args.ends.now c.args.calls c.args.roots.now c.requires.ends c.args.far.now c.requires.far c.loop-body.bodies.items c.loop-body.from.now c.row-from.result.now
    c.loop-body.left (c.loop-body.left - 1) c.loop-body.invariant (one_before c.loop-body.left c.if-left-eq0.false) c.least_at.result c.in-Some.body c.push.new.self.items c.least_at.ensures
    c.in-Some.is c.in_ok-push.ensures.items c.row-from.ensures

pub returns : goal.returns
returns c =
    stopped c.args.table.now c.args.ends.now c.args.calls c.args.roots.now c.requires.ends c.args.far.now c.requires.far c.loop-body.bodies.items c.loop-body.from.now c.loop-body.left
    c.loop-body.invariant c.least_at.result c.least_at.ensures (is_none c.least_at.result c.in_default.not-Some)
