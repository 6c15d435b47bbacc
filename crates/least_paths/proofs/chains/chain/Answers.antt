use Rattle.std.proofs.Common.{sym, ◌∙◌}
use Rattle.least_paths.proofs.Reading.{begun, on, ended, never}
use Rattle.least_paths.proofs.chains.chain.Goals as goal

pub loop-init : goal.loop-init
loop-init c = begun c.args.ways.now c.args.f c.new-bodies.result.items c.new-bodies.ensures.items c.requires

pub returns-in-None : goal.returns-in-None
returns-in-None c =
    ended c.args.ways.now c.args.f c.loop.bodies.items c.push.new.self.items _ c.loop.at c.loop.counter c.loop.invariant c.in_ok-push.ensures.items (sym c.caller_of.ensures ∙ c.in-None.is) c.reverse.ensures.items

pub loop-preserved : goal.loop-preserved
loop-preserved c = on c.args.ways.now c.args.f c.loop.bodies.items c.push.new.self.items c.loop.at c.loop.counter c.in-Some.caller c.loop.invariant c.in_ok-push.ensures.items (sym c.caller_of.ensures ∙ c.in-Some.is)

pub returns : goal.returns
returns c = λ back ends traced. absurd (never c.args.ways.now c.args.f c.loop.bodies.items c.loop.at c.loop.counter c.loop.invariant c.loop-test.false)
