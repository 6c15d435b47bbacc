use Rattle.std.proofs.Common.{◌<◌, ◌≤◌, length, ap, ◌+◌, map, arith}
use Rattle.elab_meaning.specs.View.{state_of}
use Rattle.wire_scopes.specs.Keys.{types_in}
use Rattle.wire_scopes.specs.View.{base_view}
use Rattle.wire_elements.specs.View.{seen_of}
use Rattle.wire_told.specs.View.{application_of, survey_of}
use Rattle.wire_told.proofs.Steps.{line_passed, line_refused, lines_end}
use Rattle.wire_told.proofs.instances.lines_told.Goals as goal

pub returns-then-not-behind : goal.returns-then-not-behind
returns-then-not-behind c =
    let h : c.loop-conf.conf-index < length c.args.lines.now = omega (arith, c.loop-conf-test.true) in
    line_refused (application_of c.args.app.now.sources.now) (base_view c.args.app.now.base) c.args.instance c.loop-conf.line c.args.lines.now c.loop-conf.conf-index c.conf-item.result
    (survey_of c.loop-conf.sight) (state_of c.loop-conf.sight.work) c.loop-conf.told.items c.push.new.self.items _ c.in_ok-behind.behind.facts (map seen_of c.line_told.new.sight.seen.items)
    (types_in c.line_told.new.sight.types, state_of c.line_told.new.sight.work) c.in_ok-behind.behind.goes_on
    c.loop-conf.invariant.rest h c.conf-item.is c.in_ok-behind.ensures c.if-not-behind.true c.in_ok-push.ensures.items

pub loop-conf-preserved : goal.loop-conf-preserved
loop-conf-preserved c =
    let h : c.loop-conf.conf-index < length c.args.lines.now = omega (arith, c.loop-conf-test.true) in
    record {
      counted = ap (λ k. k + 1) c.loop-conf.invariant.counted;
      rest = line_passed (application_of c.args.app.now.sources.now) (base_view c.args.app.now.base) c.args.instance c.loop-conf.line c.args.lines.now c.loop-conf.conf-index c.conf-item.result
          (survey_of c.loop-conf.sight) (state_of c.loop-conf.sight.work) c.loop-conf.told.items c.push.new.self.items _ c.in_ok-behind.behind.facts (map seen_of c.line_told.new.sight.seen.items)
          (types_in c.line_told.new.sight.types, state_of c.line_told.new.sight.work) c.in_ok-behind.behind.goes_on
          c.loop-conf.invariant.rest h c.conf-item.is c.in_ok-behind.ensures c.if-not-behind.false c.in_ok-push.ensures.items;
    }

pub returns : goal.returns
returns c =
    let h : length c.args.lines.now ≤ c.loop-conf.conf-index = omega (arith, c.loop-conf-test.false) in
    lines_end (application_of c.args.app.now.sources.now) (base_view c.args.app.now.base) c.args.instance c.loop-conf.line c.args.lines.now c.loop-conf.conf-index
    (survey_of c.loop-conf.sight) (state_of c.loop-conf.sight.work) c.loop-conf.told.items _ c.loop-conf.invariant.rest h
