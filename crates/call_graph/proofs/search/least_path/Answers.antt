use Rattle.std.proofs.Common.{true, false}
use Rattle.call_graph.proofs.Walking.{any_is, far_behind, none_more, found_path, no_path_found}
use Rattle.call_graph.proofs.search.least_path.Goals as goal

pub path-requires-clause-there : goal.path-requires-clause-there
path-requires-clause-there c =
    any_is c.args.table.now c.args.ends.now c.requires.ends c.args.roots.now c.loop-calls.far.items c.loop-calls.calls c.loop-calls.invariant.0 c.deref.result.now c.deref.ensures.value
    c.loop-calls.invariant.1 c.any_at.result c.any_at.ensures true c.if-any_at.true

pub returns-then-any_at : goal.returns-then-any_at
returns-then-any_at c =
    found_path c.args.table.now c.args.ends.now c.requires.ends c.args.roots.now c.loop-calls.calls c.args.bound c.in_ok-path.field-0.items c.loop-calls-test.true
    (any_is c.args.table.now c.args.ends.now c.requires.ends c.args.roots.now c.loop-calls.far.items c.loop-calls.calls c.loop-calls.invariant.0 c.deref.result.now c.deref.ensures.value
    c.loop-calls.invariant.1 c.any_at.result c.any_at.ensures true c.if-any_at.true)
    c.loop-calls.invariant.1 c.in_ok-path.ensures

pub loop-calls-preserved : goal.loop-calls-preserved
loop-calls-preserved c = (
  far_behind c.args.table.now c.args.ends.now c.requires.ends c.args.roots.now c.loop-calls.far.items c.loop-calls.calls c.loop-calls.invariant.0 c.deref-in-loop-calls.result.now
      c.deref-in-loop-calls.ensures.value c.in_ok-far-2.far.items c.in_ok-far-2.ensures,
  none_more c.args.table.now c.args.ends.now c.requires.ends c.args.roots.now c.loop-calls.calls c.loop-calls.invariant.1
      (any_is c.args.table.now c.args.ends.now c.requires.ends c.args.roots.now c.loop-calls.far.items c.loop-calls.calls c.loop-calls.invariant.0 c.deref.result.now c.deref.ensures.value
      c.loop-calls.invariant.1 c.any_at.result c.any_at.ensures false c.if-any_at.false),
)

pub returns : goal.returns
returns c = no_path_found c.args.table.now c.args.ends.now c.requires.ends c.args.roots.now c.loop-calls.calls c.args.bound c.loop-calls-test.false c.loop-calls.invariant.1
