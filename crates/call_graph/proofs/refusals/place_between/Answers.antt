use Rattle.std.proofs.Common.{map, ap, sym, ◌∙◌}
use Rattle.call_graph.specs.View.{use_of}
use Rattle.call_graph.specs.Refusals.{call_place}
use Rattle.call_graph.proofs.Graphs.{uses_at, no_uses}
use Rattle.call_graph.proofs.Tables.{counted_body}
use Rattle.call_graph.proofs.refusals.place_between.Goals as goal

pub uses_in-requires : goal.uses_in-requires
uses_in-requires c =
    counted_body c.args.p.now c.as_slice.result.now c.args.from c.in-Some.body.now c.requires c.as_slice.ensures c.in-Some.ensures.lookup.3.0 c.in-Some.ensures.lookup.1

pub returns-in-None : goal.returns-in-None
returns-in-None c =
    sym (ap (λ us. call_place us c.args.to) (no_uses c.args.p.now c.as_slice.result.now c.args.from c.as_slice.ensures c.in-None.ensures.lookup.3))

pub returns-in_ok-uses_in-in-Some : goal.returns-in_ok-uses_in-in-Some
returns-in_ok-uses_in-in-Some c =
    c.call_place.ensures
    ∙ ap (λ us. call_place us c.args.to)
    (ap (map use_of) c.deref.ensures.value ∙ c.in_ok-uses_in-in-Some.ensures
    ∙ sym (uses_at c.args.p.now c.as_slice.result.now c.args.from c.in-Some.body.now c.as_slice.ensures c.in-Some.ensures.lookup.3.0 c.in-Some.ensures.lookup.1))
