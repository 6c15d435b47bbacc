use Rattle.std.proofs.Common.{◌∙◌}
use Rattle.nesc_core.proofs.PlaceLemmas.{ok_more}
use Rattle.nesc_core.specs.View.{program_of}
use Rattle.call_graph.proofs.Refusing.{last_is}
use Rattle.call_graph.proofs.refusals.last_place.Goals as goal

pub returns : goal.returns
returns c =
    ok_more _ _
    (λ o is. is ∙ last_is (program_of c.args.p.now) c.args.path.now c.in-Some.front.now c.in-Some-split_last.field-0-1.now c.in-Some-split_last.from.now c.in-Some.to.now c.in-Some.ensures.cases.0 c.in-Some-split_last.ensures.cases.0)
    c.place_between.result c.place_between.ensures
