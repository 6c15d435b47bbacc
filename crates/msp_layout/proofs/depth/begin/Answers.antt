-- A function that is begun.
use Rattle.std.proofs.Common.{◌≡◌, arith, sym, ◌∙◌}
use Rattle.std.proofs.lemmas.List.{get_or_default}
use Rattle.msp_layout.specs.Search.{IsNew, visit_at}
use Rattle.msp_layout.proofs.Searching.{begins, fewer_begun}
use Rattle.msp_layout.proofs.depth.begin.Goals as goal

pub returns-in_ok-push-clause-search : goal.returns-in_ok-push-clause-search
returns-in_ok-push-clause-search c =
    let e : visit_at c.args.visits.now.items c.args.f ≡ c.index.result.now = get_or_default c.args.visits.now.items c.args.f _ _ (omega (arith, c.requires.search.len)) ∙ sym c.index.ensures in
    let new : IsNew (visit_at c.args.visits.now.items c.args.f) = rw e (c.is_new.ensures.new c.if-is_new.true) in
    rw c.in_ok-push.ensures.items (begins c.args.code.now c.args.visits.now.items c.args.trail.now.items c.args.f c.requires.search c.requires.within new c.requires.called)

pub returns-in_ok-push-clause-fewer : goal.returns-in_ok-push-clause-fewer
returns-in_ok-push-clause-fewer c = λ new. fewer_begun c.args.code.now c.args.visits.now.items c.args.f c.requires.within c.requires.search.len new
