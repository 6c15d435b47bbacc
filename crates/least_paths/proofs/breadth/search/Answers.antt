use Rattle.std.proofs.Common.{refl, sym, subst}
use Rattle.least_paths.specs.declared.ways.Way.TheVariants.{CalledBy}
use Rattle.least_paths.specs.Ascending.{IsArranged}
use Rattle.least_paths.proofs.Steps.{started, went_on, ended, falls, nothing_left}
use Rattle.least_paths.proofs.breadth.search.Goals as goal

pub loop-f-init : goal.loop-f-init
loop-f-init c =
    started c.args.table.now c.args.roots.now c.deref.result.now c.in_ok-ways.ways.items _ c.new-order.result.items c.new-waiting.result.items _ c.in_ok-ways.ensures c.new-waiting.ensures.items c.new-order.ensures.items
    (subst (IsArranged c.args.roots.now) (sym c.deref.ensures.value) c.in_ok-first.ensures) c.in_ok-visit.ensures.ways c.in_ok-visit.ensures.waiting

pub loop-f-smaller : goal.loop-f-smaller
loop-f-smaller c =
    falls (CalledBy c.in-Some.f) c.deref-in-Some.result.now c.loop-f.ways.items c.visit-in-Some.new.ways.items c.loop-f.waiting.items c.pop_front.new.self.items c.visit-in-Some.new.waiting.items c.in-Some.f
    c.in-Some.ensures.items c.in_ok-visit-2.ensures.ways c.in_ok-visit-2.ensures.waiting

pub loop-f-preserved : goal.loop-f-preserved
loop-f-preserved c =
    went_on c.args.table.now c.args.roots.now c.row.result.now c.deref-in-Some.result.now _ _ _ _ _ _ _ c.in-Some.f c.loop-f.invariant c.in-Some.ensures.items c.in_ok-push.ensures.items
    c.row.ensures (subst (IsArranged c.row.result.now) (sym c.deref-in-Some.ensures.value) c.in_ok-callees.ensures) c.in_ok-visit-2.ensures.ways c.in_ok-visit-2.ensures.waiting

pub returns : goal.returns
returns c =
    ended c.args.table.now c.args.roots.now c.loop-f.ways.items c.loop-f.order.items c.loop-f.waiting.items _ c.loop-f.invariant
    (nothing_left c.loop-f.waiting.items c.pop_front.new.self.items _ c.in_default.ensures.cases.0 c.loop-f.waiting.ok.0) refl refl
