use Rattle.std.proofs.Common.{◌<◌, length, map, sym, ◌∙◌, arith}
use Rattle.body_meaning.specs.View.{decl_of}
use Rattle.nesc_unwired.specs.Told.{lacks}
use Rattle.item_targets.specs.View.{element_of}
use Rattle.item_targets.proofs.ItemLists.{any_here, any_later}
use Rattle.item_targets.proofs.items.lacks_among.Goals as goal

pub returns-then-lacks : goal.returns-then-lacks
returns-then-lacks c =
    let h : c.loop-y.y-index < length c.args.items.now = omega (arith, c.loop-y-test.true) in
    sym (any_here (lacks (map decl_of c.args.decls.now) (element_of c.args.x.now)) c.args.items.now c.loop-y.y-index c.y-item.result c.lacks.result h c.y-item.is c.lacks.ensures c.if-lacks.true) ∙ c.loop-y.invariant

pub loop-y-preserved : goal.loop-y-preserved
loop-y-preserved c =
    let h : c.loop-y.y-index < length c.args.items.now = omega (arith, c.loop-y-test.true) in
    sym (any_later (lacks (map decl_of c.args.decls.now) (element_of c.args.x.now)) c.args.items.now c.loop-y.y-index c.y-item.result c.lacks.result h c.y-item.is c.lacks.ensures c.if-lacks.false) ∙ c.loop-y.invariant
