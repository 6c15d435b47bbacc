use Rattle.std.proofs.Common.{◌<◌, length, arith, subst}
use Rattle.elab_targets.specs.Places.{AreUsed}
use Rattle.elab_told.proofs.Used.{header_more}
use Rattle.elab_told.proofs.uses.add_header_uses.Goals as goal

pub loop-decls-preserved : goal.loop-decls-preserved
loop-decls-preserved c = λ us are.
    let h : c.loop-decls.decls-index < length c.args.headers.now = omega (arith, c.loop-decls-test.true) in
    subst (λ vs. AreUsed vs c.add_uses.new.used) (header_more us c.args.headers.now c.loop-decls.decls-index c.decls-item.result h c.decls-item.is) (c.in_ok-add_uses.ensures _ (c.loop-decls.invariant us are))
