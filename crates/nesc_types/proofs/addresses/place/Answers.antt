use Rattle.std.proofs.Common.{All, refl, sym, subst, arith}
use Rattle.nesc_types.specs.Addresses.{LiesEven, addresses}
use Rattle.nesc_types.proofs.Places.{all_lie, all_placed}
use Rattle.nesc_types.proofs.addresses.place.Goals as goal

pub returns-clause-lie : goal.returns-clause-lie
returns-clause-lie c =
    subst (All LiesEven) (sym (all_placed c.loop-size.places.items c.args.sizes.now (addresses 4352 c.args.sizes.now) c.loop-size.next c.loop-size.size-index c.loop-size-test.false c.loop-size.invariant.so_far))
    (all_lie 4352 c.args.sizes.now refl (omega arith) (omega (arith, c.requires)))
