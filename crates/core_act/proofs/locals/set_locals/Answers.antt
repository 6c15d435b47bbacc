use Rattle.nesc_core.specs.View.{structs_of}
use Rattle.core_act.proofs.Sized.{nth_type_sized}
use Rattle.core_act.proofs.locals.set_locals.Goals as goal

pub local_at-requires-clause-sized : goal.local_at-requires-clause-sized
local_at-requires-clause-sized c =
    nth_type_sized (structs_of c.args.s.now) c.args.types.now c.loop-i.i c.index-types-i.result c.requires.sized c.loop-i-test.true c.index-types-i.is
