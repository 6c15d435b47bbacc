use Rattle.std.proofs.Common.{[], ◌∷◌, ◌++◌, refl}
use Rattle.mote_run.proofs.Gathered.{fails}
use Rattle.mote_run.proofs.trace_line.gather_line.Goals as goal

pub returns-in_err-make_room : goal.returns-in_err-make_room
returns-in_err-make_room g c = fails _ c.from_residual.result _ _ [] (c.args.text.now ++ 10 ∷ []) _ c.from_residual.ensures.0 refl c.in_err-make_room.ensures.gathers
