use Rattle.std.proofs.Common.{◌∙◌}
use Rattle.routine_rows.proofs.Good.{code_good}
use Rattle.routine_rows.proofs.mote.Mote.load.Goals as goal

pub layout-requires : goal.layout-requires
layout-requires c = code_good c.as_slice.result.now c.args.code.now.checks c.args.place (c.as_slice.ensures.value ∙ c.in_ok-fns.ensures.code) c.requires.few c.in_ok-fns.ensures.words c.requires.place
