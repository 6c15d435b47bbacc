-- Code that calls only onward may be laid out.
use Rattle.msp_layout.proofs.Onward.{onward_is_good}
use Rattle.code_tests.proofs.layout.lay.Goals as goal

pub layout-requires : goal.layout-requires
layout-requires c = onward_is_good c.args.code.now c.args.line c.requires.onward c.requires.line
