use Rattle.program_image.proofs.Whole.{roots_meet_their_laws}
use Rattle.program_image.proofs.law.roots_meet_their_laws.Goals as goal

pub returns : goal.returns
returns c = roots_meet_their_laws (record { rules = c.all_rules_are_kept.ensures; touched = c.objects_are_touched.ensures })
