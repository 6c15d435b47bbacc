use Rattle.program_image.proofs.Selected.{lowered_code_is_selected}
use Rattle.program_image.proofs.law.lowered_code_is_selected.Goals as goal

pub returns : goal.returns
returns c = lowered_code_is_selected (record { rules = c.all_rules_are_kept.ensures; touched = c.objects_are_touched.ensures })
