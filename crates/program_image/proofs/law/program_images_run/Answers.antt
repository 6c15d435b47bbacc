use Rattle.program_image.proofs.Whole.{program_images_run}
use Rattle.program_image.proofs.law.program_images_run.Goals as goal

pub returns : goal.returns
returns c = program_images_run (record { rules = c.all_rules_are_kept.ensures; touched = c.objects_are_touched.ensures }) c.posts_name_tasks.ensures
