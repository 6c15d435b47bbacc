use Rattle.task_image.proofs.Whole.{task_images_run}
use Rattle.task_image.proofs.law.task_images_run.Goals as goal

pub returns : goal.returns
returns c = task_images_run (record {
  kernels = c.each_kernel_keeps.ensures;
  ranks = c.kernel_has_no_cycle.ensures;
  postless = c.kernels_post_nothing.ensures;
  selected = c.lowered_code_is_selected.ensures;
  behaves = c.roots_behave.ensures;
  keeps = c.behaviour_keeps_functions.ensures;
  bodies = c.functions_are_bodies.ensures;
  lines = c.lines_are_laid.ensures;
  loops = c.laid_loops_are_built.ensures;
  runs = c.loops_run_as_source.ensures;
})
