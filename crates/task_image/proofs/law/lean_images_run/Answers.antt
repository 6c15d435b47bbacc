use Rattle.task_image.proofs.Lean.{lean_images_run}
use Rattle.task_image.proofs.law.lean_images_run.Goals as goal

pub returns : goal.returns
returns c = lean_images_run c.task_images_run.ensures (record {
  keeps = c.lean_code_keeps_pace.ensures;
  measured = c.lean_is_measured.ensures;
  kernel_lean = c.kernel_is_lean.ensures;
  pace = c.kernel_keeps_pace.ensures;
})
