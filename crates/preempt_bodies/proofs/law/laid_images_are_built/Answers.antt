-- The law of images whose code is laid out.
use Rattle.preempt_bodies.proofs.Laid.{laid_images_are_built}
use Rattle.preempt_bodies.proofs.law.laid_images_are_built.Goals as goal

pub returns : goal.returns
returns c = laid_images_are_built
