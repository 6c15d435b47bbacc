use Rattle.compilable_programs.proofs.Least.{have_room}
use Rattle.compilable_programs.proofs.laws.laid_images_have_room.Goals as goal

pub returns : goal.returns
returns c = have_room
