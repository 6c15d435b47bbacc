use Rattle.kernel_laws.proofs.Stays.{bodies_stay}
use Rattle.kernel_laws.proofs.laws.taskless_bodies_stay.Goals as goal

pub returns : goal.returns
returns c = bodies_stay
