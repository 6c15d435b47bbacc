-- What is seen of instances, by their places.
use Rattle.elab_application.proofs.Found.{found_there, found_past}

pub ruleset found = (found_there, found_past)
