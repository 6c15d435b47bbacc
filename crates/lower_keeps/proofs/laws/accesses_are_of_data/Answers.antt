use Rattle.lower_keeps.proofs.Objects.{accesses_are_of_data}
use Rattle.lower_keeps.proofs.laws.accesses_are_of_data.Goals as goal

pub returns : goal.returns
returns c = λ p formed f. accesses_are_of_data c.objects_lie_in_data.ensures c.accesses_are_of_objects.ensures p formed f
