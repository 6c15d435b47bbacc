use Rattle.lower_keeps.proofs.Objects.{touches}
use Rattle.lower_keeps.proofs.laws.objects_are_touched.Goals as goal

pub returns : goal.returns
returns c = λ p ranked formed f b is none data_end end.
    touches c.objects_lie_in_data.ensures c.accesses_are_of_objects.ensures p formed data_end end c.actions_are_done.ensures ranked f b is none
