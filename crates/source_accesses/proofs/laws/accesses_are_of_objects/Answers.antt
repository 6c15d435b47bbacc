use Rattle.source_accesses.proofs.Accesses.{of_bodies}
use Rattle.source_accesses.proofs.laws.accesses_are_of_objects.Goals as goal

pub returns : goal.returns
returns c = of_bodies c.each_struct_is_its_fields.ensures
