use Rattle.source_accesses.proofs.Objects.{in_data}
use Rattle.source_accesses.proofs.laws.objects_lie_in_data.Goals as goal

pub returns : goal.returns
returns c = in_data
