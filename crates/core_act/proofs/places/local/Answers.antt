use Rattle.std.proofs.Common.{arith, slice_index_or}
use Rattle.nesc_core.specs.Plain.{void}
use Rattle.core_act.specs.Scopes.{program_in, types_in}
use Rattle.core_act.proofs.Sized.{local_sized, size_small}
use Rattle.core_act.proofs.places.local.Goals as goal

pub returns-clause-lies : goal.returns-clause-lies
returns-clause-lies c =
    let p = program_in c.args.scope.now in let types = types_in c.args.scope.now in
    omega (arith, size_small p.structs (slice_index_or types c.args.x void) c.requires.structs (local_sized p.structs types c.requires.locals c.args.x))
