use Rattle.nesc_core.specs.View.{program_of}
use Rattle.nesc_core.specs.Weights.{objects_start}
use Rattle.stmt_emitter.proofs.Dereferenced.{all_lie}
use Rattle.stmt_emitter.proofs.lowering.check_for.Goals as goal

pub ranges-requires-clause-objects : goal.ranges-requires-clause-objects
ranges-requires-clause-objects c =
    let p = program_of c.args.p.now in
    all_lie p.structs objects_start p.objects c.requires.program.addresses c.requires.program.objects
