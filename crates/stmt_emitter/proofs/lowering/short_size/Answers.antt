use Rattle.std.proofs.Common.{arith}
use Rattle.nesc_core.specs.View.{structs_of, type_of}
use Rattle.stmt_emitter.proofs.Framed.{size_small}
use Rattle.stmt_emitter.proofs.lowering.short_size.Goals as goal

pub overflow_cast-result : goal.overflow_cast-result
overflow_cast-result c =
    let small = size_small (structs_of c.args.s.now) (type_of c.args.t.now) c.requires.structs c.requires.sized in
    omega (arith, small, c.size.ensures)
