use Rattle.std.proofs.Common.{arith}
use Rattle.nesc_core.specs.View.{type_of, structs_of}
use Rattle.expr_emitter.proofs.Offsets.{field_offset-small}
use Rattle.expr_emitter.proofs.types.offset_in.Goals as goal

pub overflow_cast-result : goal.overflow_cast-result
overflow_cast-result c =
    let small = field_offset-small (structs_of c.args.s.now) (type_of c.args.t.now) c.args.k c.requires.structs c.requires.sized c.requires.inside in
    omega (arith, small, c.field_offset.ensures)
