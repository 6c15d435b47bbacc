use Rattle.std.proofs.Common.{◌≡◌, ◌≤◌, arith}
use Rattle.nesc_core.specs.View.{program_of}
use Rattle.nesc_core.specs.Weights.{objects_start}
use Rattle.image_builder.proofs.Objects.{end_behind}
use Rattle.image_builder.proofs.data.data_bytes.Goals as goal

-- src/data.rt:30:17
pub overflow_sub-bytes : goal.overflow_sub-bytes
overflow_sub-bytes c =
    let p = program_of c.args.p.now in
    let h = end_behind p.structs objects_start p.objects c.requires.addresses in
    omega (arith, h, c.in_ok-bytes.ensures, c.from.ensures)
