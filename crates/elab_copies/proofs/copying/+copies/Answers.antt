use Rattle.std.proofs.Common.{arith, ◌<◌, map}
use Rattle.nesc_core.specs.View.{expr_of, type_of}
use Rattle.elab_meaning.specs.View.{frozen_place_of, struct_of}
use Rattle.elab_copies.proofs.Elements.{all-copied, field-low, height, highest_of, parts-fall}
use Rattle.elab_copies.proofs.copying.+copies.Goals as goal

pub copy_struct-copy_parts-requires : goal.copy_struct-copy_parts-requires
copy_struct-copy_parts-requires t c =
    let some : 0 < c.args.depth = omega (arith, c.if-depth-eq0.false) in
    let low = field-low (map struct_of c.args.structs.now) c.args.k c.fields_of-fields.result.now c.loop-j.j c.index-fields-j.result c.fields_of-fields.ensures c.loop-j-test.true c.index-fields-j.is in
    (omega (arith, c.decreases, parts-fall c.args.depth (highest_of (map struct_of c.args.structs.now)) (height (type_of c.index-fields-j.result.ty)) some low), tt)

pub copy_struct-returns : goal.copy_struct-returns
copy_struct-returns t c =
    all-copied (map struct_of c.args.structs.now) c.args.c.at c.args.c.at_value c.args.depth c.args.k (frozen_place_of c.args.p.now) (frozen_place_of c.args.q.now) c.fields_of-fields.result.now c.loop-j.j (map expr_of c.args.out.now.items) (map expr_of c.loop-j.out.items)
    c.if-depth-eq0.false c.fields_of-fields.ensures c.loop-j-test.false c.loop-j.invariant
