use Rattle.std.proofs.Common.{arith, below_more, map, subst}
use Rattle.std.specs.List.{All}
use Rattle.std.proofs.lemmas.List.Elements.{All-from_recursion}
use Rattle.nesc_core.specs.Plain.{Field}
use Rattle.nesc_core.specs.Size.{NamesBelow}
use Rattle.nesc_core.specs.View.{field_of}
use Rattle.kernel_code.proofs.Orders.{all_inside, fields_here}
use Rattle.kernel_code.proofs.structs.are_in_order.Goals as goal

pub loop-number-preserved : goal.loop-number-preserved
loop-number-preserved c =
    let s = c.args.s.now in let i = c.loop-number.number in let fields = c.as_slice.result.now in
    below_more _ _ c.loop-number.invariant
    (subst (All (λ (f : Field). NamesBelow i f.ty))
    (fields_here s i c.as_slice-structs.result.now c.index-structs-number.result fields c.as_slice-structs.ensures c.loop-number-test.true c.index-structs-number.is c.as_slice.ensures)
    (All-from_recursion (λ (f : Field). NamesBelow i f.ty) (map field_of fields) (c.are_below.ensures c.if-not-are_below.false)))

pub returns : goal.returns
returns c =
    let over = all_inside c.args.s.now c.loop-number.number c.as_slice-structs.result.now c.as_slice-structs.ensures c.loop-number-test.false in
    λ is k lt. c.loop-number.invariant k (omega (arith, lt, over))
