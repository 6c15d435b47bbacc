use Rattle.std.proofs.Common.{◌∙◌, ap, w64, rules, FitsSigned}
use Rattle.std.specs.Prelude.{◌+ℤ◌, ◌*ℤ◌, pos}
use Rattle.std.specs.Int.{int_wrap}
use Rattle.std.proofs.lemmas.Int.{to_z-of_z, wrapping_add_is, int_wrap-add_right}
use Rattle.nm_base.specs.IntType.{wrapped}
use Rattle.nm_base.specs.declared.int_type.IntType.TheVariants.{U16}
use Rattle.core_numbers.proofs.Wrapping.{wrapped-int_wrap}
use Rattle.core_numbers.proofs.arithmetic.offset.Goals as goal

pub returns : goal.returns
returns c =
    let fits : FitsSigned w64 c.wrap.result = search rules in
    let small : FitsSigned w64 c.bytes_of.result = search rules in
    to_z-of_z w64 c.wrap.result fits ∙ c.wrap.ensures.value
    ∙ ap (wrapped U16) (wrapping_add_is w64 c.args.address c.bytes_of.result c.ranges.address small
    ∙ ap (λ z. int_wrap w64 (c.args.address +ℤ z)) (c.bytes_of.ensures ∙ ap (λ n. int_wrap w64 (n *ℤ pos c.args.size)) (to_z-of_z w64 c.args.count c.ranges.count)) ∙ int_wrap-add_right w64 c.args.address (c.args.count *ℤ pos c.args.size))
    ∙ wrapped-int_wrap U16 (c.args.address +ℤ c.args.count *ℤ pos c.args.size)
