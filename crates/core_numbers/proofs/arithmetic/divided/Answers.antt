use Rattle.std.proofs.Common.{◌≡◌, ◌∙◌, ap, sym, w64, rules, FitsSigned, Some, Bool, false}
use Rattle.std.specs.Prelude.{int_div, if◌then◌else◌, None}
use Rattle.std.specs.Int.{int_wrapping_div}
use Rattle.std.proofs.lemmas.Int.{to_z-of_z}
use mir.Val.{to_z, of_z}
use Rattle.nm_base.specs.IntType.{wrapped}
use Rattle.core_meaning.specs.Numbers.{is_zero}
use Rattle.core_numbers.proofs.Wrapping.{quotient_wraps}
use Rattle.core_numbers.proofs.arithmetic.divided.Goals as goal

pub returns : goal.returns
returns c =
    let fits : FitsSigned w64 c.wrap.result = search rules in
    let inner : FitsSigned w64 c.wrapping_div.result = search rules in
    let x = c.args.x in let y = c.args.y in
    let q : c.wrapping_div.result ≡ to_z w64 (of_z w64 (int_div x y)) =
    c.wrapping_div.ensures ∙ ap (λ a. int_wrapping_div w64 a (to_z w64 (of_z w64 y))) (to_z-of_z w64 x c.ranges.x) ∙ ap (int_wrapping_div w64 x) (to_z-of_z w64 y c.ranges.y) in
    let value : c.wrap.result ≡ wrapped c.args.t (int_div x y) =
    c.wrap.ensures.value ∙ ap (wrapped c.args.t) (to_z-of_z w64 c.wrapping_div.result inner ∙ q) ∙ quotient_wraps c.args.t x y c.ranges.x in
    let other : is_zero y ≡ false = sym (ap is_zero (to_z-of_z w64 y c.ranges.y)) ∙ sym c.is_zero.ensures ∙ c.if-is_zero.false in
    ap Some (to_z-of_z w64 c.wrap.result fits ∙ value) ∙ ap (λ (b : Bool). if b then None else Some (wrapped c.args.t (int_div x y))) (sym other)
