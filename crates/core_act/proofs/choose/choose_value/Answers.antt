use Rattle.std.proofs.Common.{◌≡◌, ◌∙◌, ◌∷◌, true, false, map, ap, sym, refl, rules, w64, to_z, of_z}
use Rattle.std.specs.Prelude.{pos}
use Rattle.std.proofs.lemmas.Result.{on_ok_weaker}
use Rattle.nesc_core.specs.View.{case_of}
use Rattle.core_meaning.specs.Numbers.{is_zero}
use Rattle.core_meaning.specs.Flow.{from_case, start_of_value, start_of_default}
use Rattle.core_meaning.specs.declared.flow.Flow.TheVariants.{On}
use Rattle.core_act.specs.Stacks.{top}
use Rattle.core_act.proofs.Choosing.{as_second, and_goes_on, or_goes_on, first_value, second_value, first_statement, second_statement, some_case, no_items, rest_ends, rest_goes_on}
use Rattle.core_act.proofs.choose.choose_value.Goals as goal

pub returns-then-is_zero : goal.returns-then-is_zero
returns-then-is_zero c =
    let z : is_zero (top (pos 0) c.args.values.now) ≡ true = search rules in
    on_ok_weaker c.push.result (λ new s fs log. second_value c.args.a c.args.b z new c.pop_or.ensures.rest) c.push.ensures

pub returns-else-is_zero : goal.returns-else-is_zero
returns-else-is_zero c =
    let z : is_zero (top (pos 0) c.args.values.now) ≡ false = search rules in
    on_ok_weaker c.push-else-is_zero.result (λ new s fs log. first_value c.args.a c.args.b z new c.pop_or.ensures.rest) c.push-else-is_zero.ensures
