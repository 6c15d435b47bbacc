use Rattle.std.proofs.Common.{◌≡◌, ◌∙◌, ◌∷◌, true, false, map, ap, sym, refl, rules, w64, to_z, of_z}
use Rattle.std.specs.Prelude.{pos}
use Rattle.std.proofs.lemmas.Result.{on_ok_weaker}
use Rattle.nesc_core.specs.View.{case_of}
use Rattle.core_meaning.specs.Numbers.{is_zero}
use Rattle.core_meaning.specs.Flow.{from_case, start_of_value, start_of_default}
use Rattle.core_meaning.specs.declared.flow.Flow.TheVariants.{On}
use Rattle.core_act.specs.Stacks.{top}
use Rattle.core_act.proofs.Choosing.{as_second, and_goes_on, or_goes_on, first_value, second_value, first_statement, second_statement, some_case, no_items, rest_ends, rest_goes_on}
use Rattle.core_act.proofs.choose.choose_case.Goals as goal

pub returns-in-Some : goal.returns-in-Some
returns-in-Some c =
    let v : to_z w64 (of_z w64 c.pop_or.result) ≡ top (pos 0) c.args.values.now = search rules in
    on_ok_weaker c.push_two.result
    (λ new s fs log. some_case c.args.cases c.args.list c.start_of.result c.in-Some.k c.statements_from.result c.in-Some.is c.statements_from.ensures
    (λ from. (λ j. from_case (start_of_value (map case_of (sym c.as_slice.ensures j)) (sym v j)) (start_of_default (map case_of (sym c.as_slice.ensures j))) from) ∙ c.start_of.ensures from)
    new c.pop_or.ensures.rest) c.push_two.ensures
