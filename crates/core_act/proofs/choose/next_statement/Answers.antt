use Rattle.std.proofs.Common.{◌≡◌, ◌∙◌, ◌∷◌, true, false, map, ap, sym, refl, rules, w64, to_z, of_z}
use Rattle.std.specs.Prelude.{pos}
use Rattle.std.proofs.lemmas.Result.{on_ok_weaker}
use Rattle.nesc_core.specs.View.{case_of}
use Rattle.core_meaning.specs.Numbers.{is_zero}
use Rattle.core_meaning.specs.Flow.{from_case, start_of_value, start_of_default}
use Rattle.core_meaning.specs.declared.flow.Flow.TheVariants.{On}
use Rattle.core_act.specs.Stacks.{top}
use Rattle.core_act.proofs.Choosing.{as_second, and_goes_on, or_goes_on, first_value, second_value, first_statement, second_statement, some_case, no_items, rest_ends, rest_goes_on}
use Rattle.core_act.proofs.choose.next_statement.Goals as goal

pub returns-in-None : goal.returns-in-None
returns-in-None c =
    on_ok_weaker c.push-in-None.result
    (λ new s vs log. rest_ends c.args.list (sym c.pop_or-flow.ensures.is ∙ c.if-not-goes_on.ensures.stays refl) (no_items c.args.list.now c.in-None.ensures.cases) refl
    (new ∙ ap (λ fs. On ∷ fs) c.pop_or-flow.ensures.rest)) c.push-in-None.ensures

pub returns-in-Some : goal.returns-in-Some
returns-in-Some c =
    on_ok_weaker c.push_two.result
    (λ new s vs log. rest_goes_on c.args.list c.in-Some.s c.in-Some.rest (sym c.pop_or-flow.ensures.is ∙ c.if-not-goes_on.ensures.stays refl) c.in-Some.ensures.cases.0 new c.pop_or-flow.ensures.rest) c.push_two.ensures
