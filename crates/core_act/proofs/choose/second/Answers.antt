use Rattle.std.proofs.Common.{◌≡◌, ◌∙◌, ◌∷◌, true, false, map, ap, sym, refl, rules, w64, to_z, of_z}
use Rattle.std.specs.Prelude.{pos}
use Rattle.std.proofs.lemmas.Result.{on_ok_weaker}
use Rattle.nesc_core.specs.View.{case_of}
use Rattle.core_meaning.specs.Numbers.{is_zero}
use Rattle.core_meaning.specs.Flow.{from_case, start_of_value, start_of_default}
use Rattle.core_meaning.specs.declared.flow.Flow.TheVariants.{On}
use Rattle.core_act.specs.Stacks.{top}
use Rattle.core_act.proofs.Choosing.{as_second, and_goes_on, or_goes_on, first_value, second_value, first_statement, second_statement, some_case, no_items, rest_ends, rest_goes_on}
use Rattle.core_act.proofs.choose.second.Goals as goal
use Rattle.core_act.proofs.choose.second.Goals.{in-And+else-is_zero, in-Or+else-not-is_zero}

pub returns : goal.returns
returns c =
    let v : to_z w64 (of_z w64 c.pop_or.result) ≡ top (pos 0) c.args.values.now = search rules in
    let z = sym (c.is_zero-is_zero.ensures ∙ ap is_zero v) in
    on_ok_weaker c.push_two.result
    (λ new s fs log. elim c.match-operator.branch [
      | in-And+else-is_zero w ↦ as_second w.in-And.is (and_goes_on c.args.b (z ∙ w.if-is_zero.false) new c.pop_or.ensures.rest)
      | in-Or+else-not-is_zero w ↦ as_second w.in-Or.is (or_goes_on c.args.b (z ∙ w.if-not-is_zero.false) new c.pop_or.ensures.rest)
    ]) c.push_two.ensures
