use Rattle.std.proofs.Common.{true, false, [], refl, sym, subst, ◌∙◌}
use Rattle.nesc_tree.specs.Sorts.{ahead}
use Rattle.nesc_grammar.specs.Grammar as grammar
use Rattle.nesc_grammar.specs.Declarations as spec
use Rattle.nesc_tree.proofs.Checked.{checked}
use Rattle.nesc_parse_types.specs.Gives.{form_in, place}
use Rattle.nesc_parse_types.proofs.Many.{turn_stands, turn_stops, turn_free, through, tested}
use Rattle.nesc_declarators.proofs.Turns.{IsFrom, begins_many, ends, next_turn, falls, fails}
use Rattle.nesc_declarators.specs.Parts as parts
use Rattle.nesc_declarators.proofs.variables.more_variables.Goals as goal

pub loop-alloc-init : goal.loop-alloc-init
loop-alloc-init c = (
  subst (λ a. IsFrom c.args.spare (λ _ x. grammar.is_comma x) (λ x. grammar.when (grammar.is_comma x) parts.another_variable) (form_in c.args.spare spec.more_variables c.args.names.now c.args.ts.now) a (place c.args.names.now c.args.ts.now)) (sym c.no_list-list.ensures)
      (begins_many c.args.spare (λ _ x. grammar.is_comma x) (λ x. grammar.when (grammar.is_comma x) parts.another_variable) grammar.is_comma [] (place c.args.names.now c.args.ts.now)),
  refl,
)

pub loop-alloc-preserved : goal.loop-alloc-preserved
loop-alloc-preserved c =
    let k = tested grammar.is_comma c.ahead.result (ahead c.loop-alloc.names c.loop-alloc.rest.now) true c.is_comma.result c.ahead.ensures c.is_comma.ensures c.loop-alloc-test.true in
    let fine = checked spec.more_variables refl in (
      next_turn c.args.spare (λ _ x. grammar.is_comma x) (λ x. grammar.when (grammar.is_comma x) parts.another_variable) (form_in c.args.spare spec.more_variables c.args.names.now c.args.ts.now) c.loop-alloc.list (place c.loop-alloc.names c.loop-alloc.rest.now) c.loop-alloc.invariant.0 c.in_ok-so_far.so_far (place c.another_variable.new.names c.in_ok-so_far.behind.now) k (turn_free c.args.spare c.loop-alloc.names parts.another_variable (grammar.is_comma (ahead c.loop-alloc.names c.loop-alloc.rest.now)) k (place c.loop-alloc.names c.loop-alloc.rest.now) (λ x. refl)) (fine.0 (ahead c.loop-alloc.names c.loop-alloc.rest.now)) (fine.2 (ahead c.loop-alloc.names c.loop-alloc.rest.now) k) (turn_stands c.args.spare c.loop-alloc.names parts.another_variable (grammar.is_comma (ahead c.loop-alloc.names c.loop-alloc.rest.now)) k c.loop-alloc.list c.loop-alloc.rest.now _ c.in_ok-so_far.ensures.gives),
      c.in_ok-so_far.ensures.noted ∙ c.loop-alloc.invariant.1,
    )

pub loop-alloc-smaller : goal.loop-alloc-smaller
loop-alloc-smaller c =
    let k = tested grammar.is_comma c.ahead.result (ahead c.loop-alloc.names c.loop-alloc.rest.now) true c.is_comma.result c.ahead.ensures c.is_comma.ensures c.loop-alloc-test.true in
    let fine = checked spec.more_variables refl in
    falls c.args.spare (λ _ x. grammar.is_comma x) (λ x. grammar.when (grammar.is_comma x) parts.another_variable) (form_in c.args.spare spec.more_variables c.args.names.now c.args.ts.now) c.loop-alloc.list (place c.loop-alloc.names c.loop-alloc.rest.now) c.in_ok-so_far.so_far (place c.another_variable.new.names c.in_ok-so_far.behind.now) (fine.0 (ahead c.loop-alloc.names c.loop-alloc.rest.now)) (fine.2 (ahead c.loop-alloc.names c.loop-alloc.rest.now) k) (turn_stands c.args.spare c.loop-alloc.names parts.another_variable (grammar.is_comma (ahead c.loop-alloc.names c.loop-alloc.rest.now)) k c.loop-alloc.list c.loop-alloc.rest.now _ c.in_ok-so_far.ensures.gives)

pub returns-in_err-so_far-clause-gives : goal.returns-in_err-so_far-clause-gives
returns-in_err-so_far-clause-gives c =
    let k = tested grammar.is_comma c.ahead.result (ahead c.loop-alloc.names c.loop-alloc.rest.now) true c.is_comma.result c.ahead.ensures c.is_comma.ensures c.loop-alloc-test.true in
    let fine = checked spec.more_variables refl in
    through c.another_variable.new.names c.from_residual.result c.in_err-so_far.field-0.0 (form_in c.args.spare spec.more_variables c.args.names.now c.args.ts.now) c.from_residual.ensures
    (fails c.args.spare (λ _ x. grammar.is_comma x) (λ x. grammar.when (grammar.is_comma x) parts.another_variable) (form_in c.args.spare spec.more_variables c.args.names.now c.args.ts.now) c.loop-alloc.list (place c.loop-alloc.names c.loop-alloc.rest.now) c.loop-alloc.invariant.0 c.in_err-so_far.field-0.0 k (turn_free c.args.spare c.loop-alloc.names parts.another_variable (grammar.is_comma (ahead c.loop-alloc.names c.loop-alloc.rest.now)) k (place c.loop-alloc.names c.loop-alloc.rest.now) (λ x. refl)) (turn_stops c.args.spare c.loop-alloc.names parts.another_variable (grammar.is_comma (ahead c.loop-alloc.names c.loop-alloc.rest.now)) k c.loop-alloc.list c.loop-alloc.rest.now c.in_err-so_far.field-0.0 c.in_err-so_far.ensures.gives))

pub returns-in_err-so_far-clause-noted : goal.returns-in_err-so_far-clause-noted
returns-in_err-so_far-clause-noted c = c.in_err-so_far.ensures.noted ∙ c.loop-alloc.invariant.1

pub returns-clause-gives : goal.returns-clause-gives
returns-clause-gives c =
    let k = tested grammar.is_comma c.ahead.result (ahead c.loop-alloc.names c.loop-alloc.rest.now) false c.is_comma.result c.ahead.ensures c.is_comma.ensures c.loop-alloc-test.false in
    ends c.args.spare (λ _ x. grammar.is_comma x) (λ x. grammar.when (grammar.is_comma x) parts.another_variable) (form_in c.args.spare spec.more_variables c.args.names.now c.args.ts.now) c.loop-alloc.list (place c.loop-alloc.names c.loop-alloc.rest.now) c.loop-alloc.invariant.0 k

pub returns-clause-noted : goal.returns-clause-noted
returns-clause-noted c = c.loop-alloc.invariant.1
