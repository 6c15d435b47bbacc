use Rattle.std.proofs.Common.{true, false, [], ◌∷◌, refl, sym, subst, ◌∙◌}
use Rattle.nesc_tree.specs.Sorts.{ahead}
use Rattle.nesc_tree.specs.Form.{goes}
use Rattle.nesc_grammar.specs.Grammar as grammar
use Rattle.nesc_grammar.specs.Declarations as spec
use Rattle.nesc_tree.proofs.Checked.{checked}
use Rattle.nesc_parse_types.specs.Gives.{form_in, place}
use Rattle.nesc_parse_types.proofs.Many.{with_true, turn_stands, turn_stops, turn_free, through, tested}
use Rattle.nesc_declarators.proofs.Turns.{IsFrom, begins_loop, mapped, mapped_fails, loop_fails, ends, next_turn, falls, fails}
use Rattle.nesc_heads.specs.Parts as parts
use Rattle.nesc_heads.proofs.parameter_reader.some_params.Goals as goal

pub returns-in_err-first-clause-gives : goal.returns-in_err-first-clause-gives
returns-in_err-first-clause-gives c =
    through c.param.new.names c.from_residual.result c.in_err-first.field-0.0 (form_in c.args.spare parts.some_params c.args.names.now c.args.ts.now) c.from_residual.ensures
    (loop_fails c.args.spare grammar.is_comma (λ _ _. true) (grammar.map (λ a. a ∷ []) spec.param) (λ x. grammar.when (grammar.is_comma x) parts.another_param) (place c.args.names.now c.args.ts.now) c.in_err-first.field-0.0
    (mapped_fails c.args.spare (place c.args.names.now c.args.ts.now) (λ a. a ∷ []) spec.param c.in_err-first.field-0.0 c.in_err-first.ensures.gives))

pub loop-alloc-init : goal.loop-alloc-init
loop-alloc-init c = (
  subst (λ a. IsFrom c.args.spare (goes grammar.is_comma (λ _ _. true)) (λ x. grammar.when (grammar.is_comma x) parts.another_param) (form_in c.args.spare parts.some_params c.args.names.now c.args.ts.now) a (place c.param.new.names c.in_ok-first.rest.now)) (sym c.in_ok-list.ensures)
      (begins_loop c.args.spare grammar.is_comma (λ _ _. true) (grammar.map (λ a. a ∷ []) spec.param) (λ x. grammar.when (grammar.is_comma x) parts.another_param) (place c.args.names.now c.args.ts.now) (c.in_ok-first.first ∷ []) (place c.param.new.names c.in_ok-first.rest.now)
      (mapped c.args.spare (place c.args.names.now c.args.ts.now) (λ a. a ∷ []) spec.param c.in_ok-first.first (place c.param.new.names c.in_ok-first.rest.now) c.in_ok-first.ensures.gives)),
  c.param.ensures.noted,
)

pub loop-alloc-preserved : goal.loop-alloc-preserved
loop-alloc-preserved c =
    let k = tested grammar.is_comma c.ahead.result (ahead c.loop-alloc.names c.loop-alloc.rest.now) true c.is_comma.result c.ahead.ensures c.is_comma.ensures c.loop-alloc-test.true in
    let h = with_true _ _ k in
    let fine = checked parts.some_params refl in (
      next_turn c.args.spare (goes grammar.is_comma (λ _ _. true)) (λ x. grammar.when (grammar.is_comma x) parts.another_param) (form_in c.args.spare parts.some_params c.args.names.now c.args.ts.now) c.loop-alloc.list (place c.loop-alloc.names c.loop-alloc.rest.now) c.loop-alloc.invariant.0 c.in_ok-so_far.so_far (place c.another_param.new.names c.in_ok-so_far.behind.now) h (turn_free c.args.spare c.loop-alloc.names parts.another_param (grammar.is_comma (ahead c.loop-alloc.names c.loop-alloc.rest.now)) k (place c.loop-alloc.names c.loop-alloc.rest.now) (λ x. refl)) (fine.2 (ahead c.loop-alloc.names c.loop-alloc.rest.now)) (fine.4 (ahead c.loop-alloc.names c.loop-alloc.rest.now) k) (turn_stands c.args.spare c.loop-alloc.names parts.another_param (grammar.is_comma (ahead c.loop-alloc.names c.loop-alloc.rest.now)) k c.loop-alloc.list c.loop-alloc.rest.now _ c.in_ok-so_far.ensures.gives),
      c.in_ok-so_far.ensures.noted ∙ c.loop-alloc.invariant.1,
    )

pub loop-alloc-smaller : goal.loop-alloc-smaller
loop-alloc-smaller c =
    let k = tested grammar.is_comma c.ahead.result (ahead c.loop-alloc.names c.loop-alloc.rest.now) true c.is_comma.result c.ahead.ensures c.is_comma.ensures c.loop-alloc-test.true in
    let h = with_true _ _ k in
    let fine = checked parts.some_params refl in
    falls c.args.spare (goes grammar.is_comma (λ _ _. true)) (λ x. grammar.when (grammar.is_comma x) parts.another_param) (form_in c.args.spare parts.some_params c.args.names.now c.args.ts.now) c.loop-alloc.list (place c.loop-alloc.names c.loop-alloc.rest.now) c.in_ok-so_far.so_far (place c.another_param.new.names c.in_ok-so_far.behind.now) (fine.2 (ahead c.loop-alloc.names c.loop-alloc.rest.now)) (fine.4 (ahead c.loop-alloc.names c.loop-alloc.rest.now) k) (turn_stands c.args.spare c.loop-alloc.names parts.another_param (grammar.is_comma (ahead c.loop-alloc.names c.loop-alloc.rest.now)) k c.loop-alloc.list c.loop-alloc.rest.now _ c.in_ok-so_far.ensures.gives)

pub returns-in_err-so_far-clause-gives : goal.returns-in_err-so_far-clause-gives
returns-in_err-so_far-clause-gives c =
    let k = tested grammar.is_comma c.ahead.result (ahead c.loop-alloc.names c.loop-alloc.rest.now) true c.is_comma.result c.ahead.ensures c.is_comma.ensures c.loop-alloc-test.true in
    let h = with_true _ _ k in
    let fine = checked parts.some_params refl in
    through c.another_param.new.names c.from_residual-in_err-so_far.result c.in_err-so_far.field-0.0 (form_in c.args.spare parts.some_params c.args.names.now c.args.ts.now) c.from_residual-in_err-so_far.ensures
    (fails c.args.spare (goes grammar.is_comma (λ _ _. true)) (λ x. grammar.when (grammar.is_comma x) parts.another_param) (form_in c.args.spare parts.some_params c.args.names.now c.args.ts.now) c.loop-alloc.list (place c.loop-alloc.names c.loop-alloc.rest.now) c.loop-alloc.invariant.0 c.in_err-so_far.field-0.0 h (turn_free c.args.spare c.loop-alloc.names parts.another_param (grammar.is_comma (ahead c.loop-alloc.names c.loop-alloc.rest.now)) k (place c.loop-alloc.names c.loop-alloc.rest.now) (λ x. refl)) (turn_stops c.args.spare c.loop-alloc.names parts.another_param (grammar.is_comma (ahead c.loop-alloc.names c.loop-alloc.rest.now)) k c.loop-alloc.list c.loop-alloc.rest.now c.in_err-so_far.field-0.0 c.in_err-so_far.ensures.gives))

pub returns-in_err-so_far-clause-noted : goal.returns-in_err-so_far-clause-noted
returns-in_err-so_far-clause-noted c = c.in_err-so_far.ensures.noted ∙ c.loop-alloc.invariant.1

pub returns-clause-gives : goal.returns-clause-gives
returns-clause-gives c =
    let k = tested grammar.is_comma c.ahead.result (ahead c.loop-alloc.names c.loop-alloc.rest.now) false c.is_comma.result c.ahead.ensures c.is_comma.ensures c.loop-alloc-test.false in
    let h = with_true _ _ k in
    ends c.args.spare (goes grammar.is_comma (λ _ _. true)) (λ x. grammar.when (grammar.is_comma x) parts.another_param) (form_in c.args.spare parts.some_params c.args.names.now c.args.ts.now) c.loop-alloc.list (place c.loop-alloc.names c.loop-alloc.rest.now) c.loop-alloc.invariant.0 h

pub returns-clause-noted : goal.returns-clause-noted
returns-clause-noted c = c.loop-alloc.invariant.1
