use Rattle.std.proofs.Common.{true, false, [], ◌∷◌, refl, sym, subst}
use Rattle.nesc_tree.specs.Sorts.{ahead}
use Rattle.nesc_tree.specs.Form.{goes}
use Rattle.nesc_grammar.specs.Grammar as grammar
use Rattle.nesc_tree.proofs.Checked.{checked}
use Rattle.nesc_parse_types.specs.Gives.{form_in, place}
use Rattle.nesc_parse_types.proofs.Many.{IsAt, begins_loop, mapped, with_true, turn_stands, turn_stops, turn_free, ends, next_turn, falls, fails, through, tested}
use Rattle.nesc_parse_decls.specs.Parts as parts
use Rattle.nesc_parse_decls.proofs.attribute_reader.some_arguments.Goals as goal

pub loop-alloc-init : goal.loop-alloc-init
loop-alloc-init c =
    subst (λ a. IsAt c.args.spare c.args.names.now (goes grammar.is_comma (λ _ _. true)) (λ x. grammar.when (grammar.is_comma x) parts.another_argument) (form_in c.args.spare parts.some_arguments c.args.names.now c.args.ts.now) a c.in_ok-first.rest.now) (sym c.in_ok-list.ensures)
    (begins_loop c.args.spare c.args.names.now grammar.is_comma (λ _ _. true) (grammar.map (λ a. a ∷ []) parts.argument) (λ x. grammar.when (grammar.is_comma x) parts.another_argument) c.args.ts.now (c.in_ok-first.first ∷ []) c.in_ok-first.rest.now (mapped c.args.spare c.args.names.now c.args.ts.now (λ a. a ∷ []) parts.argument c.in_ok-first.first c.in_ok-first.rest.now c.in_ok-first.ensures))

pub loop-alloc-preserved : goal.loop-alloc-preserved
loop-alloc-preserved c =
    let k = tested grammar.is_comma c.ahead.result (ahead c.args.names.now c.loop-alloc.rest.now) true c.is_comma.result c.ahead.ensures c.is_comma.ensures c.loop-alloc-test.true in
    let h = with_true _ _ k in
    let fine = checked parts.some_arguments refl in
    next_turn c.args.spare c.args.names.now (goes grammar.is_comma (λ _ _. true)) (λ x. grammar.when (grammar.is_comma x) parts.another_argument) (form_in c.args.spare parts.some_arguments c.args.names.now c.args.ts.now) c.loop-alloc.list c.loop-alloc.rest.now c.loop-alloc.invariant c.in_ok-so_far.so_far c.in_ok-so_far.behind.now h (turn_free c.args.spare c.args.names.now parts.another_argument (grammar.is_comma (ahead c.args.names.now c.loop-alloc.rest.now)) k (place c.args.names.now c.loop-alloc.rest.now) (λ x. refl)) (fine.2 (ahead c.args.names.now c.loop-alloc.rest.now)) (fine.4 (ahead c.args.names.now c.loop-alloc.rest.now) k) (turn_stands c.args.spare c.args.names.now parts.another_argument (grammar.is_comma (ahead c.args.names.now c.loop-alloc.rest.now)) k c.loop-alloc.list c.loop-alloc.rest.now _ c.in_ok-so_far.ensures)

pub loop-alloc-smaller : goal.loop-alloc-smaller
loop-alloc-smaller c =
    let k = tested grammar.is_comma c.ahead.result (ahead c.args.names.now c.loop-alloc.rest.now) true c.is_comma.result c.ahead.ensures c.is_comma.ensures c.loop-alloc-test.true in
    let fine = checked parts.some_arguments refl in
    falls c.args.spare c.args.names.now (goes grammar.is_comma (λ _ _. true)) (λ x. grammar.when (grammar.is_comma x) parts.another_argument) (form_in c.args.spare parts.some_arguments c.args.names.now c.args.ts.now) c.loop-alloc.list c.loop-alloc.rest.now c.in_ok-so_far.so_far c.in_ok-so_far.behind.now (fine.2 (ahead c.args.names.now c.loop-alloc.rest.now)) (fine.4 (ahead c.args.names.now c.loop-alloc.rest.now) k) (turn_stands c.args.spare c.args.names.now parts.another_argument (grammar.is_comma (ahead c.args.names.now c.loop-alloc.rest.now)) k c.loop-alloc.list c.loop-alloc.rest.now _ c.in_ok-so_far.ensures)

pub returns-in_err-so_far : goal.returns-in_err-so_far
returns-in_err-so_far c =
    let k = tested grammar.is_comma c.ahead.result (ahead c.args.names.now c.loop-alloc.rest.now) true c.is_comma.result c.ahead.ensures c.is_comma.ensures c.loop-alloc-test.true in
    let h = with_true _ _ k in
    through c.args.names.now c.from_residual-in_err-so_far.result c.in_err-so_far.field-0.0 (form_in c.args.spare parts.some_arguments c.args.names.now c.args.ts.now) c.from_residual-in_err-so_far.ensures
    (fails c.args.spare c.args.names.now (goes grammar.is_comma (λ _ _. true)) (λ x. grammar.when (grammar.is_comma x) parts.another_argument) (form_in c.args.spare parts.some_arguments c.args.names.now c.args.ts.now) c.loop-alloc.list c.loop-alloc.rest.now c.loop-alloc.invariant c.in_err-so_far.field-0.0 h (turn_free c.args.spare c.args.names.now parts.another_argument (grammar.is_comma (ahead c.args.names.now c.loop-alloc.rest.now)) k (place c.args.names.now c.loop-alloc.rest.now) (λ x. refl)) (turn_stops c.args.spare c.args.names.now parts.another_argument (grammar.is_comma (ahead c.args.names.now c.loop-alloc.rest.now)) k c.loop-alloc.list c.loop-alloc.rest.now c.in_err-so_far.field-0.0 c.in_err-so_far.ensures))

pub returns : goal.returns
returns c =
    let k = tested grammar.is_comma c.ahead.result (ahead c.args.names.now c.loop-alloc.rest.now) false c.is_comma.result c.ahead.ensures c.is_comma.ensures c.loop-alloc-test.false in
    let h = with_true _ _ k in
    ends c.args.spare c.args.names.now (goes grammar.is_comma (λ _ _. true)) (λ x. grammar.when (grammar.is_comma x) parts.another_argument) (form_in c.args.spare parts.some_arguments c.args.names.now c.args.ts.now) c.loop-alloc.list c.loop-alloc.rest.now c.loop-alloc.invariant h
