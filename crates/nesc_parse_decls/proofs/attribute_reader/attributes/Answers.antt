use Rattle.std.proofs.Common.{true, false, [], refl, sym, subst}
use Rattle.nesc_tree.specs.Sorts.{ahead}
use Rattle.nesc_grammar.specs.Grammar as grammar
use Rattle.nesc_grammar.specs.Declarations as spec
use Rattle.nesc_tree.proofs.Checked.{checked}
use Rattle.nesc_parse_types.specs.Gives.{form_in, place}
use Rattle.nesc_parse_types.proofs.Many.{IsAt, begins_many, turn_stands, turn_stops, turn_free, ends, next_turn, falls, fails, through, tested}
use Rattle.nesc_parse_decls.specs.Parts as parts
use Rattle.nesc_parse_decls.proofs.attribute_reader.attributes.Goals as goal

pub loop-alloc-init : goal.loop-alloc-init
loop-alloc-init c = subst (λ a. IsAt c.args.spare c.args.names.now (λ _ x. spec.is_at x) (λ x. grammar.when (spec.is_at x) parts.another_attribute) (form_in c.args.spare spec.attributes c.args.names.now c.args.ts.now) a c.args.ts.now) (sym c.no_list-list.ensures) (begins_many c.args.spare c.args.names.now (λ _ x. spec.is_at x) (λ x. grammar.when (spec.is_at x) parts.another_attribute) spec.is_at [] c.args.ts.now)

pub loop-alloc-preserved : goal.loop-alloc-preserved
loop-alloc-preserved c =
    let k = tested spec.is_at c.ahead.result (ahead c.args.names.now c.loop-alloc.rest.now) true c.is_at.result c.ahead.ensures c.is_at.ensures c.loop-alloc-test.true in
    let fine = checked spec.attributes refl in
    next_turn c.args.spare c.args.names.now (λ _ x. spec.is_at x) (λ x. grammar.when (spec.is_at x) parts.another_attribute) (form_in c.args.spare spec.attributes c.args.names.now c.args.ts.now) c.loop-alloc.list c.loop-alloc.rest.now c.loop-alloc.invariant c.in_ok-so_far.so_far c.in_ok-so_far.behind.now k (turn_free c.args.spare c.args.names.now parts.another_attribute (spec.is_at (ahead c.args.names.now c.loop-alloc.rest.now)) k (place c.args.names.now c.loop-alloc.rest.now) (λ x. refl)) (fine.0 (ahead c.args.names.now c.loop-alloc.rest.now)) (fine.2 (ahead c.args.names.now c.loop-alloc.rest.now) k) (turn_stands c.args.spare c.args.names.now parts.another_attribute (spec.is_at (ahead c.args.names.now c.loop-alloc.rest.now)) k c.loop-alloc.list c.loop-alloc.rest.now _ c.in_ok-so_far.ensures)

pub loop-alloc-smaller : goal.loop-alloc-smaller
loop-alloc-smaller c =
    let k = tested spec.is_at c.ahead.result (ahead c.args.names.now c.loop-alloc.rest.now) true c.is_at.result c.ahead.ensures c.is_at.ensures c.loop-alloc-test.true in
    let fine = checked spec.attributes refl in
    falls c.args.spare c.args.names.now (λ _ x. spec.is_at x) (λ x. grammar.when (spec.is_at x) parts.another_attribute) (form_in c.args.spare spec.attributes c.args.names.now c.args.ts.now) c.loop-alloc.list c.loop-alloc.rest.now c.in_ok-so_far.so_far c.in_ok-so_far.behind.now (fine.0 (ahead c.args.names.now c.loop-alloc.rest.now)) (fine.2 (ahead c.args.names.now c.loop-alloc.rest.now) k) (turn_stands c.args.spare c.args.names.now parts.another_attribute (spec.is_at (ahead c.args.names.now c.loop-alloc.rest.now)) k c.loop-alloc.list c.loop-alloc.rest.now _ c.in_ok-so_far.ensures)

pub returns-in_err-so_far : goal.returns-in_err-so_far
returns-in_err-so_far c =
    let k = tested spec.is_at c.ahead.result (ahead c.args.names.now c.loop-alloc.rest.now) true c.is_at.result c.ahead.ensures c.is_at.ensures c.loop-alloc-test.true in
    through c.args.names.now c.from_residual.result c.in_err-so_far.field-0.0 (form_in c.args.spare spec.attributes c.args.names.now c.args.ts.now) c.from_residual.ensures
    (fails c.args.spare c.args.names.now (λ _ x. spec.is_at x) (λ x. grammar.when (spec.is_at x) parts.another_attribute) (form_in c.args.spare spec.attributes c.args.names.now c.args.ts.now) c.loop-alloc.list c.loop-alloc.rest.now c.loop-alloc.invariant c.in_err-so_far.field-0.0 k (turn_free c.args.spare c.args.names.now parts.another_attribute (spec.is_at (ahead c.args.names.now c.loop-alloc.rest.now)) k (place c.args.names.now c.loop-alloc.rest.now) (λ x. refl)) (turn_stops c.args.spare c.args.names.now parts.another_attribute (spec.is_at (ahead c.args.names.now c.loop-alloc.rest.now)) k c.loop-alloc.list c.loop-alloc.rest.now c.in_err-so_far.field-0.0 c.in_err-so_far.ensures))

pub returns : goal.returns
returns c =
    let k = tested spec.is_at c.ahead.result (ahead c.args.names.now c.loop-alloc.rest.now) false c.is_at.result c.ahead.ensures c.is_at.ensures c.loop-alloc-test.false in
    ends c.args.spare c.args.names.now (λ _ x. spec.is_at x) (λ x. grammar.when (spec.is_at x) parts.another_attribute) (form_in c.args.spare spec.attributes c.args.names.now c.args.ts.now) c.loop-alloc.list c.loop-alloc.rest.now c.loop-alloc.invariant k
