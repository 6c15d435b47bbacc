use Rattle.std.proofs.Common.{◌≡◌, ◌<◌, true, false, refl, sym, subst, arith}
use Rattle.nesc_tree.specs.Sorts.{ahead}
use Rattle.nesc_grammar.specs.Grammar as grammar
use Rattle.nesc_tree.proofs.Checked.{checked}
use Rattle.nesc_parse_types.specs.Gives.{form_in, place}
use Rattle.nesc_parse_types.proofs.Guards.{open_guard}
use Rattle.nesc_parse_types.proofs.Many.{IsAt, begins_many, ends, next_turn, falls, fails, closes_deep, through, tested}
use Rattle.nesc_declarators.proofs.declarators.dims.Goals as goal

pub loop-alloc-init : goal.loop-alloc-init
loop-alloc-init c = subst (λ a. IsAt c.args.spare c.args.names.now (λ _ x. grammar.is_bracket x) (λ _. grammar.another_dim) (form_in c.args.spare grammar.dims c.args.names.now c.args.ts.now) a c.args.ts.now) (sym c.no_dims-dims.ensures) (begins_many c.args.spare c.args.names.now (λ _ x. grammar.is_bracket x) (λ _. grammar.another_dim) grammar.is_bracket grammar.no_dims c.args.ts.now)

pub loop-alloc-preserved : goal.loop-alloc-preserved
loop-alloc-preserved c =
    let l : 0 < c.args.spare = omega (arith, c.if-spare-eq0.false) in
    let h = tested grammar.is_bracket c.ahead.result (ahead c.args.names.now c.loop-alloc.rest.now) true c.is_bracket.result c.ahead.ensures c.is_bracket.ensures c.loop-alloc-test.true in
    let fine = checked grammar.dims refl in
    next_turn c.args.spare c.args.names.now (λ _ x. grammar.is_bracket x) (λ _. grammar.another_dim) (form_in c.args.spare grammar.dims c.args.names.now c.args.ts.now) c.loop-alloc.dims c.loop-alloc.rest.now c.loop-alloc.invariant c.in_ok-so_far.so_far c.in_ok-so_far.behind.now h (λ x. open_guard c.args.spare grammar.another_dim (place c.args.names.now c.loop-alloc.rest.now) x l) (fine.0 (ahead c.args.names.now c.loop-alloc.rest.now)) (fine.2 (ahead c.args.names.now c.loop-alloc.rest.now) h) c.in_ok-so_far.ensures

pub loop-alloc-smaller : goal.loop-alloc-smaller
loop-alloc-smaller c =
    let h = tested grammar.is_bracket c.ahead.result (ahead c.args.names.now c.loop-alloc.rest.now) true c.is_bracket.result c.ahead.ensures c.is_bracket.ensures c.loop-alloc-test.true in
    let fine = checked grammar.dims refl in
    falls c.args.spare c.args.names.now (λ _ x. grammar.is_bracket x) (λ _. grammar.another_dim) (form_in c.args.spare grammar.dims c.args.names.now c.args.ts.now) c.loop-alloc.dims c.loop-alloc.rest.now c.in_ok-so_far.so_far c.in_ok-so_far.behind.now (fine.0 (ahead c.args.names.now c.loop-alloc.rest.now)) (fine.2 (ahead c.args.names.now c.loop-alloc.rest.now) h) c.in_ok-so_far.ensures

pub returns-in_err-so_far : goal.returns-in_err-so_far
returns-in_err-so_far c =
    let l : 0 < c.args.spare = omega (arith, c.if-spare-eq0.false) in
    let h = tested grammar.is_bracket c.ahead.result (ahead c.args.names.now c.loop-alloc.rest.now) true c.is_bracket.result c.ahead.ensures c.is_bracket.ensures c.loop-alloc-test.true in
    through c.args.names.now c.from_residual.result c.in_err-so_far.field-0.0 (form_in c.args.spare grammar.dims c.args.names.now c.args.ts.now) c.from_residual.ensures
    (fails c.args.spare c.args.names.now (λ _ x. grammar.is_bracket x) (λ _. grammar.another_dim) (form_in c.args.spare grammar.dims c.args.names.now c.args.ts.now) c.loop-alloc.dims c.loop-alloc.rest.now c.loop-alloc.invariant c.in_err-so_far.field-0.0 h (λ x. open_guard c.args.spare grammar.another_dim (place c.args.names.now c.loop-alloc.rest.now) x l) c.in_err-so_far.ensures)

pub returns : goal.returns
returns c =
    let h = tested grammar.is_bracket c.ahead.result (ahead c.args.names.now c.loop-alloc.rest.now) false c.is_bracket.result c.ahead.ensures c.is_bracket.ensures c.loop-alloc-test.false in
    ends c.args.spare c.args.names.now (λ _ x. grammar.is_bracket x) (λ _. grammar.another_dim) (form_in c.args.spare grammar.dims c.args.names.now c.args.ts.now) c.loop-alloc.dims c.loop-alloc.rest.now c.loop-alloc.invariant h

pub returns-then-spare-eq0 : goal.returns-then-spare-eq0
returns-then-spare-eq0 c =
    let h = tested grammar.is_bracket c.ahead.result (ahead c.args.names.now c.loop-alloc.rest.now) true c.is_bracket.result c.ahead.ensures c.is_bracket.ensures c.loop-alloc-test.true in
    let fine = checked grammar.dims refl in
    closes_deep c.args.spare c.args.names.now (λ _ x. grammar.is_bracket x) (λ _. grammar.another_dim) (form_in c.args.spare grammar.dims c.args.names.now c.args.ts.now) c.loop-alloc.dims c.loop-alloc.rest.now c.loop-alloc.invariant h c.if-spare-eq0.true refl (fine.2 (ahead c.args.names.now c.loop-alloc.rest.now) h)
