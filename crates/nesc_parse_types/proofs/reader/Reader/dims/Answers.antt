use Rattle.std.proofs.Common.{◌≡◌, ◌<◌, true, false, refl, sym, subst, arith}
use Rattle.nesc_tree.specs.Sorts.{ahead}
use Rattle.nesc_grammar.specs.Grammar as grammar
use Rattle.nesc_tree.proofs.Checked.{checked}
use Rattle.nesc_parse_types.specs.Gives.{form_in, place}
use Rattle.nesc_parse_types.proofs.Guards.{open_guard}
use Rattle.nesc_parse_types.proofs.Many.{IsAt, begins_many, ends, next_turn, falls, fails, closes_deep, through, tested}
use Rattle.nesc_parse_types.proofs.reader.Reader.dims.Goals as goal

pub loop-rest-init : goal.loop-rest-init
loop-rest-init g c = subst (λ a. IsAt c.args.self.now.spare c.args.self.now.names.now (λ _ x. grammar.is_bracket x) (λ _. grammar.another_dim) (form_in c.args.self.now.spare grammar.dims c.args.self.now.names.now c.args.ts.now) a c.args.ts.now) (sym c.no_dims-dims.ensures) (begins_many c.args.self.now.spare c.args.self.now.names.now (λ _ x. grammar.is_bracket x) (λ _. grammar.another_dim) grammar.is_bracket grammar.no_dims c.args.ts.now)

pub loop-rest-preserved : goal.loop-rest-preserved
loop-rest-preserved g c =
    let l : 0 < c.args.self.now.spare = omega (arith, c.if-self-eq0.false) in
    let h = tested grammar.is_bracket c.ahead.result (ahead c.args.self.now.names.now c.loop-rest.rest.now) true c.is_bracket.result c.ahead.ensures c.is_bracket.ensures c.loop-rest-test.true in
    let fine = checked grammar.dims refl in
    next_turn c.args.self.now.spare c.args.self.now.names.now (λ _ x. grammar.is_bracket x) (λ _. grammar.another_dim) (form_in c.args.self.now.spare grammar.dims c.args.self.now.names.now c.args.ts.now) c.loop-rest.dims c.loop-rest.rest.now c.loop-rest.invariant c.in_ok-so_far.so_far c.in_ok-so_far.behind.now h (λ x. open_guard c.args.self.now.spare grammar.another_dim (place c.args.self.now.names.now c.loop-rest.rest.now) x l) (fine.0 (ahead c.args.self.now.names.now c.loop-rest.rest.now)) (fine.2 (ahead c.args.self.now.names.now c.loop-rest.rest.now) h) c.in_ok-so_far.ensures

pub loop-rest-smaller : goal.loop-rest-smaller
loop-rest-smaller g c =
    let h = tested grammar.is_bracket c.ahead.result (ahead c.args.self.now.names.now c.loop-rest.rest.now) true c.is_bracket.result c.ahead.ensures c.is_bracket.ensures c.loop-rest-test.true in
    let fine = checked grammar.dims refl in
    falls c.args.self.now.spare c.args.self.now.names.now (λ _ x. grammar.is_bracket x) (λ _. grammar.another_dim) (form_in c.args.self.now.spare grammar.dims c.args.self.now.names.now c.args.ts.now) c.loop-rest.dims c.loop-rest.rest.now c.in_ok-so_far.so_far c.in_ok-so_far.behind.now (fine.0 (ahead c.args.self.now.names.now c.loop-rest.rest.now)) (fine.2 (ahead c.args.self.now.names.now c.loop-rest.rest.now) h) c.in_ok-so_far.ensures

pub returns-in_err-so_far : goal.returns-in_err-so_far
returns-in_err-so_far g c =
    let l : 0 < c.args.self.now.spare = omega (arith, c.if-self-eq0.false) in
    let h = tested grammar.is_bracket c.ahead.result (ahead c.args.self.now.names.now c.loop-rest.rest.now) true c.is_bracket.result c.ahead.ensures c.is_bracket.ensures c.loop-rest-test.true in
    through c.args.self.now.names.now c.from_residual.result c.in_err-so_far.field-0.0 (form_in c.args.self.now.spare grammar.dims c.args.self.now.names.now c.args.ts.now) c.from_residual.ensures
    (fails c.args.self.now.spare c.args.self.now.names.now (λ _ x. grammar.is_bracket x) (λ _. grammar.another_dim) (form_in c.args.self.now.spare grammar.dims c.args.self.now.names.now c.args.ts.now) c.loop-rest.dims c.loop-rest.rest.now c.loop-rest.invariant c.in_err-so_far.field-0.0 h (λ x. open_guard c.args.self.now.spare grammar.another_dim (place c.args.self.now.names.now c.loop-rest.rest.now) x l) c.in_err-so_far.ensures)

pub returns : goal.returns
returns g c =
    let h = tested grammar.is_bracket c.ahead.result (ahead c.args.self.now.names.now c.loop-rest.rest.now) false c.is_bracket.result c.ahead.ensures c.is_bracket.ensures c.loop-rest-test.false in
    ends c.args.self.now.spare c.args.self.now.names.now (λ _ x. grammar.is_bracket x) (λ _. grammar.another_dim) (form_in c.args.self.now.spare grammar.dims c.args.self.now.names.now c.args.ts.now) c.loop-rest.dims c.loop-rest.rest.now c.loop-rest.invariant h

pub returns-then-self-eq0 : goal.returns-then-self-eq0
returns-then-self-eq0 g c =
    let h = tested grammar.is_bracket c.ahead.result (ahead c.args.self.now.names.now c.loop-rest.rest.now) true c.is_bracket.result c.ahead.ensures c.is_bracket.ensures c.loop-rest-test.true in
    let fine = checked grammar.dims refl in
    closes_deep c.args.self.now.spare c.args.self.now.names.now (λ _ x. grammar.is_bracket x) (λ _. grammar.another_dim) (form_in c.args.self.now.spare grammar.dims c.args.self.now.names.now c.args.ts.now) c.loop-rest.dims c.loop-rest.rest.now c.loop-rest.invariant h c.if-self-eq0.true refl (fine.2 (ahead c.args.self.now.names.now c.loop-rest.rest.now) h)
