use Rattle.std.proofs.Common.{◌≡◌, true, false, refl, sym, subst}
use Rattle.nesc_tree.specs.Sorts.{ahead}
use Rattle.nesc_grammar.specs.Grammar as grammar
use Rattle.nesc_tree.proofs.Checked.{checked}
use Rattle.nesc_parse_types.specs.Gives.{form_in}
use Rattle.nesc_parse_types.proofs.Many.{IsAt, begins_many, ends, next_turn, falls, fails, through, tested}
use Rattle.nesc_parse_types.proofs.reader.Reader.qualifiers.Goals as goal

pub loop-rest-init : goal.loop-rest-init
loop-rest-init g c = subst (λ a. IsAt c.args.self.now.spare c.args.self.now.names.now (λ _ x. grammar.is_qualifier x) (λ _. grammar.another_qualifier) (form_in c.args.self.now.spare grammar.qualifiers c.args.self.now.names.now c.args.ts.now) a c.args.ts.now) (sym c.no_qualifiers-found.ensures) (begins_many c.args.self.now.spare c.args.self.now.names.now (λ _ x. grammar.is_qualifier x) (λ _. grammar.another_qualifier) grammar.is_qualifier grammar.no_qualifiers c.args.ts.now)

pub loop-rest-preserved : goal.loop-rest-preserved
loop-rest-preserved g c =
    let h = tested grammar.is_qualifier c.ahead.result (ahead c.args.self.now.names.now c.loop-rest.rest.now) true c.is_qualifier.result c.ahead.ensures c.is_qualifier.ensures c.loop-rest-test.true in
    let fine = checked grammar.qualifiers refl in
    next_turn c.args.self.now.spare c.args.self.now.names.now (λ _ x. grammar.is_qualifier x) (λ _. grammar.another_qualifier) (form_in c.args.self.now.spare grammar.qualifiers c.args.self.now.names.now c.args.ts.now) c.loop-rest.found c.loop-rest.rest.now c.loop-rest.invariant c.in_ok-so_far.so_far c.in_ok-so_far.behind.now h (λ x. refl) (fine.0 (ahead c.args.self.now.names.now c.loop-rest.rest.now)) (fine.2 (ahead c.args.self.now.names.now c.loop-rest.rest.now) h) c.in_ok-so_far.ensures

pub loop-rest-smaller : goal.loop-rest-smaller
loop-rest-smaller g c =
    let h = tested grammar.is_qualifier c.ahead.result (ahead c.args.self.now.names.now c.loop-rest.rest.now) true c.is_qualifier.result c.ahead.ensures c.is_qualifier.ensures c.loop-rest-test.true in
    let fine = checked grammar.qualifiers refl in
    falls c.args.self.now.spare c.args.self.now.names.now (λ _ x. grammar.is_qualifier x) (λ _. grammar.another_qualifier) (form_in c.args.self.now.spare grammar.qualifiers c.args.self.now.names.now c.args.ts.now) c.loop-rest.found c.loop-rest.rest.now c.in_ok-so_far.so_far c.in_ok-so_far.behind.now (fine.0 (ahead c.args.self.now.names.now c.loop-rest.rest.now)) (fine.2 (ahead c.args.self.now.names.now c.loop-rest.rest.now) h) c.in_ok-so_far.ensures

pub returns-in_err-so_far : goal.returns-in_err-so_far
returns-in_err-so_far g c =
    let h = tested grammar.is_qualifier c.ahead.result (ahead c.args.self.now.names.now c.loop-rest.rest.now) true c.is_qualifier.result c.ahead.ensures c.is_qualifier.ensures c.loop-rest-test.true in
    through c.args.self.now.names.now c.from_residual.result c.in_err-so_far.field-0.0 (form_in c.args.self.now.spare grammar.qualifiers c.args.self.now.names.now c.args.ts.now) c.from_residual.ensures
    (fails c.args.self.now.spare c.args.self.now.names.now (λ _ x. grammar.is_qualifier x) (λ _. grammar.another_qualifier) (form_in c.args.self.now.spare grammar.qualifiers c.args.self.now.names.now c.args.ts.now) c.loop-rest.found c.loop-rest.rest.now c.loop-rest.invariant c.in_err-so_far.field-0.0 h (λ x. refl) c.in_err-so_far.ensures)

pub returns : goal.returns
returns g c =
    let h = tested grammar.is_qualifier c.ahead.result (ahead c.args.self.now.names.now c.loop-rest.rest.now) false c.is_qualifier.result c.ahead.ensures c.is_qualifier.ensures c.loop-rest-test.false in
    ends c.args.self.now.spare c.args.self.now.names.now (λ _ x. grammar.is_qualifier x) (λ _. grammar.another_qualifier) (form_in c.args.self.now.spare grammar.qualifiers c.args.self.now.names.now c.args.ts.now) c.loop-rest.found c.loop-rest.rest.now c.loop-rest.invariant h
