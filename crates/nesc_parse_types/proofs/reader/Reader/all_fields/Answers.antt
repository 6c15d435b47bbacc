use Rattle.std.proofs.Common.{◌≡◌, Ok, true, false, refl, sym, subst}
use Rattle.nesc_tree.specs.Sorts.{ahead}
use Rattle.nesc_tree.specs.Phrase.{begins_type}
use Rattle.nesc_grammar.specs.Grammar as grammar
use Rattle.nesc_tree.proofs.Checked.{checked}
use Rattle.nesc_parse_types.specs.Gives.{form_in}
use Rattle.nesc_parse_types.proofs.Heights.{all_fields_fit}
use Rattle.nesc_parse_types.proofs.Many.{IsAt, begins_many, ends, next_turn, falls, fails, through, tested}
use Rattle.nesc_parse_types.proofs.reader.Reader.all_fields.Goals as goal

pub loop-fields-init : goal.loop-fields-init
loop-fields-init g c = subst (λ a. IsAt c.args.self.now.spare c.args.self.now.names.now (λ _ x. begins_type x) (λ _. grammar.another_field) (form_in c.args.self.now.spare grammar.all_fields c.args.self.now.names.now c.args.ts.now) a c.args.ts.now) (sym c.no_fields-fields.ensures) (begins_many c.args.self.now.spare c.args.self.now.names.now (λ _ x. begins_type x) (λ _. grammar.another_field) begins_type grammar.no_fields c.args.ts.now)

pub loop-fields-preserved : goal.loop-fields-preserved
loop-fields-preserved g c =
    let h = tested begins_type c.ahead.result (ahead c.args.self.now.names.now c.loop-fields.rest.now) true c.begins_type.result c.ahead.ensures c.begins_type.ensures c.loop-fields-test.true in
    let fine = checked grammar.all_fields refl in
    next_turn c.args.self.now.spare c.args.self.now.names.now (λ _ x. begins_type x) (λ _. grammar.another_field) (form_in c.args.self.now.spare grammar.all_fields c.args.self.now.names.now c.args.ts.now) c.loop-fields.fields c.loop-fields.rest.now c.loop-fields.invariant c.in_ok-so_far.so_far c.in_ok-so_far.behind.now h (λ x. refl) (fine.0 (ahead c.args.self.now.names.now c.loop-fields.rest.now)) (fine.2 (ahead c.args.self.now.names.now c.loop-fields.rest.now) h) c.in_ok-so_far.ensures

pub loop-fields-smaller : goal.loop-fields-smaller
loop-fields-smaller g c =
    let h = tested begins_type c.ahead.result (ahead c.args.self.now.names.now c.loop-fields.rest.now) true c.begins_type.result c.ahead.ensures c.begins_type.ensures c.loop-fields-test.true in
    let fine = checked grammar.all_fields refl in
    falls c.args.self.now.spare c.args.self.now.names.now (λ _ x. begins_type x) (λ _. grammar.another_field) (form_in c.args.self.now.spare grammar.all_fields c.args.self.now.names.now c.args.ts.now) c.loop-fields.fields c.loop-fields.rest.now c.in_ok-so_far.so_far c.in_ok-so_far.behind.now (fine.0 (ahead c.args.self.now.names.now c.loop-fields.rest.now)) (fine.2 (ahead c.args.self.now.names.now c.loop-fields.rest.now) h) c.in_ok-so_far.ensures

pub returns-in_err-so_far-clause-gives : goal.returns-in_err-so_far-clause-gives
returns-in_err-so_far-clause-gives g c =
    let h = tested begins_type c.ahead.result (ahead c.args.self.now.names.now c.loop-fields.rest.now) true c.begins_type.result c.ahead.ensures c.begins_type.ensures c.loop-fields-test.true in
    through c.args.self.now.names.now c.from_residual.result c.in_err-so_far.field-0.0 (form_in c.args.self.now.spare grammar.all_fields c.args.self.now.names.now c.args.ts.now) c.from_residual.ensures
    (fails c.args.self.now.spare c.args.self.now.names.now (λ _ x. begins_type x) (λ _. grammar.another_field) (form_in c.args.self.now.spare grammar.all_fields c.args.self.now.names.now c.args.ts.now) c.loop-fields.fields c.loop-fields.rest.now c.loop-fields.invariant c.in_err-so_far.field-0.0 h (λ x. refl) c.in_err-so_far.ensures)

pub returns-clause-gives : goal.returns-clause-gives
returns-clause-gives g c =
    let h = tested begins_type c.ahead.result (ahead c.args.self.now.names.now c.loop-fields.rest.now) false c.begins_type.result c.ahead.ensures c.begins_type.ensures c.loop-fields-test.false in
    ends c.args.self.now.spare c.args.self.now.names.now (λ _ x. begins_type x) (λ _. grammar.another_field) (form_in c.args.self.now.spare grammar.all_fields c.args.self.now.names.now c.args.ts.now) c.loop-fields.fields c.loop-fields.rest.now c.loop-fields.invariant h

pub returns-clause-fits : goal.returns-clause-fits
returns-clause-fits g c =
    let h = tested begins_type c.ahead.result (ahead c.args.self.now.names.now c.loop-fields.rest.now) false c.begins_type.result c.ahead.ensures c.begins_type.ensures c.loop-fields-test.false in
    all_fields_fit c.args.self.now.spare c.args.self.now.names.now c.args.ts.now (Ok (c.loop-fields.fields, c.loop-fields.rest)) (ends c.args.self.now.spare c.args.self.now.names.now (λ _ x. begins_type x) (λ _. grammar.another_field) (form_in c.args.self.now.spare grammar.all_fields c.args.self.now.names.now c.args.ts.now) c.loop-fields.fields c.loop-fields.rest.now c.loop-fields.invariant h)
