use Rattle.std.proofs.Common.{ℕ, true, false, refl, sym, subst}
use Rattle.nesc_tree.specs.Sorts.{ahead}
use Rattle.nesc_grammar.specs.Grammar as grammar
use Rattle.nesc_grammar.specs.Declarations as spec
use Rattle.nesc_tree.proofs.Checked.{checked}
use Rattle.nesc_parse_types.specs.Gives.{form_in, place}
use Rattle.nesc_parse_types.proofs.Many.{IsAt, begins_many, turn_stands, turn_stops, turn_free, ends, next_turn, falls, fails, tested}
use Rattle.nesc_heads.specs.Parts as parts
use Rattle.nesc_heads.specs.Words.{words_of}
use Rattle.nesc_heads.proofs.Forms.{through_as}
use Rattle.nesc_heads.proofs.words.modifiers.Goals as goal

pub loop-rest-init : goal.loop-rest-init
loop-rest-init c spare =
    subst (λ a. IsAt spare c.args.names.now (λ _ x. spec.is_modifier x) (λ x. grammar.when (spec.is_modifier x) (parts.another_modifier x)) (form_in spare spec.modifiers c.args.names.now c.args.ts.now) a c.args.ts.now) (sym c.no_words-words.ensures)
    (begins_many spare c.args.names.now (λ _ x. spec.is_modifier x) (λ x. grammar.when (spec.is_modifier x) (parts.another_modifier x)) spec.is_modifier spec.no_words c.args.ts.now)

pub loop-rest-preserved : goal.loop-rest-preserved
loop-rest-preserved c spare =
    let k = tested spec.is_modifier c.ahead.result (ahead c.args.names.now c.loop-rest.rest.now) true c.is_modifier.result c.ahead.ensures c.is_modifier.ensures c.loop-rest-test.true in
    let fine = checked spec.modifiers refl in
    next_turn spare c.args.names.now (λ _ x. spec.is_modifier x) (λ x. grammar.when (spec.is_modifier x) (parts.another_modifier x)) (form_in spare spec.modifiers c.args.names.now c.args.ts.now) (words_of c.loop-rest.words) c.loop-rest.rest.now (c.loop-rest.invariant spare) (words_of c.in_ok-so_far.so_far) c.in_ok-so_far.behind.now k (turn_free spare c.args.names.now (parts.another_modifier (ahead c.args.names.now c.loop-rest.rest.now)) (spec.is_modifier (ahead c.args.names.now c.loop-rest.rest.now)) k (place c.args.names.now c.loop-rest.rest.now) (λ x. refl)) (fine.0 (ahead c.args.names.now c.loop-rest.rest.now)) (fine.2 (ahead c.args.names.now c.loop-rest.rest.now) k) (turn_stands spare c.args.names.now (parts.another_modifier (ahead c.args.names.now c.loop-rest.rest.now)) (spec.is_modifier (ahead c.args.names.now c.loop-rest.rest.now)) k (words_of c.loop-rest.words) c.loop-rest.rest.now _ (c.in_ok-so_far.ensures spare))

pub loop-rest-smaller : goal.loop-rest-smaller
loop-rest-smaller c =
    let spare : ℕ = 0 in
    let k = tested spec.is_modifier c.ahead.result (ahead c.args.names.now c.loop-rest.rest.now) true c.is_modifier.result c.ahead.ensures c.is_modifier.ensures c.loop-rest-test.true in
    let fine = checked spec.modifiers refl in
    falls spare c.args.names.now (λ _ x. spec.is_modifier x) (λ x. grammar.when (spec.is_modifier x) (parts.another_modifier x)) (form_in spare spec.modifiers c.args.names.now c.args.ts.now) (words_of c.loop-rest.words) c.loop-rest.rest.now (words_of c.in_ok-so_far.so_far) c.in_ok-so_far.behind.now (fine.0 (ahead c.args.names.now c.loop-rest.rest.now)) (fine.2 (ahead c.args.names.now c.loop-rest.rest.now) k) (turn_stands spare c.args.names.now (parts.another_modifier (ahead c.args.names.now c.loop-rest.rest.now)) (spec.is_modifier (ahead c.args.names.now c.loop-rest.rest.now)) k (words_of c.loop-rest.words) c.loop-rest.rest.now _ (c.in_ok-so_far.ensures spare))

pub returns-in_err-so_far : goal.returns-in_err-so_far
returns-in_err-so_far c spare =
    let k = tested spec.is_modifier c.ahead.result (ahead c.args.names.now c.loop-rest.rest.now) true c.is_modifier.result c.ahead.ensures c.is_modifier.ensures c.loop-rest-test.true in
    let fine = checked spec.modifiers refl in
    through_as words_of c.args.names.now c.from_residual.result c.in_err-so_far.field-0.0 (form_in spare spec.modifiers c.args.names.now c.args.ts.now) c.from_residual.ensures
    (fails spare c.args.names.now (λ _ x. spec.is_modifier x) (λ x. grammar.when (spec.is_modifier x) (parts.another_modifier x)) (form_in spare spec.modifiers c.args.names.now c.args.ts.now) (words_of c.loop-rest.words) c.loop-rest.rest.now (c.loop-rest.invariant spare) c.in_err-so_far.field-0.0 k (turn_free spare c.args.names.now (parts.another_modifier (ahead c.args.names.now c.loop-rest.rest.now)) (spec.is_modifier (ahead c.args.names.now c.loop-rest.rest.now)) k (place c.args.names.now c.loop-rest.rest.now) (λ x. refl)) (turn_stops spare c.args.names.now (parts.another_modifier (ahead c.args.names.now c.loop-rest.rest.now)) (spec.is_modifier (ahead c.args.names.now c.loop-rest.rest.now)) k (words_of c.loop-rest.words) c.loop-rest.rest.now c.in_err-so_far.field-0.0 (c.in_err-so_far.ensures spare)))

pub returns : goal.returns
returns c spare =
    let k = tested spec.is_modifier c.ahead.result (ahead c.args.names.now c.loop-rest.rest.now) false c.is_modifier.result c.ahead.ensures c.is_modifier.ensures c.loop-rest-test.false in
    ends spare c.args.names.now (λ _ x. spec.is_modifier x) (λ x. grammar.when (spec.is_modifier x) (parts.another_modifier x)) (form_in spare spec.modifiers c.args.names.now c.args.ts.now) (words_of c.loop-rest.words) c.loop-rest.rest.now (c.loop-rest.invariant spare) k
