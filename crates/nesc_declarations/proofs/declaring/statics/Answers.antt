use Rattle.std.proofs.Common.{ℕ, true, false, [], refl}
use Rattle.nesc_tree.specs.declared.sorts.Sort.TheVariants as s
use Rattle.nesc_tree.specs.Sorts.{ahead}
use Rattle.nesc_grammar.specs.Grammar as grammar
use Rattle.nesc_grammar.specs.Declarations as spec
use Rattle.nesc_tree.proofs.Checked.{checked}
use Rattle.nesc_parse_types.specs.Gives.{form_in, place}
use Rattle.nesc_parse_types.proofs.Many.{begins_many, turn_stands, turn_stops, turn_free, mapped, mapped_fails, ends, next_turn, falls, fails, through, tested}
use Rattle.nesc_declarations.specs.Forms as forms
use Rattle.nesc_declarations.proofs.Forms.{word_turn, word_fails}
use Rattle.nesc_declarations.proofs.declaring.statics.Goals as goal

pub loop-rest-init : goal.loop-rest-init
loop-rest-init c spare = ([], begins_many spare c.args.names.now (λ _ x. spec.is_static x) (λ x. grammar.when (spec.is_static x) (grammar.map spec.added (grammar.one s.Static))) spec.is_static [] c.args.ts.now)

pub loop-rest-preserved : goal.loop-rest-preserved
loop-rest-preserved c spare =
    let k = tested spec.is_static c.ahead.result (ahead c.args.names.now c.loop-rest.rest.now) true c.is_static.result c.ahead.ensures c.is_static.ensures c.loop-rest-test.true in
    let fine = checked spec.statics refl in
    let inv = c.loop-rest.invariant spare in
    ((spec.added c.in_ok-behind.field-0-0.now inv.0), next_turn spare c.args.names.now (λ _ x. spec.is_static x) (λ x. grammar.when (spec.is_static x) (grammar.map spec.added (grammar.one s.Static))) (form_in spare spec.statics c.args.names.now c.args.ts.now) inv.0 c.loop-rest.rest.now inv.1 (spec.added c.in_ok-behind.field-0-0.now inv.0) c.in_ok-behind.behind.now k (turn_free spare c.args.names.now (grammar.map spec.added (grammar.one s.Static)) (spec.is_static (ahead c.args.names.now c.loop-rest.rest.now)) k (place c.args.names.now c.loop-rest.rest.now) (λ x. refl)) (fine.0 (ahead c.args.names.now c.loop-rest.rest.now)) (fine.2 (ahead c.args.names.now c.loop-rest.rest.now) k) (turn_stands spare c.args.names.now (grammar.map spec.added (grammar.one s.Static)) (spec.is_static (ahead c.args.names.now c.loop-rest.rest.now)) k inv.0 c.loop-rest.rest.now _ (word_turn spare c.args.names.now c.loop-rest.rest.now s.Static inv.0 c.in_ok-behind.field-0-0.now c.in_ok-behind.behind.now c.in_ok-behind.ensures)))

pub loop-rest-smaller : goal.loop-rest-smaller
loop-rest-smaller c =
    let spare : ℕ = 0 in
    let k = tested spec.is_static c.ahead.result (ahead c.args.names.now c.loop-rest.rest.now) true c.is_static.result c.ahead.ensures c.is_static.ensures c.loop-rest-test.true in
    let fine = checked spec.statics refl in
    let inv = c.loop-rest.invariant spare in
    falls spare c.args.names.now (λ _ x. spec.is_static x) (λ x. grammar.when (spec.is_static x) (grammar.map spec.added (grammar.one s.Static))) (form_in spare spec.statics c.args.names.now c.args.ts.now) inv.0 c.loop-rest.rest.now (spec.added c.in_ok-behind.field-0-0.now inv.0) c.in_ok-behind.behind.now (fine.0 (ahead c.args.names.now c.loop-rest.rest.now)) (fine.2 (ahead c.args.names.now c.loop-rest.rest.now) k) (turn_stands spare c.args.names.now (grammar.map spec.added (grammar.one s.Static)) (spec.is_static (ahead c.args.names.now c.loop-rest.rest.now)) k inv.0 c.loop-rest.rest.now _ (word_turn spare c.args.names.now c.loop-rest.rest.now s.Static inv.0 c.in_ok-behind.field-0-0.now c.in_ok-behind.behind.now c.in_ok-behind.ensures))

pub returns-in_err-behind : goal.returns-in_err-behind
returns-in_err-behind c spare =
    let k = tested spec.is_static c.ahead.result (ahead c.args.names.now c.loop-rest.rest.now) true c.is_static.result c.ahead.ensures c.is_static.ensures c.loop-rest-test.true in
    let fine = checked spec.statics refl in
    let inv = c.loop-rest.invariant spare in
    through c.args.names.now c.from_residual.result c.in_err-behind.field-0.0 (form_in spare (forms.skipped spec.statics) c.args.names.now c.args.ts.now) c.from_residual.ensures
    (mapped_fails spare c.args.names.now c.args.ts.now (λ _. tt) spec.statics c.in_err-behind.field-0.0
    (fails spare c.args.names.now (λ _ x. spec.is_static x) (λ x. grammar.when (spec.is_static x) (grammar.map spec.added (grammar.one s.Static))) (form_in spare spec.statics c.args.names.now c.args.ts.now) inv.0 c.loop-rest.rest.now inv.1 c.in_err-behind.field-0.0 k (turn_free spare c.args.names.now (grammar.map spec.added (grammar.one s.Static)) (spec.is_static (ahead c.args.names.now c.loop-rest.rest.now)) k (place c.args.names.now c.loop-rest.rest.now) (λ x. refl)) (turn_stops spare c.args.names.now (grammar.map spec.added (grammar.one s.Static)) (spec.is_static (ahead c.args.names.now c.loop-rest.rest.now)) k inv.0 c.loop-rest.rest.now c.in_err-behind.field-0.0 (word_fails spare c.args.names.now c.loop-rest.rest.now s.Static inv.0 c.in_err-behind.field-0.0 c.in_err-behind.ensures))))

pub returns : goal.returns
returns c spare =
    let k = tested spec.is_static c.ahead.result (ahead c.args.names.now c.loop-rest.rest.now) false c.is_static.result c.ahead.ensures c.is_static.ensures c.loop-rest-test.false in
    let inv = c.loop-rest.invariant spare in
    mapped spare c.args.names.now c.args.ts.now (λ _. tt) spec.statics inv.0 c.loop-rest.rest.now (ends spare c.args.names.now (λ _ x. spec.is_static x) (λ x. grammar.when (spec.is_static x) (grammar.map spec.added (grammar.one s.Static))) (form_in spare spec.statics c.args.names.now c.args.ts.now) inv.0 c.loop-rest.rest.now inv.1 k)
