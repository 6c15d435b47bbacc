use Rattle.std.proofs.Common.{◌≡◌, true, false, refl, sym, subst}
use Rattle.nesc_tree.specs.Sorts.{ahead}
use Rattle.nesc_tree.specs.Form.{goes}
use Rattle.nesc_grammar.specs.Grammar as grammar
use Rattle.nesc_tree.proofs.Checked.{checked}
use Rattle.nesc_parse_types.specs.Gives.{form_in, place}
use Rattle.nesc_parse_types.proofs.Many.{IsAt, begins_loop, loop_fails, mapped, mapped_fails, left_true, turn_stands, turn_stops, turn_free, ends, next_turn, falls, fails, through, tested}
use Rattle.nesc_parse_types.proofs.reader.Reader.items.Goals as goal

pub returns-in_err-first : goal.returns-in_err-first
returns-in_err-first g c =
    through c.args.self.now.names.now c.from_residual.result c.in_err-first.field-0.0 (form_in c.args.self.now.spare grammar.items c.args.self.now.names.now c.args.ts.now) c.from_residual.ensures
    (loop_fails c.args.self.now.spare c.args.self.now.names.now grammar.is_comma grammar.not_ended (grammar.map grammar.first_item grammar.item) (λ x. grammar.when (grammar.is_comma x) grammar.another_item) c.args.ts.now c.in_err-first.field-0.0 (mapped_fails c.args.self.now.spare c.args.self.now.names.now c.args.ts.now grammar.first_item grammar.item c.in_err-first.field-0.0 c.in_err-first.ensures))

pub loop-items-init : goal.loop-items-init
loop-items-init g c =
    subst (λ a. IsAt c.args.self.now.spare c.args.self.now.names.now (goes grammar.is_comma grammar.not_ended) (λ x. grammar.when (grammar.is_comma x) grammar.another_item) (form_in c.args.self.now.spare grammar.items c.args.self.now.names.now c.args.ts.now) a c.in_ok-first.rest.now) (sym c.in_ok-items.ensures)
    (begins_loop c.args.self.now.spare c.args.self.now.names.now grammar.is_comma grammar.not_ended (grammar.map grammar.first_item grammar.item) (λ x. grammar.when (grammar.is_comma x) grammar.another_item) c.args.ts.now (grammar.first_item c.in_ok-first.first) c.in_ok-first.rest.now (mapped c.args.self.now.spare c.args.self.now.names.now c.args.ts.now grammar.first_item grammar.item c.in_ok-first.first c.in_ok-first.rest.now c.in_ok-first.ensures))

pub loop-items-preserved : goal.loop-items-preserved
loop-items-preserved g c =
    let h = tested (goes grammar.is_comma grammar.not_ended c.loop-items.items) c.ahead.result (ahead c.args.self.now.names.now c.loop-items.rest.now) true c.goes_on.result c.ahead.ensures c.goes_on.ensures c.loop-items-test.true in
    let fine = checked grammar.items refl in
    let comma = (left_true (grammar.is_comma (ahead c.args.self.now.names.now c.loop-items.rest.now)) (grammar.not_ended c.loop-items.items (ahead c.args.self.now.names.now c.loop-items.rest.now)) h) in
    next_turn c.args.self.now.spare c.args.self.now.names.now (goes grammar.is_comma grammar.not_ended) (λ x. grammar.when (grammar.is_comma x) grammar.another_item) (form_in c.args.self.now.spare grammar.items c.args.self.now.names.now c.args.ts.now) c.loop-items.items c.loop-items.rest.now c.loop-items.invariant c.in_ok-so_far.so_far c.in_ok-so_far.behind.now h (turn_free c.args.self.now.spare c.args.self.now.names.now grammar.another_item (grammar.is_comma (ahead c.args.self.now.names.now c.loop-items.rest.now)) comma (place c.args.self.now.names.now c.loop-items.rest.now) (λ x. refl)) (fine.2 (ahead c.args.self.now.names.now c.loop-items.rest.now)) (fine.4 (ahead c.args.self.now.names.now c.loop-items.rest.now) (left_true (grammar.is_comma (ahead c.args.self.now.names.now c.loop-items.rest.now)) (grammar.not_ended c.loop-items.items (ahead c.args.self.now.names.now c.loop-items.rest.now)) h)) (turn_stands c.args.self.now.spare c.args.self.now.names.now grammar.another_item (grammar.is_comma (ahead c.args.self.now.names.now c.loop-items.rest.now)) comma c.loop-items.items c.loop-items.rest.now _ c.in_ok-so_far.ensures)

pub loop-items-smaller : goal.loop-items-smaller
loop-items-smaller g c =
    let h = tested (goes grammar.is_comma grammar.not_ended c.loop-items.items) c.ahead.result (ahead c.args.self.now.names.now c.loop-items.rest.now) true c.goes_on.result c.ahead.ensures c.goes_on.ensures c.loop-items-test.true in
    let fine = checked grammar.items refl in
    let comma = (left_true (grammar.is_comma (ahead c.args.self.now.names.now c.loop-items.rest.now)) (grammar.not_ended c.loop-items.items (ahead c.args.self.now.names.now c.loop-items.rest.now)) h) in
    falls c.args.self.now.spare c.args.self.now.names.now (goes grammar.is_comma grammar.not_ended) (λ x. grammar.when (grammar.is_comma x) grammar.another_item) (form_in c.args.self.now.spare grammar.items c.args.self.now.names.now c.args.ts.now) c.loop-items.items c.loop-items.rest.now c.in_ok-so_far.so_far c.in_ok-so_far.behind.now (fine.2 (ahead c.args.self.now.names.now c.loop-items.rest.now)) (fine.4 (ahead c.args.self.now.names.now c.loop-items.rest.now) (left_true (grammar.is_comma (ahead c.args.self.now.names.now c.loop-items.rest.now)) (grammar.not_ended c.loop-items.items (ahead c.args.self.now.names.now c.loop-items.rest.now)) h)) (turn_stands c.args.self.now.spare c.args.self.now.names.now grammar.another_item (grammar.is_comma (ahead c.args.self.now.names.now c.loop-items.rest.now)) comma c.loop-items.items c.loop-items.rest.now _ c.in_ok-so_far.ensures)

pub returns-in_err-so_far : goal.returns-in_err-so_far
returns-in_err-so_far g c =
    let h = tested (goes grammar.is_comma grammar.not_ended c.loop-items.items) c.ahead.result (ahead c.args.self.now.names.now c.loop-items.rest.now) true c.goes_on.result c.ahead.ensures c.goes_on.ensures c.loop-items-test.true in
    let comma = (left_true (grammar.is_comma (ahead c.args.self.now.names.now c.loop-items.rest.now)) (grammar.not_ended c.loop-items.items (ahead c.args.self.now.names.now c.loop-items.rest.now)) h) in
    through c.args.self.now.names.now c.from_residual-in_err-so_far.result c.in_err-so_far.field-0.0 (form_in c.args.self.now.spare grammar.items c.args.self.now.names.now c.args.ts.now) c.from_residual-in_err-so_far.ensures
    (fails c.args.self.now.spare c.args.self.now.names.now (goes grammar.is_comma grammar.not_ended) (λ x. grammar.when (grammar.is_comma x) grammar.another_item) (form_in c.args.self.now.spare grammar.items c.args.self.now.names.now c.args.ts.now) c.loop-items.items c.loop-items.rest.now c.loop-items.invariant c.in_err-so_far.field-0.0 h (turn_free c.args.self.now.spare c.args.self.now.names.now grammar.another_item (grammar.is_comma (ahead c.args.self.now.names.now c.loop-items.rest.now)) comma (place c.args.self.now.names.now c.loop-items.rest.now) (λ x. refl)) (turn_stops c.args.self.now.spare c.args.self.now.names.now grammar.another_item (grammar.is_comma (ahead c.args.self.now.names.now c.loop-items.rest.now)) comma c.loop-items.items c.loop-items.rest.now c.in_err-so_far.field-0.0 c.in_err-so_far.ensures))

pub returns : goal.returns
returns g c =
    let h = tested (goes grammar.is_comma grammar.not_ended c.loop-items.items) c.ahead.result (ahead c.args.self.now.names.now c.loop-items.rest.now) false c.goes_on.result c.ahead.ensures c.goes_on.ensures c.loop-items-test.false in
    ends c.args.self.now.spare c.args.self.now.names.now (goes grammar.is_comma grammar.not_ended) (λ x. grammar.when (grammar.is_comma x) grammar.another_item) (form_in c.args.self.now.spare grammar.items c.args.self.now.names.now c.args.ts.now) c.loop-items.items c.loop-items.rest.now c.loop-items.invariant h
