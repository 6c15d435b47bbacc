use Rattle.std.proofs.Common.{◌≡◌, true, false, refl, sym, subst}
use Rattle.nesc_tree.specs.Sorts.{ahead}
use Rattle.nesc_tree.specs.Form.{goes}
use Rattle.nesc_tree.specs.Level as level
use Rattle.nesc_grammar.specs.Grammar as grammar
use Rattle.nesc_tree.proofs.Checked.{checked}
use Rattle.nesc_parse_types.specs.Gives.{form_in, place}
use Rattle.nesc_parse_exprs.specs.Parts as parts
use Rattle.nesc_parse_exprs.proofs.Dispatch.{expr_read, expr_fails, has_room}
use Rattle.nesc_parse_types.proofs.Guards.{open_guard}
use Rattle.nesc_parse_types.proofs.Many.{IsAt, begins_loop, loop_fails, mapped, mapped_fails, with_true, ends, next_turn, falls, fails, through, tested}
use Rattle.nesc_parse_exprs.proofs.expr_reader.ExprReader.some_arguments.Goals as goal

pub returns-in_err-first : goal.returns-in_err-first
returns-in_err-first g c =
    through c.args.self.now.reader.names.now c.from_residual.result c.in_err-first.field-0.0 (form_in c.args.self.now.reader.spare grammar.some_arguments c.args.self.now.reader.names.now c.args.ts.now) c.from_residual.ensures
    (loop_fails c.args.self.now.reader.spare c.args.self.now.reader.names.now grammar.is_comma (λ _ _. true) (grammar.map grammar.single (grammar.expr level.assignment)) (λ _. parts.another_argument) c.args.ts.now c.in_err-first.field-0.0 (mapped_fails c.args.self.now.reader.spare c.args.self.now.reader.names.now c.args.ts.now grammar.single (grammar.expr level.assignment) c.in_err-first.field-0.0 (expr_fails c.args.self.now.reader.spare level.assignment c.args.self.now.reader.names.now c.args.ts.now c.in_err-first.field-0.0 c.in_err-first.ensures.gives)))

pub loop-list-init : goal.loop-list-init
loop-list-init g c =
    subst (λ a. IsAt c.args.self.now.reader.spare c.args.self.now.reader.names.now (goes grammar.is_comma (λ _ _. true)) (λ _. parts.another_argument) (form_in c.args.self.now.reader.spare grammar.some_arguments c.args.self.now.reader.names.now c.args.ts.now) a c.in_ok-first.rest.now) (sym c.in_ok-list.ensures)
    (begins_loop c.args.self.now.reader.spare c.args.self.now.reader.names.now grammar.is_comma (λ _ _. true) (grammar.map grammar.single (grammar.expr level.assignment)) (λ _. parts.another_argument) c.args.ts.now (grammar.single c.in_ok-first.first) c.in_ok-first.rest.now (mapped c.args.self.now.reader.spare c.args.self.now.reader.names.now c.args.ts.now grammar.single (grammar.expr level.assignment) c.in_ok-first.first c.in_ok-first.rest.now (expr_read c.args.self.now.reader.spare level.assignment c.args.self.now.reader.names.now c.args.ts.now c.in_ok-first.first c.in_ok-first.rest.now c.in_ok-first.ensures.gives)))

pub loop-list-preserved : goal.loop-list-preserved
loop-list-preserved g c =
    let l = has_room c.args.self.now.reader.spare level.assignment c.args.self.now.reader.names.now c.args.ts.now c.in_ok-first.first c.in_ok-first.rest.now c.in_ok-first.ensures.gives in
    let k = tested grammar.is_comma c.ahead.result (ahead c.args.self.now.reader.names.now c.loop-list.rest.now) true c.is_comma.result c.ahead.ensures c.is_comma.ensures c.loop-list-test.true in
    let h = with_true _ _ k in
    let fine = checked grammar.some_arguments refl in
    next_turn c.args.self.now.reader.spare c.args.self.now.reader.names.now (goes grammar.is_comma (λ _ _. true)) (λ _. parts.another_argument) (form_in c.args.self.now.reader.spare grammar.some_arguments c.args.self.now.reader.names.now c.args.ts.now) c.loop-list.list c.loop-list.rest.now c.loop-list.invariant c.in_ok-so_far.so_far c.in_ok-so_far.behind.now h (λ x. open_guard c.args.self.now.reader.spare parts.another_argument (place c.args.self.now.reader.names.now c.loop-list.rest.now) x l) (fine.2 (ahead c.args.self.now.reader.names.now c.loop-list.rest.now)) (fine.4 (ahead c.args.self.now.reader.names.now c.loop-list.rest.now) k) c.in_ok-so_far.ensures

pub loop-list-smaller : goal.loop-list-smaller
loop-list-smaller g c =
    let k = tested grammar.is_comma c.ahead.result (ahead c.args.self.now.reader.names.now c.loop-list.rest.now) true c.is_comma.result c.ahead.ensures c.is_comma.ensures c.loop-list-test.true in
    let h = with_true _ _ k in
    let fine = checked grammar.some_arguments refl in
    falls c.args.self.now.reader.spare c.args.self.now.reader.names.now (goes grammar.is_comma (λ _ _. true)) (λ _. parts.another_argument) (form_in c.args.self.now.reader.spare grammar.some_arguments c.args.self.now.reader.names.now c.args.ts.now) c.loop-list.list c.loop-list.rest.now c.in_ok-so_far.so_far c.in_ok-so_far.behind.now (fine.2 (ahead c.args.self.now.reader.names.now c.loop-list.rest.now)) (fine.4 (ahead c.args.self.now.reader.names.now c.loop-list.rest.now) k) c.in_ok-so_far.ensures

pub returns-in_err-so_far : goal.returns-in_err-so_far
returns-in_err-so_far g c =
    let l = has_room c.args.self.now.reader.spare level.assignment c.args.self.now.reader.names.now c.args.ts.now c.in_ok-first.first c.in_ok-first.rest.now c.in_ok-first.ensures.gives in
    let k = tested grammar.is_comma c.ahead.result (ahead c.args.self.now.reader.names.now c.loop-list.rest.now) true c.is_comma.result c.ahead.ensures c.is_comma.ensures c.loop-list-test.true in
    let h = with_true _ _ k in
    through c.args.self.now.reader.names.now c.from_residual-in_err-so_far.result c.in_err-so_far.field-0.0 (form_in c.args.self.now.reader.spare grammar.some_arguments c.args.self.now.reader.names.now c.args.ts.now) c.from_residual-in_err-so_far.ensures
    (fails c.args.self.now.reader.spare c.args.self.now.reader.names.now (goes grammar.is_comma (λ _ _. true)) (λ _. parts.another_argument) (form_in c.args.self.now.reader.spare grammar.some_arguments c.args.self.now.reader.names.now c.args.ts.now) c.loop-list.list c.loop-list.rest.now c.loop-list.invariant c.in_err-so_far.field-0.0 h (λ x. open_guard c.args.self.now.reader.spare parts.another_argument (place c.args.self.now.reader.names.now c.loop-list.rest.now) x l) c.in_err-so_far.ensures)

pub returns : goal.returns
returns g c =
    let k = tested grammar.is_comma c.ahead.result (ahead c.args.self.now.reader.names.now c.loop-list.rest.now) false c.is_comma.result c.ahead.ensures c.is_comma.ensures c.loop-list-test.false in
    let h = with_true _ _ k in
    ends c.args.self.now.reader.spare c.args.self.now.reader.names.now (goes grammar.is_comma (λ _ _. true)) (λ _. parts.another_argument) (form_in c.args.self.now.reader.spare grammar.some_arguments c.args.self.now.reader.names.now c.args.ts.now) c.loop-list.list c.loop-list.rest.now c.loop-list.invariant h
