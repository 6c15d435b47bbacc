use Rattle.std.proofs.Common.{true, false, Ok, refl, sym, ap, subst, ◌∙◌}
use Rattle.nesc_tree.specs.declared.declarations.Init.{Init}
use Rattle.nesc_tree.specs.Sorts.{ahead}
use Rattle.nesc_tree.specs.Form.{goes}
use Rattle.nesc_grammar.specs.Grammar as grammar
use Rattle.nesc_grammar.specs.Declarations as spec
use Rattle.nesc_tree.proofs.Checked.{checked}
use Rattle.nesc_parse_types.specs.Gives.{Gives, form_in, place}
use Rattle.nesc_parse_types.proofs.Guards.{open_guard}
use Rattle.nesc_parse_types.proofs.Many.{IsAt, begins_loop, loop_fails, mapped, mapped_fails, left_true, turn_stands, turn_stops, turn_free, ends, next_turn, falls, fails, through, tested}
use Rattle.nesc_parse_decls.specs.Inits.{begins_init}
use Rattle.nesc_parse_decls.proofs.Cases.{braces_case, expr_read, expr_fails, next_read, next_fails, next_none, braces_give, braces_stop}
use Rattle.nesc_parse_decls.proofs.inits.+braces.Goals as goal

pub braces-returns-then-levels-lt2 : goal.braces-returns-then-levels-lt2
braces-returns-then-levels-lt2 t c = braces_stop c.args.names.now c.args.ts.now c.args.levels c.if-levels-lt2.true c.ahead.result c.ahead.ensures c.same_sort.result c.refused.result c.refused.ensures c.same_sort.ensures

pub braces-returns : goal.braces-returns
braces-returns t c = braces_give c.args.names.now c.args.ts.now c.args.levels c.braced_inits.result c.if-levels-lt2.false c.braced_inits.ensures

pub init-returns-in_err-value-in_default : goal.init-returns-in_err-value-in_default
init-returns-in_err-value-in_default t c =
    through c.args.names.now c.from_residual.result c.in_err-value-in_default.field-0.0 (form_in c.args.spare spec.init c.args.names.now c.args.ts.now) c.from_residual.ensures
    (expr_fails c.args.spare c.args.names.now c.args.ts.now (λ e. c.in_default.not-LBrace (c.ahead.ensures ∙ e)) c.in_err-value-in_default.field-0.0 c.in_err-value-in_default.ensures)

pub init-returns-in-LBrace : goal.init-returns-in-LBrace
init-returns-in-LBrace t c = subst (Gives c.args.names.now c.braces.result) (sym (braces_case c.args.spare c.args.names.now c.args.ts.now (sym c.ahead.ensures ∙ c.in-LBrace.is))) c.braces.ensures

pub init-returns-in_ok-value-in_default : goal.init-returns-in_ok-value-in_default
init-returns-in_ok-value-in_default t c =
    expr_read c.args.spare c.args.names.now c.args.ts.now (λ e. c.in_default.not-LBrace (c.ahead.ensures ∙ e)) c.in_ok-value-in_default.value c.in_ok-value-in_default.rest.now c.in_ok-value-in_default.ensures ∙ ap (λ (x : Init). Ok (x, place c.args.names.now c.in_ok-value-in_default.rest.now)) (sym c.one_init.ensures)

pub inits-returns-in_err-first : goal.inits-returns-in_err-first
inits-returns-in_err-first t c =
    through c.args.names.now c.from_residual.result c.in_err-first.field-0.0 (form_in c.args.spare spec.inits c.args.names.now c.args.ts.now) c.from_residual.ensures
    (loop_fails c.args.spare c.args.names.now grammar.is_comma spec.is_open (grammar.map spec.first_init spec.init) (λ x. grammar.when (grammar.is_comma x) spec.another_init) c.args.ts.now c.in_err-first.field-0.0 (mapped_fails c.args.spare c.args.names.now c.args.ts.now spec.first_init spec.init c.in_err-first.field-0.0 c.in_err-first.ensures))

pub inits-loop-alloc-init : goal.inits-loop-alloc-init
inits-loop-alloc-init t c =
    subst (λ a. IsAt c.args.spare c.args.names.now (goes grammar.is_comma spec.is_open) (λ x. grammar.when (grammar.is_comma x) spec.another_init) (form_in c.args.spare spec.inits c.args.names.now c.args.ts.now) a c.in_ok-first.rest.now) (sym c.in_ok-list.ensures)
    (begins_loop c.args.spare c.args.names.now grammar.is_comma spec.is_open (grammar.map spec.first_init spec.init) (λ x. grammar.when (grammar.is_comma x) spec.another_init) c.args.ts.now (spec.first_init c.in_ok-first.first) c.in_ok-first.rest.now (mapped c.args.spare c.args.names.now c.args.ts.now spec.first_init spec.init c.in_ok-first.first c.in_ok-first.rest.now c.in_ok-first.ensures))

pub inits-loop-alloc-preserved : goal.inits-loop-alloc-preserved
inits-loop-alloc-preserved t c =
    let h = tested (goes grammar.is_comma spec.is_open c.loop-alloc.list) c.ahead.result (ahead c.args.names.now c.loop-alloc.rest.now) true c.goes_on.result c.ahead.ensures c.goes_on.ensures c.loop-alloc-test.true in
    let comma = left_true (grammar.is_comma (ahead c.args.names.now c.loop-alloc.rest.now)) (spec.is_open c.loop-alloc.list (ahead c.args.names.now c.loop-alloc.rest.now)) h in
    let fine = checked spec.inits refl in
    next_turn c.args.spare c.args.names.now (goes grammar.is_comma spec.is_open) (λ x. grammar.when (grammar.is_comma x) spec.another_init) (form_in c.args.spare spec.inits c.args.names.now c.args.ts.now) c.loop-alloc.list c.loop-alloc.rest.now c.loop-alloc.invariant c.in_ok-so_far.so_far c.in_ok-so_far.behind.now h (turn_free c.args.spare c.args.names.now spec.another_init (grammar.is_comma (ahead c.args.names.now c.loop-alloc.rest.now)) comma (place c.args.names.now c.loop-alloc.rest.now) (λ x. open_guard c.args.spare spec.another_init (place c.args.names.now c.loop-alloc.rest.now) x c.requires.room)) (fine.2 (ahead c.args.names.now c.loop-alloc.rest.now)) (fine.4 (ahead c.args.names.now c.loop-alloc.rest.now) comma) (turn_stands c.args.spare c.args.names.now spec.another_init (grammar.is_comma (ahead c.args.names.now c.loop-alloc.rest.now)) comma c.loop-alloc.list c.loop-alloc.rest.now _ c.in_ok-so_far.ensures)

pub inits-loop-alloc-smaller : goal.inits-loop-alloc-smaller
inits-loop-alloc-smaller t c =
    let h = tested (goes grammar.is_comma spec.is_open c.loop-alloc.list) c.ahead.result (ahead c.args.names.now c.loop-alloc.rest.now) true c.goes_on.result c.ahead.ensures c.goes_on.ensures c.loop-alloc-test.true in
    let comma = left_true (grammar.is_comma (ahead c.args.names.now c.loop-alloc.rest.now)) (spec.is_open c.loop-alloc.list (ahead c.args.names.now c.loop-alloc.rest.now)) h in
    let fine = checked spec.inits refl in
    falls c.args.spare c.args.names.now (goes grammar.is_comma spec.is_open) (λ x. grammar.when (grammar.is_comma x) spec.another_init) (form_in c.args.spare spec.inits c.args.names.now c.args.ts.now) c.loop-alloc.list c.loop-alloc.rest.now c.in_ok-so_far.so_far c.in_ok-so_far.behind.now (fine.2 (ahead c.args.names.now c.loop-alloc.rest.now)) (fine.4 (ahead c.args.names.now c.loop-alloc.rest.now) comma) (turn_stands c.args.spare c.args.names.now spec.another_init (grammar.is_comma (ahead c.args.names.now c.loop-alloc.rest.now)) comma c.loop-alloc.list c.loop-alloc.rest.now _ c.in_ok-so_far.ensures)

pub inits-returns-in_err-so_far : goal.inits-returns-in_err-so_far
inits-returns-in_err-so_far t c =
    let h = tested (goes grammar.is_comma spec.is_open c.loop-alloc.list) c.ahead.result (ahead c.args.names.now c.loop-alloc.rest.now) true c.goes_on.result c.ahead.ensures c.goes_on.ensures c.loop-alloc-test.true in
    let comma = left_true (grammar.is_comma (ahead c.args.names.now c.loop-alloc.rest.now)) (spec.is_open c.loop-alloc.list (ahead c.args.names.now c.loop-alloc.rest.now)) h in
    through c.args.names.now c.from_residual-in_err-so_far.result c.in_err-so_far.field-0.0 (form_in c.args.spare spec.inits c.args.names.now c.args.ts.now) c.from_residual-in_err-so_far.ensures
    (fails c.args.spare c.args.names.now (goes grammar.is_comma spec.is_open) (λ x. grammar.when (grammar.is_comma x) spec.another_init) (form_in c.args.spare spec.inits c.args.names.now c.args.ts.now) c.loop-alloc.list c.loop-alloc.rest.now c.loop-alloc.invariant c.in_err-so_far.field-0.0 h (turn_free c.args.spare c.args.names.now spec.another_init (grammar.is_comma (ahead c.args.names.now c.loop-alloc.rest.now)) comma (place c.args.names.now c.loop-alloc.rest.now) (λ x. open_guard c.args.spare spec.another_init (place c.args.names.now c.loop-alloc.rest.now) x c.requires.room)) (turn_stops c.args.spare c.args.names.now spec.another_init (grammar.is_comma (ahead c.args.names.now c.loop-alloc.rest.now)) comma c.loop-alloc.list c.loop-alloc.rest.now c.in_err-so_far.field-0.0 c.in_err-so_far.ensures))

pub inits-returns : goal.inits-returns
inits-returns t c =
    let h = tested (goes grammar.is_comma spec.is_open c.loop-alloc.list) c.ahead.result (ahead c.args.names.now c.loop-alloc.rest.now) false c.goes_on.result c.ahead.ensures c.goes_on.ensures c.loop-alloc-test.false in
    ends c.args.spare c.args.names.now (goes grammar.is_comma spec.is_open) (λ x. grammar.when (grammar.is_comma x) spec.another_init) (form_in c.args.spare spec.inits c.args.names.now c.args.ts.now) c.loop-alloc.list c.loop-alloc.rest.now c.loop-alloc.invariant h

pub next_init-returns-in_err-found : goal.next_init-returns-in_err-found
next_init-returns-in_err-found t c =
    let h = tested begins_init c.ahead.result (ahead c.args.names.now c.args.ts.now) true c.begins_init.result c.ahead.ensures c.begins_init.ensures c.if-begins_init.true in
    through c.args.names.now c.from_residual.result c.in_err-found.field-0.0 (form_in c.args.spare (spec.some spec.init) c.args.names.now c.args.ts.now) c.from_residual.ensures
    (next_fails c.args.spare c.args.names.now c.args.ts.now h c.requires.room c.in_err-found.field-0.0 c.in_err-found.ensures)

pub next_init-returns-in_ok-found : goal.next_init-returns-in_ok-found
next_init-returns-in_ok-found t c =
    let h = tested begins_init c.ahead.result (ahead c.args.names.now c.args.ts.now) true c.begins_init.result c.ahead.ensures c.begins_init.ensures c.if-begins_init.true in
    next_read c.args.spare c.args.names.now c.args.ts.now h c.requires.room c.in_ok-found.found c.in_ok-found.rest.now c.in_ok-found.ensures

pub next_init-returns-else-begins_init : goal.next_init-returns-else-begins_init
next_init-returns-else-begins_init t c =
    let h = tested begins_init c.ahead.result (ahead c.args.names.now c.args.ts.now) false c.begins_init.result c.ahead.ensures c.begins_init.ensures c.if-begins_init.false in
    next_none c.args.spare c.args.names.now c.args.ts.now h
