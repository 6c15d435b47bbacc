use Rattle.std.proofs.Common.{◌≡◌, true, false, List, Ok, refl, sym, ap, subst, ◌∙◌, arith}
use Rattle.nesc_tree.specs.declared.sorts.Sort.{Sort}
use Rattle.nesc_tree.specs.declared.sorts.Sort.TheVariants as s
use Rattle.nesc_tree.specs.declared.contexts.Jumps.{Jumps}
use Rattle.nesc_tree.specs.Sorts.{ahead, same_sort}
use Rattle.nesc_tree.specs.Phrase.{begins_label, begins_local}
use Rattle.nesc_tree.specs.Changes.{all_taken_back}
use Rattle.nesc_grammar.specs.Statements as spec
use Rattle.nesc_parse_types.specs.Gives.{Fails, Gives, form_in, place}
use Rattle.nesc_parse_types.proofs.Many.{tested}
use Rattle.nesc_simple_stmts.specs.Parts as parts
use Rattle.nesc_simple_stmts.specs.Parts.{begins_item}
use Rattle.nesc_parse_stmts.specs.Stmts.{stmt_in, cases_in}
use Rattle.nesc_tree.specs.declared.declarations.Stmt.{Stmt}
use Rattle.nesc_tree.specs.declared.declarations.Stmt.TheVariants as st
use Rattle.nesc_simple_stmts.specs.declared.heads.ForHead.{ForHead}
use Rattle.nesc_simple_stmts.proofs.Guards.{through, first_fails, scope_gives}
use Rattle.nesc_parse_stmts.proofs.Bodies.{for_gives_with}
use Rattle.nesc_parse_stmts.proofs.Cases.{opened, block_case, empty_case, return_case, break_case, continue_case, eval_case, too_deep, switch_sort, label_item, local_item, stmt_item, label_labelled, stmt_labelled, cases_body, stmt_body, no_else, else_case}
use Rattle.nesc_parse_stmts.proofs.Levels.{stmt_stops, stmt_gives, cases_stop, cases_give, label_stops, label_gives, no_label}
use Rattle.nesc_parse_stmts.proofs.Items.{AreFrom, items_at, items_begin, run, next_turn, ends, fails, falls, turn_is, another_at, another_fails, another_read}
use Rattle.nesc_parse_stmts.proofs.Loops.{for_gives}
use Rattle.nesc_parse_stmts.proofs.statements.+statements.Goals as goal

pub stmt-returns-then-levels-eq0-clause-gives : goal.stmt-returns-then-levels-eq0-clause-gives
stmt-returns-then-levels-eq0-clause-gives t c =
    stmt_stops c.args.names.now c.args.ts.now c.args.levels c.args.jumps c.if-levels-eq0.true c.ahead.result c.ahead.ensures c.begins_stmt.result c.refused.result c.refused.ensures c.begins_stmt.ensures

pub stmt-returns-clause-gives : goal.stmt-returns-clause-gives
stmt-returns-clause-gives t c =
    stmt_gives c.args.names.now c.args.ts.now c.args.levels c.args.jumps c.statement.result (omega (arith, c.if-levels-eq0.false)) c.statement.ensures.gives

pub statement-returns-then-spare-eq0-clause-gives : goal.statement-returns-then-spare-eq0-clause-gives
statement-returns-then-spare-eq0-clause-gives t c =
    too_deep c.args.spare c.args.names.now c.args.ts.now c.args.jumps c.ahead-first.result c.ahead-first.ensures (sym c.deepens.ensures ∙ c.if-deepens.true) c.if-spare-eq0.true

pub statement-returns-then-deepens-clause-gives : goal.statement-returns-then-deepens-clause-gives
statement-returns-then-deepens-clause-gives t c =
    subst (Gives c.args.names.now c.deeper.result) (sym (opened c.args.spare c.args.names.now c.args.ts.now c.args.jumps (omega (arith, c.if-spare-eq0.false)))) (subst (λ (x : Sort). Gives c.args.names.now c.deeper.result (form_in c.args.spare (spec.statement c.args.jumps x) c.args.names.now c.args.ts.now)) c.ahead-first.ensures c.deeper.ensures.gives)

pub statement-returns-in-LBrace-clause-gives : goal.statement-returns-in-LBrace-clause-gives
statement-returns-in-LBrace-clause-gives t c =
    subst (Gives c.args.names.now c.block.result) (sym (block_case c.args.spare c.args.names.now c.args.ts.now c.args.jumps (sym c.ahead-first.ensures ∙ c.in-LBrace.is))) (c.block.ensures.gives)

pub statement-returns-in-Semi-clause-gives : goal.statement-returns-in-Semi-clause-gives
statement-returns-in-Semi-clause-gives t c =
    subst (Gives c.args.names.now c.empty.result) (sym (empty_case c.args.spare c.args.names.now c.args.ts.now c.args.jumps (sym c.ahead-first.ensures ∙ c.in-Semi.is))) (c.empty.ensures c.args.spare)

pub statement-returns-in-Break-clause-gives : goal.statement-returns-in-Break-clause-gives
statement-returns-in-Break-clause-gives t c =
    subst (Gives c.args.names.now c.break_out.result) (sym (break_case c.args.spare c.args.names.now c.args.ts.now c.args.jumps (sym c.ahead-first.ensures ∙ c.in-Break.is))) (c.break_out.ensures c.args.spare)

pub statement-returns-in-Continue-clause-gives : goal.statement-returns-in-Continue-clause-gives
statement-returns-in-Continue-clause-gives t c =
    subst (Gives c.args.names.now c.go_on.result) (sym (continue_case c.args.spare c.args.names.now c.args.ts.now c.args.jumps (sym c.ahead-first.ensures ∙ c.in-Continue.is))) (c.go_on.ensures c.args.spare)

pub statement-returns-in-Return-clause-gives : goal.statement-returns-in-Return-clause-gives
statement-returns-in-Return-clause-gives t c =
    subst (Gives c.args.names.now c.give_answer.result) (sym (return_case c.args.spare c.args.names.now c.args.ts.now c.args.jumps (sym c.ahead-first.ensures ∙ c.in-Return.is))) (c.give_answer.ensures)

pub statement-returns-in_default-clause-gives : goal.statement-returns-in_default-clause-gives
statement-returns-in_default-clause-gives t c =
    subst (Gives c.args.names.now c.eval.result) (sym (eval_case c.args.spare c.args.names.now c.args.ts.now c.args.jumps c.ahead-first.result c.ahead-first.ensures (sym c.deepens.ensures ∙ c.if-deepens.false) c.in_default.not-LBrace c.in_default.not-Semi c.in_default.not-Break c.in_default.not-Continue c.in_default.not-Return)) c.eval.ensures

pub deeper-returns-in-Atomic-clause-gives : goal.deeper-returns-in-Atomic-clause-gives
deeper-returns-in-Atomic-clause-gives t c =
    subst (λ (x : Sort). Gives c.args.names.now c.atomic.result (form_in c.args.spare (spec.statement c.args.jumps x) c.args.names.now c.args.ts.now)) (sym c.in-Atomic.is) c.atomic.ensures.gives

pub deeper-returns-in-If-clause-gives : goal.deeper-returns-in-If-clause-gives
deeper-returns-in-If-clause-gives t c =
    subst (λ (x : Sort). Gives c.args.names.now c.if_else.result (form_in c.args.spare (spec.statement c.args.jumps x) c.args.names.now c.args.ts.now)) (sym c.in-If.is) c.if_else.ensures.gives

pub deeper-returns-in-While-clause-gives : goal.deeper-returns-in-While-clause-gives
deeper-returns-in-While-clause-gives t c =
    subst (λ (x : Sort). Gives c.args.names.now c.while_loop.result (form_in c.args.spare (spec.statement c.args.jumps x) c.args.names.now c.args.ts.now)) (sym c.in-While.is) c.while_loop.ensures.gives

pub deeper-returns-in-Do-clause-gives : goal.deeper-returns-in-Do-clause-gives
deeper-returns-in-Do-clause-gives t c =
    subst (λ (x : Sort). Gives c.args.names.now c.do_loop.result (form_in c.args.spare (spec.statement c.args.jumps x) c.args.names.now c.args.ts.now)) (sym c.in-Do.is) c.do_loop.ensures.gives

pub deeper-returns-in-For-clause-gives : goal.deeper-returns-in-For-clause-gives
deeper-returns-in-For-clause-gives t c =
    subst (λ (x : Sort). Gives c.args.names.now c.for_loop.result (form_in c.args.spare (spec.statement c.args.jumps x) c.args.names.now c.args.ts.now)) (sym c.in-For.is) c.for_loop.ensures.gives

pub deeper-returns-in_default-clause-gives : goal.deeper-returns-in_default-clause-gives
deeper-returns-in_default-clause-gives t c =
    subst (λ (x : Sort). Gives c.args.names.now c.switch.result (form_in c.args.spare (spec.statement c.args.jumps x) c.args.names.now c.args.ts.now)) (sym (switch_sort c.args.jumps c.args.first c.requires.known c.in_default.not-Atomic c.in_default.not-If c.in_default.not-While c.in_default.not-Do c.in_default.not-For)) c.switch.ensures.gives

pub cases-returns-then-levels-eq0-clause-gives : goal.cases-returns-then-levels-eq0-clause-gives
cases-returns-then-levels-eq0-clause-gives t c =
    cases_stop c.args.names.now c.args.ts.now c.args.levels c.args.jumps c.if-levels-eq0.true c.ahead.result c.ahead.ensures c.same_sort.result c.refused.result c.refused.ensures c.same_sort.ensures

pub cases-returns-clause-gives : goal.cases-returns-clause-gives
cases-returns-clause-gives t c =
    cases_give c.args.names.now c.args.ts.now c.args.levels c.args.jumps c.block.result (omega (arith, c.if-levels-eq0.false)) c.block.ensures.gives

pub label-returns-then-levels-lt2-clause-gives : goal.label-returns-then-levels-lt2-clause-gives
label-returns-then-levels-lt2-clause-gives t c =
    label_stops c.args.names.now c.args.ts.now c.args.levels c.args.jumps c.if-levels-lt2.true c.ahead-first.result c.ahead-first.ensures c.begins_label.result c.refused.result c.refused.ensures c.begins_label.ensures

pub label-returns-in-Case-clause-gives : goal.label-returns-in-Case-clause-gives
label-returns-in-Case-clause-gives t c =
    label_gives c.args.names.now c.args.ts.now c.args.levels c.args.jumps s.Case c.case.result c.if-levels-lt2.false (sym c.ahead-first.ensures ∙ c.in-Case.is) c.case.ensures.gives

pub label-returns-in-Default-clause-gives : goal.label-returns-in-Default-clause-gives
label-returns-in-Default-clause-gives t c =
    label_gives c.args.names.now c.args.ts.now c.args.levels c.args.jumps s.Default c.default.result c.if-levels-lt2.false (sym c.ahead-first.ensures ∙ c.in-Default.is) c.default.ensures.gives

pub label-returns-in_default-clause-gives : goal.label-returns-in_default-clause-gives
label-returns-in_default-clause-gives t c =
    no_label c.args.names.now c.args.ts.now c.args.levels c.args.jumps c.ahead-first.result c.if-levels-lt2.false c.ahead-first.ensures c.in_default.not-Case c.in_default.not-Default

pub labelled-returns-then-begins_label-clause-gives : goal.labelled-returns-then-begins_label-clause-gives
labelled-returns-then-begins_label-clause-gives t c =
    subst (Gives c.args.names.now c.label.result) (sym (label_labelled c.args.spare c.args.names.now c.args.ts.now c.args.jumps (tested begins_label c.ahead.result (ahead c.args.names.now c.args.ts.now) true c.begins_label.result c.ahead.ensures c.begins_label.ensures c.if-begins_label.true))) c.label.ensures.gives

pub labelled-returns-else-begins_label-clause-gives : goal.labelled-returns-else-begins_label-clause-gives
labelled-returns-else-begins_label-clause-gives t c =
    subst (Gives c.args.names.now c.stmt.result) (sym (stmt_labelled c.args.spare c.args.names.now c.args.ts.now c.args.jumps (tested begins_label c.ahead.result (ahead c.args.names.now c.args.ts.now) false c.begins_label.result c.ahead.ensures c.begins_label.ensures c.if-begins_label.false))) c.stmt.ensures.gives

pub switch_body-returns-in-LBrace-clause-gives : goal.switch_body-returns-in-LBrace-clause-gives
switch_body-returns-in-LBrace-clause-gives t c =
    subst (Gives c.args.names.now c.cases.result) (sym (cases_body c.args.spare c.args.names.now c.args.ts.now c.args.jumps (sym c.ahead.ensures ∙ c.in-LBrace.is))) (subst (λ (j : Jumps). Gives c.args.names.now c.cases.result (cases_in c.args.spare j c.args.names.now c.args.ts.now)) c.in_switch.ensures c.cases.ensures.gives)

pub switch_body-returns-in_default : goal.switch_body-returns-in_default
switch_body-returns-in_default t c =
    record { gives = subst (Gives c.args.names.now c.stmt.result) (sym (stmt_body c.args.spare c.args.names.now c.args.ts.now c.args.jumps (λ e. c.in_default.not-LBrace (c.ahead.ensures ∙ e)))) (subst (λ (j : Jumps). Gives c.args.names.now c.stmt.result (stmt_in c.args.spare j c.args.names.now c.args.ts.now)) c.in_switch-in_default.ensures c.stmt.ensures.gives); back = c.stmt.ensures.back }

pub otherwise-returns-then-same_sort-clause-gives : goal.otherwise-returns-then-same_sort-clause-gives
otherwise-returns-then-same_sort-clause-gives t c =
    subst (Gives c.args.names.now c.some_else.result) (sym (else_case c.args.spare c.args.jumps c.args.names.now c.args.ts.now c.requires.room (tested (same_sort s.Else) c.ahead.result (ahead c.args.names.now c.args.ts.now) true c.same_sort.result c.ahead.ensures c.same_sort.ensures c.if-same_sort.true))) c.some_else.ensures.gives

pub otherwise-returns-else-same_sort-clause-gives : goal.otherwise-returns-else-same_sort-clause-gives
otherwise-returns-else-same_sort-clause-gives t c =
    no_else c.args.spare c.args.jumps c.args.names.now c.args.ts.now (tested (same_sort s.Else) c.ahead.result (ahead c.args.names.now c.args.ts.now) false c.same_sort.result c.ahead.ensures c.same_sort.ensures c.if-same_sort.false)

pub items-loop-alloc-init : goal.items-loop-alloc-init
items-loop-alloc-init t c =
    (subst (λ a. AreFrom c.args.spare c.args.labels c.args.jumps (items_at c.args.spare c.args.labels c.args.jumps (place c.args.names.now c.args.ts.now)) a (place c.args.names.now c.args.ts.now)) (sym c.no_list-list.ensures) (items_begin c.args.spare c.args.labels c.args.jumps (place c.args.names.now c.args.ts.now)), refl)

pub items-loop-alloc-preserved : goal.items-loop-alloc-preserved
items-loop-alloc-preserved t c =
    let h = tested (begins_item c.args.labels c.args.jumps) c.ahead.result (ahead c.loop-alloc.names c.loop-alloc.rest.now) true c.begins_item.result c.ahead.ensures c.begins_item.ensures c.loop-alloc-test.true in
    (next_turn c.args.spare (begins_item c.args.labels c.args.jumps) (run c.args.spare c.args.labels c.args.jumps) (items_at c.args.spare c.args.labels c.args.jumps (place c.args.names.now c.args.ts.now)) c.loop-alloc.list (place c.loop-alloc.names c.loop-alloc.rest.now) c.loop-alloc.invariant.0 c.in_ok-so_far.so_far (place c.another_item.new.names c.in_ok-so_far.behind.now) h (sym (turn_is c.args.spare c.args.labels c.args.jumps c.loop-alloc.list (place c.loop-alloc.names c.loop-alloc.rest.now)) ∙ c.in_ok-so_far.ensures.gives) (falls c.args.spare c.args.labels c.args.jumps c.loop-alloc.list (place c.loop-alloc.names c.loop-alloc.rest.now) c.in_ok-so_far.so_far (place c.another_item.new.names c.in_ok-so_far.behind.now) h c.in_ok-so_far.ensures.gives), c.in_ok-so_far.ensures.noted ∙ c.loop-alloc.invariant.1)

pub items-loop-alloc-smaller : goal.items-loop-alloc-smaller
items-loop-alloc-smaller t c =
    let h = tested (begins_item c.args.labels c.args.jumps) c.ahead.result (ahead c.loop-alloc.names c.loop-alloc.rest.now) true c.begins_item.result c.ahead.ensures c.begins_item.ensures c.loop-alloc-test.true in
    falls c.args.spare c.args.labels c.args.jumps c.loop-alloc.list (place c.loop-alloc.names c.loop-alloc.rest.now) c.in_ok-so_far.so_far (place c.another_item.new.names c.in_ok-so_far.behind.now) h c.in_ok-so_far.ensures.gives

pub items-returns-in_err-so_far-clause-gives : goal.items-returns-in_err-so_far-clause-gives
items-returns-in_err-so_far-clause-gives t c =
    let h = tested (begins_item c.args.labels c.args.jumps) c.ahead.result (ahead c.loop-alloc.names c.loop-alloc.rest.now) true c.begins_item.result c.ahead.ensures c.begins_item.ensures c.loop-alloc-test.true in
    through c.another_item.new.names c.from_residual.result c.in_err-so_far.field-0.0 (items_at c.args.spare c.args.labels c.args.jumps (place c.args.names.now c.args.ts.now)) c.from_residual.ensures
    (fails c.args.spare (begins_item c.args.labels c.args.jumps) (run c.args.spare c.args.labels c.args.jumps) (items_at c.args.spare c.args.labels c.args.jumps (place c.args.names.now c.args.ts.now)) c.loop-alloc.list (place c.loop-alloc.names c.loop-alloc.rest.now) c.loop-alloc.invariant.0 c.in_err-so_far.field-0.0 h (subst (Fails c.in_err-so_far.field-0.0) (turn_is c.args.spare c.args.labels c.args.jumps c.loop-alloc.list (place c.loop-alloc.names c.loop-alloc.rest.now)) c.in_err-so_far.ensures.gives))

pub items-returns-in_err-so_far-clause-noted : goal.items-returns-in_err-so_far-clause-noted
items-returns-in_err-so_far-clause-noted t c =
    c.in_err-so_far.ensures.noted ∙ c.loop-alloc.invariant.1

pub items-returns-clause-gives : goal.items-returns-clause-gives
items-returns-clause-gives t c =
    let h = tested (begins_item c.args.labels c.args.jumps) c.ahead.result (ahead c.loop-alloc.names c.loop-alloc.rest.now) false c.begins_item.result c.ahead.ensures c.begins_item.ensures c.loop-alloc-test.false in
    ends c.args.spare (begins_item c.args.labels c.args.jumps) (run c.args.spare c.args.labels c.args.jumps) (items_at c.args.spare c.args.labels c.args.jumps (place c.args.names.now c.args.ts.now)) c.loop-alloc.list (place c.loop-alloc.names c.loop-alloc.rest.now) c.loop-alloc.invariant.0 h

pub items-returns-clause-noted : goal.items-returns-clause-noted
items-returns-clause-noted t c =
    c.loop-alloc.invariant.1

pub item-returns-then-is_label-clause-gives : goal.item-returns-then-is_label-clause-gives
item-returns-then-is_label-clause-gives t c =
    subst (λ ns. Gives ns c.label.result (form_in c.args.spare (parts.item c.args.labels c.args.jumps) c.args.names.now c.args.ts.now)) (sym c.label.ensures.back)
    (subst (Gives c.args.names.now c.label.result) (sym (label_item c.args.spare c.args.names.now c.args.ts.now c.args.labels c.args.jumps (tested (parts.is_label c.args.labels) c.ahead-first.result (ahead c.args.names.now c.args.ts.now) true c.is_label.result c.ahead-first.ensures c.is_label.ensures c.if-is_label.true))) c.label.ensures.gives)

pub item-returns-then-begins_local-clause-gives : goal.item-returns-then-begins_local-clause-gives
item-returns-then-begins_local-clause-gives t c =
    subst (Gives c.local.new.names c.local.result) (sym (local_item c.args.spare c.args.names.now c.args.ts.now c.args.labels c.args.jumps (tested (parts.is_label c.args.labels) c.ahead-first.result (ahead c.args.names.now c.args.ts.now) false c.is_label.result c.ahead-first.ensures c.is_label.ensures c.if-is_label.false) (tested begins_local c.ahead-first.result (ahead c.args.names.now c.args.ts.now) true c.begins_local.result c.ahead-first.ensures c.begins_local.ensures c.if-begins_local.true))) c.local.ensures.gives

pub item-returns-else-begins_local-clause-gives : goal.item-returns-else-begins_local-clause-gives
item-returns-else-begins_local-clause-gives t c =
    subst (λ ns. Gives ns c.stmt.result (form_in c.args.spare (parts.item c.args.labels c.args.jumps) c.args.names.now c.args.ts.now)) (sym c.stmt.ensures.back)
    (subst (Gives c.args.names.now c.stmt.result) (sym (stmt_item c.args.spare c.args.names.now c.args.ts.now c.args.labels c.args.jumps (tested (parts.is_label c.args.labels) c.ahead-first.result (ahead c.args.names.now c.args.ts.now) false c.is_label.result c.ahead-first.ensures c.is_label.ensures c.if-is_label.false) (tested begins_local c.ahead-first.result (ahead c.args.names.now c.args.ts.now) false c.begins_local.result c.ahead-first.ensures c.begins_local.ensures c.if-begins_local.false))) c.stmt.ensures.gives)

pub another_item-returns-in_err-next-clause-gives : goal.another_item-returns-in_err-next-clause-gives
another_item-returns-in_err-next-clause-gives t c =
    through c.item.new.names c.from_residual.result c.in_err-next.field-0.0 (another_at c.args.spare c.args.labels c.args.jumps c.args.so_far (place c.args.names.now c.args.ts.now)) c.from_residual.ensures (another_fails c.args.spare c.args.labels c.args.jumps c.args.so_far (place c.args.names.now c.args.ts.now) c.in_err-next.field-0.0 c.in_err-next.ensures.gives)

pub another_item-returns-clause-gives : goal.another_item-returns-clause-gives
another_item-returns-clause-gives t c =
    another_read c.args.spare c.args.labels c.args.jumps c.args.so_far (place c.args.names.now c.args.ts.now) c.in_ok-next.next (place c.item.new.names c.in_ok-next.rest.now) c.in_ok-next.ensures.gives ∙ ap (λ (l : List Stmt). Ok (l, place c.item.new.names c.in_ok-next.rest.now)) (sym c.in_ok-added.ensures)

pub open_for-returns-in_err-head-clause-gives : goal.open_for-returns-in_err-head-clause-gives
open_for-returns-in_err-head-clause-gives t c =
    through c.for_head.new.names c.from_residual.result c.in_err-head.field-0.0 (form_in c.args.spare parts.open_for c.args.names.now c.args.ts.now) c.from_residual.ensures (first_fails c.args.spare (λ (h : ForHead) (x : Stmt). st.For h.start h.test h.step x h.pos) parts.for_head spec.loop_body (place c.args.names.now c.args.ts.now) c.in_err-head.field-0.0 c.in_err-head.ensures.gives)

pub open_for-returns-clause-gives : goal.open_for-returns-clause-gives
open_for-returns-clause-gives t c =
    for_gives_with c.args.spare c.args.names.now c.for_head.new.names c.inner.new.names c.args.ts.now c.in_ok-head.rest.now c.in_ok-head.head c.inner.result c.for_with.result c.in_ok-head.ensures.gives c.inner.ensures.gives c.for_with.ensures c.inner.ensures.back

pub for_loop-returns-clause-gives : goal.for_loop-returns-clause-gives
for_loop-returns-clause-gives t c =
    for_gives c.args.spare c.args.names.now c.open_for-found.new.names c.args.ts.now c.open_for-found.result c.open_for-found.ensures.gives

pub block-returns-clause-gives : goal.block-returns-clause-gives
block-returns-clause-gives t c =
    scope_gives c.args.spare (parts.open_block c.args.labels c.args.jumps) c.args.names.now c.args.ts.now c.open_block-found.new.names c.open_block-found.result c.open_block-found.ensures.gives
