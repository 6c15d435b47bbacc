use Rattle.std.proofs.Common.{sym, subst}
use Rattle.nesc_parse_types.specs.Gives.{form_in, place}
use Rattle.nesc_parse_types.proofs.Many.{through}
use Rattle.nesc_configurations.specs.Parts as parts
use Rattle.nesc_configurations.proofs.Forms.{components_fine}
use Rattle.nesc_specifications.proofs.Lists.{IsListed, lists, first_fails, lists_on, list_falls, list_fails, list_ends}
use Rattle.nesc_configurations.proofs.components.some_components.Goals as goal

pub returns-in_err-first : goal.returns-in_err-first
returns-in_err-first c =
    through c.args.names.now c.from_residual.result c.in_err-first.field-0.0 (form_in c.args.spare parts.some_components c.args.names.now c.args.ts.now) c.from_residual.ensures
    (first_fails c.args.spare parts.component (place c.args.names.now c.args.ts.now) c.in_err-first.field-0.0 c.in_err-first.ensures)

pub loop-alloc-init : goal.loop-alloc-init
loop-alloc-init c = subst (λ a. IsListed c.args.spare parts.component (form_in c.args.spare parts.some_components c.args.names.now c.args.ts.now) a (place c.args.names.now c.in_ok-first.rest.now)) (sym c.in_ok-list.ensures)
    (lists c.args.spare parts.component c.in_ok-first.first (place c.args.names.now c.args.ts.now) (place c.args.names.now c.in_ok-first.rest.now) c.in_ok-first.ensures)

pub loop-alloc-preserved : goal.loop-alloc-preserved
loop-alloc-preserved c = lists_on c.args.spare parts.component components_fine c.requires.room (form_in c.args.spare parts.some_components c.args.names.now c.args.ts.now) c.loop-alloc.list c.args.names.now c.loop-alloc.rest.now c.loop-alloc.invariant c.ahead.result c.ahead.ensures c.is_comma.result c.is_comma.ensures c.loop-alloc-test.true c.in_ok-so_far.so_far (place c.args.names.now c.in_ok-so_far.behind.now) c.in_ok-so_far.ensures

pub loop-alloc-smaller : goal.loop-alloc-smaller
loop-alloc-smaller c = list_falls c.args.spare parts.component components_fine c.requires.room (form_in c.args.spare parts.some_components c.args.names.now c.args.ts.now) c.loop-alloc.list c.args.names.now c.loop-alloc.rest.now c.loop-alloc.invariant c.ahead.result c.ahead.ensures c.is_comma.result c.is_comma.ensures c.loop-alloc-test.true c.in_ok-so_far.so_far (place c.args.names.now c.in_ok-so_far.behind.now) c.in_ok-so_far.ensures

pub returns-in_err-so_far : goal.returns-in_err-so_far
returns-in_err-so_far c =
    through c.args.names.now c.from_residual-in_err-so_far.result c.in_err-so_far.field-0.0 (form_in c.args.spare parts.some_components c.args.names.now c.args.ts.now) c.from_residual-in_err-so_far.ensures
    (list_fails c.args.spare parts.component components_fine c.requires.room (form_in c.args.spare parts.some_components c.args.names.now c.args.ts.now) c.loop-alloc.list c.args.names.now c.loop-alloc.rest.now c.loop-alloc.invariant c.ahead.result c.ahead.ensures c.is_comma.result c.is_comma.ensures c.loop-alloc-test.true c.in_err-so_far.field-0.0 c.in_err-so_far.ensures)

pub returns : goal.returns
returns c = list_ends c.args.spare parts.component components_fine c.requires.room (form_in c.args.spare parts.some_components c.args.names.now c.args.ts.now) c.loop-alloc.list c.args.names.now c.loop-alloc.rest.now c.loop-alloc.invariant c.ahead.result c.ahead.ensures c.is_comma.result c.is_comma.ensures c.loop-alloc-test.false
