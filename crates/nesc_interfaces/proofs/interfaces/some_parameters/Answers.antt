use Rattle.std.proofs.Common.{sym, subst, ◌∙◌}
use Rattle.nesc_parse_types.specs.Gives.{form_in, place}
use Rattle.nesc_parse_types.proofs.Many.{through}
use Rattle.nesc_interfaces.specs.Parts as parts
use Rattle.nesc_interfaces.proofs.Forms.{parameters_fine}
use Rattle.nesc_specifications.proofs.Lists.{IsListed, lists, first_fails, lists_on, list_falls, list_fails, list_ends}
use Rattle.nesc_interfaces.proofs.interfaces.some_parameters.Goals as goal

pub returns-in_err-first-clause-gives : goal.returns-in_err-first-clause-gives
returns-in_err-first-clause-gives c =
    through c.parameter.new.names c.from_residual.result c.in_err-first.field-0.0 (form_in c.args.spare parts.some_parameters c.args.names.now c.args.ts.now) c.from_residual.ensures
    (first_fails c.args.spare parts.parameter (place c.args.names.now c.args.ts.now) c.in_err-first.field-0.0 (c.in_err-first.ensures.gives c.args.spare))

pub loop-alloc-init : goal.loop-alloc-init
loop-alloc-init c = (
  subst (λ a. IsListed c.args.spare parts.parameter (form_in c.args.spare parts.some_parameters c.args.names.now c.args.ts.now) a (place c.parameter.new.names c.in_ok-first.rest.now)) (sym c.in_ok-list.ensures)
      (lists c.args.spare parts.parameter c.in_ok-first.first (place c.args.names.now c.args.ts.now) (place c.parameter.new.names c.in_ok-first.rest.now) (c.in_ok-first.ensures.gives c.args.spare)),
  c.parameter.ensures.noted,
)

pub loop-alloc-preserved : goal.loop-alloc-preserved
loop-alloc-preserved c = (lists_on c.args.spare parts.parameter parameters_fine (c.requires) (form_in c.args.spare parts.some_parameters c.args.names.now c.args.ts.now) c.loop-alloc.list c.loop-alloc.names c.loop-alloc.rest.now c.loop-alloc.invariant.0 c.ahead.result c.ahead.ensures c.is_comma.result c.is_comma.ensures c.loop-alloc-test.true c.in_ok-so_far.so_far (place c.another_parameter.new.names c.in_ok-so_far.behind.now) (c.in_ok-so_far.ensures.gives c.args.spare), c.in_ok-so_far.ensures.noted ∙ c.loop-alloc.invariant.1)

pub loop-alloc-smaller : goal.loop-alloc-smaller
loop-alloc-smaller c = list_falls c.args.spare parts.parameter parameters_fine (c.requires) (form_in c.args.spare parts.some_parameters c.args.names.now c.args.ts.now) c.loop-alloc.list c.loop-alloc.names c.loop-alloc.rest.now c.loop-alloc.invariant.0 c.ahead.result c.ahead.ensures c.is_comma.result c.is_comma.ensures c.loop-alloc-test.true c.in_ok-so_far.so_far (place c.another_parameter.new.names c.in_ok-so_far.behind.now) (c.in_ok-so_far.ensures.gives c.args.spare)

pub returns-in_err-so_far-clause-gives : goal.returns-in_err-so_far-clause-gives
returns-in_err-so_far-clause-gives c =
    through c.another_parameter.new.names c.from_residual-in_err-so_far.result c.in_err-so_far.field-0.0 (form_in c.args.spare parts.some_parameters c.args.names.now c.args.ts.now) c.from_residual-in_err-so_far.ensures
    (list_fails c.args.spare parts.parameter parameters_fine (c.requires) (form_in c.args.spare parts.some_parameters c.args.names.now c.args.ts.now) c.loop-alloc.list c.loop-alloc.names c.loop-alloc.rest.now c.loop-alloc.invariant.0 c.ahead.result c.ahead.ensures c.is_comma.result c.is_comma.ensures c.loop-alloc-test.true c.in_err-so_far.field-0.0 (c.in_err-so_far.ensures.gives c.args.spare))

pub returns-in_err-so_far-clause-noted : goal.returns-in_err-so_far-clause-noted
returns-in_err-so_far-clause-noted c = c.in_err-so_far.ensures.noted ∙ c.loop-alloc.invariant.1

pub returns-clause-gives : goal.returns-clause-gives
returns-clause-gives c = list_ends c.args.spare parts.parameter parameters_fine (c.requires) (form_in c.args.spare parts.some_parameters c.args.names.now c.args.ts.now) c.loop-alloc.list c.loop-alloc.names c.loop-alloc.rest.now c.loop-alloc.invariant.0 c.ahead.result c.ahead.ensures c.is_comma.result c.is_comma.ensures c.loop-alloc-test.false

pub returns-clause-noted : goal.returns-clause-noted
returns-clause-noted c = c.loop-alloc.invariant.1
