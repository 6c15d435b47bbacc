use Rattle.std.proofs.Common.{[], sym, subst, arith}
use Rattle.nesc_grammar.specs.Components as spec
use Rattle.nesc_parse_types.specs.Gives.{form_in, place}
use Rattle.nesc_parse_types.proofs.Many.{through}
use Rattle.nesc_specifications.specs.Parts as parts
use Rattle.nesc_specifications.proofs.Forms.{elements_fine}
use Rattle.nesc_specifications.proofs.Lists.{IsRepeated, begins, goes_on, falls, fails, ends}
use Rattle.nesc_specifications.proofs.specifications.some_elements.Goals as goal

pub loop-alloc-init : goal.loop-alloc-init
loop-alloc-init c = subst (λ a. IsRepeated c.args.spare spec.is_interface (parts.another_element c.args.provides) (form_in c.args.spare (parts.some_elements c.args.provides) c.args.names.now c.args.ts.now) a (place c.args.names.now c.args.ts.now)) (sym c.no_list-list.ensures)
    (begins c.args.spare spec.is_interface (parts.another_element c.args.provides) [] (place c.args.names.now c.args.ts.now))

pub loop-alloc-preserved : goal.loop-alloc-preserved
loop-alloc-preserved c = goes_on c.args.spare spec.is_interface (parts.another_element c.args.provides) [] (elements_fine c.args.provides) (omega (arith, c.requires.room)) (form_in c.args.spare (parts.some_elements c.args.provides) c.args.names.now c.args.ts.now) c.loop-alloc.list c.args.names.now c.loop-alloc.rest.now c.loop-alloc.invariant c.ahead.result c.ahead.ensures c.is_interface.result c.is_interface.ensures c.loop-alloc-test.true c.in_ok-so_far.so_far (place c.args.names.now c.in_ok-so_far.behind.now) c.in_ok-so_far.ensures

pub loop-alloc-smaller : goal.loop-alloc-smaller
loop-alloc-smaller c = falls c.args.spare spec.is_interface (parts.another_element c.args.provides) [] (elements_fine c.args.provides) (omega (arith, c.requires.room)) (form_in c.args.spare (parts.some_elements c.args.provides) c.args.names.now c.args.ts.now) c.loop-alloc.list c.args.names.now c.loop-alloc.rest.now c.loop-alloc.invariant c.ahead.result c.ahead.ensures c.is_interface.result c.is_interface.ensures c.loop-alloc-test.true c.in_ok-so_far.so_far (place c.args.names.now c.in_ok-so_far.behind.now) c.in_ok-so_far.ensures

pub returns-in_err-so_far : goal.returns-in_err-so_far
returns-in_err-so_far c =
    through c.args.names.now c.from_residual.result c.in_err-so_far.field-0.0 (form_in c.args.spare (parts.some_elements c.args.provides) c.args.names.now c.args.ts.now) c.from_residual.ensures
    (fails c.args.spare spec.is_interface (parts.another_element c.args.provides) [] (elements_fine c.args.provides) (omega (arith, c.requires.room)) (form_in c.args.spare (parts.some_elements c.args.provides) c.args.names.now c.args.ts.now) c.loop-alloc.list c.args.names.now c.loop-alloc.rest.now c.loop-alloc.invariant c.ahead.result c.ahead.ensures c.is_interface.result c.is_interface.ensures c.loop-alloc-test.true c.in_err-so_far.field-0.0 c.in_err-so_far.ensures)

pub returns : goal.returns
returns c = ends c.args.spare spec.is_interface (parts.another_element c.args.provides) [] (elements_fine c.args.provides) (omega (arith, c.requires.room)) (form_in c.args.spare (parts.some_elements c.args.provides) c.args.names.now c.args.ts.now) c.loop-alloc.list c.args.names.now c.loop-alloc.rest.now c.loop-alloc.invariant c.ahead.result c.ahead.ensures c.is_interface.result c.is_interface.ensures c.loop-alloc-test.false
