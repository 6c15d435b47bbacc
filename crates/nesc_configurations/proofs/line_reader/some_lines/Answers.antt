use Rattle.std.proofs.Common.{[], refl, sym, subst, ◌∙◌, arith}
use Rattle.nesc_tree.specs.Phrase.{begins_line}
use Rattle.nesc_parse_types.specs.Gives.{form_in, place}
use Rattle.nesc_parse_types.proofs.Many.{through}
use Rattle.nesc_configurations.specs.Parts as parts
use Rattle.nesc_configurations.proofs.Forms.{lines_fine}
use Rattle.nesc_specifications.proofs.Lists.{IsRepeated, begins, goes_on, falls, fails, ends}
use Rattle.nesc_configurations.proofs.line_reader.some_lines.Goals as goal

pub loop-alloc-init : goal.loop-alloc-init
loop-alloc-init c = (
  subst (λ a. IsRepeated c.args.spare begins_line parts.another_line (form_in c.args.spare parts.some_lines c.args.names.now c.args.ts.now) a (place c.args.names.now c.args.ts.now)) (sym c.no_list-list.ensures)
      (begins c.args.spare begins_line parts.another_line [] (place c.args.names.now c.args.ts.now)),
  refl,
)

pub loop-alloc-preserved : goal.loop-alloc-preserved
loop-alloc-preserved c = (goes_on c.args.spare begins_line parts.another_line [] lines_fine (omega (arith, c.requires.room)) (form_in c.args.spare parts.some_lines c.args.names.now c.args.ts.now) c.loop-alloc.list c.loop-alloc.names c.loop-alloc.rest.now c.loop-alloc.invariant.0 c.ahead.result c.ahead.ensures c.begins_line.result c.begins_line.ensures c.loop-alloc-test.true c.in_ok-so_far.so_far (place c.another_line.new.names c.in_ok-so_far.behind.now) c.in_ok-so_far.ensures.gives, c.in_ok-so_far.ensures.noted ∙ c.loop-alloc.invariant.1)

pub loop-alloc-smaller : goal.loop-alloc-smaller
loop-alloc-smaller c = falls c.args.spare begins_line parts.another_line [] lines_fine (omega (arith, c.requires.room)) (form_in c.args.spare parts.some_lines c.args.names.now c.args.ts.now) c.loop-alloc.list c.loop-alloc.names c.loop-alloc.rest.now c.loop-alloc.invariant.0 c.ahead.result c.ahead.ensures c.begins_line.result c.begins_line.ensures c.loop-alloc-test.true c.in_ok-so_far.so_far (place c.another_line.new.names c.in_ok-so_far.behind.now) c.in_ok-so_far.ensures.gives

pub returns-in_err-so_far-clause-gives : goal.returns-in_err-so_far-clause-gives
returns-in_err-so_far-clause-gives c =
    through c.another_line.new.names c.from_residual.result c.in_err-so_far.field-0.0 (form_in c.args.spare parts.some_lines c.args.names.now c.args.ts.now) c.from_residual.ensures
    (fails c.args.spare begins_line parts.another_line [] lines_fine (omega (arith, c.requires.room)) (form_in c.args.spare parts.some_lines c.args.names.now c.args.ts.now) c.loop-alloc.list c.loop-alloc.names c.loop-alloc.rest.now c.loop-alloc.invariant.0 c.ahead.result c.ahead.ensures c.begins_line.result c.begins_line.ensures c.loop-alloc-test.true c.in_err-so_far.field-0.0 c.in_err-so_far.ensures.gives)

pub returns-in_err-so_far-clause-noted : goal.returns-in_err-so_far-clause-noted
returns-in_err-so_far-clause-noted c = c.in_err-so_far.ensures.noted ∙ c.loop-alloc.invariant.1

pub returns-clause-gives : goal.returns-clause-gives
returns-clause-gives c = ends c.args.spare begins_line parts.another_line [] lines_fine (omega (arith, c.requires.room)) (form_in c.args.spare parts.some_lines c.args.names.now c.args.ts.now) c.loop-alloc.list c.loop-alloc.names c.loop-alloc.rest.now c.loop-alloc.invariant.0 c.ahead.result c.ahead.ensures c.begins_line.result c.begins_line.ensures c.loop-alloc-test.false

pub returns-clause-noted : goal.returns-clause-noted
returns-clause-noted c = c.loop-alloc.invariant.1
