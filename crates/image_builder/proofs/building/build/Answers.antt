use Rattle.std.proofs.Common.{◌≡◌, length, ap, sym, subst, ◌∙◌, arith}
use Rattle.nesc_core.specs.View.{program_of}
use Rattle.image_code.specs.Code.{IsCountable}
use Rattle.image_builder.proofs.Built.{fault_is_due, image_fits, image_runs}
use Rattle.image_builder.proofs.Many.{code_many}
use Rattle.image_builder.proofs.building.build.Goals as goal

-- src/building.rt:44:9
pub reset_place-reset-requires-clause-few : goal.reset_place-reset-requires-clause-few
reset_place-reset-requires-clause-few c =
    let many = (code_many (program_of c.args.p.now) c.requires c.in_ok-code.ensures.checks).1 in
    omega (arith, many, ap length (c.deref-2.ensures.value ∙ c.in_ok-code.ensures.code))

-- src/building.rt:45:38
pub overflow_add-reset : goal.overflow_add-reset
overflow_add-reset c =
    let many = (code_many (program_of c.args.p.now) c.requires c.in_ok-code.ensures.checks).1 in
    omega (arith, many, ap length (c.deref-2.ensures.value ∙ c.in_ok-code.ensures.code), c.reset_place-reset.ensures)

-- src/building.rt:45:27
pub lines_from-requires : goal.lines_from-requires
lines_from-requires c =
    let many = (code_many (program_of c.args.p.now) c.requires c.in_ok-code.ensures.checks).1 in
    omega (arith, many, ap length (c.deref-2.ensures.value ∙ c.in_ok-code.ensures.code), c.reset_place-reset.ensures)

-- src/building.rt:28:1
pub returns-clause-runs : goal.returns-clause-runs
returns-clause-runs c =
    image_runs (program_of c.args.p.now) c.requires c.in_ok-code.ensures.checks c.deref-3.result.now c.lines_from.result c.reset_place-reset.result c.in_ok-ram.ram (c.deref-3.ensures.value ∙ c.in_ok-code.ensures.code) c.lines_from.ensures
    (c.reset_place-reset.ensures ∙ ap length (c.deref-2.ensures.value ∙ sym c.deref-3.ensures.value)) c.in_ok-ram.ensures
    c.laid_code_runs.ensures (subst IsCountable (c.deref.ensures.value ∙ sym c.deref-3.ensures.value) (c.are_countable.ensures c.if-not-are_countable.false)) c.layout.result c.layout.ensures.placed c.layout.ensures.stack

-- src/building.rt:28:1
pub returns-clause-stack : goal.returns-clause-stack
returns-clause-stack c =
    image_fits (program_of c.args.p.now) c.requires c.in_ok-code.ensures.checks c.deref-3.result.now c.lines_from.result c.reset_place-reset.result c.in_ok-ram.ram (c.deref-3.ensures.value ∙ c.in_ok-code.ensures.code) c.lines_from.ensures
    (c.reset_place-reset.ensures ∙ ap length (c.deref-2.ensures.value ∙ sym c.deref-3.ensures.value)) c.in_ok-ram.ensures
    c.layout.result c.layout.ensures.data c.layout.ensures.stack

-- src/building.rt:28:1
pub returns-clause-cause : goal.returns-clause-cause
returns-clause-cause c =
    fault_is_due (program_of c.args.p.now) c.requires c.in_ok-code.ensures.checks c.deref-3.result.now c.lines_from.result c.reset_place-reset.result c.in_ok-ram.ram (c.deref-3.ensures.value ∙ c.in_ok-code.ensures.code) c.lines_from.ensures
    (c.reset_place-reset.ensures ∙ ap length (c.deref-2.ensures.value ∙ sym c.deref-3.ensures.value)) c.in_ok-ram.ensures
    c.layout.result c.layout.ensures.cause

pub returns-clause-checked : goal.returns-clause-checked
returns-clause-checked c = λ some. c.in_ok-code.ensures.checks
