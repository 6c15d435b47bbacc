use Rattle.std.proofs.Common.{arith}
use Rattle.nesc_core.specs.View.{program_of}
use Rattle.program_builder.proofs.Laid.{can_be_laid, fault_is_due, image_bytes, image_data, image_fits, image_runs}
use Rattle.program_builder.proofs.tasks.build_tasks.Goals as goal

pub overflow_add-parts : goal.overflow_add-parts
overflow_add-parts c = let few = c.in_ok-parts.ensures.parts.numbered in omega (arith, few)

pub lines_from-lines-requires : goal.lines_from-lines-requires
lines_from-lines-requires c = let few = c.in_ok-parts.ensures.parts.numbered in omega (arith, few)

pub layout-requires : goal.layout-requires
layout-requires c =
    let x = c.in_ok-parts.parts in
    can_be_laid (program_of c.args.p) x.code.items c.deref.result.now c.lines_from-lines.result x.reset x.ram c.in_ok-parts.ensures c.deref.ensures.value c.lines_from-lines.ensures
    c.task_code_can_be_laid.ensures

pub returns-clause-runs : goal.returns-clause-runs
returns-clause-runs c =
    let x = c.in_ok-parts.parts in
    image_runs (program_of c.args.p) x.code.items c.deref.result.now c.lines_from-lines.result x.reset x.ram c.in_ok-parts.ensures c.deref.ensures.value c.lines_from-lines.ensures
    c.layout.result c.laid_task_code_runs.ensures c.layout.ensures.placed c.layout.ensures.stack

pub returns-clause-bytes : goal.returns-clause-bytes
returns-clause-bytes c =
    let x = c.in_ok-parts.parts in
    image_bytes (program_of c.args.p) x.code.items c.deref.result.now c.lines_from-lines.result x.reset x.ram c.in_ok-parts.ensures c.deref.ensures.value c.lines_from-lines.ensures
    c.layout.result c.layout.ensures.placed

pub returns-clause-data : goal.returns-clause-data
returns-clause-data c =
    let x = c.in_ok-parts.parts in
    image_data (program_of c.args.p) x.code.items c.deref.result.now c.lines_from-lines.result x.reset x.ram c.in_ok-parts.ensures c.deref.ensures.value c.lines_from-lines.ensures
    c.layout.result c.layout.ensures.data

pub returns-clause-stack : goal.returns-clause-stack
returns-clause-stack c =
    let x = c.in_ok-parts.parts in
    image_fits (program_of c.args.p) x.code.items c.deref.result.now c.lines_from-lines.result x.reset x.ram c.in_ok-parts.ensures c.deref.ensures.value c.lines_from-lines.ensures
    c.layout.result c.layout.ensures.data c.layout.ensures.stack

pub returns-clause-cause : goal.returns-clause-cause
returns-clause-cause c =
    let x = c.in_ok-parts.parts in
    fault_is_due (program_of c.args.p) x.code.items c.deref.result.now c.lines_from-lines.result x.reset x.ram c.in_ok-parts.ensures c.deref.ensures.value c.lines_from-lines.ensures
    c.layout.result c.layout.ensures.cause

pub returns-clause-compilable : goal.returns-clause-compilable
returns-clause-compilable c = λ some. c.in_ok-parts.ensures.compilable

pub returns-clause-checked : goal.returns-clause-checked
returns-clause-checked c = λ some. c.in_ok-parts.ensures.parts.can
