use Rattle.std.proofs.Common.{◌≡◌, ◌*◌, ℕ, List, length, IfOk, IfErr}
use Rattle.nesc_core.specs.View.{program_of}
use Rattle.mid_code.specs.declared.code.MidCode.{MidCode}
use Rattle.msp_isa.specs.declared.code.CodeFn.{CodeFn}
use Rattle.msp_layout.specs.Bytes.{HasBytes}
use Rattle.msp_layout.specs.Laid.{FitsRam, HasCause}
use Rattle.image_code.specs.Laws.{CanBeChecked}
use Rattle.program_builder.proofs.ByTasks.{middle_of_none, middle_of_tasks, none_compilable, of_none, of_tasks, tasks_compilable}
use Rattle.program_builder.proofs.building.build.Goals as goal

pub returns-then-has_tasks-clause-bytes : goal.returns-then-has_tasks-clause-bytes
returns-then-has_tasks-clause-bytes c =
    of_tasks (program_of c.args.p) (λ (code : List CodeFn) (lines : List ℕ) (reset ram : ℕ). IfOk c.build_tasks.result (λ i. HasBytes code (2 * length i.code.items)))
    (c.has_tasks.ensures.some c.if-has_tasks.true) c.build_tasks.ensures.bytes

pub returns-then-has_tasks-clause-data : goal.returns-then-has_tasks-clause-data
returns-then-has_tasks-clause-data c =
    of_tasks (program_of c.args.p) (λ (code : List CodeFn) (lines : List ℕ) (reset ram : ℕ). IfOk c.build_tasks.result (λ i. i.ram ≡ ram))
    (c.has_tasks.ensures.some c.if-has_tasks.true) c.build_tasks.ensures.data

pub returns-then-has_tasks-clause-stack : goal.returns-then-has_tasks-clause-stack
returns-then-has_tasks-clause-stack c =
    of_tasks (program_of c.args.p) (λ (code : List CodeFn) (lines : List ℕ) (reset ram : ℕ). IfOk c.build_tasks.result (λ i. FitsRam code lines reset i.ram i.stack))
    (c.has_tasks.ensures.some c.if-has_tasks.true) c.build_tasks.ensures.stack

pub returns-then-has_tasks-clause-cause : goal.returns-then-has_tasks-clause-cause
returns-then-has_tasks-clause-cause c =
    of_tasks (program_of c.args.p) (λ (code : List CodeFn) (lines : List ℕ) (reset ram : ℕ). IfErr c.build_tasks.result (λ e. HasCause code lines reset ram e))
    (c.has_tasks.ensures.some c.if-has_tasks.true) c.build_tasks.ensures.cause

pub returns-then-has_tasks-clause-compilable : goal.returns-then-has_tasks-clause-compilable
returns-then-has_tasks-clause-compilable c = λ no. tasks_compilable (program_of c.args.p) (c.has_tasks.ensures.some c.if-has_tasks.true) (c.build_tasks.ensures.compilable no)

pub returns-then-has_tasks-clause-checked : goal.returns-then-has_tasks-clause-checked
returns-then-has_tasks-clause-checked c = λ no. middle_of_tasks (program_of c.args.p) (λ (m : MidCode). CanBeChecked m.checks) (c.has_tasks.ensures.some c.if-has_tasks.true) (c.build_tasks.ensures.checked no)

pub returns-clause-bytes : goal.returns-clause-bytes
returns-clause-bytes c =
    of_none (program_of c.args.p) (λ (code : List CodeFn) (lines : List ℕ) (reset ram : ℕ). IfOk c.build_plain.result (λ i. HasBytes code (2 * length i.code.items)))
    (c.has_tasks.ensures.none c.if-has_tasks.false) c.build_plain.ensures.bytes

pub returns-clause-data : goal.returns-clause-data
returns-clause-data c =
    of_none (program_of c.args.p) (λ (code : List CodeFn) (lines : List ℕ) (reset ram : ℕ). IfOk c.build_plain.result (λ i. i.ram ≡ ram))
    (c.has_tasks.ensures.none c.if-has_tasks.false) c.build_plain.ensures.data

pub returns-clause-stack : goal.returns-clause-stack
returns-clause-stack c =
    of_none (program_of c.args.p) (λ (code : List CodeFn) (lines : List ℕ) (reset ram : ℕ). IfOk c.build_plain.result (λ i. FitsRam code lines reset i.ram i.stack))
    (c.has_tasks.ensures.none c.if-has_tasks.false) c.build_plain.ensures.stack

pub returns-clause-cause : goal.returns-clause-cause
returns-clause-cause c =
    of_none (program_of c.args.p) (λ (code : List CodeFn) (lines : List ℕ) (reset ram : ℕ). IfErr c.build_plain.result (λ e. HasCause code lines reset ram e))
    (c.has_tasks.ensures.none c.if-has_tasks.false) c.build_plain.ensures.cause

pub returns-clause-compilable : goal.returns-clause-compilable
returns-clause-compilable c = λ no. none_compilable (program_of c.args.p) (c.has_tasks.ensures.none c.if-has_tasks.false) (c.build_plain.ensures.compilable no) (c.build_plain.ensures.lean no)

pub returns-clause-checked : goal.returns-clause-checked
returns-clause-checked c = λ no. middle_of_none (program_of c.args.p) (λ (m : MidCode). CanBeChecked m.checks) (c.has_tasks.ensures.none c.if-has_tasks.false) (c.build_plain.ensures.checked no)
