use Rattle.std.proofs.Common.{◌≡◌, ap, ◌∙◌, rules, subst}
use Rattle.elab_making.specs.View.{whole_of}
use Rattle.elab_making.specs.declared.whole.Whole.{Whole}
use Rattle.elab_meaning.specs.Answers.{Follows}
use Rattle.elab_program.proofs.Limits.{program_is}
use Rattle.elab_program.proofs.programs.program.Goals as goal
use Rattle.elab_program.specs.Parts as parts
use Rattle.elab_targets.specs.View.{application_of}
use Rattle.nesc_core.specs.Plain.{Program}
use Rattle.nesc_core.specs.View.{program_of}
use Rattle.nesc_types.specs.Rule.{Rule}
use Rattle.program_meaning.specs.Numbers.{tasks_of}

pub returns : goal.returns
returns c =
    let are : c.in_ok-whole.tasks.items ≡ tasks_of (application_of c.args.app.now) = search rules in
    subst (λ (r : Rule Program). Follows program_of c.with_tasks.result r)
    (ap (λ (w : Whole). parts.program_of_all c.in_ok-whole.tasks.items (whole_of w)) c.in_ok-whole.ensures.kept.0
    ∙ program_is (application_of c.args.app.now) c.in_ok-whole.tasks.items (whole_of c.args.whole) are)
    c.with_tasks.ensures
