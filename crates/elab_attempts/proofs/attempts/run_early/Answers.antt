use Rattle.std.proofs.Common.{List, Option, subst}
use Rattle.nesc_types.specs.Values.{Constant}
use Rattle.elab_meaning.specs.Answers.{Gives}
use Rattle.elab_meaning.specs.View.{env_of, state_of}
use Rattle.elab_attempts.specs.Parts.{work_of}
use Rattle.elab_attempts.specs.View.{attempt_of}
use Rattle.elab_attempts.proofs.attempts.run_early.Goals as goal

pub returns : goal.returns
returns c =
    subst (λ (vs : List (Option Constant)). Gives (λ _. tt) c.run.result (state_of c.run.new.work) (work_of (env_of c.args.early.now.told.env) vs (attempt_of c.args.attempt.now) (state_of c.args.work.now)))
    c.args.early.now.unvalued c.run.ensures
