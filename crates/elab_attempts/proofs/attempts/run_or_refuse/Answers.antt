use Rattle.std.proofs.Common.{[]}
use Rattle.elab_meaning.specs.View.{state_of}
use Rattle.wire_elements.specs.View.{early_env}
use Rattle.elab_attempts.specs.Parts.{work_of}
use Rattle.elab_attempts.specs.View.{attempt_of}
use Rattle.elab_attempts.proofs.Said.{said}
use Rattle.elab_attempts.proofs.attempts.run_or_refuse.Goals as goal

pub returns : goal.returns
returns c =
    said (λ _. tt) c.unless_refused.result c.run_early.result (state_of c.run_early.new.work) (work_of (early_env c.args.early.now) [] (attempt_of c.args.attempt.now) (state_of c.args.work.now))
    c.unless_refused.ensures c.run_early.ensures
