use Rattle.std.proofs.Common.{[]}
use Rattle.nesc_tree.specs.View.{expr_of}
use Rattle.elab_meaning.specs.View.{state_of}
use Rattle.elab_meaning.specs.Wired as wired
use Rattle.wire_elements.specs.View.{early_env}
use Rattle.elab_attempts.proofs.Said.{said}
use Rattle.elab_attempts.proofs.both.constant_or_refuse.Goals as goal

pub returns : goal.returns
returns c =
    said (λ x. x) c.unless_refused.result c.constant_early.result (state_of c.constant_early.new.work) (wired.whole_constant (early_env c.args.early.now) [] (expr_of c.args.e.now) (state_of c.args.work.now))
    c.unless_refused.ensures c.constant_early.ensures
