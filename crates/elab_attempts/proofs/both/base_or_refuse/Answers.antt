use Rattle.std.proofs.Common.{[]}
use Rattle.nesc_tree.specs.View.{base_of}
use Rattle.elab_meaning.specs.View.{based_of, state_of}
use Rattle.elab_meaning.specs.Wired as wired
use Rattle.wire_elements.specs.View.{early_env}
use Rattle.elab_attempts.proofs.Said.{said}
use Rattle.elab_attempts.proofs.both.base_or_refuse.Goals as goal

pub returns : goal.returns
returns c =
    said based_of c.unless_refused.result c.base_early.result (state_of c.base_early.new.work) (wired.base_of (early_env c.args.early.now) [] c.args.at (base_of c.args.b.now) (state_of c.args.work.now))
    c.unless_refused.ensures c.base_early.ensures
