use Rattle.std.proofs.Common.{List, Option, subst}
use Rattle.nesc_tree.specs.View.{base_of}
use Rattle.nesc_types.specs.Values.{Constant}
use Rattle.elab_meaning.specs.Answers.{Gives}
use Rattle.elab_meaning.specs.View.{based_of, env_of, state_of}
use Rattle.elab_meaning.specs.Wired as wired
use Rattle.elab_attempts.proofs.both.base_early.Goals as goal

pub returns : goal.returns
returns c =
    subst (λ (vs : List (Option Constant)). Gives based_of c.base.result (state_of c.base.new.work) (wired.base_of (env_of c.args.early.now.told.env) vs c.args.at (base_of c.args.b.now) (state_of c.args.work.now)))
    c.args.early.now.unvalued c.base.ensures
