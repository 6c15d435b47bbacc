use Rattle.std.proofs.Common.{List, Option, subst}
use Rattle.nesc_tree.specs.View.{expr_of}
use Rattle.nesc_types.specs.Values.{Constant}
use Rattle.elab_meaning.specs.Answers.{Gives}
use Rattle.elab_meaning.specs.View.{env_of, state_of}
use Rattle.elab_meaning.specs.Wired as wired
use Rattle.elab_attempts.proofs.both.constant_early.Goals as goal

pub returns : goal.returns
returns c =
    subst (λ (vs : List (Option Constant)). Gives (λ x. x) c.constant.result (state_of c.constant.new.work) (wired.whole_constant (env_of c.args.early.now.told.env) vs (expr_of c.args.e.now) (state_of c.args.work.now)))
    c.args.early.now.unvalued c.constant.ensures
