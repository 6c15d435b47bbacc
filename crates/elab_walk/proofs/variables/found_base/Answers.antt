use Rattle.std.proofs.Common.{List, Option, subst}
use Rattle.nesc_tree.specs.View as tree
use Rattle.elab_making.proofs.Steps.{part_does}
use Rattle.elab_making.specs.View.{whole_of}
use Rattle.elab_meaning.specs.Answers.{Gives}
use Rattle.elab_meaning.specs.Elab.{State}
use Rattle.elab_meaning.specs.Operators.{Based}
use Rattle.elab_meaning.specs.Scope.{Env}
use Rattle.elab_meaning.specs.View.{based_of, env_of, state_of}
use Rattle.elab_meaning.specs.Wired.{base_of}
use Rattle.elab_walk.proofs.Shares.{told_same}
use Rattle.elab_walk.proofs.variables.found_base.Goals as goal
use Rattle.nesc_types.specs.Rule.{Rule}
use Rattle.nesc_types.specs.Values.{Constant}

pub returns : goal.returns
returns c = λ t. λ tells.
    part_does based_of c.base.result (whole_of c.args.whole.now) (state_of c.base.new.work) (base_of t.env t.values c.args.at (tree.base_of c.args.b.now))
    (subst (λ (r : Rule (Based × State)). Gives based_of c.base.result (state_of c.base.new.work) r)
    (told_same (λ (e : Env). λ (v : List (Option Constant)). base_of e v c.args.at (tree.base_of c.args.b.now) (state_of c.args.whole.now.work)) (env_of c.args.m.now.told.env) t.env c.args.m.now.told.values t.values tells.env tells.values)
    c.base.ensures)
