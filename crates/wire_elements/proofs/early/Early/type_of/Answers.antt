use Rattle.std.proofs.Common.{List, Option, subst}
use Rattle.nesc_core.specs.View.{type_of}
use Rattle.nesc_tree.specs.View.{spec_of}
use Rattle.nesc_types.specs.Values.{Constant}
use Rattle.elab_meaning.specs.Answers.{Gives}
use Rattle.elab_meaning.specs.View.{env_of, state_of}
use Rattle.elab_meaning.specs.Wired as wired
use Rattle.wire_elements.proofs.early.Early.type_of.Goals as goal

pub returns : goal.returns
returns c =
    subst (λ (vs : List (Option Constant)). Gives type_of c.type_of.result (state_of c.type_of.new.work) (wired.type_of (env_of c.args.self.now.told.env) vs c.args.at (spec_of c.args.t.now) (state_of c.args.work.now)))
    c.args.self.now.unvalued c.type_of.ensures
