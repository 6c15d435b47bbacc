use Rattle.std.proofs.Common.{List, Option, subst}
use Rattle.nesc_types.specs.Values.{Constant}
use Rattle.elab_meaning.specs.Answers.{Gives}
use Rattle.elab_meaning.specs.View.{env_of, state_of}
use Rattle.body_meaning.specs.Stmts.{declaration}
use Rattle.body_meaning.specs.View.{decl_of}
use Rattle.wire_facts.specs.Seen.{done}
use Rattle.wire_told.proofs.told.declares.Goals as goal

pub returns : goal.returns
returns c =
    subst (λ (vs : List (Option Constant)). Gives (λ _. tt) c.declared.result (state_of c.declared.new.work) (done (declaration (env_of c.args.early.now.told.env) vs c.args.at (decl_of c.args.d.now)) (state_of c.args.work.now)))
    c.args.early.now.unvalued c.declared.ensures
