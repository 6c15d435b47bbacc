use Rattle.std.proofs.Common.{List, map, sym, subst}
use Rattle.nesc_core.specs.Plain.{Stmt}
use Rattle.nesc_core.specs.View.{stmt_of}
use Rattle.nesc_tree.specs.View.{spec_of}
use Rattle.nesc_types.specs.Rule.{Rule}
use Rattle.elab_meaning.specs.Answers.{Gives}
use Rattle.elab_meaning.specs.Elab.{State}
use Rattle.elab_meaning.specs.View.{env_of, state_of}
use Rattle.elab_locals.proofs.Cuts.{type_named_is}
use Rattle.elab_locals.proofs.declarations.type_named.Goals as goal

pub returns : goal.returns
returns c =
    subst (λ (r : Rule (List Stmt × State)). Gives (λ v. map stmt_of v.items) c.type_name.result (state_of c.type_name.new.work) r)
    (sym (type_named_is (env_of c.args.told.now.env) c.args.told.now.values c.args.at c.args.name.now (spec_of c.args.t.now) (state_of c.args.work.now)))
    c.type_name.ensures
