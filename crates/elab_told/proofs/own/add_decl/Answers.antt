use Rattle.body_meaning.specs.View.{decl_of, head_of}
use Rattle.elab_targets.proofs.Behind.{on_ok}
use Rattle.elab_targets.proofs.Defined.{none_found, one_found}
use Rattle.elab_told.specs.Uses.{heads_in}
use Rattle.elab_told.proofs.OwnNames.{no_head, one_head}
use Rattle.elab_told.proofs.own.add_decl.Goals as goal

pub returns-in-None : goal.returns-in-None
returns-in-None c = λ ds. no_head ds (decl_of c.args.decl.now) c.args.names.now (none_found c.head_of.result _ c.head_of.ensures c.in-None.is)

pub returns-in-Some : goal.returns-in-Some
returns-in-Some c = on_ok c.add_head.result (λ says ds are. one_head ds (decl_of c.args.decl.now) c.add_head.new.names (head_of c.in-Some.head.now) (one_found c.head_of.result _ c.head_of.ensures c.in-Some.head c.in-Some.is) (says (heads_in ds) are)) c.add_head.ensures
