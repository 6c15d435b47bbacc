use Rattle.body_meaning.specs.View.{decl_of, head_of}
use Rattle.elab_targets.proofs.Behind.{on_ok}
use Rattle.elab_targets.proofs.Defined.{defined, none_found, one_found, skipped}
use Rattle.elab_targets.proofs.places.Places.add_one.Goals as goal

pub returns-in-None : goal.returns-in-None
returns-in-None c = λ ds. skipped ds (decl_of c.args.decl.now) (none_found c.definition_in.result _ c.definition_in.ensures c.in-None.is) c.args.self.now

pub returns-in-Some : goal.returns-in-Some
returns-in-Some c = on_ok c.define.result (λ says ds. defined ds (decl_of c.args.decl.now) (head_of c.in-Some.head.now) (one_found c.definition_in.result _ c.definition_in.ensures c.in-Some.head c.in-Some.is) c.args.self.now c.define.new.self says) c.define.ensures
