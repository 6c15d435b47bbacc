use Rattle.body_meaning.specs.View.{decl_of}
use Rattle.wire_elements.specs.View.{early_env}
use Rattle.elab_attempts.specs.View.{kept_in}
use Rattle.elab_attempts.proofs.InForce.{type_in_both}
use Rattle.elab_attempts.proofs.works.declare_type_in.Goals as goal

pub returns-clause-now : goal.returns-clause-now
returns-clause-now c =
    type_in_both (early_env c.args.early.now) c.args.at (decl_of c.args.d.now) (kept_in c.args.works.now) (kept_in c.declare_in.new.works) c.declare_in.result c.declare_in.ensures.now
