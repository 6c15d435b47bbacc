use Rattle.std.proofs.Common.{sym, subst}
use Rattle.elab_facts.specs.View.{fact_of}
use Rattle.elab_making.specs.Does.{Does}
use Rattle.elab_making.specs.View.{whole_of}
use Rattle.elab_walk.proofs.Cuts.{dispatched_is}
use Rattle.elab_walk.proofs.asking.dispatched.Goals as goal
use Rattle.nesc_types.specs.Rule.{Rule}
use Rattle.program_meaning.specs.Making.{Whole}

pub returns : goal.returns
returns c = λ t. λ tells.
    subst (λ (r : Rule (Unit {0} × Whole)). Does (λ _. tt) c.cut_dispatched.result (whole_of c.cut_dispatched.new.whole) r)
    (sym (dispatched_is c.args.name.now t c.args.at (fact_of c.args.x.now) (whole_of c.args.whole.now)))
    (c.cut_dispatched.ensures t tells)
