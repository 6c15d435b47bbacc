use Rattle.std.proofs.Common.{option_map, sym, subst}
use Rattle.body_meaning.specs.View.{head_of, maybe_stmt, stmt_of}
use Rattle.elab_making.specs.Does.{Does}
use Rattle.elab_making.specs.View.{whole_of}
use Rattle.elab_walk.proofs.Cuts.{function_is}
use Rattle.elab_walk.proofs.functions.function_declared.Goals as goal
use Rattle.nesc_types.specs.Rule.{Rule}
use Rattle.program_meaning.specs.Making.{Whole}

pub returns : goal.returns
returns c = λ t. λ tells.
    subst (λ (r : Rule (Unit {0} × Whole)). Does (λ _. tt) c.cut_function.result (whole_of c.cut_function.new.whole) r)
    (sym (function_is t (head_of c.args.h.now) (maybe_stmt (option_map stmt_of c.args.body.now)) (whole_of c.args.whole.now)))
    (c.cut_function.ensures t tells)
