use Rattle.std.proofs.Common.{sym, subst}
use Rattle.body_meaning.specs.Tree.{Decl}
use Rattle.elab_making.specs.Does.{Does}
use Rattle.elab_making.specs.View.{whole_of}
use Rattle.elab_walk.proofs.Shares.{function_shape}
use Rattle.elab_walk.proofs.walk.declaration.Goals as goal
use Rattle.program_meaning.specs.Walk.{declaration}

pub returns-in-Func : goal.returns-in-Func
returns-in-Func c = λ t. λ tells.
    subst (λ (d : Decl). Does (λ _. tt) c.function_declared.result (whole_of c.function_declared.new.whole) (declaration t d (whole_of c.args.whole.now)))
    (sym (function_shape c.args.d.now c.in-Func.head c.in-Func.body c.in-Func.is))
    (c.function_declared.ensures t tells)
