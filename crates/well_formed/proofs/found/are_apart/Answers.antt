use Rattle.std.proofs.Common.{subst}
use Rattle.nesc_core.specs.View.{expr_of}
use Rattle.well_formed.specs.Scopes.{HasFound}
use Rattle.well_formed.specs.Kinds.{type_of_kind}
use Rattle.well_formed.proofs.Nulls.{types_apart}
use Rattle.well_formed.proofs.found.are_apart.Goals as goal

pub returns-in-Of : goal.returns-in-Of
returns-in-Of c = λ e.
    types_apart c.args.scope.now (expr_of c.args.a.now) (expr_of c.args.b.now) c.args.bytes (type_of_kind c.in-Of.k) (c.is_stepped.ensures e)
    (subst (HasFound c.args.scope.now (expr_of c.args.a.now)) c.in-Of.is c.requires.first)
    (subst (HasFound c.args.scope.now (expr_of c.args.b.now)) c.in-Of.is c.requires.second)
