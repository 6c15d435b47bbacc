use Rattle.std.proofs.Common.{subst}
use Rattle.nesc_core.specs.View.{expr_of}
use Rattle.well_formed.specs.Scopes.{HasFound}
use Rattle.well_formed.proofs.Nulls.{test_null, test_behind}
use Rattle.well_formed.proofs.found.has_test.Goals as goal

pub returns-in-Null : goal.returns-in-Null
returns-in-Null c = λ e. test_null c.args.scope.now (expr_of c.args.e.now) (subst (HasFound c.args.scope.now (expr_of c.args.e.now)) c.in-Null.is c.requires)

pub returns-in-Behind : goal.returns-in-Behind
returns-in-Behind c = λ e.
    test_behind c.args.scope.now (expr_of c.args.e.now) c.in-Behind.field-0 (subst (HasFound c.args.scope.now (expr_of c.args.e.now)) c.in-Behind.is c.requires)
