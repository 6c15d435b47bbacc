use Rattle.std.proofs.Common.{subst}
use Rattle.nesc_core.specs.View.{expr_of}
use Rattle.well_formed.specs.Scopes.{HasFound}
use Rattle.well_formed.proofs.Nulls.{convert_null, convert_behind}
use Rattle.well_formed.proofs.found.converts.Goals as goal

pub returns-in-Null : goal.returns-in-Null
returns-in-Null c = λ e.
    convert_null c.args.scope.now (expr_of c.args.e.now) c.args.t (subst (HasFound c.args.scope.now (expr_of c.args.e.now)) c.in-Null.is c.requires)
    (c.is_address.ensures e)

pub returns-in-Behind : goal.returns-in-Behind
returns-in-Behind c = λ e.
    convert_behind c.args.scope.now (expr_of c.args.e.now) c.args.t c.in-Behind.field-0
    (subst (HasFound c.args.scope.now (expr_of c.args.e.now)) c.in-Behind.is c.requires) (c.is_address-in-Behind.ensures e)
