use Rattle.std.proofs.Common.{subst}
use Rattle.nesc_core.specs.View.{expr_of}
use Rattle.well_formed.specs.Scopes.{HasFound}
use Rattle.well_formed.proofs.Nulls.{null_behind}
use Rattle.well_formed.proofs.found.is_behind.Goals as goal

pub returns-in-Null : goal.returns-in-Null
returns-in-Null c = λ e.
    null_behind c.args.scope.now (expr_of c.args.e.now) c.args.bytes (subst (HasFound c.args.scope.now (expr_of c.args.e.now)) c.in-Null.is c.requires)
    (c.is_size.ensures.some e) (c.is_size.ensures.small e)
