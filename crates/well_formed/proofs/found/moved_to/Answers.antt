use Rattle.std.proofs.Common.{refl, subst}
use Rattle.nesc_core.specs.View.{expr_of}
use Rattle.well_formed.specs.Scopes.{HasFound}
use Rattle.well_formed.specs.Kinds.{type_of_kind}
use Rattle.well_formed.proofs.Nulls.{moved_behind, moved_of}
use Rattle.well_formed.proofs.found.moved_to.Goals as goal

pub returns-then-is_stepped : goal.returns-then-is_stepped
returns-then-is_stepped c = λ b number.
    moved_of c.args.scope.now (expr_of c.args.a.now) (type_of_kind c.in-Of.k) c.args.bytes b (c.if-is_stepped.ensures refl)
    (subst (HasFound c.args.scope.now (expr_of c.args.a.now)) c.in-Of.is c.requires.found) number

pub returns-then-is_behind : goal.returns-then-is_behind
returns-then-is_behind c = λ b number. moved_behind c.args.scope.now (expr_of c.args.a.now) c.args.bytes b (c.if-is_behind.ensures refl) number
