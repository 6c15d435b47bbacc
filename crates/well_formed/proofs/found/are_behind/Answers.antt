use Rattle.std.proofs.Common.{refl}
use Rattle.nesc_core.specs.View.{expr_of}
use Rattle.well_formed.proofs.Nulls.{bytes_apart}
use Rattle.well_formed.proofs.found.are_behind.Goals as goal

pub returns : goal.returns
returns c = λ e.
    bytes_apart c.args.scope.now (expr_of c.args.a.now) (expr_of c.args.b.now) c.args.bytes (c.if-not-is_behind.ensures refl) (c.is_behind-2.ensures e)
