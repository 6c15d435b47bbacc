use Rattle.std.proofs.Common.{ℕ, List}
use Rattle.std.proofs.Math.Path.{fun_ext}
use Rattle.wire_pairs.proofs.lines.bind.Goals as goal

pub returns : goal.returns
returns c = fun_ext (λ (other : List ℕ). c.in_ok-set.ensures.set other)
