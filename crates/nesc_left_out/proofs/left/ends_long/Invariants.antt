-- The words that are left.
use Rattle.std.proofs.Common.{◌≡◌, false, drop}
use Rattle.nesc_left_out.specs.Left.{ends_long}
use Rattle.nesc_left_out.proofs.left.ends_long.Given as goal

abbrev pub invariant-loop-token : goal.invariant-loop-token
invariant-loop-token l = ends_long l.fn.names l.found (drop l.token-index l.fn.before) ≡ ends_long l.fn.names false l.fn.before
