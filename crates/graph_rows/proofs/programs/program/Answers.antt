use Rattle.std.proofs.Common.{map, ap, arith}
use Rattle.nesc_core.specs.View.{body_of}
use Rattle.graph_rows.proofs.CallerLemmas.{counted}
use Rattle.graph_rows.proofs.programs.program.Goals as goal

pub returns : goal.returns
returns c =
    counted c.args.count _ c.in_ok-bodies.field-0.items (ap (map body_of) c.new-5.ensures) c.in_ok-bodies.ensures.count (omega arith) c.in_ok-bodies.ensures.callers
