-- What the rest adds, from here, is what all add.
use Rattle.std.proofs.Common.{◌≡◌, drop, map}
use Rattle.body_meaning.specs.View.{stmt_of, stmts}
use Rattle.item_targets.specs.Search.{goes, seen_of}
use Rattle.item_targets.specs.Walk.{stmts_at}
use Rattle.item_targets.proofs.statements.+statements.Given as goal

abbrev pub invariant-in_stmts-loop-x : goal.invariant-in_stmts-loop-x
invariant-in_stmts-loop-x g l =
    goes (stmts_at g.R.Reaches.reach l.walk (stmts (map stmt_of (drop l.x-index l.x-items)))) (seen_of l.search)
    ≡ goes (stmts_at g.R.Reaches.reach l.fn.walk (stmts (map stmt_of l.fn.xs))) (seen_of l.fn.search)
