use Rattle.std.proofs.Common.{sym}
use Rattle.nesc_macros.specs.Sets.{numbers_in}
use Rattle.nesc_macros.proofs.Naming.{joined_with_end}
use Rattle.nesc_macros.proofs.hide_sets.HideSets.union.Goals as goal

pub returns-then-branch-clause-set : goal.returns-then-branch-clause-set
returns-then-branch-clause-set c links extends =
    let ends = c.in_ok-ends_with.ensures c.if-branch.true links extends in
    sym (joined_with_end ends.0 (numbers_in links c.args.one.now) (numbers_in links c.args.other.now) ends.1)
