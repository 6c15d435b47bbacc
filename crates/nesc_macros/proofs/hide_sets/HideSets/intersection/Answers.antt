use Rattle.std.proofs.Common.{sym, ap}
use Rattle.nesc_macros.specs.Sets.{numbers_in}
use Rattle.nesc_macros.proofs.Naming.{common_of_same}
use Rattle.nesc_macros.proofs.hide_sets.HideSets.intersection.Goals as goal

pub returns-then-is-clause-set : goal.returns-then-is-clause-set
returns-then-is-clause-set c links extends = sym (common_of_same (numbers_in links c.args.one.now) (numbers_in links c.args.other.now) (ap (numbers_in links) (c.is.ensures c.if-is.true)))
