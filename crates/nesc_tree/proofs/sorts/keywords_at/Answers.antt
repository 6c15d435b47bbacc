use Rattle.std.proofs.Common.{refl}
use Rattle.nesc_tree.specs.Sorts.{keyword}
use Rattle.nesc_tree.proofs.sorts.keywords_at.Goals as goal

pub returns-in-105 : goal.returns-in-105
unfolding keyword
returns-in-105 c = λ rest. rw (c.in-105.is) refl

pub returns-in-117 : goal.returns-in-117
unfolding keyword
returns-in-117 c = λ rest. rw (c.in-117.is) refl
