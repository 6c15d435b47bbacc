use Rattle.generated_bodies.proofs.exprs.+exprs.Given as goal

abbrev pub decreases-pointer : goal.decreases-pointer
decreases-pointer l = l.depth

abbrev pub decreases-index : goal.decreases-index
decreases-index l = l.depth

abbrev pub decreases-behind_pointer : goal.decreases-behind_pointer
decreases-behind_pointer l = l.depth

abbrev pub decreases-byte_place : goal.decreases-byte_place
decreases-byte_place l = l.depth

abbrev pub decreases-place : goal.decreases-place
decreases-place l = l.depth

abbrev pub decreases-second : goal.decreases-second
decreases-second l = l.depth

abbrev pub decreases-binary : goal.decreases-binary
decreases-binary l = l.depth

abbrev pub decreases-test : goal.decreases-test
decreases-test l = l.depth

abbrev pub decreases-update : goal.decreases-update
decreases-update l = l.depth

abbrev pub decreases-call : goal.decreases-call
decreases-call l = l.depth

abbrev pub decreases-number : goal.decreases-number
decreases-number l = l.depth
