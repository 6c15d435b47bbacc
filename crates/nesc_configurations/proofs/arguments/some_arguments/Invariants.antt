-- What is read so far, and the turns that are left.
use Rattle.std.proofs.Common.{length}
use Rattle.nesc_parse_types.specs.Gives.{form_in, place}
use Rattle.nesc_configurations.specs.Parts as parts
use Rattle.nesc_specifications.proofs.Lists.{IsListed}
use Rattle.nesc_configurations.proofs.arguments.some_arguments.Given as goal

abbrev pub invariant-loop-alloc : goal.invariant-loop-alloc
invariant-loop-alloc l = IsListed l.spare parts.one_argument (form_in l.spare parts.some_arguments l.names l.fn.ts) l.list (place l.names l.rest)

abbrev pub decreases-loop-alloc : goal.decreases-loop-alloc
decreases-loop-alloc l = length l.rest
