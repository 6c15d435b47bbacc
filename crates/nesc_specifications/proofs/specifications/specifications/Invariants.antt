-- What is read so far, and the turns that are left.
use Rattle.std.proofs.Common.{length}
use Rattle.nesc_grammar.specs.Components as spec
use Rattle.nesc_parse_types.specs.Gives.{form_in, place}
use Rattle.nesc_specifications.specs.Parts as parts
use Rattle.nesc_specifications.proofs.Lists.{IsRepeated}
use Rattle.nesc_specifications.proofs.specifications.specifications.Given as goal

abbrev pub invariant-loop-alloc : goal.invariant-loop-alloc
invariant-loop-alloc l = IsRepeated l.spare spec.is_specify parts.another_specification (form_in l.spare parts.specifications l.names l.fn.ts) l.list (place l.names l.rest)

abbrev pub decreases-loop-alloc : goal.decreases-loop-alloc
decreases-loop-alloc l = length l.rest
