-- What is read so far, and the turns that are left; the changes give back the names.
use Rattle.std.proofs.Common.{◌≡◌, length}
use Rattle.nesc_tree.specs.Changes.{all_taken_back}
use Rattle.nesc_parse_types.specs.Gives.{form_in, place}
use Rattle.nesc_interfaces.specs.Parts as parts
use Rattle.nesc_specifications.proofs.Lists.{IsListed}
use Rattle.nesc_interfaces.proofs.interfaces.some_parameters.Given as goal

abbrev pub invariant-loop-alloc : goal.invariant-loop-alloc
invariant-loop-alloc l = IsListed l.spare parts.parameter (form_in l.spare parts.some_parameters l.fn.names l.fn.ts) l.list (place l.names l.rest) × (all_taken_back l.changes.items l.names ≡ all_taken_back l.fn.changes.items l.fn.names)

abbrev pub decreases-loop-alloc : goal.decreases-loop-alloc
decreases-loop-alloc l = length l.rest
