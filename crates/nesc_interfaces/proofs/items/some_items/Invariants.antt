-- What is read so far, and the turns that are left; the names stay.
use Rattle.std.proofs.Common.{◌≡◌, length}
use Rattle.nesc_tree.specs.Phrase.{begins_item}
use Rattle.nesc_parse_types.specs.Gives.{form_in, place}
use Rattle.nesc_interfaces.specs.Parts as parts
use Rattle.nesc_specifications.proofs.Lists.{IsRepeated}
use Rattle.nesc_interfaces.proofs.items.some_items.Given as goal

abbrev pub invariant-loop-alloc : goal.invariant-loop-alloc
invariant-loop-alloc l = IsRepeated l.spare begins_item parts.another_item (form_in l.spare parts.some_items l.fn.names l.fn.ts) l.list (place l.names l.rest) × (l.names ≡ l.fn.names)

abbrev pub decreases-loop-alloc : goal.decreases-loop-alloc
decreases-loop-alloc l = length l.rest
