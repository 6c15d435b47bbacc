-- What is read so far, and the turns that are left; the changes give back the names.
use Rattle.std.proofs.Common.{◌≡◌, length}
use Rattle.nesc_tree.specs.Changes.{all_taken_back}
use Rattle.nesc_tree.specs.Phrase.{begins_line}
use Rattle.nesc_parse_types.specs.Gives.{form_in, place}
use Rattle.nesc_configurations.specs.Parts as parts
use Rattle.nesc_specifications.proofs.Lists.{IsRepeated}
use Rattle.nesc_configurations.proofs.line_reader.some_lines.Given as goal

abbrev pub invariant-loop-alloc : goal.invariant-loop-alloc
invariant-loop-alloc l = IsRepeated l.spare begins_line parts.another_line (form_in l.spare parts.some_lines l.fn.names l.fn.ts) l.list (place l.names l.rest) × (all_taken_back l.changes.items l.names ≡ all_taken_back l.fn.changes.items l.fn.names)

abbrev pub decreases-loop-alloc : goal.decreases-loop-alloc
decreases-loop-alloc l = length l.rest
