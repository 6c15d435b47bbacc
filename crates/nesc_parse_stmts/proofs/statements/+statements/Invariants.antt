-- The levels that are left fall, and at one level the order of the calls; what is read so far is what the turns that are left go on.
use Rattle.std.proofs.Common.{◌≡◌, ◌+◌, ◌*◌, length}
use Rattle.nesc_tree.specs.Changes.{all_taken_back}
use Rattle.nesc_parse_types.specs.Gives.{place}
use Rattle.nesc_parse_stmts.proofs.Items.{AreFrom, items_at}
use Rattle.nesc_parse_stmts.proofs.statements.+statements.Given as goal

abbrev pub decreases-stmt : goal.decreases-stmt
decreases-stmt l = 16 * l.levels

abbrev pub decreases-cases : goal.decreases-cases
decreases-cases l = 16 * l.levels

abbrev pub decreases-label : goal.decreases-label
decreases-label l = 16 * l.levels

abbrev pub decreases-statement : goal.decreases-statement
decreases-statement l = 16 * l.spare + 15

abbrev pub decreases-deeper : goal.decreases-deeper
decreases-deeper l = 16 * l.spare + 14

abbrev pub decreases-block : goal.decreases-block
decreases-block l = 16 * l.spare + 12

abbrev pub decreases-open_block : goal.decreases-open_block
decreases-open_block l = 16 * l.spare + 9

abbrev pub decreases-items : goal.decreases-items
decreases-items l = 16 * l.spare + 8

abbrev pub decreases-another_item : goal.decreases-another_item
decreases-another_item l = 16 * l.spare + 7

abbrev pub decreases-item : goal.decreases-item
decreases-item l = 16 * l.spare + 6

abbrev pub decreases-if_else : goal.decreases-if_else
decreases-if_else l = 16 * l.spare + 6

abbrev pub decreases-choice : goal.decreases-choice
decreases-choice l = 16 * l.spare + 5

abbrev pub decreases-otherwise : goal.decreases-otherwise
decreases-otherwise l = 16 * l.spare + 4

abbrev pub decreases-some_else : goal.decreases-some_else
decreases-some_else l = 16 * l.spare + 3

abbrev pub decreases-atomic : goal.decreases-atomic
decreases-atomic l = 16 * l.spare + 3

abbrev pub decreases-while_loop : goal.decreases-while_loop
decreases-while_loop l = 16 * l.spare + 3

abbrev pub decreases-do_loop : goal.decreases-do_loop
decreases-do_loop l = 16 * l.spare + 3

abbrev pub decreases-for_loop : goal.decreases-for_loop
decreases-for_loop l = 16 * l.spare + 4

abbrev pub decreases-open_for : goal.decreases-open_for
decreases-open_for l = 16 * l.spare + 3

abbrev pub decreases-inner : goal.decreases-inner
decreases-inner l = 16 * l.spare + 2

abbrev pub decreases-switch : goal.decreases-switch
decreases-switch l = 16 * l.spare + 5

abbrev pub decreases-boxed_switch_body : goal.decreases-boxed_switch_body
decreases-boxed_switch_body l = 16 * l.spare + 4

abbrev pub decreases-switch_body : goal.decreases-switch_body
decreases-switch_body l = 16 * l.spare + 3

abbrev pub decreases-case : goal.decreases-case
decreases-case l = 16 * l.spare + 5

abbrev pub decreases-default : goal.decreases-default
decreases-default l = 16 * l.spare + 5

abbrev pub decreases-boxed_labelled : goal.decreases-boxed_labelled
decreases-boxed_labelled l = 16 * l.spare + 4

abbrev pub decreases-labelled : goal.decreases-labelled
decreases-labelled l = 16 * l.spare + 3

abbrev pub invariant-items-loop-alloc : goal.invariant-items-loop-alloc
invariant-items-loop-alloc l =
    AreFrom l.spare l.labels l.jumps (items_at l.spare l.labels l.jumps (place l.fn.names l.fn.ts)) l.list (place l.names l.rest)
    × (all_taken_back l.changes.items l.names ≡ all_taken_back l.fn.changes.items l.fn.names)

abbrev pub decreases-items-loop-alloc : goal.decreases-items-loop-alloc
decreases-items-loop-alloc l = length l.rest
