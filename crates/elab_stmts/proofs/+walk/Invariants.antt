use Rattle.std.proofs.Common.{◌≡◌, ◌+◌, ◌*◌, ◌≤◌, map, drop}
use Rattle.std.specs.Option.{option_map}
use Rattle.nesc_core.specs.View.{stmt_of as core_stmt_of, type_of}
use Rattle.elab_meaning.specs.Elab.{after}
use Rattle.elab_meaning.specs.View.{env_of, state_of}
use Rattle.elab_pieces.specs.Flow.{labelled_of}
use Rattle.body_meaning.specs.Stmts as spec
use Rattle.body_meaning.specs.View.{maybe_stmt, stmt_of, stmts}
use Rattle.elab_locals.proofs.Turns.{behind}
use Rattle.elab_stmts.specs.Parts.{labelled_block}
use Rattle.elab_stmts.proofs.Loops.{rest_behind}
use Rattle.elab_stmts.proofs.Sizes.{maybe_size, size, sizes}
use Rattle.elab_stmts.proofs.+walk.Given as goal

abbrev pub decreases-walk::stmt : goal.decreases-walk::stmt
decreases-walk::stmt l = 8 * size (stmt_of l.x.now)

abbrev pub decreases-walk::block : goal.decreases-walk::block
decreases-walk::block l = 8 * sizes (stmts (map stmt_of l.xs.now)) + 6

abbrev pub decreases-walk::items : goal.decreases-walk::items
decreases-walk::items l = 8 * sizes (stmts (map stmt_of l.xs.now)) + 5

abbrev pub decreases-walk::item : goal.decreases-walk::item
decreases-walk::item l = 8 * size (stmt_of l.x.now) + 1

abbrev pub decreases-walk::atomic_of : goal.decreases-walk::atomic_of
decreases-walk::atomic_of l = 8 * size (stmt_of l.x.now) + 1

abbrev pub decreases-walk::branch_on : goal.decreases-walk::branch_on
decreases-walk::branch_on l = 8 * (size (stmt_of l.x.now) + maybe_size (maybe_stmt (option_map stmt_of l.other.now))) + 3

abbrev pub decreases-walk::branch_with : goal.decreases-walk::branch_with
decreases-walk::branch_with l = 8 * maybe_size (maybe_stmt (option_map stmt_of l.other.now)) + 2

abbrev pub decreases-walk::otherwise : goal.decreases-walk::otherwise
decreases-walk::otherwise l = 8 * maybe_size (maybe_stmt (option_map stmt_of l.other.now)) + 1

abbrev pub decreases-walk::while_loop : goal.decreases-walk::while_loop
decreases-walk::while_loop l = 8 * size (stmt_of l.x.now) + 1

abbrev pub decreases-walk::do_loop : goal.decreases-walk::do_loop
decreases-walk::do_loop l = 8 * size (stmt_of l.x.now) + 1

abbrev pub decreases-walk::for_loop : goal.decreases-walk::for_loop
decreases-walk::for_loop l = 8 * size (stmt_of l.x.now) + 3

abbrev pub decreases-walk::for_within : goal.decreases-walk::for_within
decreases-walk::for_within l = 8 * size (stmt_of l.x.now) + 2

abbrev pub decreases-walk::turning : goal.decreases-walk::turning
decreases-walk::turning l = 8 * size (stmt_of l.x.now) + 1

abbrev pub decreases-walk::switch : goal.decreases-walk::switch
decreases-walk::switch l = 8 * size (stmt_of l.x.now) + 3

abbrev pub decreases-switches::cases : goal.decreases-switches::cases
decreases-switches::cases l = 8 * size (stmt_of l.x.now) + 2

abbrev pub decreases-switches::block_cases : goal.decreases-switches::block_cases
decreases-switches::block_cases l = 8 * sizes (stmts (map stmt_of l.xs.now)) + 6

abbrev pub decreases-switches::plain_body : goal.decreases-switches::plain_body
decreases-switches::plain_body l = 8 * size (stmt_of l.x.now) + 1

abbrev pub decreases-switches::labelled_items : goal.decreases-switches::labelled_items
decreases-switches::labelled_items l = 8 * sizes (stmts (map stmt_of l.xs.now)) + 5

abbrev pub decreases-switches::labelled : goal.decreases-switches::labelled
decreases-switches::labelled l = 8 * size (stmt_of l.x.now) + 3

abbrev pub decreases-switches::case_of : goal.decreases-switches::case_of
decreases-switches::case_of l = 8 * size (stmt_of l.x.now) + 4

abbrev pub decreases-switches::default_of : goal.decreases-switches::default_of
decreases-switches::default_of l = 8 * size (stmt_of l.x.now) + 4

abbrev pub decreases-switches::plain_item : goal.decreases-switches::plain_item
decreases-switches::plain_item l = 8 * size (stmt_of l.x.now) + 2

-- ---- the rest gives, behind what there is so far, what all give

abbrev pub invariant-walk::items-loop-x : goal.invariant-walk::items-loop-x
invariant-walk::items-loop-x l = record {
  rest : spec.items (env_of l.fn.told.env) l.fn.told.values (type_of l.fn.due) (stmts (map stmt_of l.fn.xs)) (state_of l.fn.work)
      ≡ after (spec.items (env_of l.told.env) l.told.values (type_of l.due) (stmts (map stmt_of (drop l.x-index l.x-items))) (state_of l.work)) (behind (map core_stmt_of l.code.items));
  smaller : sizes (stmts (map stmt_of (drop l.x-index l.x-items))) ≤ sizes (stmts (map stmt_of l.xs));
}

abbrev pub invariant-switches::labelled_items-loop-x : goal.invariant-switches::labelled_items-loop-x
invariant-switches::labelled_items-loop-x l = record {
  rest : labelled_block (env_of l.fn.told.env) l.fn.told.values (type_of l.fn.due) l.fn.t (stmts (map stmt_of l.fn.xs)) (state_of l.fn.work)
      ≡ rest_behind (env_of l.told.env) l.told.values (type_of l.due) l.t (labelled_of l.out) (stmts (map stmt_of (drop l.x-index l.x-items))) (state_of l.work);
  smaller : sizes (stmts (map stmt_of (drop l.x-index l.x-items))) ≤ sizes (stmts (map stmt_of l.xs));
}
