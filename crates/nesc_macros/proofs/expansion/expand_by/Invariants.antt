use Rattle.std.proofs.Common.{◌≤◌, List}
use Rattle.nm_base.specs.declared.limit.TheConstants.{MAX_TOKENS}
use Rattle.nesc_macros.specs.declared.hide_sets.Link.{Link}
use Rattle.nesc_macros.specs.Sets.{Extends}
use Rattle.nesc_macros.specs.Expansion.{unhidden}
use Rattle.nesc_macros.specs.Numbers.{all_shown, scope_of}
use Rattle.nesc_macros.specs.Tables.{macros_in}
use Rattle.nesc_macros.specs.Frames.{all_suspended, weight}
use Rattle.nesc_macros.proofs.Turns.{Follows}
use Rattle.nesc_macros.proofs.expansion.expand_by.Given as goal

abbrev pub invariant-loop-token : goal.invariant-loop-token
invariant-loop-token l = record {
  within : l.count ≤ MAX_TOKENS;
  grows : l.fn.count ≤ l.count;
  follows : (links : List Link) → Extends l.sets.links.items links → Follows (macros_in l.table) l.fn.count (unhidden l.fn.tokens.items) l.count (all_suspended (scope_of l.table links) l.frames.items) (all_shown (scope_of l.table links) l.level.out.items) (all_shown (scope_of l.table links) l.level.pending);
}

abbrev pub decreases-loop-token : goal.decreases-loop-token
decreases-loop-token l = weight l.count l.frames.items l.level.pending
