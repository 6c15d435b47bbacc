-- The levels that are left fall, and at one level the order of the calls.
use Rattle.std.proofs.Common.{◌+◌, ◌*◌}
use Rattle.declared_rows.proofs.types.+types.Given as goal

abbrev pub decreases-put_groups : goal.decreases-put_groups
decreases-put_groups l = 3 * l.levels + 1

abbrev pub decreases-put_base : goal.decreases-put_base
decreases-put_base l = 3 * l.levels + 2

abbrev pub decreases-put_type : goal.decreases-put_type
decreases-put_type l = 3 * l.levels
