use Rattle.std.proofs.Common.{◌≡◌, drop}
use Rattle.wire_units.specs.Block.{groups_in}
use Rattle.wire_units.specs.BlockView.{groups_of}
use Rattle.wire_units.proofs.types.+types.Given as goal

abbrev pub invariant-declare_groups-loop-group : goal.invariant-declare_groups-loop-group
invariant-declare_groups-loop-group l = groups_in l.at (groups_of (drop l.group-index l.group-items)) l.block l.fields ≡ groups_in l.at (groups_of l.groups) l.fn.block l.fn.fields
