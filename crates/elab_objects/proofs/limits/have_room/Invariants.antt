use Rattle.std.proofs.Common.{◌≡◌, ◌≤◌, ◌+◌, drop}
use Rattle.nesc_types.specs.Addresses.{taken}
use Rattle.elab_objects.proofs.limits.have_room.Given as goal

abbrev pub invariant-loop-size : goal.invariant-loop-size
invariant-loop-size l = record {
  sum : l.sum + taken (drop l.size-index l.sizes) ≡ taken l.sizes;
  room : l.sum ≤ 60000;
}
