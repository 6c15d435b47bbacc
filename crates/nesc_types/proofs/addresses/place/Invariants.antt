use Rattle.std.proofs.Common.{◌≡◌, ◌+◌, ◌≤◌, ◌++◌, drop}
use Rattle.nesc_types.specs.Addresses.{taken, addresses}
use Rattle.nesc_types.proofs.addresses.place.Given as goal

abbrev pub invariant-loop-size : goal.invariant-loop-size
invariant-loop-size l = record {
  so_far : l.places.items ++ addresses l.next (drop l.size-index l.sizes) ≡ addresses 4352 l.sizes;
  above : 4352 ≤ l.next;
  room : l.next + taken (drop l.size-index l.sizes) ≤ 64352;
}
