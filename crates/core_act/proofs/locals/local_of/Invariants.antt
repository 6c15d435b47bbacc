use Rattle.std.proofs.Common.{◌≡◌, ◌++◌, ◌*◌, ◌-◌}
use Rattle.core_meaning.specs.Numbers.{residue}
use Rattle.core_meaning.specs.Work.{bytes_of}
use Rattle.core_act.proofs.locals.local_of.Given as goal

abbrev pub invariant-loop : goal.invariant-loop
invariant-loop l = l.bytes.items ++ bytes_of (l.size - l.counter) (residue (8 * (l.size - l.counter)) l.rest) ≡ bytes_of l.size (residue (8 * l.size) l.fn.v)
