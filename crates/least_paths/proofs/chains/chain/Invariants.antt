use Rattle.least_paths.proofs.Reading.{IsRead}
use Rattle.least_paths.proofs.chains.chain.Given as goal

abbrev pub invariant-loop : goal.invariant-loop
invariant-loop l = IsRead l.ways l.fn.f l.bodies.items l.at l.counter
