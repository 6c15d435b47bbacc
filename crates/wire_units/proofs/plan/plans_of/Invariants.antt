use Rattle.std.proofs.Common.{◌≡◌, ◌++◌, drop, map}
use Rattle.wire_units.specs.Plans.{plan_of, plans_of}
use Rattle.wire_units.proofs.plan.plans_of.Given as goal

abbrev pub invariant-loop-loaded : goal.invariant-loop-loaded
invariant-loop-loaded l = l.plans.items ++ map (plan_of l.units) (drop l.loaded-index l.units) ≡ plans_of l.units
