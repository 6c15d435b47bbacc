use Rattle.std.proofs.Common.{◌≡◌, drop, map}
use Rattle.std.specs.List.{filter}
use Rattle.elab_facts.specs.View.{fact_of}
use Rattle.program_meaning.specs.Walk as spec
use Rattle.elab_rules.proofs.shapes.implemented.Given as goal

abbrev pub invariant-loop-fact : goal.invariant-loop-fact
invariant-loop-fact l = filter (spec.is_fact l.element l.wanted) (map fact_of (drop l.fact-index l.facts)) ≡ filter (spec.is_fact l.element l.wanted) (map fact_of l.facts)
