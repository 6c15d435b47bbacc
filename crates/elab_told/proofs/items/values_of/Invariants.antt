use Rattle.std.proofs.Common.{◌≡◌, ◌++◌, map, drop}
use Rattle.elab_facts.specs.View.{fact_of}
use Rattle.program_meaning.specs.Items.{Fact, out_target, value_given}
use Rattle.elab_told.proofs.items.values_of.Given as goal

abbrev pub invariant-loop-fact : goal.invariant-loop-fact
invariant-loop-fact l =
    l.values.items ++ map (λ (x : Fact). value_given (out_target x)) (map fact_of (drop l.fact-index l.facts)) ≡ map (λ (x : Fact). value_given (out_target x)) (map fact_of l.facts)
