use Rattle.std.proofs.Common.{◌≡◌, drop, map}
use Rattle.std.specs.List.{filter}
use Rattle.elab_facts.specs.View.{declared_of}
use Rattle.program_meaning.specs.Walk as spec
use Rattle.elab_rules.proofs.combined_results.combining_in.Given as goal

abbrev pub invariant-loop-d : goal.invariant-loop-d
invariant-loop-d l = filter (spec.is_combining l.name) (map declared_of (drop l.d-index l.headers)) ≡ filter (spec.is_combining l.name) (map declared_of l.headers)
