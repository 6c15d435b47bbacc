use Rattle.std.proofs.Common.{◌≡◌, ◌+◌, ◌++◌, map, length, unwrap_or}
use Rattle.elab_meaning.specs.View.{env_of}
use Rattle.wire_names.specs.Places.{place_of}
use Rattle.wire_envs.specs.Envs as spec
use Rattle.wire_envs.proofs.application.of_instances.Given as goal

abbrev pub invariant-loop-one : goal.invariant-loop-one
invariant-loop-one l = record {
  number : l.instance + length l.rest ≡ length l.made;
  told : map env_of l.envs.items
      ++ spec.of_instances (λ text. unwrap_or (place_of l.uniques.counts text) 0) l.uniques.files.items l.uniques.numbers.items l.instance l.rest l.starts
      ≡ spec.of_instances (λ text. unwrap_or (place_of l.uniques.counts text) 0) l.uniques.files.items l.uniques.numbers.items 0 l.made l.uniques.starts.items;
}

abbrev pub decreases-loop-one : goal.decreases-loop-one
decreases-loop-one l = length l.rest
