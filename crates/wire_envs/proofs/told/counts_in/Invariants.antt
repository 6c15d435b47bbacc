use Rattle.std.proofs.Common.{◌≡◌, ◌++◌, drop, map, unwrap_or}
use Rattle.elab_meaning.specs.View.{unique_count_of}
use Rattle.wire_names.specs.Places.{place_of}
use Rattle.wire_envs.specs.Envs as spec
use Rattle.wire_envs.proofs.told.counts_in.Given as goal

abbrev pub invariant-loop-one : goal.invariant-loop-one
invariant-loop-one l =
    map unique_count_of l.counts.items ++ spec.counts_in (λ text. unwrap_or (place_of l.uniques.counts text) 0) (drop l.one-index l.uses)
    ≡ spec.counts_in (λ text. unwrap_or (place_of l.uniques.counts text) 0) l.uses
