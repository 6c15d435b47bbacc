use Rattle.std.proofs.Common.{◌≡◌, ◌++◌, drop, flat_map, map}
use Rattle.elab_meaning.specs.Scope.{Env}
use Rattle.elab_meaning.specs.View.{unique_count_of}
use Rattle.wire_elements.specs.View.{early_env}
use Rattle.elab_application.proofs.counts.add_all.Given as goal

abbrev pub invariant-loop-early : goal.invariant-loop-early
invariant-loop-early l = map unique_count_of l.counts.items ++ flat_map (λ (e : Env). e.counts) (map early_env (drop l.early-index l.envs))
    ≡ map unique_count_of l.fn.counts.items ++ flat_map (λ (e : Env). e.counts) (map early_env l.envs)
