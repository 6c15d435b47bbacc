use Rattle.std.proofs.Common.{◌≡◌, map}
use Rattle.elab_meaning.specs.View.{env_of}
use Rattle.wire_elements.specs.View.{early_env}
use Rattle.elab_application.proofs.seen.early.Given as goal

abbrev pub invariant-loop-env : goal.invariant-loop-env
invariant-loop-env l = map early_env l.all.items ≡ map env_of l.yielded
