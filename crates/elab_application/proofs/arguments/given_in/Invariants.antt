use Rattle.std.proofs.Common.{◌≡◌, ◌++◌, drop, map}
use Rattle.elab_meaning.specs.View.{entry_of}
use Rattle.elab_targets.specs.View.{given_of}
use Rattle.wire_facts.specs.Components.{param_of}
use Rattle.elab_application.specs.Instances.{given_in}
use Rattle.elab_application.proofs.arguments.given_in.Given as goal

abbrev pub invariant-loop-param : goal.invariant-loop-param
invariant-loop-param l = map given_of l.all.items ++ given_in (map entry_of l.names) (map param_of (drop l.param-index l.params)) ≡ given_in (map entry_of l.names) (map param_of l.params)
