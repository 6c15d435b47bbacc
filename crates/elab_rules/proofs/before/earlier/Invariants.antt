use Rattle.std.proofs.Common.{◌≡◌, map, option_copied, take}
use Rattle.std.specs.Option.{option_map}
use Rattle.body_meaning.specs.View.{head_of}
use Rattle.elab_facts.specs.View.{declared_of}
use Rattle.program_meaning.specs.Walk.{earlier}
use Rattle.elab_rules.proofs.before.earlier.Given as goal

abbrev pub invariant-loop-d : goal.invariant-loop-d
invariant-loop-d l = option_map declared_of (option_copied l.found) ≡ earlier (map declared_of (take l.d-index l.ds)) (head_of l.h)
