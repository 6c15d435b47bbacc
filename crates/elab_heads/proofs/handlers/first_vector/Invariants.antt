use Rattle.std.proofs.Common.{◌≡◌, length, map}
use Rattle.std.specs.Prelude.{codes}
use Rattle.std.specs.List.{filter}
use Rattle.body_meaning.specs.View.{attr_of}
use Rattle.program_meaning.specs.Heads.{is_named}
use Rattle.elab_heads.proofs.handlers.first_vector.Given as goal

abbrev pub invariant-loop-a : goal.invariant-loop-a
invariant-loop-a l = filter (is_named (codes "vector")) (map attr_of l.rest) ≡ filter (is_named (codes "vector")) (map attr_of l.attrs)

abbrev pub decreases-loop-a : goal.decreases-loop-a
decreases-loop-a l = length l.rest
