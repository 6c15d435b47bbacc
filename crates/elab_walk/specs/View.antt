-- What was declared before, seen as plain data (own).
use Rattle.elab_walk.specs.Parts.{Before}
use Rattle.elab_walk.specs.declared.functions.Before as before

abbrev pub before_of : before.Before → Before
before_of b = record { is_declared = b.is_declared; line = b.line }
