-- Where initial values stand in the boot function (own: with_initial of the meaning, cut where the code is cut).
use Rattle.std.specs.Prelude.{List, [], ◌∷◌, Option, Some, None}
use Rattle.nesc_core.specs.Plain as core
use Rattle.program_meaning.specs.Program.{before, in_atomic}

abbrev pub statements_of : core.Stmt → Option core.Stmts
statements_of (core.block xs) = Some xs
statements_of x = None

abbrev pub in_block : List core.Stmt → core.Stmt → core.Stmt
in_block initial (core.block xs) = core.block (before initial xs)
in_block initial x = x

abbrev pub in_first : List core.Stmt → List core.Stmt → List core.Stmt
in_first initial [] = []
in_first initial (x ∷ xs) = in_atomic initial x ∷ xs
