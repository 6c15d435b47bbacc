-- Which statements may stand where, as plain data (own).
use Rattle.std.specs.Prelude.{ℕ, Option, option_copied}
use Rattle.nesc_core.specs.Plain.{Ty, Expr, Exprs, Stmt, Stmts}
use Rattle.nesc_core.specs.PlaceTypes.{type_in}
use Rattle.nesc_core.specs.WellFormed.{Exits}
use Rattle.nesc_core.specs.WellFormed as formed
use Rattle.well_formed.specs.declared.scope.Scope.{Scope}
use Rattle.well_formed.specs.declared.ways.Ways.{Ways}
use Rattle.well_formed.specs.Scopes.{program_in, locals_in}

abbrev pub exits_of : Ways → Exits
exits_of w = record { gives = type_in (option_copied w.gives); breaks = w.breaks; continues = w.continues }

abbrev pub IsStmt : Scope → Stmt → Exits → Type 0
IsStmt s x exits = formed.IsStmt (program_in s) (locals_in s) x exits

abbrev pub AreStmts : Scope → Stmts → Exits → Type 0
AreStmts s xs exits = formed.AreStmts (program_in s) (locals_in s) xs exits

abbrev pub IsDone : Scope → Option Expr → Type 0
IsDone s e = formed.IsDone (program_in s) (locals_in s) e

abbrev pub IsGiven : Scope → Option Expr → Ty → Type 0
IsGiven s e t = formed.IsGiven (program_in s) (locals_in s) e t

abbrev pub Enters : Scope → Exprs → (first count : ℕ) → Type 0
Enters s arguments first count = formed.Enters (program_in s) (locals_in s) arguments first count
