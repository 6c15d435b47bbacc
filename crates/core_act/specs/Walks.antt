-- What the parts of a body do at a scope.
use Rattle.std.specs.Prelude.{ℕ, ℤ, Bool, if◌then◌else◌, List, Option, Some, None}
use Rattle.nm_base.specs.declared.int_type.IntType.{IntType}
use Rattle.nm_base.specs.IntType.{wrapped}
use Rattle.nesc_core.specs.declared.tree.BinOp.{BinOp}
use Rattle.nesc_core.specs.Plain.{Ty, Expr, Exprs, Place, Stmt, Stmts}
use Rattle.core_meaning.specs.Numbers.{binary}
use Rattle.core_meaning.specs.declared.access.Where.{Where}
use Rattle.core_meaning.specs.declared.flow.Flow.{Flow}
use Rattle.core_meaning.specs.Work.{Work, give, or_fault, number_of, store, ◌>>=◌, ◌>>◌}
use Rattle.core_meaning.specs.Act.{Calls, calls_of, find, value, values, done, run, run_from}
use Rattle.core_act.specs.declared.scope.Scope.{Scope}
use Rattle.core_act.specs.Scopes.{program_in, types_in}

unfoldable pub calls_in : Scope → Calls
calls_in s = calls_of (program_in s) s.depth s.turns

unfoldable pub find_in : Scope → Place → Work Where
find_in s place = find (program_in s) (types_in s) (calls_in s) place

unfoldable pub value_in : Scope → Expr → Work ℤ
value_in s e = value (program_in s) (types_in s) (calls_in s) e

unfoldable pub values_in : Scope → Exprs → Work (List ℤ)
values_in s es = values (program_in s) (types_in s) (calls_in s) es

unfoldable pub done_in : Scope → Option Expr → Work (Unit {0})
done_in s e = done (program_in s) (types_in s) (calls_in s) s.turns e

unfoldable pub run_in : Scope → Stmt → Work Flow
run_in s x = run (program_in s) (types_in s) (calls_in s) s.turns x

unfoldable pub run_from_in : Scope → Stmts → ℕ → Work Flow
run_from_in s list k = run_from (program_in s) (types_in s) (calls_in s) s.turns list k

-- behind the place, its old value and the other operand of an update
abbrev pub changed : Ty → BinOp → IntType → (gives_old : Bool) → Where → (old y : ℤ) → Work ℤ
changed ty op t gives_old w old y = do
  z ← or_fault 3 (binary op t (wrapped t old) y)
  let new = wrapped (number_of ty) z
  store ty w new
  give (if gives_old then old else new)

-- behind the body of a loop: how it is left, or what comes next
abbrev pub left_or : Option Flow → Work Flow → Work Flow
left_or None next = next
left_or (Some flow) next = give flow
