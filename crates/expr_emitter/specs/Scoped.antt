-- Where expressions stand, as plain data, and the code that they have there.
use Rattle.std.specs.Prelude.{ℕ, ◌+◌, ◌<◌, ◌^◌, Bool, List, ◌++◌, length, map, if◌then◌else◌}
use Rattle.nm_base.specs.declared.int_type.IntType.{IntType}
use Rattle.mid_code.specs.declared.instr.Mid.{Mid}
use Rattle.mid_code.specs.Help.{is_wide}
use Rattle.nm_base.specs.declared.pos.Pos.{Pos}
use Rattle.nesc_core.specs.declared.tree.BinOp.{BinOp}
use Rattle.nesc_core.specs.Plain.{Ty, Expr, Exprs, Place, Program}
use Rattle.nesc_core.specs.Size.{AreSized}
use Rattle.nesc_core.specs.View.{program_of, structs_of, type_of}
use Rattle.lower_expr.specs.Code.{Kind, kind_of, expr_code, place_code, args_code, passed_at, put_code}
use Rattle.lower_expr.specs.Held as spec
use Rattle.lower_expr.specs.Pieces.{move_code, convert_code, binary_code}
use Rattle.expr_emitter.specs.declared.scope.Scope.{Scope}

abbrev pub program_in : Scope → Program
program_in s = program_of s.program.now

abbrev pub locals_in : Scope → List Ty
locals_in s = map type_of s.locals.now

abbrev pub checks_in : Scope → List Ty
checks_in s = map type_of s.checks.now

abbrev pub expr_in : Scope → Expr → (r l : ℕ) → List Mid
expr_in s e r l = expr_code (program_in s) (locals_in s) (checks_in s) s.spots.now e r l

abbrev pub place_in : Scope → Place → (r l : ℕ) → List Mid
place_in s place r l = place_code (program_in s) (locals_in s) (checks_in s) s.spots.now place r l

abbrev pub args_in : Scope → Exprs → (r l : ℕ) → List Mid
args_in s es r l = args_code (program_in s) (locals_in s) (checks_in s) s.spots.now es r l

-- the values of arguments
abbrev pub passed_in : Scope → Exprs → ℕ → List ℕ
passed_in s es r = passed_at (program_in s) (locals_in s) (checks_in s) s.spots.now es r

abbrev pub kind_in : Scope → Place → Kind
kind_in s place = kind_of (program_in s) (locals_in s) (checks_in s) s.spots.now place

abbrev pub held_in : Scope → Expr → IntType
held_in s e = spec.held (program_in s) (locals_in s) e

-- what the emitter asks of it
pub record IsScope (s : Scope) : Type 0 where
  pub structs : AreSized (structs_of s.program.now.structs)
  pub checks : length s.checks.now < 2 ^ 31

-- behind the place, its old value at r + 2, and the other operand at r + 4
abbrev pub update_code : Kind → (of : IntType) → BinOp → (t second : IntType) → (gives_old : Bool) → (r l : ℕ) → List Mid
update_code kind of op t second gives_old r l =
    move_code (is_wide of) (r + 6) (r + 2)
    ++ (convert_code of t (r + 6) l
    ++ (move_code (is_wide second) (r + 8) (r + 4)
    ++ (binary_code op t second (r + 6) (l + 1)
    ++ (convert_code t of (r + 6) (l + 4)
    ++ (put_code kind of (r + 6) r
    ++ move_code (is_wide of) r (if gives_old then r + 2 else r + 6))))))

-- no code depends on where an expression stands in the text
abbrev pub nowhere : Pos
nowhere = record { file = 0; line = 0; col = 0 }
