-- The code of whole bodies.
use Rattle.std.specs.Prelude.{ℕ, ◌+◌, List, [], ◌∷◌, ◌++◌, None}
use Rattle.mid_code.specs.declared.instr.Mid.{Mid}
use Rattle.mid_code.specs.declared.instr.Mid.TheVariants.{Ret}
use Rattle.nesc_core.specs.Plain.{Ty, Stmt}
use Rattle.lower_expr.specs.Code.{taken_at}
use Rattle.lower_stmt.specs.Code.{Ways, nothing_code, stmt_code}
use Rattle.expr_emitter.specs.declared.scope.Scope.{Scope}
use Rattle.expr_emitter.specs.Scoped.{program_in, locals_in, checks_in}

-- of a body that gives a type, whose first Begin saves the status at this place
abbrev pub ways_from : Ty → (status : ℕ) → Ways
ways_from ty status = record {
  gives = ty;
  return_to = None;
  break_to = 0;
  continue_to = 0;
  status = status;
}

abbrev pub whole_in : Scope → (base status : ℕ) → Stmt → Ty → List Mid
whole_in s base status st ty =
    stmt_code (program_in s) (locals_in s) (checks_in s) s.spots.now base st (ways_from ty status) 0
    ++ (nothing_code ty (base + 2) ++ Ret (taken_at ty (base + 2)) ∷ [])
