-- The code that locals become 0 by, or values of a statement's expressions.
use Rattle.std.specs.Prelude.{ℕ, Bool, List, Option, slice_get, slice_index_or}
use Rattle.mid_code.specs.declared.instr.Mid.{Mid}
use Rattle.nesc_core.specs.Plain.{Ty, void, Expr, Exprs}
use Rattle.lower_stmt.specs.Code.{clear_code, clears_code, enter_code, here_gives, kept_code, result_code, returned_code, step_code, Ways}
use Rattle.expr_emitter.specs.declared.scope.Scope.{Scope}
use Rattle.expr_emitter.specs.Scoped.{program_in, locals_in, checks_in}

abbrev pub clear_in : Scope → (base x l : ℕ) → List Mid
clear_in s base x l = clear_code (program_in s) (locals_in s) (checks_in s) s.spots.now base x l

abbrev pub clears_in : Scope → (base count x l : ℕ) → List Mid
clears_in s base count x l = clears_code (program_in s) (locals_in s) (checks_in s) s.spots.now base count x l

-- work that leaves a value becomes that of local x
abbrev pub kept_in : Scope → (base x : ℕ) → List Mid → List Mid
kept_in s base x work = kept_code (program_in s) (locals_in s) (checks_in s) s.spots.now base (slice_index_or (locals_in s) x void) (slice_get s.spots.now x) work

abbrev pub enter_in : Scope → (base : ℕ) → Exprs → (x l : ℕ) → List Mid
enter_in s base es x l = enter_code (program_in s) (locals_in s) (checks_in s) s.spots.now base es x l

abbrev pub result_in : Scope → (base : ℕ) → Bool → ℕ → List Mid
result_in s base gives x = result_code (program_in s) (locals_in s) (checks_in s) s.spots.now base gives x

abbrev pub step_in : Scope → (base : ℕ) → Option Expr → (l : ℕ) → List Mid
step_in s base e l = step_code (program_in s) (locals_in s) (checks_in s) s.spots.now base e l

abbrev pub returned_in : Scope → (base : ℕ) → Option Expr → Ways → (l : ℕ) → List Mid
returned_in s base e w l = returned_code (program_in s) (locals_in s) (checks_in s) s.spots.now base e w l

abbrev pub gives_in : Scope → (base : ℕ) → Bool → ℕ → Ty
gives_in s base gives x = here_gives (program_in s) (locals_in s) (checks_in s) s.spots.now base gives x
