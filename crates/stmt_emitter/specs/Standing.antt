-- Where statements stand, as plain data, and the code that they have there.
use Rattle.std.specs.Prelude.{⊤, ℕ, ◌≡◌, ◌+◌, ◌≤◌, List, Option, Some, None, option_copied, slice_get, slice_index_or}
use Rattle.mid_code.specs.declared.instr.Mid.{Mid}
use Rattle.nesc_core.specs.Plain.{Ty, void, Expr, Stmt, Stmts, no_stmts, more_stmts, Program}
use Rattle.nesc_core.specs.Plain as plain
use Rattle.nesc_core.specs.PlaceTypes.{type_in}
use Rattle.nesc_core.specs.Size.{IsSized}
use Rattle.nesc_core.specs.WellFormed.{count_exprs, count_stmts}
use Rattle.core_meaning.specs.Layout.{size_of}
use Rattle.lower_expr.specs.declared.spot.Spot.TheVariants.{Frame}
use Rattle.lower_stmt.specs.Code as code
use Rattle.lower_stmt.specs.Code.{stmt_code, stmts_code, switch_code}
use Rattle.expr_emitter.specs.declared.scope.Scope.{Scope}
use Rattle.expr_emitter.specs.Scoped.{IsScope, program_in, locals_in, checks_in}
use Rattle.expr_emitter.specs.Sizes.{HasSizes, AllHaveSizes}
use Rattle.stmt_emitter.specs.Starts.{StartBelow}
use Rattle.stmt_emitter.specs.declared.ways.Ways.{Ways}
use Rattle.stmt_emitter.specs.declared.ways.WayOut.{WayOut}
use Rattle.stmt_emitter.specs.declared.ways.WayOut.TheVariants.{Returning, Breaking, Continuing}

-- ---- ways out

abbrev pub ways_seen : Ways → code.Ways
ways_seen w = record {
  gives = type_in (option_copied w.gives);
  return_to = w.return_to;
  break_to = w.break_to;
  continue_to = w.continue_to;
  status = w.status;
}

abbrev pub out_seen : WayOut → code.WayOut
out_seen Returning = code.returning
out_seen Breaking = code.breaking
out_seen Continuing = code.continuing

-- ---- statements

abbrev pub stmt_in : Scope → (base : ℕ) → Stmt → Ways → (l : ℕ) → List Mid
stmt_in s base st w l = stmt_code (program_in s) (locals_in s) (checks_in s) s.spots.now base st (ways_seen w) l

abbrev pub stmts_in : Scope → (base : ℕ) → Stmts → Ways → (l : ℕ) → List Mid
stmts_in s base list w l = stmts_code (program_in s) (locals_in s) (checks_in s) s.spots.now base list (ways_seen w) l

abbrev pub switch_in : Scope → (base : ℕ) → Stmts → Ways → (k l : ℕ) → List Mid
switch_in s base list w k l = switch_code (program_in s) (locals_in s) (checks_in s) s.spots.now base list (ways_seen w) k l

-- what the emitter asks of it: locals have sizes, and those in the frame lie where a word leads
pub record IsPlaced (s : Scope) : Type 0 where
  pub scope : IsScope s
  pub sized : (x : ℕ) → IsSized (program_in s).structs (slice_index_or (locals_in s) x void)
  pub inside : (x from : ℕ) → slice_get s.spots.now x ≡ Some (Frame from) → from + size_of (program_in s) (slice_index_or (locals_in s) x void) ≤ 65535

-- and of statements, in a body with these types of locals
module _ (p : Program) (types : List Ty) where
  abbrev pub MaybeHasSizes : Option Expr → Type 0
  MaybeHasSizes None = ⊤
  MaybeHasSizes (Some e) = HasSizes p types e

  abbrev mutual
    pub StmtFits : Stmt → Type 0
    StmtFits (plain.eval e) = HasSizes p types e
    StmtFits (plain.block list) = AllFit list
    StmtFits (plain.branch test a b) = HasSizes p types test × StmtFits a × StmtFits b
    StmtFits (plain.loop first test step body) = HasSizes p types test × MaybeHasSizes step × StmtFits body
    StmtFits (plain.switch e cases list) = HasSizes p types e × StartBelow (count_stmts list) cases × AllFit list
    StmtFits plain.break = ⊤
    StmtFits plain.continue = ⊤
    StmtFits (plain.return e) = MaybeHasSizes e
    StmtFits (plain.atomic s) = StmtFits s
    StmtFits (plain.clear x) = ⊤
    StmtFits (plain.here arguments first count body) = AllHaveSizes p types arguments × (count_exprs arguments ≤ count) × StmtFits body

    pub AllFit : Stmts → Type 0
    AllFit no_stmts = ⊤
    AllFit (more_stmts s rest) = StmtFits s × AllFit rest
