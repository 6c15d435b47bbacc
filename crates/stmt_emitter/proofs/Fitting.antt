-- The statements of a well-formed program can be emitted.
use Rattle.std.proofs.Common.{ℕ, zero, suc, ◌<◌, List, [], ◌∷◌, Option, Some, None, take, drop, arith}
use Rattle.std.specs.Prelude.{slice_index_or}
use Rattle.std.specs.List.{All}
use Rattle.nesc_core.specs.Plain.{Ty, void, int, Field, Expr, Exprs, no_exprs, more_exprs, Stmt, Stmts, Case, no_stmts, more_stmts, Program}
use Rattle.nesc_core.specs.Plain as plain
use Rattle.nesc_core.specs.Size.{AreSized, IsSized}
use Rattle.nesc_core.specs.Typing.{AllHave, IsType}
use Rattle.nesc_core.specs.WellFormed.{Exits, in_loop, in_switch, by_result, count_exprs, count_stmts, IsDone, IsGiven, IsStmt, AreStmts}
use Rattle.expr_emitter.specs.Sizes.{AllHaveSizes}
use Rattle.expr_emitter.proofs.Typed.{has_sizes}
use Rattle.stmt_emitter.specs.Starts.{AreAllSized, StartBelow}
use Rattle.stmt_emitter.specs.Standing.{AllFit, MaybeHasSizes, StmtFits}

pub local_sized : (p : Program) (ts : List Ty) (x : ℕ) → All (IsType p.structs) ts → IsSized p.structs (slice_index_or ts x void)
local_sized p [] x all = record { names = tt; small = tt }
local_sized p (t ∷ ts) zero all = (all 0 t (omega arith)).sized
local_sized p (t ∷ ts) (suc x) all = local_sized p ts x (λ i d lt. all (suc i) d (omega arith))

pub all_are_sized : (structs : List (List Field)) (ts : List Ty) → All (IsType structs) ts → AreAllSized structs ts
all_are_sized structs [] h = tt
all_are_sized structs (t ∷ ts) h = ((h 0 t (omega arith)).sized, all_are_sized structs ts (λ i d lt. h (suc i) d (omega arith)))

pub starts_below : (n : ℕ) (cases : List Case) → All (λ c. c.start < n) cases → StartBelow n cases
starts_below n [] h = tt
starts_below n (c ∷ cases) h = (h 0 c (omega arith), starts_below n cases (λ i d lt. h (suc i) d (omega arith)))

module _ (p : Program) (types : List Ty) (structs : AreSized p.structs) (objects : All (λ o. IsType p.structs o.ty) p.objects) (locals : All (IsType p.structs) types) where
  all_sized : (es : Exprs) (ts : List Ty) → AllHave p types es ts → AllHaveSizes p types es
  all_sized no_exprs ts h = tt
  all_sized (more_exprs e rest) [] h = absurd h
  all_sized (more_exprs e rest) (t ∷ ts) h = (has_sizes p types structs objects locals e t h.0, all_sized rest ts h.1)

  done : (e : Option Expr) → IsDone p types e → MaybeHasSizes p types e
  done None h = tt
  done (Some e) h = has_sizes p types structs objects locals e h.0 h.1

  given : (e : Option Expr) (t : Ty) → IsGiven p types e t → MaybeHasSizes p types e
  given None t h = tt
  given (Some e) t h = has_sizes p types structs objects locals e t h.1

  mutual
    pub stmt_fits : (s : Stmt) (exits : Exits) → IsStmt p types s exits → StmtFits p types s
    stmt_fits (plain.eval e) exits h = has_sizes p types structs objects locals e h.0 h.1
    stmt_fits (plain.block list) exits h = all_fit list exits h
    stmt_fits (plain.branch test a b) exits h = (has_sizes p types structs objects locals test h.0.0 h.0.2, stmt_fits a exits h.1, stmt_fits b exits h.2)
    stmt_fits (plain.loop first test step body) exits h =
        (has_sizes p types structs objects locals test h.0.0 h.0.2, done step h.1, stmt_fits body (in_loop exits) h.2)
    stmt_fits (plain.switch e cases list) exits h = (has_sizes p types structs objects locals e (int h.0.0) h.0.1, starts_below (count_stmts list) cases h.1, all_fit list (in_switch exits) h.2)
    stmt_fits plain.break exits h = tt
    stmt_fits plain.continue exits h = tt
    stmt_fits (plain.return e) exits h = given e exits.gives h
    stmt_fits (plain.atomic s) exits h = stmt_fits s exits h
    stmt_fits (plain.clear x) exits h = tt
    stmt_fits (plain.here arguments first count body) exits h =
        (all_sized arguments (take (count_exprs arguments) (drop first types)) h.0.passed, h.0.room, stmt_fits body (by_result p types first count) h.1)

    all_fit : (list : Stmts) (exits : Exits) → AreStmts p types list exits → AllFit p types list
    all_fit no_stmts exits h = tt
    all_fit (more_stmts s rest) exits h = (stmt_fits s exits h.0, all_fit rest exits h.1)
