-- Lists of statements of the core.
use Rattle.std.proofs.Common.{◌≡◌, ℕ, ◌<◌, List, [], ◌∷◌, ◌++◌, length, map, ap, sym, refl, arith, append-nil}
use Rattle.std.proofs.lemmas.List.{length-map, map-append, take-map}
use Rattle.nesc_core.specs.declared.tree.CoreStmt as rust_stmt
use Rattle.nesc_core.specs.Plain as core
use Rattle.nesc_core.specs.View.{stmt_of, stmts}
use Rattle.body_meaning.specs.Stmts.{behind, block_of, stmts_of}

pub stmts_same : (xs : List core.Stmt) → stmts xs ≡ stmts_of xs
stmts_same [] = refl
stmts_same (x ∷ xs) = ap (core.more_stmts x) (stmts_same xs)

pub behind_some : (xs : List rust_stmt.CoreStmt) (x : rust_stmt.CoreStmt) → 0 < length xs → behind (map stmt_of xs) (stmt_of x) ≡ block_of (map stmt_of (xs ++ (x ∷ [])))
behind_some [] x h = absurd (omega arith)
behind_some (y ∷ ys) x h = ap (λ (zs : List core.Stmt). block_of (stmt_of y ∷ zs)) (sym (map-append stmt_of ys (x ∷ [])))

pub behind_none : (xs : List rust_stmt.CoreStmt) (x : core.Stmt) → length xs ≡ 0 → behind (map stmt_of xs) x ≡ x
behind_none [] x h = refl
behind_none (y ∷ ys) x h = absurd (omega (arith, h))

pub ruleset blocks = (stmts_same)

pub ruleset behinds = (behind_some, behind_none)

pub ruleset ends = (take-map)

pub ruleset lists = (append-nil, length-map, map-append)
