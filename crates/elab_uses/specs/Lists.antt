-- Lists of trees seen as plain data (own).
use Rattle.std.specs.Prelude.{List, map, Option, option_map}
use Rattle.nesc_tree.specs.declared.tree.Expr as expr
use Rattle.nesc_tree.specs.declared.declarations.Decl as decl
use Rattle.nesc_tree.specs.declared.declarations.Init as init
use Rattle.nesc_tree.specs.declared.declarations.Stmt as stmt
use Rattle.nesc_tree.specs.Plain.{MaybeExpr}
use Rattle.nesc_tree.specs.View.{expr_of, maybe_expr}
use Rattle.body_meaning.specs.Tree.{Decl, Inits, MaybeStmt, Stmts}
use Rattle.body_meaning.specs.View.{decl_of, init_of, inits, maybe_stmt, stmt_of, stmts}

abbrev pub maybe_of : Option expr.Expr → MaybeExpr
maybe_of e = maybe_expr (option_map expr_of e)

abbrev pub inits_of : List init.Init → Inits
inits_of is = inits (map init_of is)

abbrev pub stmts_of : List stmt.Stmt → Stmts
stmts_of xs = stmts (map stmt_of xs)

abbrev pub maybe_stmt_of : Option stmt.Stmt → MaybeStmt
maybe_stmt_of x = maybe_stmt (option_map stmt_of x)

abbrev pub decls_of : List decl.Decl → List Decl
decls_of ds = map decl_of ds
