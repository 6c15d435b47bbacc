-- Lists of trees, one element after the other.
use Rattle.std.proofs.Common.{◌≡◌, ℕ, suc, ◌+◌, ◌<◌, List, ◌∷◌, ◌++◌, drop, length, get_or, map, option_map, sym, ap, ◌∙◌, arith}
use Rattle.std.proofs.Math.Seq.{drop-cons}
use Rattle.std.proofs.Math.ListN.{drop_of_length-le}
use Rattle.nesc_tree.specs.declared.tree.Expr as tree
use Rattle.nesc_tree.specs.declared.declarations.Decl as decl
use Rattle.nesc_tree.specs.declared.declarations.Init as init
use Rattle.nesc_tree.specs.declared.declarations.Stmt as stmt
use Rattle.nesc_tree.specs.declared.declarations.Variable as variable
use Rattle.nesc_tree.specs.View.{expr_of, exprs_of}
use Rattle.body_meaning.specs.View.{decl_of, init_of, stmt_of, variable_of}
use Rattle.program_meaning.specs.Uses as spec
use Rattle.elab_uses.specs.Lists.{decls_of, inits_of, stmts_of}

-- element k stands at the front of what is left
pub next_of : {A : Type 0} (xs : List A) (k : ℕ) (x : A) → k < length xs → x ≡ get_or xs k x → drop k xs ≡ x ∷ drop (k + 1) xs
next_of xs k x below is = let more : suc k ≡ k + 1 = omega arith in
    drop-cons xs k x below ∙ ap (λ y. y ∷ drop (suc k) xs) (sym is) ∙ ap (λ j. x ∷ drop j xs) more

pub exprs_next : (xs : List tree.Expr) (k : ℕ) (x : tree.Expr) → k < length xs → x ≡ get_or xs k x
    → spec.in_exprs (exprs_of (drop k xs)) ≡ spec.in_expr (expr_of x) ++ spec.in_exprs (exprs_of (drop (k + 1) xs))
exprs_next xs k x below is = ap (λ ys. spec.in_exprs (exprs_of ys)) (next_of xs k x below is)

pub inits_next : (xs : List init.Init) (k : ℕ) (x : init.Init) → k < length xs → x ≡ get_or xs k x
    → spec.in_inits (inits_of (drop k xs)) ≡ spec.in_init (init_of x) ++ spec.in_inits (inits_of (drop (k + 1) xs))
inits_next xs k x below is = ap (λ ys. spec.in_inits (inits_of ys)) (next_of xs k x below is)

pub variables_next : (xs : List variable.Variable) (k : ℕ) (x : variable.Variable) → k < length xs → x ≡ get_or xs k x
    → spec.in_variables (map variable_of (drop k xs)) ≡ spec.in_maybe_init (option_map init_of x.init) ++ spec.in_variables (map variable_of (drop (k + 1) xs))
variables_next xs k x below is = ap (λ ys. spec.in_variables (map variable_of ys)) (next_of xs k x below is)

pub stmts_next : (xs : List stmt.Stmt) (k : ℕ) (x : stmt.Stmt) → k < length xs → x ≡ get_or xs k x
    → spec.in_stmts (stmts_of (drop k xs)) ≡ spec.in_stmt (stmt_of x) ++ spec.in_stmts (stmts_of (drop (k + 1) xs))
stmts_next xs k x below is = ap (λ ys. spec.in_stmts (stmts_of ys)) (next_of xs k x below is)

pub decls_next : (xs : List decl.Decl) (k : ℕ) (x : decl.Decl) → k < length xs → x ≡ get_or xs k x
    → spec.in_decls (decls_of (drop k xs)) ≡ spec.in_decl (decl_of x) ++ spec.in_decls (decls_of (drop (k + 1) xs))
decls_next xs k x below is = ap (λ ys. spec.in_decls (decls_of ys)) (next_of xs k x below is)

pub ruleset lists = (exprs_next, inits_next, variables_next, stmts_next, decls_next, drop_of_length-le)
