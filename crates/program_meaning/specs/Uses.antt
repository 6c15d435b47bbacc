-- The functions that are called and the tasks that are posted, by name, in the order of the text (own: whatever a block hides).
use Rattle.std.specs.Prelude.{ℕ, Bool, true, false, not, ◌&&◌, List, [], ◌∷◌, ◌++◌, Option, Some, None, bytes_eq}
use Rattle.std.specs.List.{list_any}
use Rattle.nesc_tree.specs.Plain as s
use Rattle.program_meaning.specs.declared.used.Use.{Use}
use Rattle.body_meaning.specs.Tree as tree
use Rattle.body_meaning.specs.Tree.{Init, Inits, Variable, Start, Decl, Stmt, Stmts, MaybeStmt}

abbrev pub call : List ℕ → List Use
call name = record { posts = false; name = name } ∷ []

abbrev pub post : List ℕ → List Use
post name = record { posts = true; name = name } ∷ []

-- what stands in a call's place of a function
abbrev pub called_in : s.Expr → List Use
called_in (s.name n at) = call n
called_in _ = []

abbrev mutual
  pub in_expr : s.Expr → List Use
  in_expr (s.name n at) = []
  in_expr (s.number n at) = []
  in_expr (s.char n at) = []
  in_expr (s.null at) = []
  in_expr (s.unique n at) = []
  in_expr (s.unique_count n at) = []
  in_expr (s.unary o e at) = in_expr e
  in_expr (s.postfix o e at) = in_expr e
  in_expr (s.binary o a b at) = in_expr a ++ in_expr b
  in_expr (s.assign o a b at) = in_expr a ++ in_expr b
  in_expr (s.choice a b c at) = in_expr a ++ (in_expr b ++ in_expr c)
  in_expr (s.comma a b at) = in_expr a ++ in_expr b
  in_expr (s.cast t e at) = in_expr e
  in_expr (s.size_of_expr e at) = in_expr e
  in_expr (s.size_of_type t at) = []
  in_expr (s.index a i at) = in_expr a ++ in_expr i
  in_expr (s.member e n at) = in_expr e
  in_expr (s.arrow e n at) = in_expr e
  in_expr (s.call_fn f arguments at) = called_in f ++ in_exprs arguments
  in_expr (s.call_item signal element item param arguments at) = in_maybe param ++ in_exprs arguments
  in_expr (s.port_read port at) = in_expr port
  in_expr (s.port_write port e at) = in_expr port ++ in_expr e
  in_expr (s.post n at) = post n

  pub in_exprs : s.Exprs → List Use
  in_exprs s.no_exprs = []
  in_exprs (s.more_exprs e es) = in_expr e ++ in_exprs es

  pub in_maybe : s.MaybeExpr → List Use
  in_maybe s.no_expr = []
  in_maybe (s.some_expr e) = in_expr e

abbrev mutual
  pub in_init : Init → List Use
  in_init (tree.one e) = in_expr e
  in_init (tree.many is) = in_inits is

  pub in_inits : Inits → List Use
  in_inits tree.no_inits = []
  in_inits (tree.more_inits i is) = in_init i ++ in_inits is

abbrev pub in_maybe_init : Option Init → List Use
in_maybe_init None = []
in_maybe_init (Some i) = in_init i

abbrev pub in_variables : List Variable → List Use
in_variables [] = []
in_variables (v ∷ vs) = in_maybe_init v.init ++ in_variables vs

abbrev pub in_start : Start → List Use
in_start tree.nothing = []
in_start (tree.first e) = in_expr e
in_start (tree.declared t vs) = in_variables vs

abbrev mutual
  pub in_decl : Decl → List Use
  in_decl (tree.typedef name t attrs at) = []
  in_decl (tree.type_only t at) = []
  in_decl (tree.variables t norace vs) = in_variables vs
  in_decl (tree.function head body) = in_maybe_stmt body

  pub in_stmt : Stmt → List Use
  in_stmt (tree.block xs at) = in_stmts xs
  in_stmt (tree.empty at) = []
  in_stmt (tree.eval e at) = in_expr e
  in_stmt (tree.atomic x at) = in_stmt x
  in_stmt (tree.branch e x otherwise at) = in_expr e ++ (in_stmt x ++ in_maybe_stmt otherwise)
  in_stmt (tree.while e x at) = in_expr e ++ in_stmt x
  in_stmt (tree.do_while x e at) = in_stmt x ++ in_expr e
  in_stmt (tree.for start test step x at) = in_start start ++ (in_maybe test ++ (in_maybe step ++ in_stmt x))
  in_stmt (tree.switch e x at) = in_expr e ++ in_stmt x
  in_stmt (tree.case e x at) = in_expr e ++ in_stmt x
  in_stmt (tree.default x at) = in_stmt x
  in_stmt (tree.break at) = []
  in_stmt (tree.continue at) = []
  in_stmt (tree.return e at) = in_maybe e
  in_stmt (tree.local d at) = in_decl d

  pub in_stmts : Stmts → List Use
  in_stmts tree.no_stmts = []
  in_stmts (tree.more_stmts x xs) = in_stmt x ++ in_stmts xs

  pub in_maybe_stmt : MaybeStmt → List Use
  in_maybe_stmt tree.no_stmt = []
  in_maybe_stmt (tree.some_stmt x) = in_stmt x

abbrev pub in_decls : List Decl → List Use
in_decls [] = []
in_decls (d ∷ ds) = in_decl d ++ in_decls ds

abbrev pub same_way : Bool → Bool → Bool
same_way true b = b
same_way false b = not b

abbrev pub is_use : (posts : Bool) → (name : List ℕ) → Use → Bool
is_use posts name u = same_way posts u.posts && bytes_eq u.name name

abbrev pub is_used : List Use → (posts : Bool) → (name : List ℕ) → Bool
is_used uses posts name = list_any (is_use posts name) uses
