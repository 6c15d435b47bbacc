-- The uses of `unique` and `uniqueCount` in declarations and statements, in the order of the source. Attributes have no effect but
-- `@vector`, whose number is a constant; the others give no number.
use Rattle.std.specs.Prelude.{cond, List, [], ◌∷◌, ◌++◌, map, codes, bytes_eq, Option, Some, None, option_map}
use Rattle.nesc_tree.specs.View.{expr_of, spec_of}
use Rattle.nesc_tree.specs.declared.tree.Param.{Param}
use Rattle.nesc_tree.specs.declared.declarations.Init.{Init, Init-F, fold-Init}
use Rattle.nesc_tree.specs.declared.declarations.Init.TheOpen as I
use Rattle.nesc_tree.specs.declared.declarations.Decl.{Decl, Decl-F, fold-Decl}
use Rattle.nesc_tree.specs.declared.declarations.Decl.TheFolds.{fold-Stmt}
use Rattle.nesc_tree.specs.declared.declarations.Decl.TheOpen as D
use Rattle.nesc_tree.specs.declared.declarations.Stmt as stmt
use Rattle.nesc_tree.specs.declared.declarations.Variable.{Variable}
use Rattle.nesc_tree.specs.declared.declarations.VarGroup.{VarGroup}
use Rattle.nesc_tree.specs.declared.declarations.FuncHead.{FuncHead}
use Rattle.nesc_tree.specs.declared.declarations.Attr.{Attr}
use Rattle.nesc_tree.specs.declared.declarations.AttrArg.{AttrArg}
use Rattle.nesc_tree.specs.declared.declarations.AttrArg.TheVariants as arg
use Rattle.nesc_tree.specs.declared.declarations.ForStart.{ForStart}
use Rattle.nesc_tree.specs.declared.declarations.ForStart.TheVariants as start
use Rattle.wire_uniques.specs.Expressions.{Uses, in_expr, in_exprs, in_maybe, in_type}
use Rattle.wire_uniques.specs.Trees.{declarator_of, maybe_of}

abbrev pub all : List Uses → Uses
all [] = []
all (x ∷ xs) = x ++ all xs

abbrev pub or_none : Option Uses → Uses
or_none None = []
or_none (Some x) = x

abbrev pub init_layer : Init-F Uses → Uses
init_layer (I.One e) = in_expr (expr_of e)
init_layer (I.Many xs) = all xs

abbrev pub in_init : Init → Uses
in_init i = fold-Init Uses init_layer i

abbrev pub in_inits : List Init → Uses
in_inits xs = all (map in_init xs)

abbrev pub in_variable : Variable → Uses
in_variable v = in_exprs (declarator_of v.declarator).2 ++ or_none (option_map in_init v.init)

abbrev pub in_variables : List Variable → Uses
in_variables vs = all (map in_variable vs)

abbrev pub in_vars : VarGroup → Uses
in_vars g = in_type (spec_of g.ty) ++ in_variables g.vars

abbrev pub in_param : Param → Uses
in_param p = in_type (spec_of p.ty)

abbrev pub in_params : List Param → Uses
in_params ps = all (map in_param ps)

abbrev pub in_bracket : Option Param → Uses
in_bracket p = or_none (option_map in_param p)

abbrev pub in_arg : AttrArg → Uses
in_arg (arg.Text text) = []
in_arg (arg.Value e) = in_expr (expr_of e)

abbrev pub in_args : List AttrArg → Uses
in_args xs = all (map in_arg xs)

abbrev pub in_attr : Attr → Uses
in_attr a = cond (bytes_eq a.name (codes "vector")) (in_args a.args) []

abbrev pub in_attrs : List Attr → Uses
in_attrs xs = all (map in_attr xs)

abbrev pub in_head : FuncHead → Uses
in_head h = in_type (spec_of h.result) ++ (in_bracket h.bracket ++ (in_params h.params ++ in_attrs h.attrs))

abbrev pub in_start : ForStart → Uses
in_start start.Nothing = []
in_start (start.Eval e) = in_expr (expr_of e)
in_start (start.Vars g) = in_vars g

abbrev pub decl_layer : Decl-F Uses Uses → Uses
decl_layer (D.Typedef name ty attrs pos) = in_type (spec_of ty)
decl_layer (D.TypeOnly ty pos) = in_type (spec_of ty)
decl_layer (D.Vars g) = in_vars g
decl_layer (D.Func head body) = in_head head ++ or_none body

abbrev pub stmt_layer : D.Stmt-F Uses Uses → Uses
stmt_layer (D.Block ss at) = all ss
stmt_layer (D.Empty at) = []
stmt_layer (D.Eval e at) = in_expr (expr_of e)
stmt_layer (D.Atomic s at) = s
stmt_layer (D.If e s z at) = in_expr (expr_of e) ++ (s ++ or_none z)
stmt_layer (D.While e s at) = in_expr (expr_of e) ++ s
stmt_layer (D.DoWhile s e at) = s ++ in_expr (expr_of e)
stmt_layer (D.For begin test step body at) = in_start begin ++ (in_maybe (maybe_of test) ++ (in_maybe (maybe_of step) ++ body))
stmt_layer (D.Switch e s at) = in_expr (expr_of e) ++ s
stmt_layer (D.Case e s at) = in_expr (expr_of e) ++ s
stmt_layer (D.Default s at) = s
stmt_layer (D.Break at) = []
stmt_layer (D.Continue at) = []
stmt_layer (D.Return e at) = in_maybe (maybe_of e)
stmt_layer (D.Local d at) = d

abbrev pub in_decl : Decl → Uses
in_decl d = fold-Decl Uses Uses decl_layer stmt_layer d

abbrev pub in_stmt : stmt.Stmt → Uses
in_stmt s = fold-Stmt Uses Uses decl_layer stmt_layer s

abbrev pub in_decls : List Decl → Uses
in_decls ds = all (map in_decl ds)

abbrev pub in_stmts : List stmt.Stmt → Uses
in_stmts ss = all (map in_stmt ss)
