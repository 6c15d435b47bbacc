-- The words and the shape of each form of a declaration and a statement.
use Rattle.std.proofs.Common.{◌≡◌, ℕ, Bool, List, [], ◌∷◌, ◌++◌, map, Option, Some, None, refl, rules}
use Rattle.std.specs.Prelude.{codes, option_map}
use Rattle.nm_base.specs.declared.pos.Pos.{Pos}
use Rattle.nesc_tree.specs.declared.tree.Expr as tree
use Rattle.nesc_tree.specs.declared.tree.TypeSpec.{TypeSpec}
use Rattle.nesc_tree.specs.declared.declarations.Attr.{Attr}
use Rattle.nesc_tree.specs.declared.declarations.VarGroup.{VarGroup}
use Rattle.nesc_tree.specs.declared.declarations.ForStart.{ForStart}
use Rattle.nesc_tree.specs.declared.declarations.Decl as decl
use Rattle.nesc_tree.specs.declared.declarations.Decl.{Decl}
use Rattle.nesc_tree.specs.declared.declarations.Stmt as st
use Rattle.nesc_tree.specs.declared.declarations.Stmt.{Stmt}
use Rattle.nesc_tree.specs.View.{expr_of, spec_of}
use Rattle.nesc_print_words.specs.Lexemes.{Words, word, sign, semicolon, in_parentheses, in_braces, joined}
use Rattle.nesc_print_words.specs.Expressions.{words_at}
use Rattle.nesc_print_words.specs.Declarations.{vars_words, typedef_words, type_only_words}
use Rattle.nesc_print_words.specs.Statements.{decl_words, stmt_words, whole, condition_words, maybe_words, start_words, else_words}
use Rattle.nesc_print_laws.specs.Placeless.{placeless_type}
use Rattle.nesc_print_laws.specs.Shapes as shape
use Rattle.nesc_print_laws.specs.Shapes.{decl_shape, stmt_shape, expr_shape, group_shape, attr_shape, start_shape, stmts, maybe_stmt}

module _ (at : Pos) where
  pub words_of_typedef : (n : List ℕ) (t : TypeSpec) (l : List Attr) → decl_words (decl.Typedef n t l at) ≡ typedef_words n t l
  words_of_typedef n t l = search (rules, decl.the_lemmas)

  pub typedef_shape : (n : List ℕ) (t : TypeSpec) (l : List Attr) → decl_shape (decl.Typedef n t l at) ≡ shape.Decl.type_name n (placeless_type (spec_of t)) (map attr_shape l)
  typedef_shape n t l = search (rules, decl.the_lemmas)

  pub words_of_type_only : (t : TypeSpec) → decl_words (decl.TypeOnly t at) ≡ type_only_words t
  words_of_type_only t = search (rules, decl.the_lemmas)

  pub type_only_shape : (t : TypeSpec) → decl_shape (decl.TypeOnly t at) ≡ shape.Decl.type_only (placeless_type (spec_of t))
  type_only_shape t = search (rules, decl.the_lemmas)

  pub words_of_block : (l : List Stmt) → stmt_words (st.Block l at) ≡ in_braces (joined (map stmt_words l))
  words_of_block l = search (rules, decl.the_lemmas)

  pub block_shape : (l : List Stmt) → stmt_shape (st.Block l at) ≡ shape.Stmt.block (stmts (map stmt_shape l))
  block_shape l = search (rules, decl.the_lemmas)

  pub words_of_empty : stmt_words (st.Empty at) ≡ semicolon ∷ []
  words_of_empty = search (rules, decl.the_lemmas)

  pub empty_shape : stmt_shape (st.Empty at) ≡ shape.Stmt.empty
  empty_shape = search (rules, decl.the_lemmas)

  pub words_of_eval : (e : tree.Expr) → stmt_words (st.Eval e at) ≡ whole e ++ semicolon ∷ []
  words_of_eval e = search (rules, decl.the_lemmas)

  pub eval_shape : (e : tree.Expr) → stmt_shape (st.Eval e at) ≡ shape.Stmt.eval (expr_shape e)
  eval_shape e = search (rules, decl.the_lemmas)

  pub words_of_atomic : (x : Stmt) → stmt_words (st.Atomic x at) ≡ word (codes "atomic") ∷ stmt_words x
  words_of_atomic x = search (rules, decl.the_lemmas)

  pub atomic_shape : (x : Stmt) → stmt_shape (st.Atomic x at) ≡ shape.Stmt.atomic (stmt_shape x)
  atomic_shape x = search (rules, decl.the_lemmas)

  pub words_of_if : (e : tree.Expr) (x : Stmt) (z : Option Stmt) → stmt_words (st.If e x z at) ≡ word (codes "if") ∷ (condition_words e ++ (stmt_words x ++ else_words (option_map stmt_words z)))
  words_of_if e x z = search (rules, decl.the_lemmas)

  pub if_shape : (e : tree.Expr) (x : Stmt) (z : Option Stmt) → stmt_shape (st.If e x z at) ≡ shape.Stmt.branch (expr_shape e) (stmt_shape x) (maybe_stmt (option_map stmt_shape z))
  if_shape e x z = search (rules, decl.the_lemmas)

  pub words_of_while : (e : tree.Expr) (x : Stmt) → stmt_words (st.While e x at) ≡ word (codes "while") ∷ (condition_words e ++ stmt_words x)
  words_of_while e x = search (rules, decl.the_lemmas)

  pub while_shape : (e : tree.Expr) (x : Stmt) → stmt_shape (st.While e x at) ≡ shape.Stmt.while (expr_shape e) (stmt_shape x)
  while_shape e x = search (rules, decl.the_lemmas)

  pub words_of_do : (x : Stmt) (e : tree.Expr) → stmt_words (st.DoWhile x e at) ≡ word (codes "do") ∷ (stmt_words x ++ word (codes "while") ∷ (condition_words e ++ semicolon ∷ []))
  words_of_do x e = search (rules, decl.the_lemmas)

  pub do_shape : (x : Stmt) (e : tree.Expr) → stmt_shape (st.DoWhile x e at) ≡ shape.Stmt.do_while (stmt_shape x) (expr_shape e)
  do_shape x e = search (rules, decl.the_lemmas)

  pub words_of_for : (b : ForStart) (t u : Option tree.Expr) (x : Stmt) → stmt_words (st.For b t u x at) ≡ word (codes "for") ∷ (in_parentheses (start_words b ++ (maybe_words t ++ semicolon ∷ maybe_words u)) ++ stmt_words x)
  words_of_for b t u x = search (rules, decl.the_lemmas)

  pub for_shape : (b : ForStart) (t u : Option tree.Expr) (x : Stmt) → stmt_shape (st.For b t u x at) ≡ shape.Stmt.for (start_shape b) (option_map expr_shape t) (option_map expr_shape u) (stmt_shape x)
  for_shape b t u x = search (rules, decl.the_lemmas)

  pub words_of_switch : (e : tree.Expr) (x : Stmt) → stmt_words (st.Switch e x at) ≡ word (codes "switch") ∷ (condition_words e ++ stmt_words x)
  words_of_switch e x = search (rules, decl.the_lemmas)

  pub switch_shape : (e : tree.Expr) (x : Stmt) → stmt_shape (st.Switch e x at) ≡ shape.Stmt.switch (expr_shape e) (stmt_shape x)
  switch_shape e x = search (rules, decl.the_lemmas)

  pub words_of_case : (e : tree.Expr) (x : Stmt) → stmt_words (st.Case e x at) ≡ word (codes "case") ∷ (words_at 2 (expr_of e) ++ sign (codes ":") ∷ stmt_words x)
  words_of_case e x = search (rules, decl.the_lemmas)

  pub case_shape : (e : tree.Expr) (x : Stmt) → stmt_shape (st.Case e x at) ≡ shape.Stmt.case (expr_shape e) (stmt_shape x)
  case_shape e x = search (rules, decl.the_lemmas)

  pub words_of_default : (x : Stmt) → stmt_words (st.Default x at) ≡ word (codes "default") ∷ sign (codes ":") ∷ stmt_words x
  words_of_default x = search (rules, decl.the_lemmas)

  pub default_shape : (x : Stmt) → stmt_shape (st.Default x at) ≡ shape.Stmt.default (stmt_shape x)
  default_shape x = search (rules, decl.the_lemmas)

  pub words_of_break : stmt_words (st.Break at) ≡ word (codes "break") ∷ semicolon ∷ []
  words_of_break = search (rules, decl.the_lemmas)

  pub break_shape : stmt_shape (st.Break at) ≡ shape.Stmt.break
  break_shape = search (rules, decl.the_lemmas)

  pub words_of_continue : stmt_words (st.Continue at) ≡ word (codes "continue") ∷ semicolon ∷ []
  words_of_continue = search (rules, decl.the_lemmas)

  pub continue_shape : stmt_shape (st.Continue at) ≡ shape.Stmt.continue
  continue_shape = search (rules, decl.the_lemmas)

  pub words_of_return : (e : Option tree.Expr) → stmt_words (st.Return e at) ≡ word (codes "return") ∷ (maybe_words e ++ semicolon ∷ [])
  words_of_return e = search (rules, decl.the_lemmas)

  pub return_shape : (e : Option tree.Expr) → stmt_shape (st.Return e at) ≡ shape.Stmt.return (option_map expr_shape e)
  return_shape e = search (rules, decl.the_lemmas)

  pub words_of_local : (d : Decl) → stmt_words (st.Local d at) ≡ decl_words d
  words_of_local d = search (rules, decl.the_lemmas)

  pub local_shape : (d : Decl) → stmt_shape (st.Local d at) ≡ shape.Stmt.local (decl_shape d)
  local_shape d = search (rules, decl.the_lemmas)

pub words_of_group : (g : VarGroup) → decl_words (decl.Vars g) ≡ vars_words g
words_of_group g = search (rules, decl.the_lemmas)

pub vars_shape : (g : VarGroup) → decl_shape (decl.Vars g) ≡ shape.Decl.variables (group_shape g)
vars_shape g = search (rules, decl.the_lemmas)
