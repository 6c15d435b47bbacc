-- The words of statements (C99 6.8, with `atomic` of the nesC 1.3 Reference) and of declarations.
use Rattle.std.specs.Prelude.{List, [], ◌∷◌, ◌++◌, map, codes, Option, Some, None}
use Rattle.nesc_tree.specs.Level as level
use Rattle.nesc_tree.specs.View.{expr_of}
use Rattle.nesc_tree.specs.declared.tree.Expr as tree
use Rattle.nesc_tree.specs.declared.declarations.Decl.{Decl, Decl-F, fold-Decl}
use Rattle.nesc_tree.specs.declared.declarations.Decl.TheFolds.{fold-Stmt}
use Rattle.nesc_tree.specs.declared.declarations.Decl.TheOpen as D
use Rattle.nesc_tree.specs.declared.declarations.Stmt.{Stmt}
use Rattle.nesc_tree.specs.declared.declarations.ForStart.{ForStart}
use Rattle.nesc_tree.specs.declared.declarations.ForStart.TheVariants as start
use Rattle.nesc_print_words.specs.Lexemes.{Words, word, sign, semicolon, in_parentheses, in_braces, joined}
use Rattle.nesc_print_words.specs.Expressions.{expr_words, words_at}
use Rattle.nesc_print_words.specs.Declarations.{vars_words, typedef_words, type_only_words, head_words}

abbrev pub whole : tree.Expr → Words
whole e = expr_words (expr_of e)

abbrev pub condition_words : tree.Expr → Words
condition_words e = in_parentheses (whole e)

abbrev pub maybe_words : Option tree.Expr → Words
maybe_words None = []
maybe_words (Some e) = whole e

-- what stands before the first `;` of a `for`, and this sign
abbrev pub start_words : ForStart → Words
start_words start.Nothing = semicolon ∷ []
start_words (start.Eval e) = whole e ++ semicolon ∷ []
start_words (start.Vars g) = vars_words g

abbrev pub else_words : Option Words → Words
else_words None = []
else_words (Some ws) = word (codes "else") ∷ ws

abbrev pub body_words : Option Words → Words
body_words None = semicolon ∷ []
body_words (Some ws) = ws

abbrev pub decl_layer : Decl-F Words Words → Words
decl_layer (D.Typedef name ty attrs pos) = typedef_words name ty attrs
decl_layer (D.TypeOnly ty pos) = type_only_words ty
decl_layer (D.Vars g) = vars_words g
decl_layer (D.Func head body) = head_words head ++ body_words body

abbrev pub stmt_layer : D.Stmt-F Words Words → Words
stmt_layer (D.Block ss at) = in_braces (joined ss)
stmt_layer (D.Empty at) = semicolon ∷ []
stmt_layer (D.Eval e at) = whole e ++ semicolon ∷ []
stmt_layer (D.Atomic s at) = word (codes "atomic") ∷ s
stmt_layer (D.If e s z at) = word (codes "if") ∷ (condition_words e ++ (s ++ else_words z))
stmt_layer (D.While e s at) = word (codes "while") ∷ (condition_words e ++ s)
stmt_layer (D.DoWhile s e at) = word (codes "do") ∷ (s ++ word (codes "while") ∷ (condition_words e ++ semicolon ∷ []))
stmt_layer (D.For begin test step body at) =
    word (codes "for") ∷ (in_parentheses (start_words begin ++ (maybe_words test ++ semicolon ∷ maybe_words step)) ++ body)
stmt_layer (D.Switch e s at) = word (codes "switch") ∷ (condition_words e ++ s)
stmt_layer (D.Case e s at) = word (codes "case") ∷ (words_at level.conditional (expr_of e) ++ sign (codes ":") ∷ s)
stmt_layer (D.Default s at) = word (codes "default") ∷ sign (codes ":") ∷ s
stmt_layer (D.Break at) = word (codes "break") ∷ semicolon ∷ []
stmt_layer (D.Continue at) = word (codes "continue") ∷ semicolon ∷ []
stmt_layer (D.Return e at) = word (codes "return") ∷ (maybe_words e ++ semicolon ∷ [])
stmt_layer (D.Local d at) = d

abbrev pub decl_words : Decl → Words
decl_words d = fold-Decl Words Words decl_layer stmt_layer d

abbrev pub stmt_words : Stmt → Words
stmt_words s = fold-Stmt Words Words decl_layer stmt_layer s

abbrev pub decls_words : List Decl → Words
decls_words ds = joined (map decl_words ds)

abbrev pub stmts_words : List Stmt → Words
stmts_words ss = joined (map stmt_words ss)
