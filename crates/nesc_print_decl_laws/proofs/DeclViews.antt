-- The words and the shape of a function.
use Rattle.std.proofs.Common.{◌≡◌, ◌++◌, Option, rules}
use Rattle.std.specs.Prelude.{option_map}
use Rattle.nesc_tree.specs.declared.declarations.FuncHead.{FuncHead}
use Rattle.nesc_tree.specs.declared.declarations.Decl as decl
use Rattle.nesc_tree.specs.declared.declarations.Stmt.{Stmt}
use Rattle.nesc_print_words.specs.Declarations.{head_words}
use Rattle.nesc_print_words.specs.Statements.{decl_words, stmt_words, body_words}
use Rattle.nesc_print_laws.specs.Shapes as shape
use Rattle.nesc_print_laws.specs.Shapes.{decl_shape, stmt_shape, head_shape, maybe_stmt}

pub words_of_function : (h : FuncHead) (b : Option Stmt) → decl_words (decl.Func h b) ≡ head_words h ++ body_words (option_map stmt_words b)
words_of_function h b = search (rules, decl.the_lemmas)

pub function_shape : (h : FuncHead) (b : Option Stmt) → decl_shape (decl.Func h b) ≡ shape.Decl.function (head_shape h) (maybe_stmt (option_map stmt_shape b))
function_shape h b = search (rules, decl.the_lemmas)
